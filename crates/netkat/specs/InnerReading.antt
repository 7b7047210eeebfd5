-- What one read does to the bytes kept so far. `got` is what the call `read` answered: how many bytes it put at the start of the chunk, or an error.
use Rattle.std.specs.Prelude.{ℕ, zero, suc, ◌+◌, ◌-◌, List, ◌++◌, ◌≡◌, Result, Ok, Err, length, take, drop}
use Rattle.std.specs.declared.io.Error.{Error}
use Rattle.std.proofs.Common.{ControlFlow, Continue, Break}

module _ (old : List ℕ) (len : ℕ) (chunk : List ℕ) where
  -- of the bytes that were read, as many as there is room for behind the first len
  unfoldable pub bytes_kept : ℕ → List ℕ
  bytes_kept n = take (length old - len) (take n chunk)

  -- how many bytes are kept after the read; after one that failed none, since half an input must not get a verdict
  unfoldable pub length_after : Result ℕ Error → ℕ
  length_after (Ok n) = len + length (bytes_kept n)
  length_after (Err e) = 0

  -- what is read stands behind what there was
  unfoldable pub bytes_after : Result ℕ Error → List ℕ
  bytes_after (Ok n) = take len old ++ bytes_kept n ++ drop (len + length (bytes_kept n)) old
  bytes_after (Err e) = old

-- how many bytes are kept after the read; the input goes on after one that handed over bytes
unfoldable pub flow_after : List ℕ → ℕ → List ℕ → Result ℕ Error → ControlFlow ℕ ℕ
flow_after old len chunk (Ok zero) = Break (length_after old len chunk (Ok zero))
flow_after old len chunk (Ok (suc n)) = Continue (length_after old len chunk (Ok (suc n)))
flow_after old len chunk (Err e) = Break (length_after old len chunk (Err e))

-- what is kept after the read in new, and whether the input goes on
pub record AfterRead (old : List ℕ) (len : ℕ) (chunk : List ℕ) (got : Result ℕ Error) (kept : ControlFlow ℕ ℕ) (new : List ℕ) : Type 0 where
  pub flow : kept ≡ flow_after old len chunk got
  pub bytes : new ≡ bytes_after old len chunk got

-- Inner: so it is for some chunk and answer of `read`; what it reads is nobody's promise.
pub record ReadOnce (old : List ℕ) (len : ℕ) (kept : ControlFlow ℕ ℕ) (new : List ℕ) : Type 0 where
  pub chunk : List ℕ
  pub got : Result ℕ Error
  pub after : AfterRead old len chunk got kept new

-- k reads, one after the other from no bytes kept, and the input goes on after each: then n bytes of new are kept
unfoldable pub GoneOn : ℕ → List ℕ → ℕ → List ℕ → Type 0
GoneOn zero old n new = (n ≡ 0) × (new ≡ old)
GoneOn (suc k) old n new = (m : ℕ) × (mid : List ℕ) × GoneOn k old m mid × ReadOnce mid m (Continue n) new

-- The reads of an input: it goes on after each but the last. If it went on after 2 ^ 64 − 1 of them, more than any run makes, nothing is kept.
pub data ReadAll (old : List ℕ) (n : ℕ) (new : List ℕ) : Type 0 where
  to_end : (k m : ℕ) (mid : List ℕ) → GoneOn k old m mid → ReadOnce mid m (Break n) new → ReadAll old n new
  endless : (m : ℕ) → GoneOn 18446744073709551615 old m new → n ≡ 0 → ReadAll old n new
