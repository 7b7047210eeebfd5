-- What is kept after a read.
use Prim.Native.Nat.{ℕ, zero, suc, ◌+◌, ◌-◌, ◌≤◌, ◌<◌, min}
use native.Mathlib.Decide.{dec_lt}
use native.Mathlib.Omega.{arith}
use mathlib.Core.List.{List, ◌++◌}
use mathlib.Core.Path.{◌≡◌, refl, sym, ◌∙◌, ap, subst}
use lib.ListN.{length, take, drop, length-append}
use lib.Seq.{length-take-le, take_all}
use Rattle.std.proofs.Common.{Result, Ok, Err, ControlFlow, Continue, Break}
use native.Mathlib.Numerals.{add-one}
use Rattle.std.specs.declared.io.Error.{Error}
use Rattle.printing.specs.InnerWrote.{Wrote}
use Rattle.netkat.specs.InnerReading.{bytes_kept, length_after, bytes_after, flow_after, AfterRead, ReadOnce, GoneOn}

-- what there is room for is written where no more than the whole chunk is
pub wrote_room : {old new : List ℕ} (chunk : List ℕ) (room : ℕ) {at end n : ℕ} → n ≡ min (length chunk) room → Wrote old new at end (take n chunk) → Wrote old new at end (take room chunk)
wrote_room {old} {new} chunk room {at} {end} {n} e W = subst (Wrote old new at end) (go (dec_lt (length chunk) room)) W
  where
    go : Dec (length chunk < room) → take n chunk ≡ take room chunk
    go (yes h) =
        let q : n ≡ length chunk = omega (arith, e) in
        ap (λ k. take k chunk) q ∙ take_all (length chunk) chunk (omega arith) ∙ sym (take_all room chunk (omega arith))
    go (no h) =
        let q : n ≡ room = omega (arith, e) in
        ap (λ k. take k chunk) q

module _ (old : List ℕ) (len : ℕ) (chunk : List ℕ) {got : Result ℕ Error} where
  -- a read that failed
  pub nothing_kept : {e : Error} → got ≡ Err e → AfterRead old len chunk got (Break 0) old
  unfolding length_after bytes_after flow_after
  nothing_kept p = subst (λ x. AfterRead old len chunk x (Break 0) old) (sym p) (record { flow = refl; bytes = refl })

  module _ {new : List ℕ} {r n : ℕ} (p : got ≡ Ok n) (W : Wrote old new len r (take (length old - len) (take n chunk))) where
    after : new ≡ bytes_after old len chunk (Ok n)
    unfolding bytes_kept length_after bytes_after
    after = W.holds ∙ ap (λ x. take len old ++ take (length old - len) (take n chunk) ++ drop x old) W.ends

    -- one that handed over no byte
    pub at_end : n ≡ 0 → AfterRead old len chunk got (Break r) new
    unfolding bytes_kept length_after flow_after
    at_end e = subst (λ x. AfterRead old len chunk x (Break r) new) (sym p) (record { flow = ap Break W.ends ∙ go n e; bytes = after })
      where
        go : (k : ℕ) → k ≡ 0 → ◌≡◌ {A = ControlFlow ℕ ℕ} (Break (length_after old len chunk (Ok k))) (flow_after old len chunk (Ok k))
        go zero e = refl
        go (suc k) e = absurd (omega arith)

    -- one that handed over bytes
    pub goes_on : (n ≡ 0 → ⊥) → AfterRead old len chunk got (Continue r) new
    unfolding bytes_kept length_after flow_after
    goes_on h = subst (λ x. AfterRead old len chunk x (Continue r) new) (sym p) (record { flow = ap Continue W.ends ∙ go n h; bytes = after })
      where
        go : (k : ℕ) → (k ≡ 0 → ⊥) → ◌≡◌ {A = ControlFlow ℕ ℕ} (Continue (length_after old len chunk (Ok k))) (flow_after old len chunk (Ok k))
        go zero h = absurd (h refl)
        go (suc k) h = refl

-- what is kept lies within the list
within : (old : List ℕ) {new : List ℕ} (len : ℕ) {n : ℕ} (chunk : List ℕ) (got : Result ℕ Error) → len ≤ length old → n ≡ length_after old len chunk got → new ≡ bytes_after old len chunk got → n ≤ length new
unfolding length_after bytes_after
within old {new} len chunk (Ok k) h e b =
    let xs = bytes_kept old len chunk k in
    omega (arith, e, ap length b, length-append (take len old ++ xs) (drop (len + length xs) old), length-append (take len old) xs, length-take-le len old h)
within old len chunk (Err f) h e b = omega (arith, e)

broken : (old : List ℕ) (len : ℕ) {n : ℕ} (chunk : List ℕ) (got : Result ℕ Error) → Break n ≡ flow_after old len chunk got → n ≡ length_after old len chunk got
unfolding flow_after
broken old len chunk (Ok zero) e = cc
broken old len chunk (Ok (suc k)) e = cc
broken old len chunk (Err f) e = cc

continued : (old : List ℕ) (len : ℕ) {n : ℕ} (chunk : List ℕ) (got : Result ℕ Error) → Continue n ≡ flow_after old len chunk got → n ≡ length_after old len chunk got
unfolding flow_after
continued old len chunk (Ok zero) e = cc
continued old len chunk (Ok (suc k)) e = cc
continued old len chunk (Err f) e = cc

pub last_within : {old new : List ℕ} {len n : ℕ} → len ≤ length old → ReadOnce old len (Break n) new → n ≤ length new
last_within {old} {len = len} h R = within old len R.chunk R.got h (broken old len R.chunk R.got R.after.flow) R.after.bytes

pub kept_within : {old new : List ℕ} {len n : ℕ} → len ≤ length old → ReadOnce old len (Continue n) new → n ≤ length new
kept_within {old} {len = len} h R = within old len R.chunk R.got h (continued old len R.chunk R.got R.after.flow) R.after.bytes

-- ---- one read after the other

pub none_yet : (old : List ℕ) → GoneOn 0 old 0 old
unfolding GoneOn
none_yet old = (refl, refl)

pub one_more : (k : ℕ) (old : List ℕ) {mid new : List ℕ} {m n : ℕ} → GoneOn k old m mid → ReadOnce mid m (Continue n) new → GoneOn (k + 1) old n new
unfolding GoneOn
one_more k old {mid} {new} {m} {n} g r = subst (λ i. GoneOn i old n new) (sym (add-one k)) (m, mid, g, r)
