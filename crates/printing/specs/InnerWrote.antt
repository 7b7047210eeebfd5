-- What a function that writes bytes promises.
use Rattle.std.specs.Prelude.{ℕ, ◌+◌, List, ◌++◌, ◌≡◌, length, take, drop}

-- the bytes xs have been written from a place on, up to the place returned; all others are as they were
pub record Wrote (old new : List ℕ) (at end : ℕ) (xs : List ℕ) : Type 0 where
  pub ends : end ≡ at + length xs
  pub holds : new ≡ take at old ++ xs ++ drop end old
