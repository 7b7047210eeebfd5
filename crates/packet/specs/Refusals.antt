-- The numbered causes of document 01, "Causes, in the order tested".
use Rattle.std.specs.Prelude.{ℕ, List, [], ◌∷◌, Bool, true, false, Option, None, Some, Result, Ok, Err}
use Rattle.packet.specs.declared.Refusal.{Refusal}

-- what a stage of tests says
abbrev pub Tested : Type 0
Tested = Result (Unit {0}) Refusal

unfoldable pub refusal : ℕ → ℕ → ℕ → Refusal
refusal number side place = record { number = number; side = side; place = place }

-- a cause with the lowest place at which it holds, if it holds
unfoldable pub refused_at : ℕ → ℕ → Option ℕ → Tested
refused_at number side None = Ok tt
refused_at number side (Some place) = Err (refusal number side place)

-- a cause that names one place, if it holds
unfoldable pub at_place : ℕ → Bool → Option ℕ
at_place place true = Some place
at_place place false = None

-- a cause for which no place is named: place 0
abbrev pub at_zero : Bool → Option ℕ
at_zero holds = at_place 0 holds

-- the order of causes: the first of the tests that refuses
unfoldable pub first_refused : List Tested → Tested
first_refused [] = Ok tt
first_refused (Ok _ ∷ ts) = first_refused ts
first_refused (Err r ∷ ts) = Err r
