-- The trace checker's answer, in terms of Figure 1.
use Prim.Native.Nat.{ℕ, ◌<◌}
use mathlib.Core.Bool.{Bool, true, false}
use mathlib.Core.List.{List, []}
use mathlib.Core.Logic.{◌↔◌}
use mathlib.Core.Path.{◌≡◌, refl, subst, sym}
use lib.Dec.{T}
use Rattle.packet.specs.Sizes.{product}
use Rattle.automaton.specs.State.{has_trace, runs}
use Rattle.automaton.proofs.Laws.{has_trace_iff}
use Rattle.pair.specs.Sides.{Side, left, right, other, Pair, at, NumberedPolicy}
use Rattle.pair.specs.Pair.{SideTraces}
use Rattle.pair.specs.Search.{different, search_answer, Distinguishes}
use Rattle.pair.specs.TraceCheck.{TraceAnswer, only, both, neither, has, answer_of, side_has, trace_answer}
use Rattle.pair.proofs.Lawful.{EvaluablePair}
use Rattle.pair.proofs.Verdicts.{different_tells}

has_answer : (test : Side → Bool) (s : Side) → has s (answer_of (test left) (test right)) ≡ test s
unfolding has answer_of
has_answer test s = go (test left) (test right) refl refl s
  where
    go : (a b : Bool) → test left ≡ a → test right ≡ b → (s : Side) → has s (answer_of a b) ≡ test s
    go true true p q left = sym p
    go true true p q right = sym q
    go true false p q left = sym p
    go true false p q right = sym q
    go false true p q left = sym p
    go false true p q right = sym q
    go false false p q left = sym p
    go false false p q right = sym q

only_one : (s : Side) (x : TraceAnswer) → T (has s x) → (T (has (other s) x) → ⊥) → x ≡ only s
unfolding has other
only_one left (only left) h n = refl
only_one left (only right) h n = absurd h
only_one left both h n = absurd (n tt)
only_one left neither h n = absurd h
only_one right (only left) h n = absurd h
only_one right (only right) h n = refl
only_one right both h n = absurd (n tt)
only_one right neither h n = absurd h

module _ (sizes : List ℕ) (ps : Pair NumberedPolicy) where
  -- a trace of length 0 is neither
  pub trace_empty : (α : ℕ) → trace_answer sizes ps α [] ≡ neither
  unfolding trace_answer side_has has_trace runs answer_of
  trace_empty α = refl

  module _ (ok : EvaluablePair sizes ps) where
    -- the answer says of a side that it has the trace exactly when it is one by Figure 1
    pub trace_iff : (s : Side) (α : ℕ) → α < product sizes → (t : List ℕ) → T (has s (trace_answer sizes ps α t)) ↔ SideTraces sizes ps s α t
    unfolding trace_answer side_has SideTraces
    trace_iff s α h t =
        subst (λ b. T b ↔ SideTraces sizes ps s α t) (sym (has_answer (λ s. side_has sizes ps s α t) s))
        (has_trace_iff sizes (at s ps).dups (at s ps).tree (ok s) α h t)

    -- a trace that tells the two apart is answered by its side
    pub distinguishes_only : (s : Side) (α : ℕ) (t : List ℕ) → Distinguishes sizes ps s α t → trace_answer sizes ps α t ≡ only s
    distinguishes_only s α t d =
        only_one s (trace_answer sizes ps α t) ((trace_iff s α d.enters t).1 d.has) (λ x. d.lacks ((trace_iff (other s) α d.enters t).0 x))

    -- the search's trace among them
    pub different_only : (n m : ℕ) (s : Side) (α : ℕ) (t : List ℕ) → search_answer sizes ps n m ≡ different s α t → trace_answer sizes ps α t ≡ only s
    different_only n m s α t e = distinguishes_only s α t (different_tells sizes ps ok n m s α t e)
