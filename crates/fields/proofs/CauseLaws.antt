-- The causes of tables in their order, as the functions test them. Assumes nothing.
use Prim.Native.Nat.{ℕ, ◌*◌, ◌/◌}
use native.Mathlib.Omega.{arith}
use mathlib.Core.Bool.{true, false, ◌||◌}
use mathlib.Core.List.{List, [], ◌∷◌}
use Rattle.std.specs.Prelude.{None}
use mathlib.Core.Path.{◌≡◌, refl, sym, ◌∙◌, ap₂, subst}
use lib.Dec.{eqb}
use lib.ListN.{length}
use borrow.Author.Tests.{eqb-true, not-false}
use Rattle.packet.specs.declared.Refusal.{Refusal}
use Rattle.packet.specs.Refusals.{Tested}
use Rattle.std.specs.Prelude.{Result, Ok, Err}
use Rattle.packet.specs.Lowest.{lowest}
use Rattle.packet.specs.Refusals.{refusal, refused_at, at_place, at_zero, first_refused}
use Rattle.packet.specs.Sizes.{fields_stage}
use Rattle.packet.proofs.Lowest.{none_lowest}
use Rattle.packet.proofs.Stages.{first_refused_last, first_refused_refused, first_refused_next, first_refused_append}
use Rattle.fields.specs.declared.JointFields.{JointFields}
use Rattle.fields.specs.Names.{names_in, bad_name}
use Rattle.fields.specs.Tables.{Table, tables, table, any_table, mismatched, is_empty, other_size, names_stage, sizes_stage, tables_stage, joint_sizes}
use Rattle.fields.specs.Inner.{Matched, names_and_sizes, AnswerOf, Joined, JointOf}

-- ---- causes 20 and 21, and 1 of the tables

-- no table is later than the last one
pub none_later : (t : Table) (n : ℕ) → lowest (λ i. any_table (other_size t i) []) n ≡ None
unfolding any_table
none_later t n = none_lowest (λ i. any_table (other_size t i) []) n (λ i h. refl)

flat : (a b c d : Tested) → first_refused (first_refused (a ∷ first_refused (b ∷ Ok tt ∷ []) ∷ []) ∷ first_refused (c ∷ first_refused (Ok tt ∷ Ok tt ∷ []) ∷ []) ∷ d ∷ []) ≡ first_refused (a ∷ b ∷ c ∷ d ∷ [])
unfolding first_refused
flat (Ok _) (Ok _) (Ok _) d = refl
flat (Ok _) (Ok _) (Err r) d = refl
flat (Ok _) (Err r) c d = refl
flat (Err r) b c d = refl

module _ (leftNames leftSizes rightNames rightSizes : List ℕ) (left-long : length leftNames ≡ length leftSizes * 16) (right-long : length rightNames ≡ length rightSizes * 16) where
  abbrev bad_names : ℕ → List ℕ → Tested
  bad_names side cells = refused_at 20 side (lowest (bad_name (names_in cells)) (length cells / 16))

  abbrev two_sizes : Tested
  two_sizes = refused_at 21 1 (lowest (λ i. any_table (other_size (table leftNames leftSizes) i) (table rightNames rightSizes ∷ [])) (length leftSizes))

  abbrev no_names : Tested
  no_names = refused_at 1 0 (at_zero (eqb (length leftSizes) 0 || (eqb (length rightSizes) 0 || false)))

  -- the four tests in their order
  pub four : names_and_sizes (tables leftNames leftSizes rightNames rightSizes) ≡ first_refused (bad_names 1 leftNames ∷ bad_names 2 rightNames ∷ two_sizes ∷ no_names ∷ [])
  unfolding names_and_sizes names_stage sizes_stage any_table is_empty refused_at
  four =
      let left : length leftSizes ≡ length leftNames / 16 = omega arith in
      let right : length rightSizes ≡ length rightNames / 16 = omega arith in
      rw (none_later (table rightNames rightSizes) (length rightSizes))
      (flat _ _ _ _
      ∙ ap₂
      (λ (m n : ℕ). first_refused (refused_at 20 1 (lowest (bad_name (names_in leftNames)) m) ∷ refused_at 20 2 (lowest (bad_name (names_in rightNames)) n) ∷ two_sizes ∷ no_names ∷ []))
      left
      right)

-- ---- the whole order

pub matched : (t : Table) → mismatched t ≡ false → Matched t
unfolding mismatched
matched t e = eqb-true (length t.cells) (length t.sizes * 16) (not-false (eqb (length t.cells) (length t.sizes * 16)) e)

-- the tables pass up to the joint fields: what those say is the answer
pub answer_joined : (ts : List Table) (a : Result JointFields Refusal) → tables_stage ts ≡ fields_stage (joint_sizes ts) → Joined ts a → JointOf ts a
answer_joined ts (Ok j) e (p, h) = (e ∙ p, h)
answer_joined ts (Err r) e p = e ∙ p

-- an answer that refuses
pub answer_refused : (ts : List Table) {says : Tested} {r : Refusal} (a : Result JointFields Refusal) → a ≡ Err r → says ≡ Err r → AnswerOf ts says a
answer_refused ts {says} a e f = subst (AnswerOf ts says) (sym e) f

module _ (left right : Table) where
  abbrev ts : List Table
  ts = left ∷ right ∷ []

  pub left_mismatched : mismatched left ≡ true → tables_stage (left ∷ right ∷ []) ≡ Err (refusal 4 0 0)
  unfolding tables_stage any_table refused_at at_place first_refused
  left_mismatched e = rw e refl

  pub right_mismatched : mismatched left ≡ false → mismatched right ≡ true → tables_stage (left ∷ right ∷ []) ≡ Err (refusal 4 0 0)
  unfolding tables_stage any_table refused_at at_place first_refused
  right_mismatched e f = rw (e, f) refl

  module _ (l : mismatched left ≡ false) (r : mismatched right ≡ false) where
    none_mismatched : refused_at 4 0 (at_zero (any_table mismatched ts)) ≡ Ok tt
    unfolding any_table refused_at at_place
    none_mismatched = rw (l, r) refl

    abbrev early : List Tested
    early = names_stage 1 ts ∷ sizes_stage 1 ts ∷ refused_at 1 0 (at_zero (any_table is_empty ts)) ∷ []

    after_lengths : tables_stage ts ≡ first_refused (first_refused early ∷ fields_stage (joint_sizes ts) ∷ [])
    unfolding tables_stage
    after_lengths = first_refused_next _ _ none_mismatched ∙ first_refused_append early (fields_stage (joint_sizes ts) ∷ [])

    pub tables_refused : {q : Refusal} → names_and_sizes (left ∷ right ∷ []) ≡ Err q → tables_stage (left ∷ right ∷ []) ≡ Err q
    unfolding names_and_sizes
    tables_refused e = after_lengths ∙ first_refused_refused _ _ _ e

    pub tables_passed : names_and_sizes (left ∷ right ∷ []) ≡ Ok tt → tables_stage (left ∷ right ∷ []) ≡ fields_stage (joint_sizes (left ∷ right ∷ []))
    unfolding names_and_sizes
    tables_passed e = after_lengths ∙ first_refused_next _ _ e ∙ first_refused_last _
