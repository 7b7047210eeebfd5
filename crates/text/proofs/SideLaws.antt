-- The names that a text of one side may use.
use Prim.Native.Nat.{ℕ, ◌*◌, ◌≤◌}
use native.Mathlib.Omega.{arith}
use mathlib.Core.Bool.{Bool, true, false, cond}
use mathlib.Core.List.{List, [], ◌∷◌, ◌++◌}
use mathlib.Core.Path.{◌≡◌, refl, sym, ◌∙◌, ap}
use lib.Dec.{eqb}
use lib.ListN.{length, take, drop, length-append, length-drop}
use lib.Seq.{length-take-le, take_at}
use Rattle.fields.specs.Names.{names_in}
use Rattle.fields.specs.Tables.{Table, joint_names, names_for, table_on}
use Rattle.fields.specs.Inner.{kept_name, kept_names}
use Rattle.grammar.specs.Answer.{text_names}

module _ (count : ℕ) (joint : List ℕ) (few : count ≤ 8) (room : 128 ≡ length joint) where
  pub front_length : count * 16 ≡ length (take (count * 16) joint)
  front_length = sym (length-take-le (count * 16) joint (omega arith))

  pub front_few : length (take (count * 16) joint) ≤ 128
  front_few = omega (arith, front_length)

  -- other bytes in front leave what lies after them
  pub front_put : {ns : List (List ℕ)} (front : List ℕ) → length front ≡ length (take (count * 16) joint) → names_in front ≡ ns
      → (names_in (take (count * 16) (front ++ drop (count * 16) joint)) ≡ ns) × (128 ≡ length (front ++ drop (count * 16) joint))
  front_put front l e =
      let n : length front ≡ count * 16 = l ∙ sym front_length in (
        ap names_in (take_at front (drop (count * 16) joint) (count * 16) n) ∙ e,
        sym (length-append front (drop (count * 16) joint) ∙ omega (arith, length-drop (count * 16) joint)),
      )

-- the joint names that a table has are those that a text over it may use
pub kept_are : (ts : List Table) (t : Table) {joint ns : List (List ℕ)} → joint ≡ joint_names ts → ns ≡ kept_names (names_in t.cells) joint → ns ≡ names_for ts t
unfolding names_for kept_names kept_name
kept_are ts t j e = e ∙ ap (kept_names (names_in t.cells)) j

pub side_is : (left right : Table) (side : ℕ) {joint ns : List (List ℕ)} → joint ≡ joint_names (left ∷ right ∷ [])
    → ns ≡ kept_names (names_in (cond (eqb side 2) right.cells left.cells)) joint → ns ≡ text_names left right side
unfolding text_names table_on
side_is left right side {joint} j e =
    kept_are (left ∷ right ∷ []) (table_on side left right) j (e ∙ ap (λ (cells : List ℕ). kept_names (names_in cells) joint) (cells_on (eqb side 2)))
  where
    cells_on : (b : Bool) → cond b right.cells left.cells ≡ (cond b right left).cells
    cells_on true = refl
    cells_on false = refl
