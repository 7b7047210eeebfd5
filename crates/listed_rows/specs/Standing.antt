-- What the lent row lists stand for: the first rows are a list of the system's entries, and the lists keep their contents beyond.
use Rattle.std.specs.Prelude.{◌≡◌, cond, List, ℕ, Option, Some, None, ◌<◌, ltb, length, get_or, take, drop}
use Rattle.std.proofs.Math.Path.{refl}
use Rattle.packet.specs.Sizes.{product}
use Rattle.system.specs.System.{System, Lawful, Row}
use Rattle.system.specs.RowOrder.{Entry, starts, append_next}
use Rattle.pair.specs.Sides.{left, right, Pair, at, on_both, NumberedPolicy}
use Rattle.pair.specs.Pair as pair
use Rattle.pair.specs.Pair.{next_at, both_zero, pair_system}
use Rattle.index.specs.Columns.{policy_count, masks_agree, all_zero}
use Rattle.index.specs.Index.{Indexed}
use Rattle.index.specs.Appending.{Lists}
use Rattle.index.specs.Entries.{Masks, entries}

-- the rows answered: none when there are more than were lent
unfoldable pub answer_for : ℕ → ℕ → Option ℕ
answer_for lent n = cond (ltb lent n) None (Some n)

module _ (S : System) (M : Masks S) where
  -- the entries that the first n rows are
  abbrev pub rows_in : Lists → ℕ → List (Entry S)
  rows_in x n = entries S M x.packets x.left x.right x.parents n

  -- The first n rows of y are es, indexed; beyond, the columns are as in x.
  pub record Standing (x y : Lists) (count n : ℕ) (es : List (Entry S)) : Type 0 where
    pub entries : rows_in y n ≡ es
    pub indexed : Indexed y.packets y.left y.right count n y.trees
    pub packets : drop n y.packets ≡ drop n x.packets
    pub left : drop n y.left ≡ drop n x.left
    pub right : drop n y.right ≡ drop n x.right
    pub parents : drop n y.parents ≡ drop n x.parents

  -- The rows es are listed, as many of them as were lent.
  pub record Continues (x y : Lists) (count : ℕ) (es : List (Entry S)) (answer : Option ℕ) : Type 0 where
    pub answers : answer ≡ answer_for (length x.packets) (length es)
    pub standing : Standing x y count (length (take (length x.packets) es)) (take (length x.packets) es)

-- the left policy's mask, then the right one's
abbrev pub mask_pair : List ℕ → Pair ℕ
mask_pair a = record { left = get_or a 0 0; right = get_or a 1 0 }

module _ (sizes : List ℕ) (ps : Pair NumberedPolicy) where
  pub same_masks : (a b : List ℕ) → pair.same_states sizes ps (mask_pair a) (mask_pair b) ≡ masks_agree policy_count a b
  unfolding pair.same_states on_both at masks_agree
  same_masks a b = refl

  pub zero_masks : (a : List ℕ) → both_zero sizes ps (mask_pair a) ≡ all_zero a
  unfolding both_zero on_both at masks_agree all_zero
  zero_masks a = refl

  -- two masks are a state of the pair
  abbrev pub pair_masks : Masks (pair_system sizes ps)
  pair_masks = record { state = mask_pair; same_states_lem = same_masks; dead_states = zero_masks }

  -- the two lists hold the masks next of row r
  pub record Nexts (r : Row (pair_system sizes ps)) (lefts rights : List ℕ) : Type 0 where
    pub left_next : (γ : ℕ) → γ < product sizes → get_or lefts γ 0 ≡ next_at sizes ps left r.packet r.state γ
    pub right_next : (γ : ℕ) → γ < product sizes → get_or rights γ 0 ≡ next_at sizes ps right r.packet r.state γ

-- The starting rows are listed, whatever policies of so many packets the masks belong to.
pub record Started (x y : Lists) (count : ℕ) (answer : Option ℕ) : Type 0 where
  pub started : (sizes : List ℕ) (ps : Pair NumberedPolicy) → Lawful (pair_system sizes ps) → product sizes ≡ count
      → Continues (pair_system sizes ps) (pair_masks sizes ps) x y count (starts (pair_system sizes ps) (product sizes)) answer

-- Row p has been handled: the rows next of it, whose masks the two lists hold, are appended to the first n.
pub record NextAppended (x y : Lists) (count n p : ℕ) (lefts rights : List ℕ) (answer : Option ℕ) : Type 0 where
  pub appended : (sizes : List ℕ) (ps : Pair NumberedPolicy) → Lawful (pair_system sizes ps) → product sizes ≡ count
      → (r : Row (pair_system sizes ps)) → Nexts sizes ps r lefts rights
      → Continues (pair_system sizes ps) (pair_masks sizes ps) x y count (append_next (pair_system sizes ps) (product sizes) p r (rows_in (pair_system sizes ps) (pair_masks sizes ps) x n)) answer
