-- The loops that list the starting rows and the rows next of a handled one.
use mathlib.Core.Path.{◌≡◌, refl, sym, ◌∙◌, ap, ap₂, subst}
use mathlib.Core.Bool.{Bool, true, false, ◌||◌}
use mathlib.Core.List.{List, [], ◌∷◌}
use mathlib.Core.Logic.{⊎_elim}
use Prim.Native.Nat.{ℕ, zero, suc, ◌+◌, ◌/◌, ◌≤◌, ◌<◌}
use native.Mathlib.Nat.{le_refl, le_antisymm, le_of_suc-le-suc, eq-or-lt_of_le}
use native.Mathlib.Numerals.{add-one}
use native.Mathlib.Omega.{arith}
use lib.Arith.{le-zero}
use lib.ListN.{length, get_or, length-set}
use Rattle.packet.specs.Sizes.{product}
use Rattle.system.specs.System as system
use Rattle.system.specs.System.{System, Lawful, next_row}
use Rattle.system.specs.RowOrder.{Entry, starts, listed, append, append_next}
use Rattle.system.proofs.Basics.{Prefix}
use Rattle.system.proofs.Answers.{starts_longer, append_next_longer}
use Rattle.system.proofs.Listing.{append_kept}
use Rattle.pair.specs.Sides.{Pair, at, on_both, NumberedPolicy}
use Rattle.pair.specs.Pair.{both_zero, pair_system}
use Rattle.index.specs.declared.Row.{Row}
use Rattle.std.specs.Prelude.{Option, Some, None}
use Rattle.index.specs.Columns.{masks_agree, all_zero}
use Rattle.index.specs.Index.{Indexed, RoomFor}
use Rattle.index.specs.Appending.{Lists, is_added, rows_after, Appending}
use Rattle.index.specs.Entries.{row_of, entries_of}
use Rattle.index.proofs.Growth.{length_trees}
use Rattle.index.proofs.Starting.{append_start}
use Rattle.index.proofs.Entries.{grown, grows, stays, Outcome, outcome, added, full, known}
use Rattle.marks.proofs.Touched.{PassedOver, NextMarked}
use Rattle.listed_rows.specs.Standing.{rows_in, Standing, zero_masks, pair_masks, Nexts, Started, NextAppended}
use Rattle.listed_rows.proofs.Standing.{stands_none, continues_rows, stands_rows, stands_full}

-- no list has changed its length
pub record SameLengths (x y : Lists) : Type 0 where
  pub packets : length y.packets ≡ length x.packets
  pub left : length y.left ≡ length x.left
  pub right : length y.right ≡ length x.right
  pub parents : length y.parents ≡ length x.parents
  pub trees : length y.trees ≡ length x.trees

pub lengths_none : {x : Lists} → SameLengths x x
lengths_none = record { packets = refl; left = refl; right = refl; parents = refl; trees = refl }

pub lengths_then : {x y z : Lists} → SameLengths x y → SameLengths y z → SameLengths x z
lengths_then a b =
    record {
      packets = b.packets ∙ a.packets;
      left = b.left ∙ a.left;
      right = b.right ∙ a.right;
      parents = b.parents ∙ a.parents;
      trees = b.trees ∙ a.trees;
    }

pub lengths_appended : {x y : Lists} {count n : ℕ} {r : Row} {p : ℕ} {answer : Option ℕ} → Appending x y count n r p answer → SameLengths x y
unfolding grown
lengths_appended {x} {y} {count} {n} {r} {p} A = go (is_added x n r) refl
  where
    go : (b : Bool) → is_added x n r ≡ b → SameLengths x y
    go false e = subst (SameLengths x) (sym (stays A e)) lengths_none
    go true e =
        subst (SameLengths x) (sym (grows A e))
        (record {
          packets = length-set x.packets n _;
          left = length-set x.left n _;
          right = length-set x.right n _;
          parents = length-set x.parents n _;
          trees = length_trees _ count r n x.trees;
        })

-- n rows are listed in y, which was x
pub record Going (x y : Lists) (count n : ℕ) : Type 0 where
  pub indexed : Indexed y.packets y.left y.right count n y.trees
  pub same : SameLengths x y
  pub long : length x.parents ≡ length x.packets

pub going_long : {x y : Lists} {count n : ℕ} → Going x y count n → length y.parents ≡ length y.packets
going_long G = G.same.parents ∙ G.long ∙ sym G.same.packets

going_none : {x : Lists} {count n : ℕ} → Indexed x.packets x.left x.right count n x.trees → length x.parents ≡ length x.packets → Going x x count n
going_none I l = record { indexed = I; same = lengths_none; long = l }

-- one more row, if there is room and it is new
going_more : {x y z : Lists} {count n m : ℕ} {r : Row} {p : ℕ} {answer : Option ℕ} → Going x y count n → Appending y z count n r p answer → answer ≡ Some m → Going x z count m
unfolding rows_after
going_more {x} {y} {z} {count} {n} {m} {r} {p} {answer} G A e = record { indexed = indexed (outcome A); same = lengths_then G.same (lengths_appended A); long = G.long }
  where
    to : (b : Bool) → is_added y n r ≡ b → rows_after b n ≡ m → Indexed z.packets z.left z.right count m z.trees
    to b q s = subst (λ k. Indexed z.packets z.left z.right count k z.trees) (ap (λ t. rows_after t n) q ∙ s) A.indexed

    indexed : Outcome y n r answer → Indexed z.packets z.left z.right count m z.trees
    indexed (added new l isIn a) = to true isIn (let q : suc n ≡ m = cc in q)
    indexed (known new notIn a) = to false notIn (let q : n ≡ m = cc in q)
    indexed (full new l notIn a) = let q : ◌≡◌ {A = ℕ} 0 1 = cc in absurd (omega arith)

-- an append lists one row more at most
few_more : {y z : Lists} {count n m : ℕ} {r : Row} {p : ℕ} {answer : Option ℕ} → Appending y z count n r p answer → answer ≡ Some m → m ≤ n + 1
few_more {y} {z} {count} {n} {m} {r} {p} {answer} A e = go (outcome A)
  where
    go : Outcome y n r answer → m ≤ n + 1
    go (added new l isIn a) = let q : suc n ≡ m = cc in omega arith
    go (known new notIn a) = let q : n ≡ m = cc in omega arith
    go (full new l notIn a) = let q : ◌≡◌ {A = ℕ} 0 1 = cc in absurd (omega arith)

-- The starting rows: γ of them are listed.
pub record StartedTo (x y : Lists) (count n γ : ℕ) : Type 0 where
  pub going : Going x y count n
  pub few : n ≤ γ
  pub stands : (sizes : List ℕ) (ps : Pair NumberedPolicy) → Lawful (pair_system sizes ps) → product sizes ≡ count
      → Standing (pair_system sizes ps) (pair_masks sizes ps) x y count n (starts (pair_system sizes ps) γ)

-- the row that a starting row is in the lists
abbrev pub starting_row : ℕ → Row
starting_row α = record { packet = α; states = 1 ∷ 1 ∷ [] }

-- the row next at γ, whose masks stand at place i
abbrev pub next_in : List ℕ → List ℕ → ℕ → ℕ → Row
next_in lefts rights i γ = record { packet = γ; states = get_or lefts i 0 ∷ get_or rights i 0 ∷ [] }

module _ (sizes : List ℕ) (ps : Pair NumberedPolicy) where
  living : (pair_system sizes ps).dead (pair_system sizes ps).start ≡ false
  unfolding both_zero on_both at
  living = refl

  starting_append : (α : ℕ)
      → append (pair_system sizes ps) α (starts (pair_system sizes ps) α) (row_of (pair_system sizes ps) (pair_masks sizes ps) (starting_row α)) ≡ starts (pair_system sizes ps) (suc α)
  starting_append α = append_start (pair_system sizes ps) living α

  next_row_lem : (r : system.Row (pair_system sizes ps)) (lefts rights : List ℕ) → Nexts sizes ps r lefts rights → (γ : ℕ) → γ < product sizes
      → row_of (pair_system sizes ps) (pair_masks sizes ps) (next_in lefts rights γ γ) ≡ next_row (pair_system sizes ps) r γ
  next_row_lem r lefts rights N γ l = λ k. record { packet = γ; state = record { left = N.left_next γ l k; right = N.right_next γ l k } }

pub started_none : {x : Lists} {count : ℕ} → Indexed x.packets x.left x.right count 0 x.trees → length x.parents ≡ length x.packets → StartedTo x x count 0 0
unfolding starts entries_of
started_none {x} {count} I l = record { going = going_none I l; few = omega arith; stands = λ sizes ps lawful q. stands_none (pair_system sizes ps) (pair_masks sizes ps) x count 0 I }

-- each packet has a bucket, so there is room for its starting row
pub starting_room : {x y : Lists} {count n α : ℕ} → StartedTo x y count n α → α < count → RoomFor y.packets n 1 y.trees
starting_room T small = record { room = λ i l k. omega (arith, T.few, T.going.indexed.buckets) }

module _ {x y : Lists} {count n α : ℕ} (T : StartedTo x y count n α) (small : α < count) {z : Lists} {answer : Option ℕ} (A : Appending y z count n (starting_row α) α answer) where
  pub started_more : (m : ℕ) → answer ≡ Some m → StartedTo x z count m (α + 1)
  started_more m e =
      record {
        going = going_more T.going A e;
        few = omega (arith, few_more A e, T.few);
        stands = λ sizes ps lawful q.
            subst (Standing (pair_system sizes ps) (pair_masks sizes ps) x z count m)
            (starting_append sizes ps α ∙ ap (starts (pair_system sizes ps)) (sym (add-one α)))
            (stands_rows (pair_system sizes ps) (pair_masks sizes ps) (T.stands sizes ps lawful q) lawful A (going_long T.going) m e);
      }

  pub started_full : answer ≡ None → Started x z count None
  started_full e =
      record {
        started = λ sizes ps lawful q.
            stands_full (pair_system sizes ps) (pair_masks sizes ps) (T.stands sizes ps lawful q) lawful A (going_long T.going) e T.going.same.packets
            (starts (pair_system sizes ps) (product sizes))
            (subst (λ l. Prefix l (starts (pair_system sizes ps) (product sizes))) (sym (starting_append sizes ps α))
            (starts_longer (pair_system sizes ps) (suc α) (product sizes) (omega arith)));
      }

pub started_all : {x y : Lists} {count n α : ℕ} → StartedTo x y count n α → α ≤ count → count ≤ α → Started x y count (Some n)
started_all {x} {y} {count} {n} {α} T l g =
    record {
      started = λ sizes ps lawful q.
          continues_rows (pair_system sizes ps) (pair_masks sizes ps)
          (subst (λ k. Standing (pair_system sizes ps) (pair_masks sizes ps) x y count n (starts (pair_system sizes ps) k)) (le_antisymm l g ∙ sym q) (T.stands sizes ps lawful q))
          (omega (arith, T.going.indexed.within, T.going.same.packets));
    }

-- The rows next of row p: those at the packets below γ are appended.
pub record NextTo (x y : Lists) (count before n γ p : ℕ) (lefts rights : List ℕ) : Type 0 where
  pub going : Going x y count n
  pub few : n ≤ before + γ
  pub stands : (sizes : List ℕ) (ps : Pair NumberedPolicy) → Lawful (pair_system sizes ps) → product sizes ≡ count
      → (r : system.Row (pair_system sizes ps)) → Nexts sizes ps r lefts rights
      → Standing (pair_system sizes ps) (pair_masks sizes ps) x y count n (append_next (pair_system sizes ps) γ p r (rows_in (pair_system sizes ps) (pair_masks sizes ps) x before))

pub next_none : {x : Lists} {count n p : ℕ} {lefts rights : List ℕ} → Indexed x.packets x.left x.right count n x.trees → length x.parents ≡ length x.packets
    → NextTo x x count n n 0 p lefts rights
unfolding append_next
next_none {x} {count} {n} I l = record { going = going_none I l; few = omega arith; stands = λ sizes ps lawful q r N. stands_none (pair_system sizes ps) (pair_masks sizes ps) x count n I }

append_dead : (S : System) (p : ℕ) (es : List (Entry S)) (r : system.Row S) → S.dead r.state ≡ true → append S p es r ≡ es
append_dead S p es r e = append_kept S p es r (ap (λ b. b || listed S es r) e)

-- a packet without marks has no row
next_dead : {x y : Lists} {count before n γ p : ℕ} {lefts rights : List ℕ} → NextTo x y count before n γ p lefts rights → γ < count → get_or lefts γ 0 ≡ 0 → get_or rights γ 0 ≡ 0
    → NextTo x y count before n (suc γ) p lefts rights
unfolding append_next masks_agree all_zero
next_dead {x} {y} {count} {before} {n} {γ} {p} {lefts} {rights} T small l r =
    record {
      going = T.going;
      few = omega (arith, T.few);
      stands = λ sizes ps lawful q row N.
          subst (Standing (pair_system sizes ps) (pair_masks sizes ps) x y count n)
          (sym (append_dead (pair_system sizes ps) p _ _ (dead sizes ps row N (omega arith))))
          (T.stands sizes ps lawful q row N);
    }
  where
    both_zero_lem : all_zero (get_or lefts γ 0 ∷ get_or rights γ 0 ∷ []) ≡ true
    both_zero_lem = ap₂ (λ a b. all_zero (a ∷ b ∷ [])) l r

    dead : (sizes : List ℕ) (ps : Pair NumberedPolicy) (row : system.Row (pair_system sizes ps)) → Nexts sizes ps row lefts rights → γ < product sizes
        → (pair_system sizes ps).dead (next_row (pair_system sizes ps) row γ).state ≡ true
    dead sizes ps row N h = ap (λ w. (pair_system sizes ps).dead w.state) (sym (next_row_lem sizes ps row lefts rights N γ h)) ∙ zero_masks sizes ps (get_or lefts γ 0 ∷ get_or rights γ 0 ∷ []) ∙ both_zero_lem

-- there is room for the row next at γ
pub next_room : {x y : Lists} {count before n γ p : ℕ} {lefts rights : List ℕ} → RoomFor x.packets before count x.trees → NextTo x y count before n γ p lefts rights → γ < count
    → RoomFor y.packets n 1 y.trees
next_room F T small =
    record { room = λ i l k. subst (λ m. i < m / 3) (sym T.going.same.trees) (F.room i (omega (arith, T.going.same.packets)) (omega (arith, T.few))) }

-- packets without marks may be skipped
pub next_skip : {x y : Lists} {count before n γ p : ℕ} {lefts rights : List ℕ} → NextTo x y count before n γ p lefts rights → {δ : ℕ} → γ ≤ δ → δ ≤ count
    → PassedOver lefts rights γ δ → NextTo x y count before n δ p lefts rights
next_skip {x} {y} {count} {before} {n} {γ} {p} {lefts} {rights} T {δ} l h zeros = go δ l h zeros
  where
    go : (δ : ℕ) → γ ≤ δ → δ ≤ count → PassedOver lefts rights γ δ → NextTo x y count before n δ p lefts rights
    go zero l h zeros = subst (λ k. NextTo x y count before n k p lefts rights) (le-zero l) T
    go (suc δ) l h zeros =
        ⊎_elim (λ e. subst (λ k. NextTo x y count before n k p lefts rights) e T)
        (λ q. next_dead (go δ (le_of_suc-le-suc q) (omega arith) (λ β a b. zeros β a (omega arith))) h (zeros δ (le_of_suc-le-suc q) (omega arith)).0 (zeros δ (le_of_suc-le-suc q) (omega arith)).1)
        (eq-or-lt_of_le l)

-- the walk goes on at a packet
pub next_at : {x y : Lists} {count before n γ p : ℕ} {lefts rights : List ℕ} → NextTo x y count before n γ p lefts rights → {δ : ℕ} → NextMarked count lefts rights γ δ
    → NextTo x y count before n δ p lefts rights
next_at T M = next_skip T M.above (omega (arith, M.below)) M.passed

module _ {x y : Lists} {count before n γ p : ℕ} {lefts rights : List ℕ} (T : NextTo x y count before n γ p lefts rights) (small : γ < count)
    {z : Lists} {answer : Option ℕ} (i : ℕ) (here : i ≡ γ) (appends : Appending y z count n (next_in lefts rights i γ) p answer) where
  A : Appending y z count n (next_in lefts rights γ γ) p answer
  A = subst (λ j. Appending y z count n (next_in lefts rights j γ) p answer) here appends

  module _ (sizes : List ℕ) (ps : Pair NumberedPolicy) (q : product sizes ≡ count) (r : system.Row (pair_system sizes ps)) (N : Nexts sizes ps r lefts rights) where
    appending : append (pair_system sizes ps) p (append_next (pair_system sizes ps) γ p r (rows_in (pair_system sizes ps) (pair_masks sizes ps) x before)) (row_of (pair_system sizes ps) (pair_masks sizes ps) (next_in lefts rights γ γ))
        ≡ append_next (pair_system sizes ps) (suc γ) p r (rows_in (pair_system sizes ps) (pair_masks sizes ps) x before)
    unfolding append_next
    appending = ap (append (pair_system sizes ps) p (append_next (pair_system sizes ps) γ p r (rows_in (pair_system sizes ps) (pair_masks sizes ps) x before))) (next_row_lem sizes ps r lefts rights N γ (omega arith))

  pub next_more : (m : ℕ) → answer ≡ Some m → NextTo x z count before m (γ + 1) p lefts rights
  next_more m e =
      record {
        going = going_more T.going A e;
        few = omega (arith, few_more A e, T.few);
        stands = λ sizes ps lawful q r N.
            subst (Standing (pair_system sizes ps) (pair_masks sizes ps) x z count m)
            (appending sizes ps q r N ∙ ap (λ k. append_next (pair_system sizes ps) k p r (rows_in (pair_system sizes ps) (pair_masks sizes ps) x before)) (sym (add-one γ)))
            (stands_rows (pair_system sizes ps) (pair_masks sizes ps) (T.stands sizes ps lawful q r N) lawful A (going_long T.going) m e);
      }

  pub next_full : answer ≡ None → NextAppended x z count before p lefts rights None
  next_full e =
      record {
        appended = λ sizes ps lawful q r N.
            stands_full (pair_system sizes ps) (pair_masks sizes ps) (T.stands sizes ps lawful q r N) lawful A (going_long T.going) e T.going.same.packets _
            (subst (λ l. Prefix l (append_next (pair_system sizes ps) (product sizes) p r (rows_in (pair_system sizes ps) (pair_masks sizes ps) x before))) (sym (appending sizes ps q r N))
            (append_next_longer (pair_system sizes ps) p r _ (suc γ) (product sizes) (omega arith)));
      }

-- the walk ends: no packet has marks from γ on
pub next_all : {x y : Lists} {count before n γ p : ℕ} {lefts rights : List ℕ} → NextTo x y count before n γ p lefts rights → γ ≤ count → PassedOver lefts rights γ count
    → NextAppended x y count before p lefts rights (Some n)
next_all {x} {y} {count} {before} {n} {γ} {p} {lefts} {rights} T l zeros =
    let W : NextTo x y count before n count p lefts rights = next_skip T l (le_refl count) zeros in
    record {
      appended = λ sizes ps lawful q r N.
          continues_rows (pair_system sizes ps) (pair_masks sizes ps)
          (subst (λ k. Standing (pair_system sizes ps) (pair_masks sizes ps) x y count n (append_next (pair_system sizes ps) k p r (rows_in (pair_system sizes ps) (pair_masks sizes ps) x before)))
          (sym q) (W.stands sizes ps lawful q r N))
          (omega (arith, T.going.indexed.within, T.going.same.packets));
    }
