-- The names in cells, cell by cell, and tables of them. Assumes nothing.
use Prim.Native.Nat.{ℕ, ◌%◌, zero, suc, ◌+◌, ◌-◌, ◌*◌, ◌/◌, ◌≤◌, ◌<◌}
use native.Mathlib.Nat.{not-suc-le-zero, le_of_suc-le-suc}
use native.Mathlib.Omega.{arith}
use mathlib.Core.Bool.{Bool, true, false, cond, ◌||◌, not}
use mathlib.Core.List.{List, [], ◌∷◌, ◌++◌, map, map-append, append_assoc, append-nil}
use mathlib.Core.Logic.{⊎_elim, ◌≢◌}
use Rattle.std.specs.Prelude.{Some}
use mathlib.Core.Path.{◌≡◌, refl, sym, ◌∙◌, ap, ap₂, subst}
use borrow.Author.Tests.{eqb-true, eqb-false, eq-eqb, ne_eqb}
use lib.Dec.{eqb}
use lib.ListN.{length, get_or, set, take, drop, length-set, length-map, drop_of_length-le}
use lib.Seq.{drop-drop, drop-cons, take-take, take-suc, take-set-le, drop-set-lt, drop-set-add, length-take-le, ext_get_or, get_or-set_same, get_or-set_other, set-get_or, set_at, get_or_at, take_all}
use Rattle.std.specs.Prelude.{Ok}
use Rattle.packet.specs.Sizes.{fields_stage}
use Rattle.packet.proofs.Stages.{first_refused_passed}
use Rattle.packet.proofs.Tests.{lt_or_le}
use Rattle.fields.specs.Names.{cell_name, field_named, names_from, names_in, well_formed, is_constant, is_named, bad_name}
use Rattle.fields.specs.Tables.{Table, table, any_table, another, other_size, joint_sizes, tables_stage}
use Rattle.fields.specs.Inner.{kept_cell, kept_name, kept_names}
use Rattle.fields.proofs.NameLaws.{length_names_from, names_from_at, names_at, length_names, found_below}

-- a part of a first part
take_drop_take : {A : Type 0} (m a k : ℕ) (l : List A) → a + m ≤ k → take m (drop a (take k l)) ≡ take m (drop a l)
take_drop_take m zero k l h = take-take m k l (omega arith)
take_drop_take m (suc a) zero l h = let never : suc a ≤ 0 = omega arith in absurd (not-suc-le-zero never)
take_drop_take m (suc a) (suc k) [] h = refl
take_drop_take m (suc a) (suc k) (x ∷ l) h = take_drop_take m a k l (omega arith)

-- ---- names

-- the names lie in the cells
pub names_from_same : (n : ℕ) (a b : List ℕ) → ((i : ℕ) → i < n → cell_name (take 16 (drop (i * 16) a)) ≡ cell_name (take 16 (drop (i * 16) b))) → names_from n a ≡ names_from n b
names_from_same n a b same =
    ext_get_or
    []
    (names_from n a)
    (names_from n b)
    (length_names_from n a ∙ sym (length_names_from n b))
    (λ i h. let below : i < n = omega (arith, length_names_from n a) in names_from_at n a i below ∙ same i below ∙ sym (names_from_at n b i below))

-- further cells don't matter
pub names_from_take : (n k : ℕ) (cells : List ℕ) → n * 16 ≤ k → names_from n (take k cells) ≡ names_from n cells
names_from_take n k cells h = names_from_same n (take k cells) cells (λ i b. ap cell_name (take_drop_take 16 (i * 16) k cells (omega arith)))

-- one name more
pub names_from_suc : (n : ℕ) (cells : List ℕ) → names_from (suc n) cells ≡ names_from n cells ++ (cell_name (take 16 (drop (n * 16) cells)) ∷ [])
unfolding names_from
names_from_suc zero cells = refl
names_from_suc (suc n) cells =
    let next : 16 + n * 16 ≡ suc n * 16 = omega arith in
    ap (◌∷◌ (cell_name (take 16 cells))) (names_from_suc n (drop 16 cells) ∙ ap (λ (l : List ℕ). names_from n (drop 16 cells) ++ (cell_name (take 16 l) ∷ [])) (drop-drop (n * 16) 16 cells ∙ ap (λ (k : ℕ). drop k cells) next))

take_names_from : (i n : ℕ) (cells : List ℕ) → i ≤ n → take i (names_from n cells) ≡ names_from i cells
unfolding names_from
take_names_from zero n cells h = refl
take_names_from (suc i) zero cells h = absurd (not-suc-le-zero h)
take_names_from (suc i) (suc n) cells h = ap (◌∷◌ (cell_name (take 16 cells))) (take_names_from i n (drop 16 cells) (le_of_suc-le-suc h))

pub names_in_take : (i : ℕ) (cells : List ℕ) → i * 16 ≤ length cells → names_in (take (i * 16) cells) ≡ names_from i cells
unfolding names_in
names_in_take i cells h =
    let count : length (take (i * 16) cells) / 16 ≡ i = omega (arith, length-take-le (i * 16) cells h) in
    ap (λ (n : ℕ). names_from n (take (i * 16) cells)) count ∙ names_from_take i (i * 16) cells (omega arith)

pub take_names : (i : ℕ) (cells : List ℕ) → i * 16 ≤ length cells → take i (names_in cells) ≡ names_in (take (i * 16) cells)
unfolding names_in
take_names i cells h = take_names_from i (length cells / 16) cells (omega arith) ∙ sym (names_in_take i cells h)

-- ---- cause 20

abbrev pub bad : List (List ℕ) → List ℕ → Bool
bad earlier w = not (well_formed w) || is_constant w || is_named earlier w

pub bad_cell : (cells : List ℕ) (i : ℕ) {r s : Bool} → i < length cells / 16
    → r ≡ (not (well_formed (cell_name (take (i * 16 + 16 - i * 16) (drop (i * 16) cells)))) || is_constant (cell_name (take (i * 16 + 16 - i * 16) (drop (i * 16) cells))) || is_named (names_in (take (i * 16) cells)) (cell_name (take (i * 16 + 16 - i * 16) (drop (i * 16) cells))))
    → r ≡ s → bad_name (names_in cells) i ≡ s
unfolding bad_name
bad_cell cells i h e q =
    let sixteen : 16 ≡ i * 16 + 16 - i * 16 = omega arith in
    ap₂ bad (take_names i cells (omega arith)) (names_at cells i h ∙ ap (λ (k : ℕ). cell_name (take k (drop (i * 16) cells))) sixteen) ∙ sym e ∙ q

-- ---- causes 4, 21 and 1

-- where all causes pass, 1 and 2 pass over the joint fields
pub tables_legal : (ts : List Table) → tables_stage ts ≡ Ok tt → fields_stage (joint_sizes ts) ≡ Ok tt
unfolding tables_stage
tables_legal ts e = (first_refused_passed _ _ (first_refused_passed _ _ (first_refused_passed _ _ (first_refused_passed _ _ (first_refused_passed _ _ e).1).1).1).1).0

module _ (cells sizes : ℕ) where
  pub no_cells : (cells % 16 ≡ 0 → ⊥) → not (eqb (cells % 16) 0) ≡ not (eqb cells (sizes * 16))
  no_cells h = rw (ne_eqb (cells % 16) 0 h, ne_eqb cells (sizes * 16) (λ e. h (omega (arith, e)))) refl

  pub some_cells : cells % 16 ≡ 0 → not (eqb (cells / 16) sizes) ≡ not (eqb cells (sizes * 16))
  some_cells h = ap not (same (eqb (cells / 16) sizes) refl)
    where
      same : (b : Bool) → eqb (cells / 16) sizes ≡ b → b ≡ eqb cells (sizes * 16)
      same true e = sym (eq-eqb cells (sizes * 16) (omega (arith, eqb-true (cells / 16) sizes e)))
      same false e = sym (ne_eqb cells (sizes * 16) (λ q. eqb-false (cells / 16) sizes e (omega (arith, q))))

-- a name that is found has a size
pub size_below : (cells w sizes : List ℕ) (j : ℕ) → length cells ≡ length sizes * 16 → field_named (names_in cells) w ≡ Some j → j < length sizes
size_below cells w sizes j h e = omega (arith, found_below (names_in cells) w j e, length_names cells)

or_no : (b : Bool) → b || false ≡ b
or_no true = refl
or_no false = refl

-- name i of a table has another size in the other one
pub two_sizes_cell : (names sizes others sizes' : List ℕ) (i : ℕ) {r s : Bool} → length names ≡ length sizes * 16 → i < length sizes
    → r ≡ another (get_or sizes i 0) sizes' (field_named (names_in others) (cell_name (take (i * 16 + 16 - i * 16) (drop (i * 16) names))))
    → r ≡ s → any_table (other_size (table names sizes) i) (table others sizes' ∷ []) ≡ s
unfolding any_table other_size
two_sizes_cell names sizes others sizes' i l h e q =
    let sixteen : 16 ≡ i * 16 + 16 - i * 16 = omega arith in
    or_no _ ∙ ap (λ (w : List ℕ). another (get_or sizes i 0) sizes' (field_named (names_in others) w)) (names_at names i (omega arith) ∙ ap (λ (k : ℕ). cell_name (take k (drop (i * 16) names))) sixteen) ∙ sym e ∙ q

-- ---- the names that a text may use

module _ (cells : List ℕ) (f : ℕ) (h : f < length cells / 16) where
  emptied_here : cell_name (take 16 (drop (f * 16) (set cells (f * 16) 0))) ≡ []
  unfolding cell_name
  emptied_here =
      let first : drop (f * 16) (set cells (f * 16) 0) ≡ set (drop (f * 16) cells) 0 0 = ap (λ (k : ℕ). drop (f * 16) (set cells k 0)) {x = f * 16} {y = f * 16 + 0} (omega arith) ∙ drop-set-add (f * 16) cells 0 0 in
      ap (λ (l : List ℕ). cell_name (take 16 l)) (first ∙ ap (λ (l : List ℕ). set l 0 0) (drop-cons cells (f * 16) 0 (omega arith)))

  kept_there : (i : ℕ) → i ≢ f → take 16 (drop (i * 16) (set cells (f * 16) 0)) ≡ take 16 (drop (i * 16) cells)
  kept_there i other = ⊎_elim before after (lt_or_le i f)
    where
      before : i < f → take 16 (drop (i * 16) (set cells (f * 16) 0)) ≡ take 16 (drop (i * 16) cells)
      before b =
          sym (take_drop_take 16 (i * 16) (f * 16) (set cells (f * 16) 0) (omega arith))
          ∙ ap (λ (l : List ℕ). take 16 (drop (i * 16) l)) (take-set-le (f * 16) cells (f * 16) 0 (omega arith))
          ∙ take_drop_take 16 (i * 16) (f * 16) cells (omega arith)

      after : f ≤ i → take 16 (drop (i * 16) (set cells (f * 16) 0)) ≡ take 16 (drop (i * 16) cells)
      after b = ap (take 16) (drop-set-lt (i * 16) cells (f * 16) 0 (omega (arith, other)))

  -- an emptied cell holds the empty word
  emptied : names_in (set cells (f * 16) 0) ≡ set (names_in cells) f []
  emptied =
      ext_get_or
      []
      (names_in (set cells (f * 16) 0))
      (set (names_in cells) f [])
      (length_names _ ∙ ap (λ (k : ℕ). k / 16) (length-set cells (f * 16) 0) ∙ sym (length-set (names_in cells) f [] ∙ length_names cells))
      at
    where
      many : length (set cells (f * 16) 0) / 16 ≡ length cells / 16
      many = ap (λ (k : ℕ). k / 16) (length-set cells (f * 16) 0)

      at : (i : ℕ) → i < length (names_in (set cells (f * 16) 0)) → get_or (names_in (set cells (f * 16) 0)) i [] ≡ get_or (set (names_in cells) f []) i []
      at i b = go (eqb i f) refl
        where
          below : i < length (set cells (f * 16) 0) / 16
          below = omega (arith, length_names (set cells (f * 16) 0))

          go : (t : Bool) → eqb i f ≡ t → get_or (names_in (set cells (f * 16) 0)) i [] ≡ get_or (set (names_in cells) f []) i []
          go true e =
              let q = eqb-true i f e in
              subst
              (λ (k : ℕ). get_or (names_in (set cells (f * 16) 0)) k [] ≡ get_or (set (names_in cells) f []) k [])
              (sym q)
              (names_at (set cells (f * 16) 0) f (omega (arith, many)) ∙ emptied_here ∙ sym (get_or-set_same (names_in cells) f [] [] (omega (arith, length_names cells))))
          go false e =
              names_at (set cells (f * 16) 0) i below
              ∙ ap cell_name (kept_there i (eqb-false i f e))
              ∙ sym (get_or-set_other (names_in cells) f i [] [] (eqb-false i f e) ∙ names_at cells i (omega (arith, many, below)))

module _ (theirs : List (List ℕ)) (cells : List ℕ) where
  pub kept : (at : ℕ) → is_named theirs (cell_name (take 16 (drop at cells))) ≡ true → cells ≡ kept_cell theirs cells at
  unfolding kept_cell
  kept at e = rw e refl

  pub cleared : (at : ℕ) → is_named theirs (cell_name (take 16 (drop at cells))) ≡ false → set cells at 0 ≡ kept_cell theirs cells at
  unfolding kept_cell
  cleared at e = rw e refl

  -- the name in such a cell
  kept_names_cell : (f : ℕ) → f < length cells / 16 → names_in (kept_cell theirs cells (f * 16)) ≡ set (names_in cells) f (kept_name theirs (get_or (names_in cells) f []))
  unfolding kept_cell kept_name
  kept_names_cell f h = rw (names_at cells f h) (go (is_named theirs w) refl)
    where
      w : List ℕ
      w = cell_name (take 16 (drop (f * 16) cells))

      go : (b : Bool) → is_named theirs w ≡ b → names_in (cond b cells (set cells (f * 16) 0)) ≡ set (names_in cells) f (cond b w [])
      go true e = sym (ap (set (names_in cells) f) (sym (names_at cells f h)) ∙ set-get_or (names_in cells) f [])
      go false e = emptied cells f h

pub length_kept_cell : (theirs : List (List ℕ)) (cells : List ℕ) (at : ℕ) → length (kept_cell theirs cells at) ≡ length cells
unfolding kept_cell
length_kept_cell theirs cells at = go (is_named theirs (cell_name (take 16 (drop at cells))))
  where
    go : (b : Bool) → length (cond b cells (set cells at 0)) ≡ length cells
    go true = refl
    go false = length-set cells at 0

-- After f cells: the names of the cells as they were, kept or emptied, and those not yet looked at.
pub record KeptTo (theirs : List (List ℕ)) (before cells : List ℕ) (f : ℕ) : Type 0 where
  pub long : length cells ≡ length before
  pub done : names_in cells ≡ kept_names theirs (take f (names_in before)) ++ drop f (names_in before)

module _ (theirs : List (List ℕ)) (before : List ℕ) where
  pub kept_none : KeptTo theirs before before 0
  unfolding kept_names
  kept_none = record { long = refl; done = refl }

  length_kept : (f : ℕ) → f ≤ length (names_in before) → length (kept_names theirs (take f (names_in before))) ≡ f
  unfolding kept_names
  length_kept f h = length-map (take f (names_in before)) (kept_name theirs) ∙ length-take-le f (names_in before) h

  kept_snoc : (f : ℕ) → f < length (names_in before) → kept_names theirs (take (suc f) (names_in before)) ≡ kept_names theirs (take f (names_in before)) ++ (kept_name theirs (get_or (names_in before) f []) ∷ [])
  unfolding kept_names
  kept_snoc f h = ap (map (kept_name theirs)) (take-suc (names_in before) f [] h) ∙ map-append (kept_name theirs) (take f (names_in before)) (get_or (names_in before) f [] ∷ [])

  pub kept_more : (cells cells' : List ℕ) (f : ℕ) → f < length before / 16 → KeptTo theirs before cells f → cells' ≡ kept_cell theirs cells (f * 16) → KeptTo theirs before cells' (suc f)
  kept_more cells cells' f h k e =
      record {
        long = ap length e ∙ length_kept_cell theirs cells (f * 16) ∙ k.long;
        done =
            ap names_in e
            ∙ kept_names_cell theirs cells f (omega (arith, k.long))
            ∙ ap (λ (l : List (List ℕ)). set l f (kept_name theirs (get_or l f []))) (k.done ∙ ap (◌++◌ A) (drop-cons N f [] below))
            ∙ ap (λ (w : List ℕ). set (A ++ get_or N f [] ∷ drop (suc f) N) f (kept_name theirs w)) (get_or_at A (get_or N f []) (drop (suc f) N) [] f many)
            ∙ set_at A (get_or N f []) (drop (suc f) N) (kept_name theirs (get_or N f [])) f many
            ∙ sym (ap (λ (l : List (List ℕ)). l ++ drop (suc f) N) (kept_snoc f below) ∙ append_assoc A (kept_name theirs (get_or N f []) ∷ []) (drop (suc f) N));
      }
    where
      N : List (List ℕ)
      N = names_in before

      A : List (List ℕ)
      A = kept_names theirs (take f N)

      below : f < length N
      below = omega (arith, length_names before)

      many : length A ≡ f
      many = length_kept f (omega (arith, below))

  pub kept_all : (cells : List ℕ) (f : ℕ) → length before / 16 ≤ f → KeptTo theirs before cells f → names_in cells ≡ kept_names theirs (names_in before)
  kept_all cells f h k =
      k.done
      ∙ ap₂ (λ (a b : List (List ℕ)). kept_names theirs a ++ b) (take_all f (names_in before) (omega (arith, length_names before))) (drop_of_length-le (names_in before) {i = f} (omega (arith, length_names before)))
      ∙ append-nil (kept_names theirs (names_in before))
