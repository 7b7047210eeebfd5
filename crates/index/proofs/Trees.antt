-- Looks through the trees: where they end, and that a row attached where a look for it ended is found from then on, and no other row besides.
use mathlib.Core.Path.{◌≡◌, refl, sym, ◌∙◌, ap, ap₂, subst}
use mathlib.Core.Bool.{Bool, true, false, cond, ◌||◌, or-false, or-true}
use mathlib.Core.List.{List}
use Prim.Native.Nat.{ℕ, zero, suc, ◌+◌, ◌-◌, ◌*◌, ◌/◌, ◌%◌, ◌^◌, ◌≤◌, ◌<◌, zero-le}
use native.Mathlib.Nat.{le_refl, mod-lt}
use native.Mathlib.Omega.{arith}
use lib.Dec.{eqb, ltb}
use lib.ListN.{length, get_or, set}
use lib.Seq.{get_or-set_same, get_or-set_other}
use borrow.Author.Tests.{eqb-true, eqb-false, ne_eqb}
use Rattle.system.proofs.Basics.{clash}
use Rattle.packet_set.specs.Bits.{mask_bits}
use Rattle.index.specs.declared.Row.{Row}
use Rattle.index.specs.Columns.{policy_count, rows_agree, listed_below}
use Rattle.index.specs.Index.{child_slot, side_at, ends, look_from, Rising}
use Rattle.index.proofs.States.{same_right, same_side}

pred_suc : (n : ℕ) → suc n - 1 ≡ n
pred_suc n = omega arith

module _ (f : ℕ → Row) (r : Row) where
  pub ends_none : (entry : ℕ) → entry ≡ 0 → ends f entry r ≡ true
  unfolding ends
  ends_none entry e = ap (λ v. eqb v 0 || rows_agree (f (v - 1)) r) e

  pub ends_row : (entry : ℕ) → rows_agree (f (entry - 1)) r ≡ true → ends f entry r ≡ true
  unfolding ends
  ends_row entry s = ap (λ t. eqb entry 0 || t) s ∙ or-true (eqb entry 0)

  pub ends_not : (entry : ℕ) → 0 < entry → rows_agree (f (entry - 1)) r ≡ false → ends f entry r ≡ false
  unfolding ends
  ends_not entry l s = ap₂ ◌||◌ (ne_eqb entry 0 (λ e. omega arith)) s

  -- a look that goes on has met a row
  met : (entry : ℕ) → ends f entry r ≡ false → 0 < entry
  unfolding ends
  met zero e = clash refl e
  met (suc i) e = omega arith

pub scan_miss : (f : ℕ → Row) (r : Row) (n : ℕ) → rows_agree (f n) r ≡ false → listed_below f (suc n) r ≡ listed_below f n r
unfolding listed_below
scan_miss f r n s = ap (λ t. listed_below f n r || t) s ∙ or-false (listed_below f n r)

pub scan_hit : (f : ℕ → Row) (r : Row) (n : ℕ) → rows_agree (f n) r ≡ true → listed_below f (suc n) r ≡ true
unfolding listed_below
scan_hit f r n s = ap (λ t. listed_below f n r || t) s ∙ or-true (listed_below f n r)

pub scan_agree : (f g : ℕ → Row) (r : Row) (n : ℕ) → ((i : ℕ) → i < n → f i ≡ g i) → listed_below f n r ≡ listed_below g n r
unfolding listed_below
scan_agree f g r zero same = refl
scan_agree f g r (suc n) same = ap₂ ◌||◌ (scan_agree f g r n (λ i l. same i (omega arith))) (ap (λ x. rows_agree x r) (same n (omega arith)))

scan_same : (f : ℕ → Row) (a b : Row) → rows_agree a b ≡ true → (n : ℕ) → listed_below f n a ≡ listed_below f n b
unfolding listed_below
scan_same f a b s zero = refl
scan_same f a b s (suc n) = ap₂ ◌||◌ (scan_same f a b s n) (same_right a b s (f n))

-- a row that is listed already adds nothing to the scan
pub scan_repeat : (f : ℕ → Row) (n : ℕ) → listed_below f n (f n) ≡ true → (r : Row) → listed_below f (suc n) r ≡ listed_below f n r
scan_repeat f n e r = go (rows_agree (f n) r) refl
  where
    go : (t : Bool) → rows_agree (f n) r ≡ t → listed_below f (suc n) r ≡ listed_below f n r
    go true s = scan_hit f r n s ∙ sym e ∙ scan_same f (f n) r s n
    go false s = scan_miss f r n s

module _ (f : ℕ → Row) (size : ℕ) (trees : List ℕ) where
  -- the next slot of a look for r
  abbrev pub next_slot : Row → ℕ → ℕ → ℕ
  next_slot r depth slot = child_slot size (get_or trees slot 0 - 1) (side_at depth r.states)

  pub look_ends : (r : Row) (k depth slot : ℕ) → ends f (get_or trees slot 0) r ≡ true → look_from f size trees r k depth slot ≡ slot
  unfolding look_from
  look_ends r zero depth slot e = refl
  look_ends r (suc k) depth slot e = ap (λ b. cond b slot (look_from f size trees r k (suc depth) (next_slot r depth slot))) e

  pub look_on : (r : Row) (k depth slot : ℕ) → ends f (get_or trees slot 0) r ≡ false → look_from f size trees r (suc k) depth slot ≡ look_from f size trees r k (suc depth) (next_slot r depth slot)
  unfolding look_from
  look_on r k depth slot e = ap (λ b. cond b slot (look_from f size trees r k (suc depth) (next_slot r depth slot))) e

  -- looks for rows that are the same end at one slot
  pub look_same : (a b : Row) → rows_agree a b ≡ true → (k depth slot : ℕ) → look_from f size trees a k depth slot ≡ look_from f size trees b k depth slot
  unfolding look_from ends
  look_same a b s zero depth slot = refl
  look_same a b s (suc k) depth slot =
      ap₂ (λ t x. cond t slot x) (ap (λ t. eqb (get_or trees slot 0) 0 || t) (same_right a b s (f (get_or trees slot 0 - 1))))
      (look_same a b s k (suc depth) (next_slot a depth slot) ∙ ap (λ c. look_from f size trees b k (suc depth) (child_slot size (get_or trees slot 0 - 1) c)) (same_side a b s depth))

pub side_below : (depth : ℕ) (a : List ℕ) → side_at depth a < 2
unfolding side_at
side_below depth a = mod-lt _ (omega arith)

pub side_is : (a : List ℕ) (depth w : ℕ) → w ≡ get_or a (depth % policy_count) 0 / 2 ^ (depth / policy_count % mask_bits) → (w % 2 ≡ side_at depth a) × (w % 2 < 2)
unfolding side_at
side_is a depth w e = (ap (λ x. x % 2) e, mod-lt w (omega arith))

-- A slot that a look comes to, `depth` below the root.
pub record Reached (size n : ℕ) (trees : List ℕ) (depth slot : ℕ) : Type 0 where
  pub inside : slot < size + 2 * n
  pub deep : depth ≤ n
  pub after : 0 < get_or trees slot 0 → depth < get_or trees slot 0

pub reached_root : (size n : ℕ) (trees : List ℕ) (slot : ℕ) → slot < size → Reached size n trees 0 slot
reached_root size n trees slot l = record { inside = omega arith; deep = zero-le; after = λ some. some }

module _ {size n : ℕ} {trees : List ℕ} (G : Rising size n trees) where
  pub reached_child : {depth slot : ℕ} → Reached size n trees depth slot → (entry side : ℕ) → entry ≡ get_or trees slot 0 → 0 < entry → side < 2
      → Reached size n trees (suc depth) (child_slot size (entry - 1) side)
  reached_child {depth} {slot} a entry side e some l =
      let deeper : depth < entry = subst (λ v. depth < v) (sym e) (a.after (subst (λ v. 0 < v) e some)) in
      let within : entry ≤ n = subst (λ v. v ≤ n) (sym e) (G.below slot) in
      record {
        inside = omega arith;
        deep = omega arith;
        after = λ further. omega (arith, G.rises (entry - 1) side l further);
      }

  -- Row n of g is attached at a vacant slot v; below n the rows of g are those of f.
  module _ (f g : ℕ → Row) (v : ℕ) (inside : v < size + 2 * n) (room : v < length trees) (vacant : get_or trees v 0 ≡ 0)
      (below : (i : ℕ) → i < n → f i ≡ g i) where
    abbrev pub attached : List ℕ
    attached = set trees v (suc n)

    at_new : get_or attached v 0 ≡ suc n
    at_new = get_or-set_same trees v (suc n) 0 room

    at_other : (slot : ℕ) → (slot ≡ v → ⊥) → get_or attached slot 0 ≡ get_or trees slot 0
    at_other slot e = get_or-set_other trees v slot (suc n) 0 e

    -- row n has no child yet
    at_child : (side : ℕ) → side < 2 → get_or attached (child_slot size n side) 0 ≡ 0
    at_child side l = at_other (child_slot size n side) (λ e. omega arith) ∙ none (get_or trees (child_slot size n side) 0) (G.below (child_slot size n side)) (G.rises n side l)
      where
        none : (entry : ℕ) → entry ≤ n → (0 < entry → suc n < entry) → entry ≡ 0
        none zero l h = refl
        none (suc i) l h = absurd (omega (arith, h (omega arith)))

    pub rising_more : Rising size (suc n) attached
    rising_more = record { below = λ slot. go slot (eqb slot v) refl; rises = λ i side l. up i side l (eqb (child_slot size i side) v) refl }
      where
        go : (slot : ℕ) (t : Bool) → eqb slot v ≡ t → get_or attached slot 0 ≤ suc n
        go slot true e = subst (λ s. get_or attached s 0 ≤ suc n) (sym (eqb-true slot v e)) (subst (λ m. m ≤ suc n) (sym at_new) (le_refl (suc n)))
        go slot false e = subst (λ m. m ≤ suc n) (sym (at_other slot (eqb-false slot v e))) (omega (arith, G.below slot))

        up : (i side : ℕ) → side < 2 → (t : Bool) → eqb (child_slot size i side) v ≡ t → 0 < get_or attached (child_slot size i side) 0 → suc i < get_or attached (child_slot size i side) 0
        up i side l true e some =
            let here : child_slot size i side ≡ v = eqb-true _ _ e in
            subst (λ s. suc i < get_or attached s 0) (sym here) (subst (λ m. suc i < m) (sym at_new) (omega arith))
        up i side l false e some =
            let same = at_other (child_slot size i side) (eqb-false _ _ e) in
            subst (λ m. suc i < m) (sym same) (G.rises i side l (subst (λ m. 0 < m) same some))

    ends_agree : (r : Row) (entry : ℕ) → entry ≤ n → ends f entry r ≡ ends g entry r
    unfolding ends
    ends_agree r zero l = refl
    ends_agree r (suc i) l = ap (λ x. eqb (suc i) 0 || rows_agree x r) (below (suc i - 1) (omega arith))

    -- at any other slot the look goes on as before
    ends_other : (r : Row) (slot : ℕ) (t : Bool) → (slot ≡ v → ⊥) → ends f (get_or trees slot 0) r ≡ t → ends g (get_or attached slot 0) r ≡ t
    ends_other r slot t e s = ap (λ m. ends g m r) (at_other slot e) ∙ sym (ends_agree r (get_or trees slot 0) (G.below slot)) ∙ s

    next_other : (r : Row) (depth slot : ℕ) → (slot ≡ v → ⊥) → next_slot g size attached r depth slot ≡ next_slot f size trees r depth slot
    next_other r depth slot e = ap (λ m. child_slot size (m - 1) (side_at depth r.states)) (at_other slot e)

    -- the next slot of the look, as the trees were
    reached_next : (r : Row) {depth slot : ℕ} → Reached size n trees depth slot → ends f (get_or trees slot 0) r ≡ false → Reached size n trees (suc depth) (next_slot f size trees r depth slot)
    reached_next r {depth} a s = reached_child a _ (side_at depth r.states) refl (met f r _ s) (side_below depth r.states)

    -- another row is found exactly when it was
    pub found_other : (r : Row) → rows_agree (g n) r ≡ false → (k depth slot : ℕ) → Reached size n trees depth slot → n < depth + k
        → ltb 0 (get_or attached (look_from g size attached r k depth slot) 0) ≡ ltb 0 (get_or trees (look_from f size trees r k depth slot) 0)
    found_other r other zero depth slot a l = absurd (omega (arith, a.deep))
    found_other r other (suc k) depth slot a l = go (λ s b. found_other r other k (suc depth) s b (omega arith)) (eqb slot v) refl
      where
        onward : (ends f (get_or trees slot 0) r ≡ false → ltb 0 (get_or attached (look_from g size attached r k (suc depth) (next_slot f size trees r depth slot)) 0) ≡ ltb 0 (get_or trees (look_from f size trees r k (suc depth) (next_slot f size trees r depth slot)) 0))
            → (slot ≡ v → ⊥) → (t : Bool) → ends f (get_or trees slot 0) r ≡ t
            → ltb 0 (get_or attached (look_from g size attached r (suc k) depth slot) 0) ≡ ltb 0 (get_or trees (look_from f size trees r (suc k) depth slot) 0)
        onward ih e true s =
            ap (λ x. ltb 0 (get_or attached x 0)) (look_ends g size attached r (suc k) depth slot (ends_other r slot true e s))
            ∙ ap (ltb 0) (at_other slot e)
            ∙ ap (λ x. ltb 0 (get_or trees x 0)) (sym (look_ends f size trees r (suc k) depth slot s))
        onward ih e false s =
            ap (λ x. ltb 0 (get_or attached x 0))
            (look_on g size attached r k depth slot (ends_other r slot false e s) ∙ ap (look_from g size attached r k (suc depth)) (next_other r depth slot e))
            ∙ ih s
            ∙ ap (λ x. ltb 0 (get_or trees x 0)) (sym (look_on f size trees r k depth slot s))

        -- the look that ended at v passes row n and ends below it
        past : ltb 0 (get_or attached (look_from g size attached r (suc k) depth v) 0) ≡ ltb 0 (get_or trees (look_from f size trees r (suc k) depth v) 0)
        past =
            ap (λ x. ltb 0 (get_or attached x 0))
            (look_on g size attached r k depth v (ap (λ m. ends g m r) at_new ∙ ends_not g r (suc n) (omega arith) (subst (λ m. rows_agree (g m) r ≡ false) (sym (pred_suc n)) other))
            ∙ ap (λ m. look_from g size attached r k (suc depth) (child_slot size m (side_at depth r.states))) (ap (λ m. m - 1) at_new ∙ pred_suc n)
            ∙ look_ends g size attached r k (suc depth) (child_slot size n (side_at depth r.states)) (ends_none g r _ (at_child _ (side_below depth r.states))))
            ∙ ap (ltb 0) (at_child _ (side_below depth r.states) ∙ sym vacant)
            ∙ ap (λ x. ltb 0 (get_or trees x 0)) (sym (look_ends f size trees r (suc k) depth v (ends_none f r _ vacant)))

        go : ((s : ℕ) → Reached size n trees (suc depth) s → ltb 0 (get_or attached (look_from g size attached r k (suc depth) s) 0) ≡ ltb 0 (get_or trees (look_from f size trees r k (suc depth) s) 0))
            → (t : Bool) → eqb slot v ≡ t
            → ltb 0 (get_or attached (look_from g size attached r (suc k) depth slot) 0) ≡ ltb 0 (get_or trees (look_from f size trees r (suc k) depth slot) 0)
        go ih true e = subst (λ s. ltb 0 (get_or attached (look_from g size attached r (suc k) depth s) 0) ≡ ltb 0 (get_or trees (look_from f size trees r (suc k) depth s) 0)) (sym (eqb-true slot v e)) past
        go ih false e = onward (λ s. ih _ (reached_next r a s)) (eqb-false slot v e) (ends f (get_or trees slot 0) r) refl

    -- the row is found where it was attached
    pub found_here : (r : Row) → rows_agree (g n) r ≡ true → (k depth slot : ℕ) → Reached size n trees depth slot → look_from f size trees r k depth slot ≡ v
        → look_from g size attached r k depth slot ≡ v
    unfolding look_from
    found_here r same zero depth slot a at = at
    found_here r same (suc k) depth slot a at = go (found_here r same k (suc depth)) (ends f (get_or trees slot 0) r) refl
      where
        here : look_from g size attached r (suc k) depth v ≡ v
        here = look_ends g size attached r (suc k) depth v (ap (λ m. ends g m r) at_new ∙ ends_row g r (suc n) (subst (λ m. rows_agree (g m) r ≡ true) (sym (pred_suc n)) same))

        -- a look that goes on from a slot isn't at v
        apart : ends f (get_or trees slot 0) r ≡ false → slot ≡ v → ⊥
        apart s e = let some = met f r _ s in let none : get_or trees slot 0 ≡ 0 = ap (λ x. get_or trees x 0) e ∙ vacant in omega (arith, some)

        go : ((s : ℕ) → Reached size n trees (suc depth) s → look_from f size trees r k (suc depth) s ≡ v → look_from g size attached r k (suc depth) s ≡ v)
            → (t : Bool) → ends f (get_or trees slot 0) r ≡ t → look_from g size attached r (suc k) depth slot ≡ v
        go ih true s = subst (λ x. look_from g size attached r (suc k) depth x ≡ v) (sym (sym (look_ends f size trees r (suc k) depth slot s) ∙ at)) here
        go ih false s =
            look_on g size attached r k depth slot (ends_other r slot false (apart s) s)
            ∙ ap (look_from g size attached r k (suc depth)) (next_other r depth slot (apart s))
            ∙ ih _ (reached_next r a s) (sym (look_on f size trees r k depth slot s) ∙ at)
