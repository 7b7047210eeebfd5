-- What holds of the rows listed at any time of a run, and how handling a row keeps it.
use mathlib.Core.Path.{◌≡◌, refl, sym, ◌∙◌, subst, subst₂, ap}
use mathlib.Core.Bool.{Bool, true, false, ◌||◌}
use mathlib.Core.List.{List, [], ◌∷◌, ◌++◌}
use mathlib.Core.Logic.{◌⊎◌, inl, inr, ⊎_elim}
use Prim.Native.Nat.{ℕ, zero, suc, ◌≤◌, ◌<◌, suc-le-suc, zero-le}
use native.Mathlib.Nat.{not-suc-le-zero, le_of_suc-le-suc}
use native.Mathlib.Omega.{arith}
use lib.Dec.{eqb}
use lib.ListN.{length}
use lib.Seq.{get_or-append_seam}
use borrow.Author.Tests.{eqb-true, eq-eqb}
use Rattle.system.specs.System.{System, Lawful, Row, next_row}
use Rattle.system.specs.RowOrder.{Entry, start_entry, entry_at, starts, same_row, listed, append, append_next}
use Rattle.system.specs.InnerTables.{Listed}
use Rattle.system.proofs.Basics.{clash, or_true, or_false, and_true, last_or_before, lt_or_le, Prefix, prefix_refl, prefix_trans, prefix_snoc, prefix_length, prefix_at, Place, old, last, length_snoc, place}
use Rattle.system.proofs.Climb.{Earlier}

module _ (S : System) where
  -- Row i is the row next of its parent's, at its own packet; the parent comes before it and has a number below b.
  pub record Child (es : List (Entry S)) (b i : ℕ) : Type 0 where
    pub before : (entry_at S es i).parent < i
    pub under : (entry_at S es i).parent < b
    pub comes : (entry_at S es i).row ≡ next_row S (entry_at S es (entry_at S es i).parent).row (entry_at S es i).row.packet
    pub living : S.dead (entry_at S es i).row.state ≡ false

  -- The rows listed, parents below b: the starting rows and then rows under others, in the order of their parents, none twice.
  pub record Listing (es : List (Entry S)) (b : ℕ) : Type 0 where
    pub begun : S.packets ≤ length es
    pub starting : (α : ℕ) → α < S.packets → entry_at S es α ≡ start_entry S α
    pub small : (i : ℕ) → i < length es → (entry_at S es i).row.packet < S.packets
    pub valid : (i : ℕ) → i < length es → S.valid (entry_at S es i).row.state ≡ true
    pub child : (i : ℕ) → S.packets ≤ i → i < length es → Child es b i
    pub ordered : (i j : ℕ) → S.packets ≤ i → i ≤ j → j < length es → (entry_at S es i).parent ≤ (entry_at S es j).parent
    pub distinct : (i j : ℕ) → i < length es → j < length es → (entry_at S es i).row ≡ (entry_at S es j).row → i ≡ j

  pub earlier : {es : List (Entry S)} {b : ℕ} → Listing es b → Earlier S es
  earlier {es} {b} I = record { earlier = λ i h. go i h (lt_or_le i S.packets) }
    where
      go : (i : ℕ) → i < length es → (i < S.packets) ⊎ (S.packets ≤ i) → (entry_at S es i).parent ≤ i
      go i h (inl l) = subst (λ e. e.parent ≤ i) (sym (I.starting i l)) (omega arith)
      go i h (inr g) = omega (arith, (I.child i g h).before)

  -- the starting rows
  length_starts : (n : ℕ) → length (starts S n) ≡ n
  unfolding starts
  length_starts zero = refl
  length_starts (suc n) = length_snoc (starts S n) (start_entry S n) ∙ ap suc (length_starts n)

  starts_at : (n α : ℕ) → α < n → entry_at S (starts S n) α ≡ start_entry S α
  unfolding starts
  starts_at zero α h = absurd (not-suc-le-zero h)
  starts_at (suc n) α h = go (place (starts S n) (start_entry S n) (start_entry S 0) α (subst (λ k. α < k) (sym (length_starts (suc n))) h)) (starts_at n α)
    where
      go : Place (starts S n) (start_entry S n) (start_entry S 0) α → (α < n → entry_at S (starts S n) α ≡ start_entry S α) → entry_at S (starts S (suc n)) α ≡ start_entry S α
      go (old l e) ih = e ∙ ih (subst (λ k. α < k) (length_starts n) l)
      go (last q e) ih = e ∙ ap (start_entry S) (sym (q ∙ length_starts n))

  pub weaken : {es : List (Entry S)} {b c : ℕ} → b ≤ c → Listing es b → Listing es c
  weaken {es} {b} {c} l I =
      record {
        begun = I.begun;
        starting = I.starting;
        small = I.small;
        valid = I.valid;
        child = λ i g h. record { before = (I.child i g h).before; under = omega (arith, (I.child i g h).under); comes = (I.child i g h).comes; living = (I.child i g h).living };
        ordered = I.ordered;
        distinct = I.distinct;
      }

  -- The list es has grown to fs: it holds the rows next of row p, which is r, at the packets below n, unless they are dead.
  pub record Grown (es fs : List (Entry S)) (p : ℕ) (r : Row S) (n : ℕ) : Type 0 where
    pub longer : Prefix es fs
    pub listing : Listing fs (suc p)
    pub onward : (γ : ℕ) → γ < n → (S.dead (next_row S r γ).state ≡ true) ⊎ Listed S fs (next_row S r γ)

  abbrev pub listed_kept : {es fs : List (Entry S)} {r : Row S} → Prefix es fs → Listed S es r → Listed S fs r
  listed_kept {es} {fs} {r} q l =
      record {
        place = l.place;
        inside = omega (arith, l.inside, prefix_length q);
        there = ap (λ z. z.row) (prefix_at q (start_entry S 0) l.place l.inside) ∙ l.there;
      }

  pub append_kept : (p : ℕ) (es : List (Entry S)) (r : Row S) → (S.dead r.state || listed S es r) ≡ true → append S p es r ≡ es
  unfolding append
  append_kept p es r e = rw (e, append)

  pub append_new : (p : ℕ) (es : List (Entry S)) (r : Row S) → (S.dead r.state || listed S es r) ≡ false → append S p es r ≡ es ++ (record { row = r; parent = p } ∷ [])
  unfolding append
  append_new p es r e = rw (e, append)

  module _ (L : Lawful S) where
    pub listing_starts : Listing (starts S S.packets) 0
    listing_starts =
        record {
          begun = omega (arith, length_starts S.packets);
          starting = starts_at S.packets;
          small = λ i h. subst (λ e. e.row.packet < S.packets) (sym (starts_at S.packets i (inside i h))) (inside i h);
          valid = λ i h. subst (λ e. S.valid e.row.state ≡ true) (sym (starts_at S.packets i (inside i h))) L.start_valid;
          child = λ i g h. absurd (omega (arith, inside i h));
          ordered = λ i j g k h. absurd (omega (arith, inside j h));
          distinct = λ i j h k e. ap (λ r. r.packet) (sym (ap (λ x. x.row) (starts_at S.packets i (inside i h))) ∙ e ∙ ap (λ x. x.row) (starts_at S.packets j (inside j k)));
        }
      where
        inside : (i : ℕ) → i < length (starts S S.packets) → i < S.packets
        inside i h = subst (λ k. i < k) (length_starts S.packets) h

    -- "listed already" is what it says
    pub same_row_true : (a b : Row S) → same_row S a b ≡ true → a ≡ b
    unfolding same_row
    same_row_true a b e = λ i. record { packet = p i; state = q i }
      where
        p : a.packet ≡ b.packet
        p = eqb-true a.packet b.packet (and_true (eqb a.packet b.packet) (S.same a.state b.state) e).0

        q : a.state ≡ b.state
        q = L.same_eq a.state b.state (and_true (eqb a.packet b.packet) (S.same a.state b.state) e).1

    pub same_row_refl : (a : Row S) → same_row S a a ≡ true
    unfolding same_row
    same_row_refl a = rw (eq-eqb a.packet a.packet refl) (L.same_refl a.state)

    pub listed_true : (es : List (Entry S)) (r : Row S) → listed S es r ≡ true → Listed S es r
    unfolding listed
    listed_true [] r e = clash e refl
    listed_true (x ∷ es) r e = go (or_true (same_row S x.row r) (listed S es r) e) (listed_true es r)
      where
        go : (same_row S x.row r ≡ true) ⊎ (listed S es r ≡ true) → (listed S es r ≡ true → Listed S es r) → Listed S (x ∷ es) r
        go (inl q) ih = record { place = zero; inside = suc-le-suc zero-le; there = same_row_true x.row r q }
        go (inr q) ih = record { place = suc (ih q).place; inside = suc-le-suc (ih q).inside; there = (ih q).there }

    pub listed_false : (es : List (Entry S)) (r : Row S) → listed S es r ≡ false → (i : ℕ) → i < length es → (entry_at S es i).row ≡ r → ⊥
    unfolding listed
    listed_false [] r e i h q = not-suc-le-zero h
    listed_false (x ∷ es) r e zero h q = clash (subst (λ a. same_row S x.row a ≡ true) q (same_row_refl x.row)) (or_false (same_row S x.row r) (listed S es r) e).0
    listed_false (x ∷ es) r e (suc i) h q = listed_false es r (or_false (same_row S x.row r) (listed S es r) e).1 i (le_of_suc-le-suc h) q

    -- a row under row p goes to the end
    module _ {es : List (Entry S)} {p : ℕ} (I : Listing es (suc p)) (inside : p < length es) (γ : ℕ) (small : γ < S.packets) where
      new : Entry S
      new = record { row = next_row S (entry_at S es p).row γ; parent = p }

      longer : List (Entry S)
      longer = es ++ (new ∷ [])

      spot : (i : ℕ) → i < length longer → Place es new (start_entry S 0) i
      unfolding longer
      spot i h = place es new (start_entry S 0) i h

      kept : (i : ℕ) → i < length es → entry_at S longer i ≡ entry_at S es i
      unfolding longer
      kept i h = prefix_at (prefix_snoc es new) (start_entry S 0) i h

      -- row i is y, under an old row
      child_at : (i : ℕ) (y : Entry S) → entry_at S longer i ≡ y → y.parent < i → y.parent < suc p → y.parent < length es
          → y.row ≡ next_row S (entry_at S es y.parent).row y.row.packet → S.dead y.row.state ≡ false → Child longer (suc p) i
      child_at i y e before under known comes living =
          record {
            before = subst (λ z. z.parent < i) (sym e) before;
            under = subst (λ z. z.parent < suc p) (sym e) under;
            comes =
                subst (λ z. z.row ≡ next_row S (entry_at S longer z.parent).row z.row.packet) (sym e)
                (subst (λ z. y.row ≡ next_row S z.row y.row.packet) (sym (kept y.parent known)) comes);
            living = subst (λ z. S.dead z.row.state ≡ false) (sym e) living;
          }

      listing_snoc : S.dead new.row.state ≡ false → listed S es new.row ≡ false → Listing longer (suc p)
      unfolding new longer
      listing_snoc living fresh =
          record {
            begun = omega (arith, I.begun, prefix_length (prefix_snoc es new));
            starting = λ α h. kept α (omega (arith, I.begun)) ∙ I.starting α h;
            small = λ i h. each i (λ y. y.row.packet < S.packets) (I.small i) small (spot i h);
            valid = λ i h. each i (λ y. S.valid y.row.state ≡ true) (I.valid i) (L.next_valid (entry_at S es p).row.packet (entry_at S es p).row.state γ (I.small p inside) small (I.valid p inside)) (spot i h);
            child = λ i g h. child i g (spot i h);
            ordered = λ i j g k h. ordered i j g k (spot i (omega arith)) (spot j h);
            distinct = λ i j h k e. distinct i j (spot i h) (spot j k) e;
          }
        where
          each : (i : ℕ) (P : Entry S → Type 0) → (i < length es → P (entry_at S es i)) → P new → Place es new (start_entry S 0) i → P (entry_at S longer i)
          each i P f x (old l e) = subst P (sym e) (f l)
          each i P f x (last q e) = subst P (sym e) x

          child : (i : ℕ) → S.packets ≤ i → Place es new (start_entry S 0) i → Child longer (suc p) i
          child i g (old l e) =
              let c : Child es (suc p) i = I.child i g l in
              child_at i (entry_at S es i) e c.before c.under (omega arith) c.comes c.living
          child i g (last q e) = child_at i new e (omega arith) (omega arith) inside refl living

          ordered : (i j : ℕ) → S.packets ≤ i → i ≤ j → Place es new (start_entry S 0) i → Place es new (start_entry S 0) j → (entry_at S longer i).parent ≤ (entry_at S longer j).parent
          ordered i j g k (old l e) (old m f) = subst₂ (λ y z. y.parent ≤ z.parent) (sym e) (sym f) (I.ordered i j g k m)
          ordered i j g k (old l e) (last m f) = subst₂ (λ y z. y.parent ≤ z.parent) (sym e) (sym f) (le_of_suc-le-suc (I.child i g l).under)
          ordered i j g k (last l e) (old m f) = absurd (omega arith)
          ordered i j g k (last l e) (last m f) = subst₂ (λ y z. y.parent ≤ z.parent) (sym e) (sym f) (omega arith)

          distinct : (i j : ℕ) → Place es new (start_entry S 0) i → Place es new (start_entry S 0) j → (entry_at S longer i).row ≡ (entry_at S longer j).row → i ≡ j
          distinct i j (old l e) (old m f) q = I.distinct i j l m (sym (ap (λ z. z.row) e) ∙ q ∙ ap (λ z. z.row) f)
          distinct i j (old l e) (last m f) q = absurd (listed_false es new.row fresh i l (sym (ap (λ z. z.row) e) ∙ q ∙ ap (λ z. z.row) f))
          distinct i j (last l e) (old m f) q = absurd (listed_false es new.row fresh j m (sym (ap (λ z. z.row) f) ∙ sym q ∙ ap (λ z. z.row) e))
          distinct i j (last l e) (last m f) q = omega arith

    listing_new : {es : List (Entry S)} {p : ℕ} (r : Row S) → (entry_at S es p).row ≡ r → Listing es (suc p) → p < length es → (γ : ℕ) → γ < S.packets
        → S.dead (next_row S r γ).state ≡ false → listed S es (next_row S r γ) ≡ false → Listing (es ++ (record { row = next_row S r γ; parent = p } ∷ [])) (suc p)
    unfolding new longer
    listing_new {es} {p} r is I inside γ small =
        subst (λ x. S.dead (next_row S x γ).state ≡ false → listed S es (next_row S x γ) ≡ false → Listing (es ++ (record { row = next_row S x γ; parent = p } ∷ [])) (suc p)) is
        (listing_snoc I inside γ small)

    grow : {es fs : List (Entry S)} {p n : ℕ} (r : Row S) → (entry_at S fs p).row ≡ r → p < length fs → n < S.packets
        → Grown es fs p r n → Grown es (append S p fs (next_row S r n)) p r (suc n)
    grow {es} {fs} {p} {n} r is inside small G = go (S.dead (next_row S r n).state || listed S fs (next_row S r n)) refl
      where
        -- a longer list that holds the row next at n, or that row is dead
        grown : (gs : List (Entry S)) → Prefix fs gs → Listing gs (suc p) → (S.dead (next_row S r n).state ≡ true) ⊎ Listed S gs (next_row S r n) → Grown es gs p r (suc n)
        grown gs q I now = record { longer = prefix_trans G.longer q; listing = I; onward = λ γ h. each γ (last_or_before h) }
          where
            each : (γ : ℕ) → (γ < n) ⊎ (γ ≡ n) → (S.dead (next_row S r γ).state ≡ true) ⊎ Listed S gs (next_row S r γ)
            each γ (inl l) = ⊎_elim inl (λ h. inr (listed_kept q h)) (G.onward γ l)
            each γ (inr e) = subst (λ k. (S.dead (next_row S r k).state ≡ true) ⊎ Listed S gs (next_row S r k)) (sym e) now

        go : (b : Bool) → (S.dead (next_row S r n).state || listed S fs (next_row S r n)) ≡ b → Grown es (append S p fs (next_row S r n)) p r (suc n)
        go true e =
            rw (append_kept p fs (next_row S r n) e)
            (grown fs (prefix_refl fs) G.listing (⊎_elim inl (λ q. inr (listed_true fs (next_row S r n) q)) (or_true (S.dead (next_row S r n).state) (listed S fs (next_row S r n)) e)))
        go false e =
            rw (append_new p fs (next_row S r n) e)
            (grown (fs ++ (record { row = next_row S r n; parent = p } ∷ [])) (prefix_snoc fs _)
            (listing_new r is G.listing inside n small (or_false (S.dead (next_row S r n).state) (listed S fs (next_row S r n)) e).0 (or_false (S.dead (next_row S r n).state) (listed S fs (next_row S r n)) e).1)
            (inr (record { place = length fs; inside = omega (arith, length_snoc fs (record { row = next_row S r n; parent = p })); there = ap (λ z. z.row) (get_or-append_seam fs _ [] (start_entry S 0)) })))

    pub grown : {es : List (Entry S)} {p : ℕ} → Listing es (suc p) → p < length es → (n : ℕ) → n ≤ S.packets
        → Grown es (append_next S n p (entry_at S es p).row es) p (entry_at S es p).row n
    unfolding append_next
    grown {es} I inside zero l = record { longer = prefix_refl es; listing = I; onward = λ γ h. absurd (not-suc-le-zero h) }
    grown {es} {p} I inside (suc n) l = more (grown I inside n (omega arith))
      where
        more : {fs : List (Entry S)} → Grown es fs p (entry_at S es p).row n → Grown es (append S p fs (next_row S (entry_at S es p).row n)) p (entry_at S es p).row (suc n)
        more G = grow (entry_at S es p).row (ap (λ z. z.row) (prefix_at G.longer (start_entry S 0) p inside)) (omega (arith, inside, prefix_length G.longer)) l G
