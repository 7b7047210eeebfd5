-- What is read off a row's line of parents obeys the two equations that it means, and is what the system reads off its entries.
use mathlib.Core.Path.{◌≡◌, refl, sym, ◌∙◌, subst, ap, ap₂}
use mathlib.Core.List.{List, [], ◌∷◌, ◌++◌}
use mathlib.Core.Logic.{◌⊎◌, inl, inr}
use Prim.Native.Nat.{ℕ, zero, suc, ◌+◌, ◌≤◌, ◌<◌}
use native.Mathlib.Nat.{eq-or-lt_of_le}
use native.Mathlib.Omega.{arith}
use lib.ListN.{length, get_or, set, take, drop, length-set}
use lib.Seq.{append_snoc, set-set, lt-length-set, drop-set-lt, set_split, set_at, take-suc, length-take-le}
use borrow.Author.Tests.{eq-eqb, ne_eqb}
use Rattle.system.specs.System.{System}
use Rattle.system.specs.RowOrder.{Entry, entry_at, climbing, climb}
use Rattle.system.proofs.Basics.{induction, length_snoc}
use Rattle.packet.specs.Written.{written}
use Rattle.parent_traces.specs.ParentLines.{rising, rise, line_depth, line_path, line_start, Rooted}

module _ {A : Type 0} (first : ℕ → A) (below : ℕ → A → A) {parents : List ℕ} {n : ℕ} (R : Rooted parents n) where
  rising_first : (k i : ℕ) → get_or parents i 0 ≡ i → rising first below parents k i ≡ first i
  unfolding rising
  rising_first zero i e = refl
  rising_first (suc k) i e = rw (eq-eqb (get_or parents i 0) i e, rising)

  rising_below : (k i : ℕ) → get_or parents i 0 < i → rising first below parents (suc k) i ≡ below i (rising first below parents k (get_or parents i 0))
  unfolding rising
  rising_below k i l = rw (ne_eqb (get_or parents i 0) i (λ e. omega arith), rising)

  -- any number of steps that is enough
  rising_same : (i : ℕ) → (k m : ℕ) → i < n → i ≤ k → i ≤ m → rising first below parents k i ≡ rising first below parents m i
  rising_same = induction _ step
    where
      Same : ℕ → Type 0
      Same i = (k m : ℕ) → i < n → i ≤ k → i ≤ m → rising first below parents k i ≡ rising first below parents m i

      step : (i : ℕ) → ((j : ℕ) → j < i → Same j) → Same i
      step i ih k m h a b = go k m a b (eq-or-lt_of_le (R.earlier i h))
        where
          go : (k m : ℕ) → i ≤ k → i ≤ m → (get_or parents i 0 ≡ i) ⊎ (get_or parents i 0 < i) → rising first below parents k i ≡ rising first below parents m i
          go k m a b (inl e) = rising_first k i e ∙ sym (rising_first m i e)
          go zero m a b (inr l) = absurd (omega arith)
          go (suc k) zero a b (inr l) = absurd (omega arith)
          go (suc k) (suc m) a b (inr l) = rising_below k i l ∙ ap (below i) (ih (get_or parents i 0) l k m (omega arith) (omega arith) (omega arith)) ∙ sym (rising_below m i l)

  -- a starting row, its own parent
  pub rise_first : (i : ℕ) → get_or parents i 0 ≡ i → rise first below parents i ≡ first i
  unfolding rise
  rise_first i e = rising_first i i e

  -- any other row
  pub rise_below : (i : ℕ) → i < n → get_or parents i 0 < i → rise first below parents i ≡ below i (rise first below parents (get_or parents i 0))
  unfolding rise
  rise_below zero h l = absurd (omega arith)
  rise_below (suc i) h l = rising_below i (suc i) l ∙ ap (below (suc i)) (rising_same (get_or parents (suc i) 0) i (get_or parents (suc i) 0) (omega arith) (omega arith) (omega arith))

  -- the system's climb over entries that the rows stand for
  module _ (S : System) (es : List (Entry S)) (is : (i : ℕ) → i < n → (entry_at S es i).parent ≡ get_or parents i 0)
      (top : Entry S → A) (under : Entry S → A → A) (is_top : (i : ℕ) → i < n → top (entry_at S es i) ≡ first i) (isUnder : (i : ℕ) → i < n → (a : A) → under (entry_at S es i) a ≡ below i a) where
    climbing_rising : (k i : ℕ) → i < n → climbing S top under k es i ≡ rising first below parents k i
    unfolding climbing rising
    climbing_rising zero i h = is_top i h
    climbing_rising (suc k) i h = go (climbing_rising k) (eq-or-lt_of_le (R.earlier i h))
      where
        go : ((j : ℕ) → j < n → climbing S top under k es j ≡ rising first below parents k j) → (get_or parents i 0 ≡ i) ⊎ (get_or parents i 0 < i) → climbing S top under (suc k) es i ≡ rising first below parents (suc k) i
        go ih (inl e) = rw (eq-eqb (entry_at S es i).parent i (is i h ∙ e), climbing) (is_top i h) ∙ sym (rising_first (suc k) i e)
        go ih (inr l) =
            rw (ne_eqb (entry_at S es i).parent i (λ e. omega (arith, is i h)), climbing)
            (isUnder i h _ ∙ ap (below i) (ap (climbing S top under k es) (is i h) ∙ ih (get_or parents i 0) (omega arith)))
            ∙ sym (rising_below k i l)

    pub climb_rise : (i : ℕ) → i < n → climb S top under es i ≡ rise first below parents i
    unfolding climb rise
    climb_rise i h = climbing_rising i i h

-- Row i is on the line from row h up, and p is its parent.
pub record OnLine (parents : List ℕ) (h i p : ℕ) : Type 0 where
  pub inside : i ≤ h
  pub parent : p ≡ get_or parents i 0

-- The loop that counts: `k` rows have been passed.
pub record Counted (parents : List ℕ) (h i p k : ℕ) : Type 0 where
  pub on : OnLine parents h i p
  pub counted : line_depth parents h ≡ k + line_depth parents i
  pub fits : k + i ≤ h

-- The loop that looks for the start row.
pub record Looking (parents : List ℕ) (packets : List ℕ) (h i p : ℕ) : Type 0 where
  pub on : OnLine parents h i p
  pub same : line_start packets parents i ≡ line_start packets parents h

-- The loop that writes the trace from its end: the entries from k on are written.
pub record Tracing (parents : List ℕ) (packets old now : List ℕ) (last h i p k : ℕ) : Type 0 where
  pub on : OnLine parents h i p
  pub place : k ≡ line_depth parents i
  pub room : k < length old
  pub long : length now ≡ length old
  pub tail : List ℕ
  pub whole : line_path packets parents i ++ tail ≡ line_path packets parents h ++ (last ∷ [])
  pub holds : now ≡ take k old ++ (tail ++ drop (line_depth parents h + 1) old)

module _ {parents : List ℕ} {n : ℕ} (R : Rooted parents n) where
  pub depth_first : (i : ℕ) → get_or parents i 0 ≡ i → line_depth parents i ≡ 0
  unfolding line_depth
  depth_first i e = rise_first _ _ R i e

  pub depth_below : (i : ℕ) → i < n → get_or parents i 0 < i → line_depth parents i ≡ suc (line_depth parents (get_or parents i 0))
  unfolding line_depth
  depth_below i h l = rise_below _ _ R i h l

  -- no row has more rows above it than there are before it
  pub depth_within : (i : ℕ) → i < n → line_depth parents i ≤ i
  depth_within = induction _ step
    where
      step : (i : ℕ) → ((j : ℕ) → j < i → j < n → line_depth parents j ≤ j) → i < n → line_depth parents i ≤ i
      step i ih h = go (eq-or-lt_of_le (R.earlier i h))
        where
          go : (get_or parents i 0 ≡ i) ⊎ (get_or parents i 0 < i) → line_depth parents i ≤ i
          go (inl e) = omega (arith, depth_first i e)
          go (inr l) = omega (arith, depth_below i h l, ih (get_or parents i 0) l (omega arith))

  module _ (packets : List ℕ) where
    pub path_first : (i : ℕ) → get_or parents i 0 ≡ i → line_path packets parents i ≡ []
    unfolding line_path
    path_first i e = rise_first _ _ R i e

    pub path_below : (i : ℕ) → i < n → get_or parents i 0 < i → line_path packets parents i ≡ line_path packets parents (get_or parents i 0) ++ (get_or packets i 0 ∷ [])
    unfolding line_path
    path_below i h l = rise_below _ _ R i h l

    pub start_first : (i : ℕ) → get_or parents i 0 ≡ i → line_start packets parents i ≡ get_or packets i 0
    unfolding line_start
    start_first i e = rise_first _ _ R i e

    pub start_below : (i : ℕ) → i < n → get_or parents i 0 < i → line_start packets parents i ≡ line_start packets parents (get_or parents i 0)
    unfolding line_start
    start_below i h l = rise_below _ _ R i h l

    -- the path has as many packets as the row has rows above it
    pub length_path : (i : ℕ) → i < n → length (line_path packets parents i) ≡ line_depth parents i
    length_path = induction _ step
      where
        step : (i : ℕ) → ((j : ℕ) → j < i → j < n → length (line_path packets parents j) ≡ line_depth parents j) → i < n → length (line_path packets parents i) ≡ line_depth parents i
        step i ih h = go (eq-or-lt_of_le (R.earlier i h))
          where
            go : (get_or parents i 0 ≡ i) ⊎ (get_or parents i 0 < i) → length (line_path packets parents i) ≡ line_depth parents i
            go (inl e) = ap length (path_first i e) ∙ sym (depth_first i e)
            go (inr l) =
                ap length (path_below i h l) ∙ length_snoc (line_path packets parents (get_or parents i 0)) (get_or packets i 0)
                ∙ ap suc (ih (get_or parents i 0) l (omega arith)) ∙ sym (depth_below i h l)

  module _ {h i p : ℕ} (h<n : h < n) (on : OnLine parents h i p) where
    pub rises : (p ≡ i → ⊥) → p < i
    rises ne = go (eq-or-lt_of_le (R.earlier i (omega (arith, on.inside))))
      where
        go : (get_or parents i 0 ≡ i) ⊎ (get_or parents i 0 < i) → p < i
        go (inl e) = absurd (ne (on.parent ∙ e))
        go (inr l) = omega (arith, on.parent)

    pub on_line : (p ≡ i → ⊥) → (q : ℕ) → q ≡ get_or parents p 0 → OnLine parents h p q
    on_line ne q e = record { inside = omega (arith, on.inside, rises ne); parent = e }

    pub at_start : p ≡ i → get_or parents i 0 ≡ i
    at_start e = sym on.parent ∙ e

    pub deeper : (p ≡ i → ⊥) → line_depth parents i ≡ suc (line_depth parents p)
    deeper ne = depth_below i (omega (arith, on.inside)) (subst (λ j. j < i) on.parent (rises ne)) ∙ ap (λ j. suc (line_depth parents j)) (sym on.parent)

    pub path_on : (packets : List ℕ) → (p ≡ i → ⊥) → line_path packets parents i ≡ line_path packets parents p ++ (get_or packets i 0 ∷ [])
    path_on packets ne =
        path_below packets i (omega (arith, on.inside)) (subst (λ j. j < i) on.parent (rises ne))
        ∙ ap (λ j. line_path packets parents j ++ (get_or packets i 0 ∷ [])) (sym on.parent)

    pub start_on : (packets : List ℕ) → (p ≡ i → ⊥) → line_start packets parents p ≡ line_start packets parents i
    start_on packets ne = ap (line_start packets parents) on.parent ∙ sym (start_below packets i (omega (arith, on.inside)) (subst (λ j. j < i) on.parent (rises ne)))

  pub counted_none : (h p : ℕ) → p ≡ get_or parents h 0 → Counted parents h h p 0
  counted_none h p e = record { on = record { inside = omega arith; parent = e }; counted = omega arith; fits = omega arith }

  module _ {h i p k : ℕ} (h<n : h < n) (C : Counted parents h i p k) where
    pub counted_more : (p ≡ i → ⊥) → (q : ℕ) → q ≡ get_or parents p 0 → Counted parents h p q (k + 1)
    counted_more ne q e =
        record {
          on = on_line h<n C.on ne q e;
          counted = omega (arith, C.counted, deeper h<n C.on ne);
          fits = omega (arith, C.fits, rises h<n C.on ne);
        }

    pub counted_all : p ≡ i → k ≡ line_depth parents h
    counted_all e = omega (arith, C.counted, depth_first i (at_start h<n C.on e))

  pub looking_none : (packets : List ℕ) (h p : ℕ) → p ≡ get_or parents h 0 → Looking parents packets h h p
  looking_none packets h p e = record { on = record { inside = omega arith; parent = e }; same = refl }

  module _ {packets : List ℕ} {h i p : ℕ} (h<n : h < n) (C : Looking parents packets h i p) where
    pub looking_more : (p ≡ i → ⊥) → (q : ℕ) → q ≡ get_or parents p 0 → Looking parents packets h p q
    looking_more ne q e = record { on = on_line h<n C.on ne q e; same = start_on h<n C.on packets ne ∙ C.same }

    pub looking_all : p ≡ i → get_or packets i 0 ≡ line_start packets parents h
    looking_all e = sym (start_first packets i (at_start h<n C.on e)) ∙ C.same

  pub tracing_none : (packets old : List ℕ) (last h p k : ℕ) → k ≡ line_depth parents h → k < length old → p ≡ get_or parents h 0 → Tracing parents packets old (set old k last) last h h p k
  tracing_none packets old last h p k d l e =
      record {
        on = record { inside = omega arith; parent = e };
        place = d;
        room = l;
        long = length-set old k last;
        tail = last ∷ [];
        whole = refl;
        holds = let next : suc k ≡ line_depth parents h + 1 = omega arith in set_split old k last l ∙ ap (λ m. take k old ++ (last ∷ drop m old)) next;
      }

  module _ {packets old now : List ℕ} {last h i p k : ℕ} (h<n : h < n) (T : Tracing parents packets old now last h i p k) where
    pub tracing_place : (p ≡ i → ⊥) → 0 < k
    tracing_place ne = omega (arith, T.place, deeper h<n T.on ne)

    pub tracing_more : (p ≡ i → ⊥) → (q : ℕ) → q ≡ get_or parents p 0 → (j : ℕ) → k ≡ suc j → Tracing parents packets old (set now j (get_or packets i 0)) last h p q j
    tracing_more ne q e j s =
        record {
          on = on_line h<n T.on ne q e;
          place = omega (arith, T.place, deeper h<n T.on ne);
          room = omega (arith, T.room);
          long = length-set now j _ ∙ T.long;
          tail = get_or packets i 0 ∷ T.tail;
          whole = sym (append_snoc (line_path packets parents p) (get_or packets i 0) T.tail) ∙ ap (λ w. w ++ T.tail) (sym (path_on h<n T.on packets ne)) ∙ T.whole;
          holds =
              ap (λ l. set l j (get_or packets i 0))
              (T.holds ∙ ap (λ m. take m old ++ (T.tail ++ drop (line_depth parents h + 1) old)) s
              ∙ ap (λ l. l ++ (T.tail ++ drop (line_depth parents h + 1) old)) (take-suc old j 0 (omega (arith, T.room)))
              ∙ append_snoc (take j old) (get_or old j 0) (T.tail ++ drop (line_depth parents h + 1) old))
              ∙ set_at (take j old) (get_or old j 0) (T.tail ++ drop (line_depth parents h + 1) old) (get_or packets i 0) j (length-take-le j old (omega (arith, T.room)));
        }

    pub tracing_all : p ≡ i → now ≡ written (line_path packets parents h ++ (last ∷ [])) old
    unfolding written
    tracing_all e =
        let top : get_or parents i 0 ≡ i = at_start h<n T.on e in
        let all : T.tail ≡ line_path packets parents h ++ (last ∷ []) = ap (λ w. w ++ T.tail) (sym (path_first packets i top)) ∙ T.whole in
        let none : k ≡ 0 = T.place ∙ depth_first i top in
        let long : line_depth parents h + 1 ≡ length (line_path packets parents h ++ (last ∷ [])) = omega (arith, length_snoc (line_path packets parents h) last, length_path packets h h<n) in
        T.holds ∙ ap (λ m. take m old ++ (T.tail ++ drop (line_depth parents h + 1) old)) none
        ∙ ap₂ (λ w m. w ++ drop m old) all long

  -- the last packet is written before the loop begins
  pub tracing_begin : (packets old : List ℕ) (last h p k : ℕ) → k ≡ line_depth parents h → k < length old → p ≡ get_or parents h 0
      → Tracing parents packets (set old k last) (set old k last) last h h p k
  tracing_begin packets old last h p k d l e =
      subst (λ now. Tracing parents packets (set old k last) now last h h p k) (set-set old k last last)
      (tracing_none packets (set old k last) last h p k d (lt-length-set old k last l) e)

  pub tracing_end : (packets old now : List ℕ) (last h i p j k : ℕ) → h < n → Tracing parents packets (set old j last) now last h i p k → j ≡ line_depth parents h → p ≡ i
      → now ≡ written (line_path packets parents h ++ (last ∷ [])) old
  unfolding written
  tracing_end packets old now last h i p j k h<n T d e =
      tracing_all h<n T e
      ∙ ap (λ l. (line_path packets parents h ++ (last ∷ [])) ++ l)
      (drop-set-lt (length (line_path packets parents h ++ (last ∷ []))) old j last (omega (arith, length_snoc (line_path packets parents h) last, length_path packets h h<n)))
