-- A map of states that respects what the row order reads carries runs and answers over, row for row.
use mathlib.Core.Path.{◌≡◌, refl, sym, ◌∙◌, subst, ap, ap₂}
use mathlib.Core.Bool.{Bool, true, false, ◌&&◌, ◌||◌}
use mathlib.Core.List.{List, [], ◌∷◌, ◌++◌, map, map-append}
use mathlib.Core.Logic.{◌⊎◌, inl, inr}
use Prim.Native.Nat.{ℕ, zero, suc, ◌≤◌, ◌<◌, suc-le-suc, zero-le}
use native.Mathlib.Omega.{arith}
use lib.Dec.{eqb, ltb}
use lib.ListN.{length, get_or, take, length-map, get_or-map}
use Rattle.system.specs.System.{System, Lawful, Row, next_row, tells}
use Rattle.system.specs.RowOrder.{Entry, Run, Turn, finished, telling, handling, start_entry, entry_at, starts, same_row, listed, append, append_next, current, turn, handle, run_from, run, climbing, climb, depth, path, entering, run_answer, RunAnswer, full, equal, different, depth_before, depth_at_full, answer_with, held}
use Rattle.system.proofs.Basics.{clash, lt_or_le}
use Rattle.system.proofs.Listing.{Listing, grown, weaken, append_kept, append_new}
use Rattle.system.proofs.Runs.{Invariant, invariant, Turned, at_end, at_telling, at_row, turned, turn_end, turn_telling, turn_row, Stopped, going_or_stopped, row_turn, run_handle, run_stay}
use Rattle.system.proofs.Answers.{depth_earlier, depth_here}

take_map : {A B : Type 0} (f : A → B) (n : ℕ) (xs : List A) → take n (map f xs) ≡ map f (take n xs)
take_map f zero xs = refl
take_map f (suc n) [] = refl
take_map f (suc n) (x ∷ xs) = ap (λ ys. f x ∷ ys) (take_map f n xs)

module _ (S S' : System) (f : S.State → S'.State) where
  -- The map respects equality, start, next, dead and telling, on valid states and packets below N.
  pub record Carries : Type 0 where
    pub packets : S'.packets ≡ S.packets
    pub same : (s t : S.State) → S.valid s ≡ true → S.valid t ≡ true → S'.same (f s) (f t) ≡ S.same s t
    pub start : S'.start ≡ f S.start
    pub next : (β : ℕ) (s : S.State) (γ : ℕ) → β < S.packets → γ < S.packets → S.valid s ≡ true → S'.next β (f s) γ ≡ f (S.next β s γ)
    pub dead : (s : S.State) → S.valid s ≡ true → S'.dead (f s) ≡ S.dead s
    pub telling : (β : ℕ) (s : S.State) (γ : ℕ) → β < S.packets → γ < S.packets → S.valid s ≡ true → S'.telling β (f s) γ ≡ S.telling β s γ

  -- between lawful systems, a map that keeps valid states apart respects equality
  pub injective_same : Lawful S → Lawful S' → ((s t : S.State) → S.valid s ≡ true → S.valid t ≡ true → f s ≡ f t → s ≡ t)
      → (s t : S.State) → S.valid s ≡ true → S.valid t ≡ true → S'.same (f s) (f t) ≡ S.same s t
  injective_same L L' inj s t v w = go (S.same s t) (S'.same (f s) (f t)) refl refl
    where
      go : (a b : Bool) → S.same s t ≡ a → S'.same (f s) (f t) ≡ b → b ≡ a
      go true b p q = sym q ∙ subst (λ u. S'.same (f s) (f u) ≡ true) (L.same_eq s t p) (L'.same_refl (f s))
      go false true p q = clash (subst (λ u. S.same s u ≡ true) (inj s t v w (L'.same_eq (f s) (f t) q)) (L.same_refl s)) p
      go false false p q = refl

  abbrev pub map_row : Row S → Row S'
  map_row r = record { packet = r.packet; state = f r.state }

  abbrev pub map_entry : Entry S → Entry S'
  map_entry e = record { row = map_row e.row; parent = e.parent }

  abbrev pub map_run : Run S → Run S'
  map_run x = record { rows = map map_entry x.rows; handled = x.handled }

  module _ (C : Carries) where
    start_map : (α : ℕ) → start_entry S' α ≡ map_entry (start_entry S α)
    start_map α = λ i. record { row = record { packet = α; state = C.start i }; parent = α }

    starts_map : (n : ℕ) → starts S' n ≡ map map_entry (starts S n)
    unfolding starts
    starts_map zero = refl
    starts_map (suc n) = ap₂ (λ es e. es ++ (e ∷ [])) (starts_map n) (start_map n) ∙ sym (map-append map_entry (starts S n) (start_entry S n ∷ []))

    at_map : (es : List (Entry S)) (i : ℕ) → entry_at S' (map map_entry es) i ≡ map_entry (entry_at S es i)
    at_map es i = ap (get_or (map map_entry es) i) (start_map 0) ∙ get_or-map map_entry es i (start_entry S 0)

    -- what is read off a line of parents
    module _ {A : Type 0} (first : Entry S → A) (below : Entry S → A → A) (first' : Entry S' → A) (below' : Entry S' → A → A)
        (sameFirst : (e : Entry S) → first' (map_entry e) ≡ first e) (sameBelow : (e : Entry S) (a : A) → below' (map_entry e) a ≡ below e a) where
      climbing_map : (n : ℕ) (es : List (Entry S)) (i : ℕ) → climbing S' first' below' n (map map_entry es) i ≡ climbing S first below n es i
      unfolding climbing
      climbing_map zero es i = ap first' (at_map es i) ∙ sameFirst (entry_at S es i)
      climbing_map (suc n) es i =
          ap (λ e. elim (eqb e.parent i) as (λ b. A) [ true ↦ first' e | false ↦ below' e (climbing S' first' below' n (map map_entry es) e.parent) ]) (at_map es i)
          ∙ go (entry_at S es i) (eqb (entry_at S es i).parent i) (climbing_map n es (entry_at S es i).parent)
        where
          go : (e : Entry S) (b : Bool) {x y : A} → x ≡ y → ◌≡◌ {A = A} (elim b as (λ b. A) [ true ↦ first' (map_entry e) | false ↦ below' (map_entry e) x ]) (elim b as (λ b. A) [ true ↦ first e | false ↦ below e y ])
          go e true q = sameFirst e
          go e false {x} q = sameBelow e x ∙ ap (below e) q

      climb_map : (es : List (Entry S)) (i : ℕ) → climb S' first' below' (map map_entry es) i ≡ climb S first below es i
      unfolding climb
      climb_map es i = climbing_map i es i

    pub depth_map : (es : List (Entry S)) (i : ℕ) → depth S' (map map_entry es) i ≡ depth S es i
    unfolding depth
    depth_map = climb_map _ _ _ _ (λ e. refl) (λ e a. refl)

    pub path_map : (es : List (Entry S)) (i : ℕ) → path S' (map map_entry es) i ≡ path S es i
    unfolding path
    path_map = climb_map _ _ _ _ (λ e. refl) (λ e a. refl)

    pub entering_map : (es : List (Entry S)) (i : ℕ) → entering S' (map map_entry es) i ≡ entering S es i
    unfolding entering
    entering_map = climb_map _ _ _ _ (λ e. refl) (λ e a. refl)

    -- "listed already"
    listed_map : (es : List (Entry S)) → ((i : ℕ) → i < length es → S.valid (entry_at S es i).row.state ≡ true) → (r : Row S) → S.valid r.state ≡ true
        → listed S' (map map_entry es) (map_row r) ≡ listed S es r
    unfolding listed same_row
    listed_map [] v r w = refl
    listed_map (e ∷ es) v r w =
        ap₂ (λ a b. eqb e.row.packet r.packet && a || b) (C.same e.row.state r.state (v 0 (suc-le-suc zero-le)) w) (listed_map es (λ i h. v (suc i) (suc-le-suc h)) r w)

    module _ (L : Lawful S) where
      next_map : (r : Row S) (γ : ℕ) → r.packet < S.packets → γ < S.packets → S.valid r.state ≡ true → next_row S' (map_row r) γ ≡ map_row (next_row S r γ)
      next_map r γ h l v = λ i. record { packet = γ; state = C.next r.packet r.state γ h l v i }

      append_map : (p : ℕ) (es : List (Entry S)) → ((i : ℕ) → i < length es → S.valid (entry_at S es i).row.state ≡ true) → (r : Row S) → S.valid r.state ≡ true
          → append S' p (map map_entry es) (map_row r) ≡ map map_entry (append S p es r)
      append_map p es v r w = go (S.dead r.state || listed S es r) refl
        where
          same : (S'.dead (f r.state) || listed S' (map map_entry es) (map_row r)) ≡ (S.dead r.state || listed S es r)
          same = ap₂ ◌||◌ (C.dead r.state w) (listed_map es v r w)

          go : (b : Bool) → (S.dead r.state || listed S es r) ≡ b → append S' p (map map_entry es) (map_row r) ≡ map map_entry (append S p es r)
          go true e = append_kept S' p (map map_entry es) (map_row r) (same ∙ e) ∙ ap (map map_entry) (sym (append_kept S p es r e))
          go false e =
              append_new S' p (map map_entry es) (map_row r) (same ∙ e)
              ∙ sym (map-append map_entry es (record { row = r; parent = p } ∷ []))
              ∙ ap (map map_entry) (sym (append_new S p es r e))

      append_next_map : {es : List (Entry S)} {p : ℕ} → Listing S es (suc p) → p < length es → (n : ℕ) → n ≤ S.packets
          → append_next S' n p (map_row (entry_at S es p).row) (map map_entry es) ≡ map map_entry (append_next S n p (entry_at S es p).row es)
      unfolding append_next
      append_next_map I h zero l = refl
      append_next_map {es} {p} I h (suc n) l =
          ap₂ (append S' p) (append_next_map I h n (omega arith)) (next_map (entry_at S es p).row n (I.small p h) l (I.valid p h))
          ∙ append_map p (append_next S n p (entry_at S es p).row es) (grown S L I h n (omega arith)).listing.valid (next_row S (entry_at S es p).row n)
          (L.next_valid (entry_at S es p).row.packet (entry_at S es p).row.state n (I.small p h) l (I.valid p h))

      module _ {x : Run S} (I : Invariant S x) where
        tells_map : x.handled < length x.rows → (γ : ℕ) → γ < S.packets → tells S' (current S' (map_run x)) γ ≡ tells S (current S x) γ
        tells_map h γ l =
            ap (λ e. tells S' e.row γ) (at_map x.rows x.handled)
            ∙ C.telling (current S x).packet (current S x).state γ (I.listing.small x.handled h) l (I.listing.valid x.handled h)

        turn_map : turn S' (map_run x) ≡ turn S x
        turn_map = go (turned S x)
          where
            go : {t : Turn} → Turned S x t → turn S' (map_run x) ≡ t
            go (at_end h) = turn_end S' (map_run x) (omega (arith, length-map x.rows map_entry))
            go (at_telling {γ = γ} h l) = turn_telling S' (map_run x) γ (omega (arith, length-map x.rows map_entry)) (record { below = omega (arith, C.packets, l.below); passes = tells_map h γ l.below ∙ l.passes; first = λ j k. tells_map h j (omega (arith, l.below)) ∙ l.first j k })
            go (at_row h q) = turn_row S' (map_run x) (omega (arith, length-map x.rows map_entry)) (λ γ l. tells_map h γ (omega (arith, C.packets)) ∙ q γ (omega (arith, C.packets)))

        handle_map : turn S x ≡ handling → handle S' (map_run x) ≡ map_run (handle S x)
        unfolding handle
        handle_map e =
            ap {B = Run S'} (λ es. record { rows = es; handled = suc x.handled })
            (ap₂ (λ n z. append_next S' n x.handled z.row (map map_entry x.rows)) C.packets (at_map x.rows x.handled)
            ∙ append_next_map (weaken S (omega arith) I.listing) (row_turn S x e).0 S.packets (omega arith))

        verdict_map : run_answer S' (map_run x) ≡ run_answer S x
        unfolding run_answer
        verdict_map = ap (told S' (map_run x)) turn_map ∙ go (turn S x)
          where
            told : (R : System) (y : Run R) → Turn → RunAnswer
            told R y t =
                elim t [
                  | finished ↦ equal (length y.rows)
                  | telling γ ↦ different y.handled (entering R y.rows y.handled) (path R y.rows y.handled ++ (γ ∷ []))
                  | handling ↦ full 0
                ]

            go : (t : Turn) → told S' (map_run x) t ≡ told S x t
            go finished = ap equal (length-map x.rows map_entry)
            go (telling γ) = ap₂ (λ α w. different x.handled α (w ++ (γ ∷ []))) (entering_map x.rows x.handled) (path_map x.rows x.handled)
            go handling = refl

      -- the same listing, mapped: rows, parents and how many are handled
      pub run_map : (k : ℕ) → run S' k ≡ map_run (run S k)
      unfolding run run_from
      run_map zero = ap {B = Run S'} (λ es. record { rows = es; handled = 0 }) (ap (starts S') C.packets ∙ starts_map S.packets)
      run_map (suc k) = go (going_or_stopped S (run S k)) (run_map k)
        where
          I : Invariant S (run S k)
          I = invariant S L k

          go : (turn S (run S k) ≡ handling) ⊎ Stopped S (run S k) → run S' k ≡ map_run (run S k) → run S' (suc k) ≡ map_run (run S (suc k))
          go (inl e) ih = run_handle S' k (ap (turn S') ih ∙ turn_map I ∙ e) ∙ ap (handle S') ih ∙ handle_map I e ∙ ap map_run (sym (run_handle S k e))
          go (inr ne) ih = run_stay S' k (λ e. ne (sym (turn_map I) ∙ ap (turn S') (sym ih) ∙ e)) ∙ ih ∙ ap map_run (sym (run_stay S k ne))

      rows_map : (k : ℕ) → length (run S' k).rows ≡ length (run S k).rows
      rows_map k = ap (λ x. length x.rows) (run_map k) ∙ length-map (run S k).rows map_entry

      depth_before_map : (n k : ℕ) → depth_before S' n k ≡ depth_before S n k
      unfolding depth_before
      depth_before_map n zero = refl
      depth_before_map n (suc k) = go (lt_or_le n (length (run S k).rows)) (depth_before_map n k)
        where
          go : (n < length (run S k).rows) ⊎ (length (run S k).rows ≤ n) → depth_before S' n k ≡ depth_before S n k → depth_before S' n (suc k) ≡ depth_before S n (suc k)
          go (inl h) ih = depth_earlier S' n k (omega (arith, rows_map k)) ∙ ih ∙ sym (depth_earlier S n k h)
          go (inr h) ih =
              depth_here S' n k (omega (arith, rows_map k)) ∙ ap (λ x. depth S' x.rows x.handled) (run_map k) ∙ depth_map (run S k).rows (run S k).handled
              ∙ sym (depth_here S n k h)

      -- the same answer, and the same rows held, mapped
      pub answer_map : (n : ℕ) → answer_with S' n ≡ answer_with S n
      unfolding answer_with depth_at_full
      answer_map n =
          ap (λ x. elim (ltb n (length x.rows)) as (λ b. RunAnswer) [ true ↦ full (depth_at_full S' n) | false ↦ run_answer S' x ]) (run_map (suc n))
          ∙ ap₂ {A = ℕ} {B = RunAnswer} {C = RunAnswer} (λ m v. elim (ltb n m) as (λ b. RunAnswer) [ true ↦ full (depth_at_full S' n) | false ↦ v ]) (length-map (run S (suc n)).rows map_entry) (verdict_map (invariant S L (suc n)))
          ∙ ap (λ d. elim (ltb n (length (run S (suc n)).rows)) as (λ b. RunAnswer) [ true ↦ full d | false ↦ run_answer S (run S (suc n)) ]) (depth_before_map n (suc n))

      pub held_map : (n : ℕ) → held S' n ≡ map map_entry (held S n)
      unfolding held
      held_map n = ap (λ x. take n x.rows) (run_map (suc n)) ∙ take_map map_entry n (run S (suc n)).rows
