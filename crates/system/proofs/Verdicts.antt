-- What the answers say of a lawful system: equal means that nothing tells, different comes with a shortest telling word, full with a length up to which
-- nothing tells.
use mathlib.Core.Path.{◌≡◌, sym, ◌∙◌, subst, ap}
use mathlib.Core.List.{List, [], ◌∷◌, ◌++◌}
use mathlib.Core.Logic.{◌⊎◌, inl, inr}
use Prim.Native.Nat.{ℕ, suc, ◌<◌, ◌≤◌}
use native.Mathlib.Omega.{arith}
use lib.ListN.{length}
use Rattle.system.specs.System.{System, Lawful}
use Rattle.system.specs.InnerWords.{SilentBelow, Silent}
use Rattle.system.specs.RowOrder.{run, depth, path, entering, RunAnswer, full, equal, different, depth_at_full, answer_with, held, NeedsMore}
use Rattle.system.specs.InnerTables.{Closed, InRange, Listed}
use Rattle.system.proofs.Basics.{lt_or_le, length_snoc, prefix_first, prefix_length}
use Rattle.system.proofs.Climb.{Earlier, earlier_first, climb_kept}
use Rattle.system.proofs.Listing.{earlier}
use Rattle.system.proofs.Runs.{Invariant, invariant, telling_turn, row_turn}
use Rattle.system.proofs.Lines.{line_of, depth_kept, depth_ordered}
use Rattle.system.proofs.Tables.{closed_silent, finished_closed, listing_sound, silent_never}
use Rattle.system.proofs.Shortest.{Shortest, shortest, silent_below}
use Rattle.system.proofs.Answers.{Answered, is_full, is_equal, is_different, answered, full_iff, full_depth, RanOut, at_start, at_row, ran_out, run_handled, run_longer, held_full, short_stops, held_stopped}

module _ (S : System) where
  -- Equal: the rows held are all rows of the row order, a closed table of valid states; nothing tells.
  pub record IsEqual (n count : ℕ) : Type 0 where
    pub whole : length (held S n) ≡ count
    pub closed : Closed S (Listed S (held S n))
    pub sound : InRange S (Listed S (held S n))
    pub silent : Silent S

  -- Different at row i: the trace is that row's path and a last packet, and is a shortest that tells.
  pub record IsDifferent (n i α : ℕ) (trace : List ℕ) : Type 0 where
    pub inside : i < length (held S n)
    pub enters : entering S (held S n) i ≡ α
    pub last : ℕ
    pub goes : path S (held S n) i ++ (last ∷ []) ≡ trace
    pub long : length trace ≡ suc (depth S (held S n) i)
    pub shortest : Shortest S α (path S (held S n) i) last

  module _ (L : Lawful S) where
    pub equal_is : (n c : ℕ) → answer_with S n ≡ equal c → IsEqual n c
    equal_is n c e = go (subst (Answered S n) e (answered S n))
      where
        I : Invariant S (run S (suc n))
        I = invariant S L (suc n)

        go : Answered S n (equal c) → IsEqual n c
        go (is_equal h t q) =
            subst (λ es. length es ≡ c → Closed S (Listed S es) → InRange S (Listed S es) → IsEqual n c) (held_stopped S n (suc n) (short_stops S n h) h)
            (λ w cl so. record { whole = w; closed = cl; sound = so; silent = closed_silent S L cl })
            q (finished_closed S (run S (suc n)) I t) (listing_sound S I.listing)

    pub different_is : (n i α : ℕ) (trace : List ℕ) → answer_with S n ≡ different i α trace → IsDifferent n i α trace
    different_is n i α trace e = go (subst (Answered S n) e (answered S n))
      where
        I : Invariant S (run S (suc n))
        I = invariant S L (suc n)

        go : Answered S n (different i α trace) → IsDifferent n i α trace
        go (is_different γ h t q a w) =
            subst
            (λ es. i < length es → entering S es i ≡ α → path S es i ++ (γ ∷ []) ≡ trace → depth S es i ≡ length (path S es i) → Shortest S α (path S es i) γ → IsDifferent n i α trace)
            (held_stopped S n (suc n) (short_stops S n h) h)
            (λ m b c d s. record { inside = m; enters = b; last = γ; goes = c; long = ap length (sym c) ∙ length_snoc (path S (held S n) i) γ ∙ ap suc (sym d); shortest = s })
            inside a w
            (line_of S I.listing i inside).deep
            (subst (λ β. Shortest S β (path S (run S (suc n)).rows i) γ) a (subst (λ j. Shortest S (entering S (run S (suc n)).rows j) (path S (run S (suc n)).rows j) γ) q (shortest S L I γ t)))
          where
            inside : i < length (run S (suc n)).rows
            inside = subst (λ j. j < length (run S (suc n)).rows) q (telling_turn S (run S (suc n)) γ t).0

    -- where n rows run out, nothing tells after a word of fewer packets than the row being handled has rows above it
    pub out_silent : (n d : ℕ) → RanOut S n d → SilentBelow S d
    out_silent n d (at_start h e) = subst (SilentBelow S) e (record { silent = λ α a w v l γ g. absurd (omega arith) })
    out_silent n d (at_row k fits goes over e) = subst (SilentBelow S) e (silent_below S L (invariant S L k) (row_turn S (run S k) goes).0)

    -- the rows held have their parents before them, and lie as deep as when they were listed
    pub held_earlier : (n : ℕ) → Earlier S (held S n)
    unfolding held
    held_earlier n = earlier_first S (prefix_first n (run S (suc n)).rows) (earlier S (invariant S L (suc n)).listing)

    pub held_depth : (n k : ℕ) → NeedsMore S n → k ≤ n → length (run S k).rows ≤ n → (i : ℕ) → i < length (run S k).rows → depth S (held S n) i ≡ depth S (run S k).rows i
    unfolding depth held
    held_depth n k p l fits i h =
        sym (climb_kept S _ _ (held_earlier n) (prefix_first n (run S (suc n)).rows) i (omega (arith, held_full S n p)))
        ∙ depth_kept S (invariant S L k).listing (run_longer S k (suc n) (omega arith)) i h

    pub full_is : (n d : ℕ) → answer_with S n ≡ full d → SilentBelow S d
    full_is n d e =
        let same = full_depth S n d e in
        subst (SilentBelow S) (sym same) (out_silent n _ (ran_out S n ((full_iff S n).0 (e ∙ ap full same))))

    -- with more rows lent d is no less
    pub more_rows_deeper : (n m : ℕ) → n ≤ m → NeedsMore S m → depth_at_full S n ≤ depth_at_full S m
    more_rows_deeper n m l p = go (ran_out S n (record { after = p.after; more = omega (arith, p.more) })) (ran_out S m p)
      where
        longer : (j k : ℕ) → j ≤ k → length (run S j).rows ≤ length (run S k).rows
        longer j k h = prefix_length (run_longer S j k h)

        go : {d e : ℕ} → RanOut S n d → RanOut S m e → d ≤ e
        go (at_start h q) o = omega (arith, q)
        go (at_row k fits goes over q) (at_start h r) = absurd (omega (arith, longer 0 k (omega arith)))
        go {d} {e} (at_row k fits goes over q) (at_row j fits' goes' over' r) = later (lt_or_le j k)
          where
            later : (j < k) ⊎ (k ≤ j) → d ≤ e
            later (inl h) = absurd (omega (arith, longer (suc j) k h))
            later (inr h) =
                omega (
                  arith,
                  q,
                  r,
                  depth_kept S (invariant S L k).listing (run_longer S k j h) (run S k).handled (row_turn S (run S k) goes).0,
                  depth_ordered S (invariant S L j).listing (run S k).handled (run S j).handled (omega (arith, run_handled S k goes, run_handled S j goes')) (row_turn S (run S j) goes').0,
                )

    -- where nothing tells, the answer is full or equal
    pub silent_is : Silent S → (n : ℕ) → NeedsMore S n ⊎ (answer_with S n ≡ equal (length (held S n)))
    silent_is Q n = go (answered S n)
      where
        go : {a : RunAnswer} → Answered S n a → NeedsMore S n ⊎ (a ≡ equal (length (held S n)))
        go (is_full h q) = inl (record { after = suc n; more = h })
        go (is_equal h t q) = inr (ap equal (sym (ap length (held_stopped S n (suc n) (short_stops S n h) h) ∙ q)))
        go (is_different γ h t q a w) = absurd (silent_never S Q (run S (suc n)) (invariant S L (suc n)) γ t)
