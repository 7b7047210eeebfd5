-- The answer with n rows lent: full exactly when the row order needs more, and how n rows run out; else the verdict of the stopped run, the same with any
-- more rows lent.
use mathlib.Core.Path.{◌≡◌, refl, sym, ◌∙◌, subst, ap}
use mathlib.Core.Bool.{Bool, true, false, ◌||◌}
use mathlib.Core.List.{List, [], ◌∷◌, ◌++◌}
use mathlib.Core.Logic.{◌⊎◌, inl, inr, ⊎_elim, ◌↔◌}
use Prim.Native.Nat.{ℕ, zero, suc, ◌≤◌, ◌<◌}
use native.Mathlib.Decide.{le_ind}
use native.Mathlib.Omega.{arith}
use lib.ListN.{length, take}
use lib.Seq.{take_all, take-take, length-take-le}
use borrow.Author.Tests.{lt-ltb, le-ltb}
use Rattle.system.specs.System.{System, Row, next_row}
use Rattle.system.specs.RowOrder.{Entry, start_entry, Run, Turn, finished, telling, handling, starts, listed, append, append_next, current, turn, handle, run_from, run, NeedsMore, depth, path, entering, RunAnswer, full, equal, different, run_answer, depth_before, depth_at_full, answer_with, held}
use Rattle.system.proofs.Basics.{lt_or_le, prefix_chain, Prefix, prefix_refl, prefix_snoc, prefix_length, prefix_take}
use Rattle.system.proofs.Listing.{append_kept, append_new}
use Rattle.system.proofs.Runs.{finished≢handling, telling≢handling, Stopped, going_or_stopped, run_handle, run_stay, row_turn}

module _ (S : System) where
  -- lists only grow
  pub starts_longer : (n m : ℕ) → n ≤ m → Prefix (starts S n) (starts S m)
  unfolding starts
  starts_longer = prefix_chain (starts S) (λ n. prefix_snoc (starts S n) (start_entry S n))

  append_longer : (p : ℕ) (es : List (Entry S)) (r : Row S) → Prefix es (append S p es r)
  append_longer p es r = go (S.dead r.state || listed S es r) refl
    where
      go : (b : Bool) → (S.dead r.state || listed S es r) ≡ b → Prefix es (append S p es r)
      go true e = rw (append_kept S p es r e) (prefix_refl es)
      go false e = rw (append_new S p es r e) (prefix_snoc es _)

  pub append_next_longer : (p : ℕ) (r : Row S) (es : List (Entry S)) (n m : ℕ) → n ≤ m → Prefix (append_next S n p r es) (append_next S m p r es)
  unfolding append_next
  append_next_longer p r es = prefix_chain (λ n. append_next S n p r es) (λ n. append_longer p (append_next S n p r es) (next_row S r n))

  -- while it goes on, a run has handled as many rows as it was asked to
  pub run_handled : (k : ℕ) → turn S (run S k) ≡ handling → (run S k).handled ≡ k
  unfolding run run_from handle
  run_handled zero e = refl
  run_handled (suc k) e = go (going_or_stopped S (run S k)) (run_handled k)
    where
      go : (turn S (run S k) ≡ handling) ⊎ Stopped S (run S k) → (turn S (run S k) ≡ handling → (run S k).handled ≡ k) → (run S (suc k)).handled ≡ suc k
      go (inl g) ih = ap (λ x. x.handled) (run_handle S k g) ∙ ap suc (ih g)
      go (inr ne) ih = absurd (ne (ap (turn S) (sym (run_stay S k ne)) ∙ e))

  -- a stopped run stays as it is
  pub run_kept : (j k : ℕ) → j ≤ k → Stopped S (run S j) → run S k ≡ run S j
  run_kept j k h ne = le_ind (λ m. run S m ≡ run S j) refl step k h
    where
      step : (m : ℕ) → j ≤ m → run S m ≡ run S j → run S (suc m) ≡ run S j
      step m l e = run_stay S m (subst (λ x. Stopped S x) (sym e) ne) ∙ e

  -- the rows of a run are the first rows of any longer one
  pub run_longer : (j k : ℕ) → j ≤ k → Prefix (run S j).rows (run S k).rows
  unfolding handle append_next
  run_longer = prefix_chain (λ k. (run S k).rows) step
    where
      step : (k : ℕ) → Prefix (run S k).rows (run S (suc k)).rows
      step k = go (going_or_stopped S (run S k))
        where
          go : (turn S (run S k) ≡ handling) ⊎ Stopped S (run S k) → Prefix (run S k).rows (run S (suc k)).rows
          go (inl e) = subst (λ x. Prefix (run S k).rows x.rows) (sym (run_handle S k e)) (append_next_longer (run S k).handled (current S (run S k)) (run S k).rows 0 S.packets (omega arith))
          go (inr ne) = subst (λ x. Prefix (run S k).rows x.rows) (sym (run_stay S k ne)) (prefix_refl (run S k).rows)

  -- with at most n rows after n + 1, the run has stopped
  pub short_stops : (n : ℕ) → length (run S (suc n)).rows ≤ n → Stopped S (run S (suc n))
  short_stops n h e = omega (arith, run_handled (suc n) e, (row_turn S (run S (suc n)) e).0)

  -- either the run after n + 1 has more than n rows, or any run that is stopped or longer is that run
  run_short : (n k : ℕ) → length (run S (suc n)).rows ≤ n → (suc n ≤ k) ⊎ Stopped S (run S k) → run S k ≡ run S (suc n)
  run_short n k h c = go (lt_or_le k (suc n)) c
    where
      go : (k < suc n) ⊎ (suc n ≤ k) → (suc n ≤ k) ⊎ Stopped S (run S k) → run S k ≡ run S (suc n)
      go (inr l) d = run_kept (suc n) k l (short_stops n h)
      go (inl l) (inl d) = absurd (omega arith)
      go (inl l) (inr ne) = sym (run_kept k (suc n) (omega arith) ne)

  -- full: some run has more than n rows, and then the run after n + 1 has
  pub needs_more : (n k : ℕ) → n < length (run S k).rows → n < length (run S (suc n)).rows
  needs_more n k h = go (lt_or_le n (length (run S (suc n)).rows)) (lt_or_le k (suc n))
    where
      go : (n < length (run S (suc n)).rows) ⊎ (length (run S (suc n)).rows ≤ n) → (k < suc n) ⊎ (suc n ≤ k) → n < length (run S (suc n)).rows
      go (inl l) c = l
      go (inr l) (inl c) = omega (arith, prefix_length (run_longer k (suc n) (omega arith)))
      go (inr l) (inr c) = subst (λ x. n < length x.rows) (run_short n k l (inl c)) h

  answer_verdict : (n : ℕ) → length (run S (suc n)).rows ≤ n → answer_with S n ≡ run_answer S (run S (suc n))
  unfolding answer_with
  answer_verdict n h = rw (le-ltb n (length (run S (suc n)).rows) h, answer_with)

  answer_more : (n : ℕ) → n < length (run S (suc n)).rows → answer_with S n ≡ full (depth_at_full S n)
  unfolding answer_with
  answer_more n h = rw (lt-ltb n (length (run S (suc n)).rows) h, answer_with)

  verdict_end : (x : Run S) → turn S x ≡ finished → run_answer S x ≡ equal (length x.rows)
  unfolding run_answer
  verdict_end x e = rw (e, run_answer)

  verdict_telling : (x : Run S) (γ : ℕ) → turn S x ≡ telling γ → run_answer S x ≡ different x.handled (entering S x.rows x.handled) (path S x.rows x.handled ++ (γ ∷ []))
  unfolding run_answer
  verdict_telling x γ e = rw (e, run_answer)

  -- What each answer says of the run after n + 1.
  pub data Answered (n : ℕ) : RunAnswer → Type 0 where
    is_full : {d : ℕ} → n < length (run S (suc n)).rows → depth_at_full S n ≡ d → Answered n (full d)
    is_equal : {c : ℕ} → length (run S (suc n)).rows ≤ n → turn S (run S (suc n)) ≡ finished → length (run S (suc n)).rows ≡ c → Answered n (equal c)
    is_different : {i α : ℕ} {t : List ℕ} (γ : ℕ) → length (run S (suc n)).rows ≤ n → turn S (run S (suc n)) ≡ telling γ
        → (run S (suc n)).handled ≡ i → entering S (run S (suc n)).rows i ≡ α → path S (run S (suc n)).rows i ++ (γ ∷ []) ≡ t → Answered n (different i α t)

  pub answered : (n : ℕ) → Answered n (answer_with S n)
  answered n = go (lt_or_le n (length (run S (suc n)).rows))
    where
      short : length (run S (suc n)).rows ≤ n → (t : Turn) → turn S (run S (suc n)) ≡ t → Answered n (answer_with S n)
      short h finished e = subst (Answered n) (sym (answer_verdict n h ∙ verdict_end (run S (suc n)) e)) (is_equal h e refl)
      short h (telling γ) e = subst (Answered n) (sym (answer_verdict n h ∙ verdict_telling (run S (suc n)) γ e)) (is_different γ h e refl refl refl)
      short h handling e = absurd (short_stops n h e)

      go : (n < length (run S (suc n)).rows) ⊎ (length (run S (suc n)).rows ≤ n) → Answered n (answer_with S n)
      go (inl h) = subst (Answered n) (sym (answer_more n h)) (is_full h refl)
      go (inr h) = short h (turn S (run S (suc n))) refl

  -- full exactly when the row order needs more than n rows
  pub full_iff : (n : ℕ) → (answer_with S n ≡ full (depth_at_full S n)) ↔ NeedsMore S n
  full_iff n = (λ e. more (subst (Answered n) e (answered n)), λ p. answer_more n (needs_more n p.after p.more))
    where
      more : {d : ℕ} → Answered n (full d) → NeedsMore S n
      more (is_full h q) = record { after = suc n; more = h }

  -- and it carries the depth at which they ran out, no other
  pub full_depth : (n d : ℕ) → answer_with S n ≡ full d → d ≡ depth_at_full S n
  full_depth n d e = go (subst (Answered n) e (answered n))
    where
      go : Answered n (full d) → d ≡ depth_at_full S n
      go (is_full h q) = sym q

  not_full : (n : ℕ) → (NeedsMore S n → ⊥) → length (run S (suc n)).rows ≤ n
  not_full n ne = ⊎_elim (λ h. absurd (ne (record { after = suc n; more = h }))) (λ h. h) (lt_or_le n (length (run S (suc n)).rows))

  -- a run that has stopped, with room for its rows, is the run that the answer reads
  settled : (n k : ℕ) → Stopped S (run S k) → length (run S k).rows ≤ n → run S (suc n) ≡ run S k
  settled n k ne h = go (lt_or_le k (suc n))
    where
      go : (k < suc n) ⊎ (suc n ≤ k) → run S (suc n) ≡ run S k
      go (inl l) = run_kept k (suc n) (omega arith) ne
      go (inr l) = sym (run_short n k (omega (arith, prefix_length (run_longer (suc n) k l))) (inl l))

  pub answer_stopped : (n k : ℕ) → Stopped S (run S k) → length (run S k).rows ≤ n → answer_with S n ≡ run_answer S (run S k)
  answer_stopped n k ne h =
      answer_verdict n (subst (λ x. length x.rows ≤ n) (sym (settled n k ne h)) h) ∙ ap (run_answer S) (settled n k ne h)

  pub answer_finished : (n k : ℕ) → turn S (run S k) ≡ finished → length (run S k).rows ≤ n → answer_with S n ≡ equal (length (run S k).rows)
  answer_finished n k e h = answer_stopped n k (λ q. finished≢handling (sym e ∙ q)) h ∙ verdict_end (run S k) e

  pub answer_telling : (n k γ : ℕ) → turn S (run S k) ≡ telling γ → length (run S k).rows ≤ n
      → answer_with S n ≡ different (run S k).handled (entering S (run S k).rows (run S k).handled) (path S (run S k).rows (run S k).handled ++ (γ ∷ []))
  answer_telling n k γ e h = answer_stopped n k (λ q. telling≢handling (sym e ∙ q)) h ∙ verdict_telling (run S k) γ e

  -- more rows lent, the same answer
  pub answer_kept : (n m : ℕ) → n ≤ m → (NeedsMore S n → ⊥) → answer_with S m ≡ answer_with S n
  answer_kept n m l ne =
      answer_stopped m (suc n) (short_stops n (not_full n ne)) (omega (arith, not_full n ne)) ∙ sym (answer_verdict n (not_full n ne))

  -- the rows held are the first n of any run that has as many, or has come as far
  take_run : (n k : ℕ) → (n ≤ length (run S k).rows) ⊎ (suc n ≤ k) → take n (run S k).rows ≡ held S n
  unfolding held
  take_run n k c = go (lt_or_le k (suc n)) c
    where
      far : suc n ≤ k → (n < length (run S (suc n)).rows) ⊎ (length (run S (suc n)).rows ≤ n) → take n (run S k).rows ≡ held S n
      far l (inl h) = prefix_take (run_longer (suc n) k l) n (omega arith)
      far l (inr h) = ap (λ x. take n x.rows) (run_short n k h (inl l))

      go : (k < suc n) ⊎ (suc n ≤ k) → (n ≤ length (run S k).rows) ⊎ (suc n ≤ k) → take n (run S k).rows ≡ held S n
      go (inr l) d = far l (lt_or_le n (length (run S (suc n)).rows))
      go (inl l) (inl h) = sym (prefix_take (run_longer k (suc n) (omega arith)) n h)
      go (inl l) (inr h) = absurd (omega arith)

  pub held_first : (n k : ℕ) → n ≤ length (run S k).rows → take n (run S k).rows ≡ held S n
  held_first n k h = take_run n k (inl h)

  -- fewer rows lent hold the first of them
  pub held_prefix : (n m : ℕ) → n ≤ m → take n (held S m) ≡ held S n
  unfolding held
  held_prefix n m l = take-take n m (run S (suc m)).rows l ∙ take_run n (suc m) (inr (omega arith))

  pub held_full : (n : ℕ) → NeedsMore S n → length (held S n) ≡ n
  unfolding held
  held_full n p = length-take-le n (run S (suc n)).rows (omega (arith, needs_more n p.after p.more))

  -- rows enough: all rows of the stopped run are held
  pub held_stopped : (n k : ℕ) → Stopped S (run S k) → length (run S k).rows ≤ n → held S n ≡ (run S k).rows
  unfolding held
  held_stopped n k ne h = ap (λ x. take n x.rows) (settled n k ne h) ∙ take_all n (run S k).rows h

  -- ---- how n rows run out

  pub depth_earlier : (n k : ℕ) → n < length (run S k).rows → depth_before S n (suc k) ≡ depth_before S n k
  unfolding depth_before
  depth_earlier n k h = rw (lt-ltb n (length (run S k).rows) h, depth_before)

  pub depth_here : (n k : ℕ) → length (run S k).rows ≤ n → depth_before S n (suc k) ≡ depth S (run S k).rows (run S k).handled
  unfolding depth_before
  depth_here n k h = rw (le-ltb n (length (run S k).rows) h, depth_before)

  -- d in the words of document 02, A.3: the starting rows don't fit, and d is 0; or a row is being handled whose successors don't, and d is its depth
  pub data RanOut (n : ℕ) : ℕ → Type 0 where
    at_start : {d : ℕ} → n < length (run S 0).rows → 0 ≡ d → RanOut n d
    at_row : {d : ℕ} (k : ℕ) → length (run S k).rows ≤ n → turn S (run S k) ≡ handling → n < length (run S (suc k)).rows
        → depth S (run S k).rows (run S k).handled ≡ d → RanOut n d

  -- a run that gets longer handles a row
  longer_handles : (k : ℕ) → length (run S k).rows < length (run S (suc k)).rows → turn S (run S k) ≡ handling
  longer_handles k h = ⊎_elim (λ e. e) (λ ne. absurd (let same = ap (λ x. length x.rows) (run_stay S k ne) in omega (arith, same, h))) (going_or_stopped S (run S k))

  ran_out_by : (n k : ℕ) → n < length (run S k).rows → RanOut n (depth_before S n k)
  unfolding depth_before
  ran_out_by n zero h = at_start h refl
  ran_out_by n (suc k) h = go (lt_or_le n (length (run S k).rows)) (ran_out_by n k)
    where
      go : (n < length (run S k).rows) ⊎ (length (run S k).rows ≤ n) → (n < length (run S k).rows → RanOut n (depth_before S n k)) → RanOut n (depth_before S n (suc k))
      go (inl l) ih = subst (RanOut n) (sym (depth_earlier n k l)) (ih l)
      go (inr l) ih = at_row k l (longer_handles k (omega arith)) h (sym (depth_here n k l))

  pub ran_out : (n : ℕ) → NeedsMore S n → RanOut n (depth_at_full S n)
  unfolding depth_at_full
  ran_out n p = ran_out_by n (suc n) (needs_more n p.after p.more)

  -- nothing else is d: what ran out at one place ran out nowhere else
  depth_since : (n j k : ℕ) → j ≤ k → n < length (run S j).rows → depth_before S n k ≡ depth_before S n j
  depth_since n j k l h =
      le_ind (λ m. depth_before S n m ≡ depth_before S n j) refl (λ m g e. depth_earlier n m (omega (arith, h, prefix_length (run_longer j m g))) ∙ e) k l

  pub ran_out_is : (n : ℕ) {d : ℕ} → RanOut n d → depth_at_full S n ≡ d
  unfolding depth_at_full depth_before
  ran_out_is n (at_start h e) = depth_since n 0 (suc n) (omega arith) h ∙ e
  ran_out_is n (at_row k fits goes over e) =
      depth_since n (suc k) (suc n) (omega (arith, fits, run_handled k goes, (row_turn S (run S k) goes).0)) over ∙ depth_here n k fits ∙ e

  pub out_needs_more : (n : ℕ) {d : ℕ} → RanOut n d → NeedsMore S n
  out_needs_more n (at_start h e) = record { after = 0; more = h }
  out_needs_more n (at_row k fits goes over e) = record { after = suc k; more = over }

  pub answer_out : (n : ℕ) {d : ℕ} → RanOut n d → answer_with S n ≡ full d
  answer_out n {d} o = (full_iff n).1 (out_needs_more n o) ∙ ap full (ran_out_is n o)
