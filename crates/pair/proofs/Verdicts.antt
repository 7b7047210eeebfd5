-- What the search's answers say of the two policies, in terms of Figure 1, and when each comes.
use Prim.Native.Nat.{ℕ, suc, pred, ◌<◌, ◌≤◌}
use mathlib.Core.Bool.{cond}
use mathlib.Core.List.{List, [], ◌∷◌, ◌++◌}
use mathlib.Core.Logic.{◌⊎◌, inl, inr, ⊎_elim, ◌↔◌}
use mathlib.Core.Path.{◌≡◌, refl, sym, ◌∙◌, ap, ap₂, subst}
use native.Mathlib.Omega.{arith}
use lib.ListN.{length, get_or}
use lib.Seq.{get_or-append_seam}
use borrow.Author.Tests.{lt-ltb, le-ltb}
use Rattle.policy.specs.Meaning.{SameShortTraces, SameTracesBelow, SameShortTracesBelow}
use Rattle.system.specs.System.{System, start_row}
use Rattle.system.specs.InnerWords.{leads_to}
use Rattle.system.specs.RowOrder.{RunAnswer, full as more_rows, equal as all_handled, different as telling_row, entry_at, NeedsMore, finished, telling, turn, current, run, entering, path, depth_at_full, answer_with, held}
use Rattle.packet.proofs.Tests.{lt_or_le}
use Rattle.system.proofs.Basics.{length_snoc}
use Rattle.system.proofs.Runs.{telling≢handling, invariant}
use Rattle.system.proofs.Lines.{Line, line_of}
use Rattle.system.proofs.Shortest.{Shortest}
use Rattle.system.proofs.Answers.{Answered, is_different, answered, full_iff, full_depth, RanOut, answer_out, short_stops, answer_finished, answer_telling, held_stopped}
use Rattle.system.proofs.Verdicts.{IsDifferent, equal_is, different_is, full_is, silent_is}
use Rattle.pair.specs.Sides.{Side, Pair, at, NumberedPolicy}
use Rattle.pair.specs.Pair.{SideTraces, pair_system}
use Rattle.pair.specs.Search.{SearchAnswer, equal, different, rows_full, trace_short, last_of, side_of, reported, search_answer, Distinguishes}
use Rattle.pair.proofs.Lawful.{EvaluablePair, lawful}
use Rattle.pair.proofs.Traces.{ends, Alone, telling_after, short_iff, silent_iff}

-- the last packet of a trace
pub last_of_snoc : (w : List ℕ) (γ : ℕ) → last_of (w ++ (γ ∷ [])) ≡ γ
unfolding last_of
last_of_snoc w γ = ap (λ n. get_or (w ++ (γ ∷ [])) (pred n) 0) (length_snoc w γ) ∙ get_or-append_seam w γ [] 0

module _ (sizes : List ℕ) (ps : Pair NumberedPolicy) where
  abbrev S : System
  S = pair_system sizes ps

  -- the policy that has the telling packet of row i
  side_at : ℕ → ℕ → List ℕ → Side
  side_at n i t = side_of sizes ps (entry_at S (held S n) i).row (last_of t)

  search_full : (n m d : ℕ) → answer_with S n ≡ more_rows d → search_answer sizes ps n m ≡ rows_full n d
  unfolding search_answer
  search_full n m d e = rw (e, search_answer)

  pub search_equal : (n m c : ℕ) → answer_with S n ≡ all_handled c → search_answer sizes ps n m ≡ equal c
  unfolding search_answer
  search_equal n m c e = rw (e, search_answer)

  search_reported : (n m i α : ℕ) (t : List ℕ) → answer_with S n ≡ telling_row i α t → search_answer sizes ps n m ≡ reported m (side_at n i t) α t
  unfolding search_answer side_at
  search_reported n m i α t e = rw (e, search_answer)

  pub search_different : (n m i α : ℕ) (t : List ℕ) → answer_with S n ≡ telling_row i α t → length t ≤ m
      → search_answer sizes ps n m ≡ different (side_of sizes ps (entry_at S (held S n) i).row (last_of t)) α t
  unfolding reported side_at
  search_different n m i α t e h = search_reported n m i α t e ∙ ap (λ b. cond b (trace_short (length t)) (different (side_at n i t) α t)) (le-ltb m (length t) h)

  pub search_short : (n m i α : ℕ) (t : List ℕ) → answer_with S n ≡ telling_row i α t → m < length t → search_answer sizes ps n m ≡ trace_short (length t)
  unfolding reported
  search_short n m i α t e h = search_reported n m i α t e ∙ ap (λ b. cond b (trace_short (length t)) (different (side_at n i t) α t)) (lt-ltb m (length t) h)

  -- n rows run out
  pub search_out : (n m : ℕ) {d : ℕ} → RanOut S n d → search_answer sizes ps n m ≡ rows_full n d
  search_out n m o = search_full n m _ (answer_out S n o)

  -- a run that has stopped, with room for its rows
  pub search_finished : (n m k : ℕ) → turn S (run S k) ≡ finished → length (run S k).rows ≤ n → search_answer sizes ps n m ≡ equal (length (run S k).rows)
  search_finished n m k e h = search_equal n m _ (answer_finished S n k e h)

  pub search_telling : (n m k γ : ℕ) → turn S (run S k) ≡ telling γ → length (run S k).rows ≤ n
      → search_answer sizes ps n m ≡ reported m (side_of sizes ps (current S (run S k)) γ) (entering S (run S k).rows (run S k).handled) (path S (run S k).rows (run S k).handled ++ (γ ∷ []))
  unfolding side_at
  search_telling n m k γ e h =
      search_reported n m _ _ _ (answer_telling S n k γ e h)
      ∙ ap₂ (λ es δ. reported m (side_of sizes ps (entry_at S es (run S k).handled).row δ) (entering S (run S k).rows (run S k).handled) (path S (run S k).rows (run S k).handled ++ (γ ∷ [])))
      (held_stopped S n k (λ q. telling≢handling (sym e ∙ q)) h) (last_of_snoc (path S (run S k).rows (run S k).handled) γ)

  -- What each answer says of the row order.
  pub data Searched (n m : ℕ) : SearchAnswer → Type 0 where
    is_full : {k d : ℕ} → answer_with S n ≡ more_rows d → n ≡ k → Searched n m (rows_full k d)
    is_equal : {c : ℕ} → answer_with S n ≡ all_handled c → Searched n m (equal c)
    is_short : {k : ℕ} (i α : ℕ) (t : List ℕ) → answer_with S n ≡ telling_row i α t → m < length t → length t ≡ k → Searched n m (trace_short k)
    is_telling : {s : Side} {α : ℕ} {t : List ℕ} (i : ℕ) → answer_with S n ≡ telling_row i α t → length t ≤ m
        → side_of sizes ps (entry_at S (held S n) i).row (last_of t) ≡ s → Searched n m (different s α t)

  pub searched : (n m : ℕ) → Searched n m (search_answer sizes ps n m)
  searched n m = go (answer_with S n) refl
    where
      go : (a : RunAnswer) → answer_with S n ≡ a → Searched n m (search_answer sizes ps n m)
      go (more_rows d) e = subst (Searched n m) (sym (search_full n m d e)) (is_full e refl)
      go (all_handled c) e = subst (Searched n m) (sym (search_equal n m c e)) (is_equal e)
      go (telling_row i α t) e = long (lt_or_le m (length t))
        where
          long : (m < length t) ⊎ (length t ≤ m) → Searched n m (search_answer sizes ps n m)
          long (inl h) = subst (Searched n m) (sym (search_short n m i α t e h)) (is_short i α t e h refl)
          long (inr h) = subst (Searched n m) (sym (search_different n m i α t e h)) (is_telling i e h refl)

  -- 11 exactly when the row order needs more rows than were lent; its place is the rows lent, and d the depth at which they ran out
  pub full_exactly : (n m : ℕ) → (search_answer sizes ps n m ≡ rows_full n (depth_at_full S n)) ↔ NeedsMore S n
  full_exactly n m = (λ e. there (subst (Searched n m) e (searched n m)), λ x. search_full n m _ ((full_iff S n).1 x))
    where
      there : Searched n m (rows_full n (depth_at_full S n)) → NeedsMore S n
      there (is_full e q) = (full_iff S n).0 e

  pub full_place : (n m k d : ℕ) → search_answer sizes ps n m ≡ rows_full k d → (k ≡ n) × (d ≡ depth_at_full S n)
  full_place n m k d e = go (subst (Searched n m) e (searched n m))
    where
      go : Searched n m (rows_full k d) → (k ≡ n) × (d ≡ depth_at_full S n)
      go (is_full a q) = (sym q, full_depth S n d a)

  -- a different answer but for the length of the trace list
  pub record TooLong (n m k : ℕ) : Type 0 where
    pub side : Side
    pub entering : ℕ
    pub trace : List ℕ
    pub long : length trace ≡ k
    pub over : m < k
    pub otherwise : search_answer sizes ps n k ≡ different side entering trace

  -- 12 exactly when the answer with a long enough trace list is different and the trace is longer than the list lent
  pub short_exactly : (n m k : ℕ) → (search_answer sizes ps n m ≡ trace_short k) ↔ TooLong n m k
  short_exactly n m k = (λ e. there (subst (Searched n m) e (searched n m)), λ x. back x (subst (Searched n k) x.otherwise (searched n k)))
    where
      there : Searched n m (trace_short k) → TooLong n m k
      there (is_short i α t e h q) =
          record { side = side_of sizes ps (entry_at S (held S n) i).row (last_of t); entering = α; trace = t; long = q; over = omega arith; otherwise = search_different n k i α t e (omega arith) }

      back : (x : TooLong n m k) → Searched n k (different x.side x.entering x.trace) → search_answer sizes ps n m ≡ trace_short k
      back x (is_telling i e h q) = search_short n m i x.entering x.trace e (omega (arith, x.long, x.over)) ∙ ap trace_short x.long

  module _ (ok : EvaluablePair sizes ps) where
    -- equal: the row count, and the same traces from every packet
    pub equal_same : (n m c : ℕ) → search_answer sizes ps n m ≡ equal c → (length (held S n) ≡ c) × SameTracesBelow sizes ps.left.tree ps.right.tree
    equal_same n m c e = go (subst (Searched n m) e (searched n m))
      where
        go : Searched n m (equal c) → (length (held S n) ≡ c) × SameTracesBelow sizes ps.left.tree ps.right.tree
        go (is_equal a) =
            let x = equal_is S (lawful sizes ps ok) n c a in
            (x.whole, (silent_iff sizes ps ok).0 x.silent)

    -- full: the same traces of d packets or fewer from every packet
    pub full_same : (n m k d : ℕ) → search_answer sizes ps n m ≡ rows_full k d → SameShortTracesBelow sizes d ps.left.tree ps.right.tree
    full_same n m k d e = go (subst (Searched n m) e (searched n m))
      where
        go : Searched n m (rows_full k d) → SameShortTracesBelow sizes d ps.left.tree ps.right.tree
        go (is_full a q) = (short_iff sizes ps ok d).0 (full_is S (lawful sizes ps ok) n d a)

    -- the telling row is where its path leads
    telling_leads : (n i α : ℕ) (t : List ℕ) → answer_with S n ≡ telling_row i α t
        → leads_to S (start_row S α) (path S (held S n) i) ≡ (entry_at S (held S n) i).row
    telling_leads n i α t e = go (subst (Answered S n) e (answered S n))
      where
        x : IsDifferent S n i α t
        x = different_is S (lawful sizes ps ok) n i α t e

        go : Answered S n (telling_row i α t)
            → leads_to S (start_row S α) (path S (held S n) i) ≡ (entry_at S (held S n) i).row
        go (is_different γ h q a b c) =
            subst (λ β. leads_to S (start_row S β) (path S (held S n) i) ≡ (entry_at S (held S n) i).row) x.enters
            (subst (λ es. i < length es → Line S es i) (sym (held_stopped S n (suc n) (short_stops S n h) h)) (line_of S (invariant S (lawful sizes ps ok) (suc n)).listing i) x.inside).leads

    telling_distinguishes : (n i α : ℕ) (t : List ℕ) → answer_with S n ≡ telling_row i α t
        → Distinguishes sizes ps (side_of sizes ps (entry_at S (held S n) i).row (last_of t)) α t
    unfolding side_of Alone ends SameShortTraces SameShortTracesBelow SideTraces at
    telling_distinguishes n i α t e =
        record {
          enters = y.enters;
          has = alone.0;
          lacks = alone.1;
          shortest = λ β h u l. (short_iff sizes ps ok (length w)).0 y.shortest β h u (omega (arith, long));
        }
      where
        x : IsDifferent S n i α t
        x = different_is S (lawful sizes ps ok) n i α t e

        w : List ℕ
        w = path S (held S n) i

        y : Shortest S α w x.last
        y = x.shortest

        long : length t ≡ suc (length w)
        long = ap length (sym x.goes) ∙ length_snoc w x.last

        last : last_of t ≡ x.last
        last = ap last_of (sym x.goes) ∙ last_of_snoc w x.last

        alone : Alone sizes ps (side_of sizes ps (entry_at S (held S n) i).row (last_of t)) α t
        alone =
            subst (λ r. Alone sizes ps (side_of sizes ps r (last_of t)) α t) (telling_leads n i α t e)
            (subst (λ γ. Alone sizes ps (side_of sizes ps (leads_to S (start_row S α) w) γ) α t) (sym last)
            (subst (λ u. Alone sizes ps (side_of sizes ps (leads_to S (start_row S α) w) x.last) α u) x.goes
            (telling_after sizes ps ok α y.enters y.word x.last y.last_tells)))

    -- different: that policy alone has the trace, and no shorter trace tells the two apart from any packet
    pub different_tells : (n m : ℕ) (s : Side) (α : ℕ) (t : List ℕ) → search_answer sizes ps n m ≡ different s α t → Distinguishes sizes ps s α t
    different_tells n m s α t e = go (subst (Searched n m) e (searched n m))
      where
        go : Searched n m (different s α t) → Distinguishes sizes ps s α t
        go (is_telling i a h q) = subst (λ z. Distinguishes sizes ps z α t) q (telling_distinguishes n i α t a)

    -- the same traces from every packet: the answer is equal, or full
    pub same_answer : SameTracesBelow sizes ps.left.tree ps.right.tree → (n m : ℕ)
        → NeedsMore S n ⊎ (search_answer sizes ps n m ≡ equal (length (held S n)))
    same_answer E n m =
        ⊎_elim inl (λ e. inr (search_equal n m _ e)) (silent_is S (lawful sizes ps ok) ((silent_iff sizes ps ok).1 E) n)
