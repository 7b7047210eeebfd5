-- A run, one row handled after another: how it goes on, and what holds at any time of it.
use mathlib.Core.Path.{◌≡◌, refl, sym, ◌∙◌, subst, ap}
use mathlib.Core.Bool.{Bool, true, false}
use mathlib.Core.List.{List}
use mathlib.Core.Logic.{◌⊎◌, inl, inr, ⊎_elim}
use Rattle.std.specs.Prelude.{Option, None, Some}
use Prim.Native.Nat.{ℕ, zero, suc, ◌≤◌, ◌<◌}
use native.Mathlib.Nat.{not-suc-le-zero, le_of_suc-le-suc}
use native.Mathlib.Omega.{arith}
use lib.Dec.{ltb}
use lib.ListN.{length}
use borrow.Author.Tests.{ltb-true, ltb-false, lt-ltb, le-ltb}
use Rattle.packet.specs.Lowest.{lowest}
use Rattle.packet.proofs.Lowest.{IsLowest, Found, lowest_is, lowest_only, none_lowest}
use Rattle.system.specs.System.{System, Lawful, Row, next_row, tells}
use Rattle.system.specs.RowOrder.{Entry, start_entry, entry_at, Run, Turn, finished, telling, handling, lowest_telling, current, turn, handle, run_from, begin, run}
use Rattle.system.specs.InnerTables.{Listed}
use Rattle.system.proofs.Basics.{clash, last_or_before, Prefix, prefix_length, prefix_at}
use Rattle.system.proofs.Listing.{Listing, listing_starts, weaken, Grown, grown, listed_kept}

is_handling : Turn → Bool
is_handling finished = false
is_handling (telling γ) = false
is_handling handling = true

pub finished≢handling : finished ≡ handling → ⊥
unfolding is_handling
finished≢handling e = clash (ap is_handling e) refl

pub telling≢handling : {γ : ℕ} → telling γ ≡ handling → ⊥
unfolding is_handling
telling≢handling e = clash (ap is_handling e) refl

module _ (S : System) where
  -- The three turns: all rows are handled; the row to handle tells, γ first; the row to handle does not tell.
  pub data Turned (x : Run S) : Turn → Type 0 where
    at_end : length x.rows ≤ x.handled → Turned x finished
    at_telling : {γ : ℕ} → x.handled < length x.rows → IsLowest (tells S (current S x)) S.packets γ → Turned x (telling γ)
    at_row : x.handled < length x.rows → ((γ : ℕ) → γ < S.packets → tells S (current S x) γ ≡ false) → Turned x handling

  pub turned : (x : Run S) → Turned x (turn S x)
  unfolding turn lowest_telling
  turned x = go (ltb x.handled (length x.rows)) refl
    where
      row : x.handled < length x.rows → (o : Option ℕ) → Found (tells S (current S x)) S.packets o → Turned x (elim o [ Some γ ↦ telling γ | None ↦ handling ])
      row h None f = at_row h f
      row h (Some γ) l = at_telling h l

      go : (b : Bool) → ltb x.handled (length x.rows) ≡ b
          → Turned x (elim b [ true ↦ elim (lowest (tells S (current S x)) S.packets) [ Some γ ↦ telling γ | None ↦ handling ] | false ↦ finished ])
      go true e = row (ltb-true x.handled (length x.rows) e) (lowest (tells S (current S x)) S.packets) (lowest_is (tells S (current S x)) S.packets)
      go false e = at_end (ltb-false x.handled (length x.rows) e)

  pub end_turn : (x : Run S) → turn S x ≡ finished → length x.rows ≤ x.handled
  end_turn x e = go (subst (Turned x) e (turned x))
    where
      go : Turned x finished → length x.rows ≤ x.handled
      go (at_end h) = h

  pub telling_turn : (x : Run S) (γ : ℕ) → turn S x ≡ telling γ → (x.handled < length x.rows) × IsLowest (tells S (current S x)) S.packets γ
  telling_turn x γ e = go (subst (Turned x) e (turned x))
    where
      go : Turned x (telling γ) → (x.handled < length x.rows) × IsLowest (tells S (current S x)) S.packets γ
      go (at_telling h l) = (h, l)

  pub row_turn : (x : Run S) → turn S x ≡ handling → (x.handled < length x.rows) × ((γ : ℕ) → γ < S.packets → tells S (current S x) γ ≡ false)
  row_turn x e = go (subst (Turned x) e (turned x))
    where
      go : Turned x handling → (x.handled < length x.rows) × ((γ : ℕ) → γ < S.packets → tells S (current S x) γ ≡ false)
      go (at_row h f) = (h, f)

  pub going_or_stopped : (x : Run S) → (turn S x ≡ handling) ⊎ (turn S x ≡ handling → ⊥)
  going_or_stopped x = go (turn S x) refl
    where
      go : (t : Turn) → turn S x ≡ t → (turn S x ≡ handling) ⊎ (turn S x ≡ handling → ⊥)
      go finished e = inr (λ q. finished≢handling (sym e ∙ q))
      go (telling γ) e = inr (λ q. telling≢handling (sym e ∙ q))
      go handling e = inl e

  -- each turn by what brings it about
  pub turn_end : (x : Run S) → length x.rows ≤ x.handled → turn S x ≡ finished
  unfolding turn
  turn_end x h = rw (le-ltb x.handled (length x.rows) h, turn)

  pub turn_telling : (x : Run S) (γ : ℕ) → x.handled < length x.rows → IsLowest (tells S (current S x)) S.packets γ → turn S x ≡ telling γ
  unfolding turn lowest_telling
  turn_telling x γ h l = rw (lt-ltb x.handled (length x.rows) h, lowest_only (tells S (current S x)) S.packets (Some γ) l, turn)

  pub turn_row : (x : Run S) → x.handled < length x.rows → ((γ : ℕ) → γ < S.packets → tells S (current S x) γ ≡ false) → turn S x ≡ handling
  unfolding turn lowest_telling
  turn_row x h f = rw (lt-ltb x.handled (length x.rows) h, none_lowest (tells S (current S x)) S.packets f, turn)

  -- the run stays put
  abbrev pub Stopped : Run S → Type 0
  Stopped x = turn S x ≡ handling → ⊥

  step : Run S → Run S
  step x = elim (turn S x) [ finished ↦ x | telling γ ↦ x | handling ↦ handle S x ]

  step_go : (x : Run S) → turn S x ≡ handling → step x ≡ handle S x
  unfolding step
  step_go x e = rw (e, step)

  step_stay : (x : Run S) → Stopped x → step x ≡ x
  unfolding step
  step_stay x ne = go (turn S x) refl
    where
      go : (t : Turn) → turn S x ≡ t → step x ≡ x
      go finished e = rw (e, step)
      go (telling γ) e = rw (e, step)
      go handling e = absurd (ne e)

  run_from_go : (k : ℕ) (x : Run S) → turn S x ≡ handling → run_from S (suc k) x ≡ run_from S k (handle S x)
  unfolding run_from
  run_from_go k x e = rw (e, run_from)

  run_from_stay : (k : ℕ) (x : Run S) → Stopped x → run_from S k x ≡ x
  unfolding run_from
  run_from_stay zero x ne = refl
  run_from_stay (suc k) x ne = go (turn S x) refl
    where
      go : (t : Turn) → turn S x ≡ t → run_from S (suc k) x ≡ x
      go finished e = rw (e, run_from)
      go (telling γ) e = rw (e, run_from)
      go handling e = absurd (ne e)

  -- one row more is one row handled after the others
  run_from_suc : (k : ℕ) (x : Run S) → run_from S (suc k) x ≡ step (run_from S k x)
  unfolding run_from step
  run_from_suc zero x = refl
  run_from_suc (suc k) x = go (going_or_stopped x) (run_from_suc k (handle S x))
    where
      go : (turn S x ≡ handling) ⊎ Stopped x → run_from S (suc k) (handle S x) ≡ step (run_from S k (handle S x)) → run_from S (suc (suc k)) x ≡ step (run_from S (suc k) x)
      go (inl e) ih = run_from_go (suc k) x e ∙ ih ∙ ap step (sym (run_from_go k x e))
      go (inr ne) ih = run_from_stay (suc (suc k)) x ne ∙ sym (step_stay x ne) ∙ ap step (sym (run_from_stay (suc k) x ne))

  pub run_begin : run S 0 ≡ begin S
  unfolding run run_from
  run_begin = refl

  pub run_handle : (k : ℕ) → turn S (run S k) ≡ handling → run S (suc k) ≡ handle S (run S k)
  unfolding run
  run_handle k e = run_from_suc k (begin S) ∙ step_go (run S k) e

  pub run_stay : (k : ℕ) → Stopped (run S k) → run S (suc k) ≡ run S k
  unfolding run
  run_stay k ne = run_from_suc k (begin S) ∙ step_stay (run S k) ne

  -- the row stands in the list, a starting row or under row i at the latest
  pub record Under (es : List (Entry S)) (i : ℕ) (r : Row S) : Type 0 where
    pub listed : Listed S es r
    pub near : S.packets ≤ listed.place → (entry_at S es listed.place).parent ≤ i

  -- Row i has been handled: it does not tell, and its next rows are dead or listed, under row i at the latest.
  pub record Handled (es : List (Entry S)) (i : ℕ) : Type 0 where
    pub silent : (γ : ℕ) → γ < S.packets → tells S (entry_at S es i).row γ ≡ false
    pub onward : (γ : ℕ) → γ < S.packets → (S.dead (next_row S (entry_at S es i).row γ).state ≡ true) ⊎ Under es i (next_row S (entry_at S es i).row γ)

  -- What holds at any time of a run.
  pub record Invariant (x : Run S) : Type 0 where
    pub listing : Listing S x.rows x.handled
    pub within : x.handled ≤ length x.rows
    pub handled : (i : ℕ) → i < x.handled → Handled x.rows i

  under_kept : {es fs : List (Entry S)} {i : ℕ} {r : Row S} → Prefix es fs → Under es i r → Under fs i r
  under_kept {es} {fs} {i} q u =
      record {
        listed = listed_kept S q u.listed;
        near = λ g. subst (λ e. e.parent ≤ i) (sym (prefix_at q (start_entry S 0) u.listed.place u.listed.inside)) (u.near g);
      }

  handled_kept : {es fs : List (Entry S)} {i : ℕ} → Prefix es fs → i < length es → Handled es i → Handled fs i
  handled_kept {es} {fs} {i} q h H =
      record {
        silent = subst (λ e. (γ : ℕ) → γ < S.packets → tells S e.row γ ≡ false) same H.silent;
        onward =
            subst (λ e. (γ : ℕ) → γ < S.packets → (S.dead (next_row S e.row γ).state ≡ true) ⊎ Under fs i (next_row S e.row γ)) same
            (λ γ l. ⊎_elim inl (λ u. inr (under_kept q u)) (H.onward γ l));
      }
    where
      same : entry_at S es i ≡ entry_at S fs i
      same = sym (prefix_at q (start_entry S 0) i h)

  module _ (L : Lawful S) where
    invariant_begin : Invariant (begin S)
    invariant_begin = record { listing = listing_starts S L; within = omega arith; handled = λ i h. absurd (not-suc-le-zero h) }

    invariant_handle : (x : Run S) → turn S x ≡ handling → Invariant x → Invariant (handle S x)
    unfolding handle
    invariant_handle x e I =
        now (row_turn x e).0 (row_turn x e).1 (grown S L (weaken S (omega arith) I.listing) (row_turn x e).0 S.packets (omega arith))
      where
        es : List (Entry S)
        es = x.rows

        fs : List (Entry S)
        fs = (handle S x).rows

        now : x.handled < length es → ((γ : ℕ) → γ < S.packets → tells S (current S x) γ ≡ false) → Grown S es fs x.handled (current S x) S.packets → Invariant (handle S x)
        now h f G =
            record {
              listing = G.listing;
              within = omega (arith, h, prefix_length G.longer);
              handled = λ i k. each i (last_or_before k);
            }
          where
            same : current S x ≡ (entry_at S fs x.handled).row
            same = ap (λ z. z.row) (sym (prefix_at G.longer (start_entry S 0) x.handled h))

            -- every row under another has a parent no later than the row just handled
            under : {r : Row S} → Listed S fs r → Under fs x.handled r
            under l = record { listed = l; near = λ g. le_of_suc-le-suc (G.listing.child l.place g l.inside).under }

            each : (i : ℕ) → (i < x.handled) ⊎ (i ≡ x.handled) → Handled fs i
            each i (inl l) = handled_kept G.longer (omega arith) (I.handled i l)
            each i (inr q) =
                subst (Handled fs) (sym q)
                (record {
                  silent = subst (λ r. (γ : ℕ) → γ < S.packets → tells S r γ ≡ false) same f;
                  onward =
                      subst (λ r. (γ : ℕ) → γ < S.packets → (S.dead (next_row S r γ).state ≡ true) ⊎ Under fs x.handled (next_row S r γ)) same
                      (λ γ l. ⊎_elim inl (λ u. inr (under u)) (G.onward γ l));
                })

    -- the invariant holds throughout
    pub invariant : (k : ℕ) → Invariant (run S k)
    unfolding run run_from
    invariant zero = invariant_begin
    invariant (suc k) = go (going_or_stopped (run S k)) (invariant k)
      where
        go : (turn S (run S k) ≡ handling) ⊎ Stopped (run S k) → Invariant (run S k) → Invariant (run S (suc k))
        go (inl e) I = subst Invariant (sym (run_handle k e)) (invariant_handle (run S k) e I)
        go (inr ne) I = subst Invariant (sym (run_stay k ne)) I
