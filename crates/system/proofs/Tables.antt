-- Closed tables, whoever made them: nothing tells, and they hold every row of the row order. A finished run's rows are one.
use mathlib.Core.Path.{◌≡◌, sym, subst, ap}
use mathlib.Core.Bool.{true, false}
use mathlib.Core.List.{List}
use mathlib.Core.Logic.{◌⊎◌, inl, inr, ⊎_elim}
use Prim.Native.Nat.{ℕ, ◌≤◌, ◌<◌}
use native.Mathlib.Omega.{arith}
use lib.ListN.{length}
use Rattle.system.specs.System.{System, Lawful, Row, start_row, next_row, tells}
use Rattle.system.specs.InnerWords.{PacketWord, end, then, leads_to, Silent}
use Rattle.system.specs.RowOrder.{Entry, entry_at, Run, finished, telling, turn, path, entering}
use Rattle.system.specs.InnerTables.{Closed, InRange, Listed}
use Rattle.system.proofs.Basics.{clash}
use Rattle.system.proofs.Listing.{Listing}
use Rattle.system.proofs.Following.{follow_small, follow_dead, dead_tells}
use Rattle.system.proofs.Runs.{Invariant, end_turn, telling_turn}
use Rattle.system.proofs.Lines.{Line, line, line_of}

module _ (S : System) where
  module _ (L : Lawful S) {Is : Row S → Type 0} (C : Closed S Is) where
    -- a word leads from a row of the table to a row of the table, or to a dead state
    pub follow_closed : (r : Row S) → r.packet < S.packets → Is r → {w : List ℕ} → PacketWord S.packets w → (S.dead (leads_to S r w).state ≡ true) ⊎ Is (leads_to S r w)
    unfolding leads_to
    follow_closed r h i end = inr i
    follow_closed r h i (then {γ = γ} {w = w} l v) = go (C.onward r i γ l) (λ j. follow_closed (next_row S r γ) l j v)
      where
        go : (S.dead (next_row S r γ).state ≡ true) ⊎ Is (next_row S r γ)
            → (Is (next_row S r γ) → (S.dead (leads_to S (next_row S r γ) w).state ≡ true) ⊎ Is (leads_to S (next_row S r γ) w))
            → (S.dead (leads_to S (next_row S r γ) w).state ≡ true) ⊎ Is (leads_to S (next_row S r γ) w)
        go (inl d) f = inl (follow_dead S L (next_row S r γ) l d v)
        go (inr j) f = f j

    -- with a closed table, nothing tells
    pub closed_silent : Silent S
    closed_silent = record { silent = λ α h w v γ l. each α h w v γ l }
      where
        each : (α : ℕ) → α < S.packets → (w : List ℕ) → PacketWord S.packets w → (γ : ℕ) → γ < S.packets → tells S (leads_to S (start_row S α) w) γ ≡ false
        each α h w v γ l =
            ⊎_elim
            (λ d. dead_tells S L (leads_to S (start_row S α) w) (follow_small S (start_row S α) h v) d γ l)
            (λ i. C.silent (leads_to S (start_row S α) w) i γ l)
            (follow_closed (start_row S α) h (C.starting α h) v)

  -- a closed table holds every listed row
  pub closed_contains : {Is : Row S → Type 0} → Closed S Is → {es : List (Entry S)} {b : ℕ} → Listing S es b → (r : Row S) → Listed S es r → Is r
  closed_contains {Is} C {es} I r l = subst Is l.there (line S I (λ i. Is (entry_at S es i).row) start child l.place l.inside)
    where
      start : (α : ℕ) → α < S.packets → Is (entry_at S es α).row
      start α h = subst (λ e. Is e.row) (sym (I.starting α h)) (C.starting α h)

      child : (i : ℕ) → S.packets ≤ i → i < length es → Is (entry_at S es (entry_at S es i).parent).row → Is (entry_at S es i).row
      child i g h p =
          subst Is (sym (I.child i g h).comes)
          (⊎_elim
          (λ d. clash (subst (λ r. S.dead r.state ≡ true) (sym (I.child i g h).comes) d) (I.child i g h).living)
          (λ j. j)
          (C.onward (entry_at S es (entry_at S es i).parent).row p (entry_at S es i).row.packet (I.small i h)))

  -- listed rows keep rule (a)
  pub listing_sound : {es : List (Entry S)} {b : ℕ} → Listing S es b → InRange S (Listed S es)
  listing_sound I =
      record {
        small = λ r l. subst (λ q. q.packet < S.packets) l.there (I.small l.place l.inside);
        valid = λ r l. subst (λ q. S.valid q.state ≡ true) l.there (I.valid l.place l.inside);
      }

  -- once all rows are handled, the rows listed are a closed table
  pub finished_closed : (x : Run S) → Invariant S x → turn S x ≡ finished → Closed S (Listed S x.rows)
  finished_closed x I e =
      let all : length x.rows ≤ x.handled = end_turn S x e in
      record {
        starting = λ α h. record { place = α; inside = omega (arith, I.listing.begun); there = ap (λ z. z.row) (I.listing.starting α h) };
        silent = λ r l γ h. subst (λ q. tells S q γ ≡ false) l.there ((I.handled l.place (omega (arith, l.inside))).silent γ h);
        onward =
            λ r l γ h.
            subst (λ q. (S.dead (next_row S q γ).state ≡ true) ⊎ Listed S x.rows (next_row S q γ)) l.there
            (⊎_elim inl (λ u. inr u.listed) ((I.handled l.place (omega (arith, l.inside))).onward γ h));
      }

  -- where nothing tells, no run stops at a telling row
  pub silent_never : Silent S → (x : Run S) → Invariant S x → (γ : ℕ) → turn S x ≡ telling γ → ⊥
  silent_never Q x I γ e =
      let l : Line S x.rows x.handled = line_of S I.listing x.handled (telling_turn S x γ e).0 in
      clash (telling_turn S x γ e).1.passes
      (subst (λ r. tells S r γ ≡ false) l.leads (Q.silent (entering S x.rows x.handled) l.enters (path S x.rows x.handled) l.word γ (telling_turn S x γ e).1.below))
