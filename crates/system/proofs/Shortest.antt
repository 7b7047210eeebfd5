-- Rows are listed at their least depth, so that the first telling row has a shortest telling word.
use mathlib.Core.Path.{◌≡◌, sym, subst, ap}
use mathlib.Core.Bool.{true, false}
use mathlib.Core.List.{List}
use mathlib.Core.Logic.{◌⊎◌, inl, inr}
use Prim.Native.Nat.{ℕ, suc, ◌+◌, ◌≤◌, ◌<◌}
use native.Mathlib.Nat.{add-zero, zero-add}
use native.Mathlib.Omega.{arith}
use lib.ListN.{length}
use Rattle.system.specs.System.{System, Lawful, Row, start_row, next_row, tells}
use Rattle.system.specs.InnerWords.{PacketWord, end, then, leads_to, SilentBelow}
use Rattle.system.specs.RowOrder.{Entry, Run, current, telling, turn, depth, path, entering}
use Rattle.system.specs.InnerTables.{Listed}
use Rattle.system.proofs.Basics.{lt_or_le}
use Rattle.packet.proofs.Lowest.{IsLowest}
use Rattle.system.proofs.Following.{follow_small, follow_dead, dead_tells}
use Rattle.system.proofs.Runs.{Invariant, Under, telling_turn}
use Rattle.system.proofs.Lines.{Line, line_of, depth_start, depth_ordered, depth_near, depth_band}

module _ (S : System) where
  -- the row is listed at depth d at most
  pub record Within (es : List (Entry S)) (d : ℕ) (r : Row S) : Type 0 where
    pub listed : Listed S es r
    pub shallow : depth S es listed.place ≤ d

  -- every row of depth less than d has been handled
  pub record HandledBelow (x : Run S) (d : ℕ) : Type 0 where
    pub done : (i : ℕ) → i < length x.rows → depth S x.rows i < d → i < x.handled

  -- The word w leads from α to a row where γ tells, and no lower packet does; no shorter word leads to a telling row.
  pub record Shortest (α : ℕ) (w : List ℕ) (γ : ℕ) : Type 0 where
    pub enters : α < S.packets
    pub word : PacketWord S.packets w
    pub small : γ < S.packets
    pub last_tells : tells S (leads_to S (start_row S α) w) γ ≡ true
    pub lower_silent : (δ : ℕ) → δ < γ → tells S (leads_to S (start_row S α) w) δ ≡ false
    pub shortest : SilentBelow S (length w)

  module _ (L : Lawful S) {x : Run S} (I : Invariant S x) where
    -- once the rows of depth less than d are handled, a word from a listed row leads, as far as d, to a row listed no deeper, or to a dead state
    follow_within : {d : ℕ} → HandledBelow x d → {w : List ℕ} → PacketWord S.packets w → (r : Row S) (e : ℕ) → Within x.rows e r → e + length w ≤ d
        → (S.dead (leads_to S r w).state ≡ true) ⊎ Within x.rows (e + length w) (leads_to S r w)
    unfolding leads_to
    follow_within H end r e l h = inr (subst (λ n. Within x.rows n r) (sym (add-zero e)) l)
    follow_within {d} H (then {γ = γ} {w = w} g v) r e l h = go (onward γ g) (follow_within H v (next_row S r γ) (suc e))
      where
        done : l.listed.place < x.handled
        done = H.done l.listed.place l.listed.inside (omega (arith, l.shallow))

        onward : (γ : ℕ) → γ < S.packets → (S.dead (next_row S r γ).state ≡ true) ⊎ Under S x.rows l.listed.place (next_row S r γ)
        onward = subst (λ q. (γ : ℕ) → γ < S.packets → (S.dead (next_row S q γ).state ≡ true) ⊎ Under S x.rows l.listed.place (next_row S q γ)) l.listed.there (I.handled l.listed.place done).onward

        go : (S.dead (next_row S r γ).state ≡ true) ⊎ Under S x.rows l.listed.place (next_row S r γ)
            → (Within x.rows (suc e) (next_row S r γ) → suc e + length w ≤ d → (S.dead (leads_to S (next_row S r γ) w).state ≡ true) ⊎ Within x.rows (suc e + length w) (leads_to S (next_row S r γ) w))
            → (S.dead (leads_to S (next_row S r γ) w).state ≡ true) ⊎ Within x.rows (e + suc (length w)) (leads_to S (next_row S r γ) w)
        go (inl q) f = inl (follow_dead S L (next_row S r γ) g q v)
        go (inr u) f =
            subst (λ n. (S.dead (leads_to S (next_row S r γ) w).state ≡ true) ⊎ Within x.rows n (leads_to S (next_row S r γ) w)) (omega arith)
            (f
            (record {
              listed = u.listed;
              shallow = omega (arith, l.shallow, depth_near S I.listing u.listed.place l.listed.place u.listed.inside l.listed.inside u.near);
            })
            (omega arith))

    -- a row that d packets reach is listed at depth d at most, or its state is dead
    pub reached : {d : ℕ} → HandledBelow x d → (α : ℕ) → α < S.packets → {w : List ℕ} → PacketWord S.packets w → length w ≤ d
        → (S.dead (leads_to S (start_row S α) w).state ≡ true) ⊎ Within x.rows (length w) (leads_to S (start_row S α) w)
    reached {d} H α h {w} v l =
        subst (λ n. (S.dead (leads_to S (start_row S α) w).state ≡ true) ⊎ Within x.rows n (leads_to S (start_row S α) w)) (zero-add (length w))
        (follow_within H v (start_row S α) 0
        (record {
          listed = record { place = α; inside = omega (arith, I.listing.begun); there = ap (λ e. e.row) (I.listing.starting α h) };
          shallow = omega (arith, depth_start S I.listing α h);
        })
        (omega arith))

    -- the band: no row listed lies more than one deeper than the row to handle
    pub band : x.handled < length x.rows → (i : ℕ) → i < length x.rows → depth S x.rows i ≤ suc (depth S x.rows x.handled)
    band h i l = depth_band S I.listing i x.handled l h (omega arith)

    -- rows less deep than the row to handle have been handled
    pub handled_below : x.handled < length x.rows → HandledBelow x (depth S x.rows x.handled)
    handled_below h = record { done = λ i l k. go i l k (lt_or_le i x.handled) }
      where
        go : (i : ℕ) → i < length x.rows → depth S x.rows i < depth S x.rows x.handled → (i < x.handled) ⊎ (x.handled ≤ i) → i < x.handled
        go i l k (inl m) = m
        go i l k (inr m) = absurd (omega (arith, depth_ordered S I.listing x.handled i m l))

    -- nothing tells nearer than the row to handle
    pub silent_below : x.handled < length x.rows → SilentBelow S (depth S x.rows x.handled)
    silent_below h = record { silent = λ α l w v k γ g. each α l w v k γ g (reached (handled_below h) α l v (omega arith)) }
      where
        each : (α : ℕ) → α < S.packets → (w : List ℕ) → PacketWord S.packets w → length w < depth S x.rows x.handled → (γ : ℕ) → γ < S.packets
            → (S.dead (leads_to S (start_row S α) w).state ≡ true) ⊎ Within x.rows (length w) (leads_to S (start_row S α) w) → tells S (leads_to S (start_row S α) w) γ ≡ false
        each α l w v k γ g (inl d) = dead_tells S L (leads_to S (start_row S α) w) (follow_small S (start_row S α) l v) d γ g
        each α l w v k γ g (inr u) =
            subst (λ r. tells S r γ ≡ false) u.listed.there
            ((I.handled u.listed.place ((handled_below h).done u.listed.place u.listed.inside (omega (arith, u.shallow)))).silent γ g)

    -- at the first telling row: its path and the lowest telling packet tell, and no shorter word does
    pub shortest : (γ : ℕ) → turn S x ≡ telling γ → Shortest (entering S x.rows x.handled) (path S x.rows x.handled) γ
    shortest γ e =
        record {
          enters = l.enters;
          word = l.word;
          small = t.1.below;
          last_tells = subst (λ r. tells S r γ ≡ true) (sym l.leads) t.1.passes;
          lower_silent = λ δ h. subst (λ r. tells S r δ ≡ false) (sym l.leads) (t.1.first δ h);
          shortest = subst (SilentBelow S) l.deep (silent_below t.0);
        }
      where
        t : (x.handled < length x.rows) × IsLowest (tells S (current S x)) S.packets γ
        t = telling_turn S x γ e

        l : Line S x.rows x.handled
        l = line_of S I.listing x.handled t.0
