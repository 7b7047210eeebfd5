-- Each listed row's line of parents: its path leads to it, depths never fall along the list, and they keep within a band of one.
use mathlib.Core.Path.{◌≡◌, sym, ◌∙◌, subst, subst₂, ap}
use mathlib.Core.List.{List, [], ◌∷◌, ◌++◌}
use mathlib.Core.Logic.{◌⊎◌, inl, inr}
use Prim.Native.Nat.{ℕ, suc, ◌≤◌, ◌<◌}
use native.Mathlib.Omega.{arith}
use lib.ListN.{length}
use Rattle.system.specs.System.{System, start_row, next_row}
use Rattle.system.specs.InnerWords.{PacketWord, end, leads_to}
use Rattle.system.specs.RowOrder.{Entry, start_entry, entry_at, climb, depth, path, entering}
use Rattle.system.proofs.Basics.{lt_or_le, induction, Prefix, length_snoc}
use Rattle.system.proofs.Climb.{climb_first, climb_below, climb_kept}
use Rattle.system.proofs.Listing.{Listing, earlier}
use Rattle.system.proofs.Following.{word_snoc, follow_snoc}

module _ (S : System) (es : List (Entry S)) where
  -- The path of row i leads to it from its entering packet; its depth is the path's length.
  pub record Line (i : ℕ) : Type 0 where
    pub enters : entering S es i < S.packets
    pub word : PacketWord S.packets (path S es i)
    pub leads : leads_to S (start_row S (entering S es i)) (path S es i) ≡ (entry_at S es i).row
    pub deep : depth S es i ≡ length (path S es i)

module _ (S : System) {es : List (Entry S)} {b : ℕ} (I : Listing S es b) where
  -- what holds of the starting rows, and of a row when it holds of its parent, holds of every row
  pub line : (P : ℕ → Type 0) → ((α : ℕ) → α < S.packets → P α)
      → ((i : ℕ) → S.packets ≤ i → i < length es → P (entry_at S es i).parent → P i)
      → (i : ℕ) → i < length es → P i
  line P f g = induction (λ i. i < length es → P i) step
    where
      step : (i : ℕ) → ((j : ℕ) → j < i → j < length es → P j) → i < length es → P i
      step i ih h = go (lt_or_le i S.packets)
        where
          go : (i < S.packets) ⊎ (S.packets ≤ i) → P i
          go (inl l) = f i l
          go (inr m) = g i m h (ih (entry_at S es i).parent (I.child i m h).before (omega (arith, (I.child i m h).before)))

  module _ {A : Type 0} (first : Entry S → A) (below : Entry S → A → A) where
    climb_start : (α : ℕ) → α < S.packets → climb S first below es α ≡ first (start_entry S α)
    climb_start α h = climb_first S first below es α (ap (λ e. e.parent) (I.starting α h)) ∙ ap first (I.starting α h)

    climb_child : (i : ℕ) → S.packets ≤ i → i < length es → climb S first below es i ≡ below (entry_at S es i) (climb S first below es (entry_at S es i).parent)
    climb_child i g h = climb_below S first below (earlier S I) i h (I.child i g h).before

  pub depth_start : (α : ℕ) → α < S.packets → depth S es α ≡ 0
  unfolding depth
  depth_start = climb_start _ _

  pub depth_child : (i : ℕ) → S.packets ≤ i → i < length es → depth S es i ≡ suc (depth S es (entry_at S es i).parent)
  unfolding depth
  depth_child = climb_child _ _

  pub path_start : (α : ℕ) → α < S.packets → path S es α ≡ []
  unfolding path
  path_start = climb_start _ _

  pub path_child : (i : ℕ) → S.packets ≤ i → i < length es → path S es i ≡ path S es (entry_at S es i).parent ++ ((entry_at S es i).row.packet ∷ [])
  unfolding path
  path_child = climb_child _ _

  pub entering_start : (α : ℕ) → α < S.packets → entering S es α ≡ α
  unfolding entering
  entering_start = climb_start _ _

  pub entering_child : (i : ℕ) → S.packets ≤ i → i < length es → entering S es i ≡ entering S es (entry_at S es i).parent
  unfolding entering
  entering_child = climb_child _ _

  pub line_of : (i : ℕ) → i < length es → Line S es i
  unfolding leads_to
  line_of = line (Line S es) start child
    where
      start : (α : ℕ) → α < S.packets → Line S es α
      start α h =
          record {
            enters = subst (λ n. n < S.packets) (sym (entering_start α h)) h;
            word = subst (PacketWord S.packets) (sym (path_start α h)) end;
            leads = subst₂ (λ β w. leads_to S (start_row S β) w ≡ (entry_at S es α).row) (sym (entering_start α h)) (sym (path_start α h)) (sym (ap (λ e. e.row) (I.starting α h)));
            deep = depth_start α h ∙ sym (ap length (path_start α h));
          }

      child : (i : ℕ) → S.packets ≤ i → i < length es → Line S es (entry_at S es i).parent → Line S es i
      child i g h l =
          record {
            enters = subst (λ n. n < S.packets) (sym (entering_child i g h)) l.enters;
            word = subst (PacketWord S.packets) (sym (path_child i g h)) (word_snoc l.word (I.small i h));
            leads =
                subst₂ (λ α w. leads_to S (start_row S α) w ≡ (entry_at S es i).row) (sym (entering_child i g h)) (sym (path_child i g h))
                (follow_snoc S _ (path S es (entry_at S es i).parent) (entry_at S es i).row.packet
                ∙ ap (λ r. next_row S r (entry_at S es i).row.packet) l.leads
                ∙ sym (I.child i g h).comes);
            deep = depth_child i g h ∙ ap suc l.deep ∙ sym (length_snoc (path S es (entry_at S es i).parent) (entry_at S es i).row.packet) ∙ ap length (sym (path_child i g h));
          }

  -- depths never fall along the list
  pub depth_ordered : (i j : ℕ) → i ≤ j → j < length es → depth S es i ≤ depth S es j
  depth_ordered i j h l = line Above start child j l i h
    where
      Above : ℕ → Type 0
      Above j = (i : ℕ) → i ≤ j → depth S es i ≤ depth S es j

      start : (α : ℕ) → α < S.packets → Above α
      start α l i h = omega (arith, depth_start i (omega arith))

      child : (j : ℕ) → S.packets ≤ j → j < length es → Above (entry_at S es j).parent → Above j
      child j g l ih i h = go (lt_or_le i S.packets)
        where
          go : (i < S.packets) ⊎ (S.packets ≤ i) → depth S es i ≤ depth S es j
          go (inl m) = omega (arith, depth_start i m)
          go (inr m) = omega (arith, depth_child i m (omega arith), depth_child j g l, ih (entry_at S es i).parent (I.ordered i j m h l))

  -- a row under row j at the latest lies at most one deeper than row j
  pub depth_near : (i j : ℕ) → i < length es → j < length es → (S.packets ≤ i → (entry_at S es i).parent ≤ j) → depth S es i ≤ suc (depth S es j)
  depth_near i j h l near = go (lt_or_le i S.packets)
    where
      go : (i < S.packets) ⊎ (S.packets ≤ i) → depth S es i ≤ suc (depth S es j)
      go (inl m) = omega (arith, depth_start i m)
      go (inr m) = omega (arith, depth_child i m h, depth_ordered (entry_at S es i).parent j (near m) l)

  -- the band: with all parents below b, no row lies more than one deeper than row j, where j + 1 is b or more
  pub depth_band : (i j : ℕ) → i < length es → j < length es → b ≤ suc j → depth S es i ≤ suc (depth S es j)
  depth_band i j h l m = depth_near i j h l (λ g. omega (arith, (I.child i g h).under))

  -- a list that grows keeps the depth, path and entering packet of its rows
  pub depth_kept : {fs : List (Entry S)} → Prefix es fs → (i : ℕ) → i < length es → depth S fs i ≡ depth S es i
  unfolding depth
  depth_kept = climb_kept S _ _ (earlier S I)

  pub path_kept : {fs : List (Entry S)} → Prefix es fs → (i : ℕ) → i < length es → path S fs i ≡ path S es i
  unfolding path
  path_kept = climb_kept S _ _ (earlier S I)

  pub entering_kept : {fs : List (Entry S)} → Prefix es fs → (i : ℕ) → i < length es → entering S fs i ≡ entering S es i
  unfolding entering
  entering_kept = climb_kept S _ _ (earlier S I)
