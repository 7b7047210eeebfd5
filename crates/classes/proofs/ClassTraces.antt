-- Under a faithful classing the traces over declared packets are those of the policy on classes, lifted (document 02, A.6).
use Prim.Native.Nat.{ℕ, ◌<◌}
use native.Mathlib.Decide.{ℕ_discrete}
use native.Mathlib.Omega.{arith}
use mathlib.Core.Bool.{false, not}
use mathlib.Core.List.{List, map}
use mathlib.Core.Logic.{◌↔◌}
use mathlib.Core.Path.{◌≡◌, refl, sym, ap, ◌∙◌, subst}
use lib.Dec.{eqb, leb}
use lib.ListN.{length, get_or, set, length-map}
use borrow.Author.Tests.{leb-false, eq-eqb, ne_eqb}
use Rattle.packet.specs.Sizes.{product}
use Rattle.packet.specs.Packets.{values_of, value_at, changed, Declared}
use Rattle.packet.proofs.Tests.{or_false}
use Rattle.packet.proofs.Packets.{changed_below, values_changed}
use Rattle.policy.specs.declared.FieldAction.{FieldAction}
use Rattle.policy.specs.declared.FieldAction.TheVariants.{Equals, Differs, Set}
use Rattle.policy.specs.Tree.{Policy}
use Rattle.policy.specs.Meaning.{Packets, TraceSet, ActionTraces, Traces, declared, numbered, SameTraces, SameShortTraces, SameTracesBelow, SameShortTracesBelow, Tells}
use Rattle.policy.specs.Legality.{bad_field, field_of, value_of}
use Rattle.policy.specs.InnerEach.{Each}
use Rattle.policy.proofs.TraceLaws.{same_each_length}
use Rattle.policy.proofs.TransportLaws.{each_action_map, Carried, test_carried, change_carried, carried, transport, short_image, image_trace, short_source}
use Rattle.policy.proofs.Numbered.{value_below}
use Rattle.classes.specs.Classing.{Classing, each_field, class_number, shown_packet, seen_from, lifted, class_action, classed, Alone, Faithful, NamesAlone, TellsOver}
use Rattle.classes.proofs.FieldEntries.{field_set}
use Rattle.classes.proofs.Lifting.{Chooses, chosen, class_number_below, class_at_below, chosen_at, class_of_chosen, shown_chooses, seen_chooses, shown_declared, lifted_class}

same_tests : (a b x y : ℕ) → (a ≡ b → x ≡ y) → (x ≡ y → a ≡ b) → eqb a b ≡ eqb x y
same_tests a b x y to from = go (ℕ_discrete a b)
  where
    go : Dec (a ≡ b) → eqb a b ≡ eqb x y
    go (yes e) = eq-eqb a b e ∙ sym (eq-eqb x y (to e))
    go (no n) = ne_eqb a b n ∙ sym (ne_eqb x y (λ e. n (from e)))

field_below : (sizes : List ℕ) (f v : ℕ) → bad_field sizes f v ≡ false → f < length sizes
unfolding bad_field
field_below sizes f v e = leb-false (length sizes) f (or_false (leb (length sizes) f) (leb (get_or sizes f 0) v) e).0

module _ (c : Classing) (sizes : List ℕ) (h : Faithful c sizes) where
  -- packets of classes, as numbers
  abbrev Classes : Packets
  Classes = numbered c.counts

  abbrev Below : ℕ → Type 0
  Below β = β < product c.counts

  -- the action names a field and a value of it that is alone in its class
  abbrev NamesOne : FieldAction → Type 0
  NamesOne a = (bad_field sizes (field_of a) (value_of a) ≡ false) × Alone c sizes a

  -- ---- the policy on classes is carried to the policy along any choice of values

  class_named : (f v : ℕ) → bad_field sizes f v ≡ false → c.class f v < get_or c.counts f 0
  class_named f v n = h.class_below f v (field_below sizes f v n) (value_below sizes f v n)

  module _ (s : ℕ → ℕ → ℕ) (choose : Chooses c sizes s) where
    abbrev Along : TraceSet Classes → TraceSet declared → Type 0
    Along A B = Carried Classes declared Below (chosen c s) A B

    -- v is a value of field f, and alone in its class
    module _ (f v : ℕ) (n : bad_field sizes f v ≡ false) (alone : (w : ℕ) → w < get_or sizes f 0 → c.class f w ≡ c.class f v → w ≡ v) where
      chosen_alone : (x : ℕ) → x < get_or c.counts f 0 → x ≡ c.class f v → s f x ≡ v
      chosen_alone x b e = let k = choose f x (field_below sizes f v n) b in alone (s f x) k.0 (k.1 ∙ e)

      same_has : (β : ℕ) → Below β → eqb (get_or (chosen c s β) f 0) v ≡ eqb (value_at c.counts f β) (c.class f v)
      same_has β b =
          let k = field_below sizes f v n in
          let x = value_at c.counts f β in
          let below = class_at_below c sizes h β b f k in
          rw (chosen_at c sizes h β b s f k)
          (same_tests (s f x) v x (c.class f v) (λ e. sym (choose f x k below).1 ∙ ap (c.class f) e) (chosen_alone x below))

      same_change : (β : ℕ) → Below β → set (chosen c s β) f v ≡ chosen c s (changed c.counts f (c.class f v) β)
      same_change β b =
          sym
          (ap (each_field s 0) (values_changed c.counts f (c.class f v) β (class_named f v n) b)
          ∙ field_set s (values_of c.counts β) f (c.class f v)
          ∙ ap (set (chosen c s β) f) (chosen_alone (c.class f v) (class_named f v n) refl))

    action_along : (a : FieldAction) → NamesOne a → Along (ActionTraces Classes (class_action c a)) (ActionTraces declared a)
    unfolding ActionTraces class_action field_of value_of Alone
    action_along (Equals f v) n =
        test_carried Classes declared Below (chosen c s) (Classes.has f (c.class f v)) (declared.has f v) (same_has f v n.0 n.1)
    action_along (Differs f v) n =
        test_carried Classes declared Below (chosen c s) (λ β. not (Classes.has f (c.class f v) β)) (λ α. not (declared.has f v α))
        (λ β b. ap not (same_has f v n.0 n.1 β b))
    action_along (Set f v) n =
        change_carried Classes declared Below (chosen c s) (Classes.change f (c.class f v)) (declared.change f v)
        (λ β b. changed_below c.counts f (c.class f v) β (class_named f v n.0) b) (same_change f v n.0 n.1)

    along : (p : Policy) → NamesAlone c sizes p → Along (Traces Classes (classed c p)) (Traces declared p)
    unfolding classed NamesAlone
    along p n =
        carried Classes declared Below (chosen c s) (class_action c) p
        (each_action_map NamesOne (λ a. Along (ActionTraces Classes (class_action c a)) (ActionTraces declared a)) action_along p n)

    apart : (β γ : ℕ) → Below β → Below γ → chosen c s β ≡ chosen c s γ → β ≡ γ
    apart β γ a b e = sym (class_of_chosen c sizes h β a s choose) ∙ ap (class_number c) e ∙ class_of_chosen c sizes h γ b s choose

    chosen_trace : (p : Policy) → NamesAlone c sizes p → (β : ℕ) → Below β → (u : List ℕ) → Each Below u
        → Traces declared p (chosen c s β) (map (chosen c s) u) ↔ Traces Classes (classed c p) β u
    chosen_trace p n = image_trace Classes declared Below (chosen c s) apart (along p n)

  -- ---- what holds of the policy on classes holds over declared packets

  -- the traces from a declared packet are the traces from its packet of classes, lifted along it
  pub lift_traces : (p : Policy) → NamesAlone c sizes p → (α : List ℕ) → Declared sizes α → (t : List (List ℕ))
      → Traces declared p α t ↔ ((u : List ℕ) × (t ≡ map (lifted c α) u) × Traces (numbered c.counts) (classed c p) (class_number c α) u)
  unfolding lifted
  lift_traces p n α d t =
      let carry = along (seen_from c α) (seen_chooses c sizes h α d) p n in
      subst (λ γ. Traces declared p γ t ↔ ((u : List ℕ) × (t ≡ map (lifted c α) u) × Traces Classes (classed c p) (class_number c α) u))
      (lifted_class c sizes h α d)
      (transport Classes declared Below (lifted c α) carry (class_number c α) (class_number_below c sizes h α d) t)

  pub lifted_trace : (p : Policy) → NamesAlone c sizes p → (α : List ℕ) → Declared sizes α → (u : List ℕ) → Each (λ β. β < product c.counts) u
      → Traces declared p α (map (lifted c α) u) ↔ Traces (numbered c.counts) (classed c p) (class_number c α) u
  unfolding lifted
  lifted_trace p n α d u e =
      subst (λ γ. Traces declared p γ (map (lifted c α) u) ↔ Traces Classes (classed c p) (class_number c α) u) (lifted_class c sizes h α d)
      (chosen_trace (seen_from c α) (seen_chooses c sizes h α d) p n (class_number c α) (class_number_below c sizes h α d) u e)

  pub shown_trace : (p : Policy) → NamesAlone c sizes p → (β : ℕ) → β < product c.counts → (u : List ℕ) → Each (λ γ. γ < product c.counts) u
      → Traces declared p (shown_packet c β) (map (shown_packet c) u) ↔ Traces (numbered c.counts) (classed c p) β u
  unfolding shown_packet
  shown_trace = chosen_trace c.shown (shown_chooses c sizes h)

  -- the same traces of m packets or fewer
  pub short_classed : (m : ℕ) (p q : Policy) → NamesAlone c sizes p → NamesAlone c sizes q
      → SameShortTracesBelow c.counts m (classed c p) (classed c q) ↔ SameShortTraces declared (Declared sizes) m p q
  unfolding SameShortTracesBelow SameShortTraces lifted shown_packet
  short_classed m p q i j = (
    λ same α d.
        let carry = along (seen_from c α) (seen_chooses c sizes h α d) in
        short_image Classes declared Below (lifted c α) m (classed c p) (classed c q) p q (carry p i) (carry q j) same α
        (class_number c α, class_number_below c sizes h α d, sym (lifted_class c sizes h α d)),
    λ same.
        let choose = shown_chooses c sizes h in
        let carry = along c.shown choose in
        short_source Classes declared Below (shown_packet c) (apart c.shown choose) m (classed c p) (classed c q) p q (carry p i) (carry q j)
        (λ α d. same α (subst (Declared sizes) (sym d.2) (shown_declared c sizes h d.0 d.1))),
  )

  -- and of any length
  pub same_classed : (p q : Policy) → NamesAlone c sizes p → NamesAlone c sizes q
      → SameTracesBelow c.counts (classed c p) (classed c q) ↔ SameTraces declared (Declared sizes) p q
  unfolding SameTracesBelow SameShortTracesBelow
  same_classed p q i j =
      let short = same_each_length Classes Below (classed c p) (classed c q) in
      let long = same_each_length declared (Declared sizes) p q in
      (λ k. long.1 (λ m. (short_classed m p q i j).0 (short.0 k m)), λ k. short.1 (λ m. (short_classed m p q i j).1 (long.0 k m)))

  -- a trace that tells the policies on classes apart tells the policies apart over declared packets
  module _ (p q : Policy) (i : NamesAlone c sizes p) (j : NamesAlone c sizes q) (β : ℕ) (t : List ℕ) (k : Tells (numbered c.counts) (λ γ. γ < product c.counts) (classed c p) (classed c q) β t) where
    stay : Each (λ γ. γ < product c.counts) t
    stay = (along c.shown (shown_chooses c sizes h) p i).stays β k.enters t k.has

    -- from any packet, for a trace that is as long
    shorter : (n : ℕ) → n ≡ length t → (α : List ℕ) → Declared sizes α → (s : List (List ℕ)) → length s < n → Traces declared p α s ↔ Traces declared q α s
    unfolding SameShortTracesBelow SameShortTraces
    shorter n e α d s less = (short_classed (length s) p q i j).0 (λ γ g u few. k.shortest γ g u (omega arith)) α d s (omega arith)

    as_shown : Tells declared (Declared sizes) p q (shown_packet c β) (map (shown_packet c) t)
    as_shown = record {
      enters = shown_declared c sizes h β k.enters;
      has = (shown_trace p i β k.enters t stay).1 k.has;
      lacks = λ l. k.lacks ((shown_trace q j β k.enters t stay).0 l);
      shortest = shorter _ (length-map t (shown_packet c));
    }

    as_lifted : (α : List ℕ) → Declared sizes α → class_number c α ≡ β → Tells declared (Declared sizes) p q α (map (lifted c α) t)
    as_lifted α d e = record {
      enters = d;
      has = (lifted_trace p i α d t stay).1 (subst (λ γ. Traces (numbered c.counts) (classed c p) γ t) (sym e) k.has);
      lacks = λ l. k.lacks (subst (λ γ. Traces (numbered c.counts) (classed c q) γ t) e ((lifted_trace q j α d t stay).0 l));
      shortest = shorter _ (length-map t (lifted c α));
    }

    pub tells_classed : TellsOver c sizes p q β t
    unfolding Each
    tells_classed = record { inside = (k.enters, stay); shown = as_shown; along = as_lifted }
