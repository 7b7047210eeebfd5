-- A call's two policies over the core sizes and over declared packets: what holds of the one holds of the other. Assumes nothing.
use Prim.Native.Nat.{ℕ, ◌<◌}
use mathlib.Core.List.{List, [], ◌∷◌, map}
use mathlib.Core.Logic.{◌↔◌}
use mathlib.Core.Path.{◌≡◌, subst}
use Rattle.packet.specs.Refusals.{Tested}
use Rattle.packet.specs.Sizes.{product}
use Rattle.packet.specs.Packets.{Declared}
use Rattle.packet.proofs.Legal.{LegalFields, fields_legal}
use Rattle.fields.specs.Tables.{Table, joint_sizes}
use Rattle.fields.proofs.TableLaws.{tables_legal}
use Rattle.policy.specs.InnerEach.{Each}
use Rattle.policy.specs.Legality.{Legal}
use Rattle.policy.specs.Meaning.{declared, numbered, Traces, SameTraces, SameShortTraces, SameTracesBelow, SameShortTracesBelow, Tells}
use Rattle.policy.specs.NodeLists.{NodeLists, policy_of}
use Rattle.policy.specs.Order.{pair_of, pair_core}
use Rattle.policy.specs.Tree.{Policy}
use Rattle.policy.proofs.MentionLaws.{Covers, covers_each, policy_mentions}
use Rattle.policy.proofs.OrderLaws.{Passing, policies_declared}
use Rattle.policy.proofs.Trees.{policy_fields}
use Rattle.classes.specs.Classing.{class_number, shown_packet, lifted, classed, Faithful, NamesAlone, TellsOver}
use Rattle.classes.specs.Mentioned.{pair_classes}
use Rattle.classes.proofs.Lifting as lifting
use Rattle.classes.proofs.ClassTraces.{lifted_trace, shown_trace, short_classed, same_classed, tells_classed}
use Rattle.classes.proofs.Mentioned.{mention_faithful, mention_alone, mention_classed}

module _ (ts : List Table) (L R : NodeLists) where
  -- fields and policies as the causes before 3 leave them
  pub record LegalPair : Type 0 where
    pub fields : LegalFields (joint_sizes ts)
    pub left : Legal (joint_sizes ts) L
    pub right : Legal (joint_sizes ts) R

  pub passing_pair : (texts lists packets : Tested) → Passing ts texts (pair_of L R) lists packets → LegalPair
  unfolding Each
  passing_pair texts lists packets h =
      let g = policies_declared ts texts (pair_of L R) lists packets h in
      record { fields = fields_legal (joint_sizes ts) (tables_legal ts h.fields); left = g.0; right = g.1.0 }

  -- the policy names values that are alone in their classes, and is the same on classes
  pub record OnClasses (p : Policy) : Type 0 where
    pub alone : NamesAlone (pair_classes ts L R) (joint_sizes ts) p
    pub same : classed (pair_classes ts L R) p ≡ p

  module _ (g : LegalPair) where
    faithful : Faithful (pair_classes ts L R) (joint_sizes ts)
    faithful = mention_faithful (L ∷ R ∷ []) (joint_sizes ts) g.fields.positive

    -- the packet shown is a declared one
    pub packet_declared : (α : ℕ) → α < product (pair_core ts L R) → Declared (joint_sizes ts) (shown_packet (pair_classes ts L R) α)
    packet_declared = lifting.shown_declared (pair_classes ts L R) (joint_sizes ts) faithful

    named : (M : NodeLists) → Covers (L ∷ R ∷ []) M → Legal (joint_sizes ts) M → OnClasses (policy_of M)
    named M covers legal =
        let mentions = policy_mentions (L ∷ R ∷ []) M covers legal in
        record { alone = mention_alone (L ∷ R ∷ []) (joint_sizes ts) (policy_of M) (policy_fields legal) mentions; same = mention_classed (L ∷ R ∷ []) (joint_sizes ts) (policy_of M) mentions }

    pub left_named : OnClasses (policy_of L)
    unfolding Each
    left_named = named L (covers_each (L ∷ R ∷ [])).0 g.left

    pub right_named : OnClasses (policy_of R)
    unfolding Each
    right_named = named R (covers_each (L ∷ R ∷ [])).1.0 g.right

    module _ (p q : Policy) (n : OnClasses p) (m : OnClasses q) where
      -- what is said of the policies on classes is said of the policies
      themselves : (H : Policy → Policy → Type 0) → H (classed (pair_classes ts L R) p) (classed (pair_classes ts L R) q) → H p q
      themselves H h = subst (λ (x : Policy). H x q) n.same (subst (H (classed (pair_classes ts L R) p)) m.same h)

      -- the same traces over the core sizes exactly when from every declared packet
      pub same_declared : SameTracesBelow (pair_core ts L R) p q ↔ SameTraces declared (Declared (joint_sizes ts)) p q
      same_declared =
          themselves (λ x y. SameTracesBelow (pair_core ts L R) x y ↔ SameTraces declared (Declared (joint_sizes ts)) p q)
          (same_classed (pair_classes ts L R) (joint_sizes ts) faithful p q n.alone m.alone)

      pub short_declared : (d : ℕ) → SameShortTracesBelow (pair_core ts L R) d p q ↔ SameShortTraces declared (Declared (joint_sizes ts)) d p q
      short_declared d =
          themselves (λ x y. SameShortTracesBelow (pair_core ts L R) d x y ↔ SameShortTraces declared (Declared (joint_sizes ts)) d p q)
          (short_classed (pair_classes ts L R) (joint_sizes ts) faithful d p q n.alone m.alone)

      -- a telling trace tells over declared packets
      pub tells_declared : (α : ℕ) (trace : List ℕ) → Tells (numbered (pair_core ts L R)) (λ β. β < product (pair_core ts L R)) p q α trace → TellsOver (pair_classes ts L R) (joint_sizes ts) p q α trace
      tells_declared α trace =
          themselves (λ x y. Tells (numbered (pair_core ts L R)) (λ β. β < product (pair_core ts L R)) x y α trace → TellsOver (pair_classes ts L R) (joint_sizes ts) p q α trace)
          (tells_classed (pair_classes ts L R) (joint_sizes ts) faithful p q n.alone m.alone α trace)

    module _ (p : Policy) (n : OnClasses p) (trace : List ℕ) (inside : Each (λ β. β < product (pair_core ts L R)) trace) where
      -- a trace from the packet shown
      pub shown_traced : (α : ℕ) → α < product (pair_core ts L R)
          → Traces declared p (shown_packet (pair_classes ts L R) α) (map (shown_packet (pair_classes ts L R)) trace) ↔ Traces (numbered (pair_core ts L R)) p α trace
      shown_traced α h =
          subst (λ (x : Policy). Traces declared p (shown_packet (pair_classes ts L R) α) (map (shown_packet (pair_classes ts L R)) trace) ↔ Traces (numbered (pair_core ts L R)) x α trace) n.same
          (shown_trace (pair_classes ts L R) (joint_sizes ts) faithful p n.alone α h trace inside)

      -- and from any declared packet of the same classes
      pub lifted_traced : (α : List ℕ) → Declared (joint_sizes ts) α
          → Traces declared p α (map (lifted (pair_classes ts L R) α) trace) ↔ Traces (numbered (pair_core ts L R)) p (class_number (pair_classes ts L R) α) trace
      lifted_traced α d =
          subst (λ (x : Policy). Traces declared p α (map (lifted (pair_classes ts L R) α) trace) ↔ Traces (numbered (pair_core ts L R)) x (class_number (pair_classes ts L R) α) trace) n.same
          (lifted_trace (pair_classes ts L R) (joint_sizes ts) faithful p n.alone α d trace inside)
