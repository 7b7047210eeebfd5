-- One remainder after another, over the lists.
use Prim.Native.Nat.{ℕ, pred, ◌≤◌, ◌<◌}
use mathlib.Core.Bool.{false, ◌||◌}
use mathlib.Core.List.{List}
use mathlib.Core.Path.{◌≡◌, sym, ap, ◌∙◌, subst}
use native.Mathlib.Omega.{arith}
use lib.Dec.{T, eqb, eqb→eq, eqb_refl}
use lib.ListN.{length, get_or}
use Rattle.packet_set.specs.Bits.{mask_bits}
use Rattle.packet.specs.Sizes.{product}
use Rattle.policy.specs.declared.Node.{Node}
use Rattle.policy.specs.declared.Node.TheVariants.{Seq, Star}
use Rattle.policy.specs.NodeLists.{NodeLists, node_count, node_at, children}
use Rattle.packet_set.specs.InnerMembers.{member, empty_set, with_packet}
use Rattle.packet_set.proofs.Words.{member_empty, member_with}
use Rattle.spans.specs.Spans.{slot, has_mark, Spanned, Holds}
use Rattle.loaded.specs.Nodes.{node_in, up_in, read_at, up_at, place_at}
use Rattle.loaded.specs.Loaded.{Enterable, Enters, DupAt}
use Rattle.engine.specs.Going.{Recorded, Through, ThroughLists, VisitReady}
use Rattle.engine.specs.Visiting.{onward, Sent}
use Rattle.engine.specs.Stepping.{Stands, RemainderStepped}
use Rattle.engine.proofs.Parts.{root_inside, two_kids}
use Rattle.engine.proofs.Climbing.{Climbing, Joint, seq_joint, star_joint, Above, climbing_start, climbing_next, climbing_seq, climbing_star}
use Rattle.engine.proofs.Steps.{placed_at, steps_idle, steps_whole, steps_after, steps_lost}
use Rattle.engine.proofs.Records.{empty_span, records_none, records_then}

-- ---- one packet

module _ {sizes : List ℕ} {L : NodeLists} {nodes tests : List ℕ} {β : ℕ} (st : Stands sizes L nodes tests β) where
  pub packet_small : β < 1024
  packet_small = let h = st.legal_sizes.small in let g = st.packet in omega arith

  module _ {set : List ℕ} (e : set ≡ with_packet empty_set β) where
    single : (γ : ℕ) → member set γ ≡ (false || eqb γ β)
    unfolding empty_set
    single γ = ap (λ s. member s γ) e ∙ member_with empty_set β γ (let h = packet_small in omega arith) ∙ ap (λ b. b || eqb γ β) (member_empty γ)

    single_has : T (member set β)
    single_has = subst T (sym (single β)) (eqb_refl β)

    single_only : (γ : ℕ) → T (member set γ) → γ ≡ β
    single_only γ t = eqb→eq γ β (subst T (single γ) t)

    single_below : (γ : ℕ) → T (member set γ) → γ < product sizes
    single_below γ t = subst (λ x. x < product sizes) (sym (single_only γ t)) st.packet

    -- the whole policy may be entered
    pub root_ready : {root f t : ℕ} {work : List ℕ} → root ≡ get_or nodes 512 0 → Spanned f t set → 16384 ≤ length work → VisitReady sizes L nodes tests root f t set work
    unfolding place_at
    root_ready {root} q s l =
        let r : root ≡ pred (node_count L) = q ∙ st.loaded.whole in
        record {
          legal_sizes = st.legal_sizes;
          legal = st.legal;
          loaded = st.loaded;
          node = subst (λ x. x < node_count L) (sym r) (root_inside st.legal);
          enterable = subst (Enterable sizes L nodes tests) (sym r) st.loaded.root;
          below = single_below;
          spanned = s;
          long = l;
        }

  pub root_fits : get_or nodes 512 0 < 512
  unfolding place_at
  root_fits = let h = root_inside st.legal in let k = st.legal.well_formed.few in let e = st.loaded.whole in omega arith

-- the whole policy has been stepped
pub whole_followed : {sizes nodes tests : List ℕ} {β root f t f' t' f'' t'' : ℕ} {set work seen next set' work' seen' next' out out' : List ℕ} → (L : NodeLists) → Stands sizes L nodes tests β
    → set ≡ with_packet empty_set β → root ≡ get_or nodes 512 0 → Spanned f t set → 16384 ≤ length work → Sent sizes nodes tests root f t set work seen next f' t' set' work' seen' next'
    → Holds f'' t'' out' (λ γ. member out γ || member set' γ) → RemainderStepped sizes nodes tests 0 β out work seen next f'' t'' out' work' seen' next'
unfolding place_at
whole_followed {sizes} {nodes} {tests} {set} {work} {next} {set'} {work'} {next'} {out'} L st e q s l h all =
    record {
      spanned = all.spanned;
      recorded = (h.sent L (root_ready st e q s l)).recorded;
      followed = λ M sm R₀ D₀ marks steps marked.
          steps_whole sm.loaded sm.legal steps marked
          (subst (λ r. Through sizes M nodes tests r (member set) (slot work) (has_mark next) (member set') (slot work') (has_mark next')) (q ∙ sm.loaded.whole) (h.sent M (root_ready sm e q s l)).through)
          (single_has sm e) (single_only sm e) (member out') all.members;
    }

-- ---- the way up from a dup

module _ (sizes nodes tests : List ℕ) (i d β : ℕ) (work₀ seen₀ next₀ : List ℕ) where
  -- the set comes out of node n
  pub record ClimbingLists (n : ℕ) (set work seen next : List ℕ) (f t : ℕ) : Type 0 where
    pub spanned : Spanned f t set
    pub climbing : (L : NodeLists) → Stands sizes L nodes tests β → Climbing sizes L nodes tests d β (slot work₀) (has_mark next₀) n (member set) (slot work) (has_mark next)
    pub recorded : Recorded sizes work₀ seen₀ next₀ work seen next

module _ {sizes nodes tests : List ℕ} {i d β : ℕ} where
  dup_at : {L : NodeLists} → Stands sizes L nodes tests β → 0 < i → i < mask_bits → d ≡ place_at nodes i → (d ≡ 512 → ⊥) → DupAt L i d
  dup_at {L} st p b e z = subst (DupAt L i) (sym e) (placed_at st.loaded st.legal i p b (λ q. z (e ∙ q)))

module _ {sizes nodes tests : List ℕ} {i d β : ℕ} {work₀ seen₀ next₀ : List ℕ} where
  pub climb_start : 0 < i → i < mask_bits → d ≡ place_at nodes i → (d ≡ 512 → ⊥) → {set : List ℕ} {f t : ℕ} → set ≡ with_packet empty_set β → Spanned f t set
      → ClimbingLists sizes nodes tests i d β work₀ seen₀ next₀ d set work₀ seen₀ next₀ f t
  climb_start p b e z {set} q s =
      record {
        spanned = s;
        climbing = λ L st. climbing_start st.loaded st.legal (dup_at st p b e z) β st.packet (member set) (single_has st q) (single_only st q) (slot work₀) (has_mark next₀);
        recorded = records_none;
      }

  module _ {n : ℕ} {set work seen next : List ℕ} {f t : ℕ} (cl : ClimbingLists sizes nodes tests i d β work₀ seen₀ next₀ n set work seen next f t) where
    module _ {L : NodeLists} (st : Stands sizes L nodes tests β) where
      module _ {above : ℕ} (e : above ≡ up_in (get_or nodes n 0)) (z : above ≡ 512 → ⊥) where
        up_is : up_at nodes n ≡ above
        unfolding up_at
        up_is = sym e

        next_up : Above L nodes n above
        next_up = climbing_next st.loaded st.legal (cl.climbing L st) above up_is z

        pub above_small : (n < above) × (above < 512)
        above_small = let h = next_up.inside in let k = st.legal.well_formed.few in (next_up.above, omega arith)

        -- the node at which the set goes on
        module _ {node : Node} {target : ℕ} (en : node ≡ node_in (get_or nodes above 0)) (et : target ≡ onward node above) where
          is_node : node ≡ node_at L above
          unfolding read_at
          is_node = en ∙ st.loaded.node above next_up.inside

          ready_at : (m : ℕ) → m < node_count L → Enterable sizes L nodes tests m → 16384 ≤ length work → VisitReady sizes L nodes tests m f t set work
          ready_at m l ok long =
              record {
                legal_sizes = st.legal_sizes;
                legal = st.legal;
                loaded = st.loaded;
                node = l;
                enterable = ok;
                below = (cl.climbing L st).below;
                spanned = cl.spanned;
                long = long;
              }

          target_is : (k : Node) → node_at L above ≡ k → target ≡ onward k above
          target_is k q = et ∙ ap (λ x. onward x above) (is_node ∙ q)

          pub climb_ready : 16384 ≤ length work → VisitReady sizes L nodes tests target f t set work
          unfolding onward Enters Enterable children
          climb_ready long = go next_up.joint
            where
              go : Joint L above → VisitReady sizes L nodes tests target f t set work
              go (seq_joint x y q) =
                  let k = two_kids st.legal above x y next_up.inside (ap children q) in
                  let ok = (subst (Enters sizes L nodes tests) q (st.loaded.moving above next_up.inside next_up.moves).enters).1 in
                  rw (target_is (Seq x y) q) (ready_at y (let h = next_up.inside in omega arith) ok long)
              go (star_joint c q) =
                  rw (target_is (Star c) q) (ready_at above next_up.inside (λ h. absurd (subst T next_up.moves h)) long)

          climb_more : {f' t' : ℕ} {set' work' seen' next' : List ℕ} → ThroughLists sizes L nodes tests target set work seen next f' t' set' work' seen' next'
              → Climbing sizes L nodes tests d β (slot work₀) (has_mark next₀) above (member set') (slot work') (has_mark next')
          unfolding onward
          climb_more {set' = set'} {work'} {seen'} {next'} th = go next_up.joint
            where
              at : (m : ℕ) → target ≡ m → Through sizes L nodes tests m (member set) (slot work) (has_mark next) (member set') (slot work') (has_mark next')
              at m q = subst (λ r. Through sizes L nodes tests r (member set) (slot work) (has_mark next) (member set') (slot work') (has_mark next')) q th.through

              go : Joint L above → Climbing sizes L nodes tests d β (slot work₀) (has_mark next₀) above (member set') (slot work') (has_mark next')
              go (seq_joint x y q) = climbing_seq st.loaded st.legal (cl.climbing L st) above up_is next_up.inside next_up.moves x y q (at y (target_is (Seq x y) q))
              go (star_joint c q) = climbing_star st.loaded st.legal (cl.climbing L st) above up_is next_up.inside next_up.moves c q (at above (target_is (Star c) q))

    -- the set has gone on at the node above
    pub climb_on : {above : ℕ} → above ≡ up_in (get_or nodes n 0) → (above ≡ 512 → ⊥) → {node : Node} {target : ℕ} → node ≡ node_in (get_or nodes above 0) → target ≡ onward node above
        → 16384 ≤ length work → (L : NodeLists) → Stands sizes L nodes tests β → {f' t' : ℕ} {set' work' seen' next' : List ℕ} → Sent sizes nodes tests target f t set work seen next f' t' set' work' seen' next'
        → ClimbingLists sizes nodes tests i d β work₀ seen₀ next₀ above set' work' seen' next' f' t'
    climb_on e z en et long L st h =
        record {
          spanned = (h.sent L (climb_ready st e z en et long)).spanned;
          climbing = λ M sm. climb_more sm e z en et (h.sent M (climb_ready sm e z en et long));
          recorded = records_then cl.recorded (h.sent L (climb_ready st e z en et long)).recorded;
        }

    -- it has come out of the root
    pub climb_out : 0 < i → i < mask_bits → (q : d ≡ place_at nodes i) → (d ≡ 512 → ⊥) → {above : ℕ} → above ≡ up_in (get_or nodes n 0) → above ≡ 512
        → {out out' : List ℕ} {f' t' : ℕ} → Holds f' t' out' (λ γ. member out γ || member set γ) → RemainderStepped sizes nodes tests i β out work₀ seen₀ next₀ f' t' out' work seen next
    unfolding up_at
    climb_out p b q z e u {out} {out'} h =
        record {
          spanned = h.spanned;
          recorded = cl.recorded;
          followed = λ L st R₀ D₀ marks steps marked.
              steps_after st.loaded st.legal steps p (subst (DupAt L i) q (dup_at st p b q z)) marked
              (subst (λ x. Climbing sizes L nodes tests x β (slot work₀) (has_mark next₀) n (member set) (slot work) (has_mark next)) q (cl.climbing L st)) (λ γ t. sym e ∙ u) (member out') h.members;
        }

    -- nothing is left on the way
    pub climb_lost : 0 < i → i < mask_bits → (q : d ≡ place_at nodes i) → (d ≡ 512 → ⊥) → t ≤ f → {out : List ℕ} {f' t' : ℕ} → Spanned f' t' out → RemainderStepped sizes nodes tests i β out work₀ seen₀ next₀ f' t' out work seen next
    climb_lost p b q z l s =
        record {
          spanned = s;
          recorded = cl.recorded;
          followed = λ L st R₀ D₀ marks steps marked.
              steps_lost st.loaded st.legal steps p (subst (DupAt L i) q (dup_at st p b q z)) marked
              (subst (λ x. Climbing sizes L nodes tests x β (slot work₀) (has_mark next₀) n (member set) (slot work) (has_mark next)) q (cl.climbing L st)) (empty_span cl.spanned l);
        }

-- there is no such dup
pub absent_steps : {sizes nodes tests : List ℕ} {i β : ℕ} → place_at nodes i ≡ 512 → {out work seen next : List ℕ} {f t : ℕ} → Spanned f t out → RemainderStepped sizes nodes tests i β out work seen next f t out work seen next
absent_steps e s = record { spanned = s; recorded = records_none; followed = λ L st R₀ D₀ marks steps marked. steps_idle st.loaded st.legal steps (λ _. e) }

pub single_spanned : (β : ℕ) {f t : ℕ} {set : List ℕ} → set ≡ with_packet empty_set β → Spanned f t (with_packet empty_set β) → Spanned f t set
single_spanned β {f} {t} e s = subst (Spanned f t) (sym e) s

pub same_spanned : {f t : ℕ} {a b : List ℕ} → a ≡ b → Spanned f t b → Spanned f t a
same_spanned {f} {t} e s = subst (Spanned f t) (sym e) s

pub same_followed : {sizes nodes tests : List ℕ} {i β f t : ℕ} {a b w s x a' w' s' x' : List ℕ} → a ≡ b → RemainderStepped sizes nodes tests i β a w s x f t a' w' s' x' → RemainderStepped sizes nodes tests i β b w s x f t a' w' s' x'
same_followed {sizes} {nodes} {tests} {i} {β} {f} {t} {w = w} {s} {x} {a'} {w'} {s'} {x'} e h = subst (λ z. RemainderStepped sizes nodes tests i β z w s x f t a' w' s' x') e h

pub zero_followed : {sizes nodes tests : List ℕ} {i β f t : ℕ} {a w s x a' w' s' x' : List ℕ} → i ≡ 0 → RemainderStepped sizes nodes tests 0 β a w s x f t a' w' s' x' → RemainderStepped sizes nodes tests i β a w s x f t a' w' s' x'
zero_followed {sizes} {nodes} {tests} {β = β} {f} {t} {a} {w} {s} {x} {a'} {w'} {s'} {x'} e h = subst (λ z. RemainderStepped sizes nodes tests z β a w s x f t a' w' s' x') (sym e) h
