-- Each way out of a visit, over the lists.
use Prim.Native.Nat.{ℕ, suc, ◌≤◌, ◌<◌}
use mathlib.Core.Bool.{Bool, true, false, ◌&&◌, ◌||◌, not, or-false}
use mathlib.Core.List.{List, []}
use mathlib.Core.Logic.{◌⊎◌, inl, inr}
use mathlib.Core.Path.{◌≡◌, refl, sym, ap, ◌∙◌, subst}
use native.Mathlib.Omega.{arith}
use lib.Dec.{T, eqb}
use lib.ListN.{length, get_or}
use Rattle.packet_set.specs.Bits.{mask_bits}
use Rattle.packet.specs.Sizes.{product}
use Rattle.policy.specs.declared.FieldAction.{FieldAction}
use Rattle.policy.specs.declared.FieldAction.TheVariants.{Equals, Differs, Set}
use Rattle.policy.specs.declared.Node.{Node}
use Rattle.policy.specs.declared.Node.TheVariants.{Drop, Id, Field, Dup, Sum, Seq, Star, Neg}
use Rattle.policy.specs.Legality.{InFields, bad_field, field_of, value_of}
use Rattle.policy.specs.InnerEach.{Each}
use Rattle.policy.specs.NodeLists.{NodeLists, node_count, node_at, dups_below, children, grow, tree_of}
use Rattle.policy.proofs.LabelLaws.{dups_more}
use Rattle.policy.proofs.Trees.{children_below, tree_fields}
use Rattle.packet_set.specs.InnerMembers.{member, empty_set}
use Rattle.packet_set.proofs.Words.{member_empty}
use Rattle.automaton.proofs.Tests.{both, either, eqb_true}
use Rattle.spans.proofs.Sets.{no_packet}
use Rattle.spans.specs.Spans.{slot, has_mark, Spanned, Holds, Noted, GotMark}
use Rattle.changes.specs.Changes.{Changing}
use Rattle.loaded.specs.Nodes.{set_in, tests_in, label_in, slot_in, node_in, read_at, tests_at, guard_at}
use Rattle.loaded.specs.Loaded.{Enterable, Enters, Moves, Moving}
use Rattle.engine.specs.Going.{Recorded, ThroughLists, VisitReady}
use Rattle.engine.specs.Visiting.{Admitted, EnteredLists, Acted, Sent}
use Rattle.engine.proofs.Parts.{tree_at}
use Rattle.engine.proofs.Entries.{Entered, entered_plain, entered_slot}
use Rattle.engine.proofs.Throughs.{through_none, through_empty, through_known, through_tests, through_change, through_dup, through_sum, through_seq, through_below}
use Rattle.engine.proofs.Rounds.{Turning, turning_start, turning_more, turning_end, turning_below}
use Rattle.engine.proofs.Records.{slot_small, empty_span, records_none, records_then, records_note, records_mark, missing, missing_lt}

never_drop : Moves Drop → ⊥
unfolding Moves
never_drop h = h

never_neg : (c : ℕ) → Moves (Neg c) → ⊥
unfolding Moves
never_neg c h = h

never_id : Moves Id → ⊥
unfolding Moves
never_id h = h

pub long_still : {k m : ℕ} → 16384 ≤ m → k ≡ m → 16384 ≤ k
long_still l e = subst (λ k. 16384 ≤ k) (sym e) l

pub not_true : (b : Bool) → not b ≡ true → b ≡ false
not_true true e = sym e
not_true false e = refl

pub not_false : (b : Bool) → not b ≡ false → b ≡ true
not_false true e = refl
not_false false e = sym e

pub sent_spanned : {sizes nodes tests : List ℕ} {n from to : ℕ} {set work seen next : List ℕ} {f t : ℕ} {set' work' seen' next' : List ℕ}
    → Sent sizes nodes tests n from to set work seen next f t set' work' seen' next' → (L : NodeLists) → VisitReady sizes L nodes tests n from to set work → Spanned f t set'
sent_spanned h L rd = (h.sent L rd).spanned

-- a node that is not tests alone has been entered: what goes on, and what is recorded
pub record EntryLists (sizes : List ℕ) (L : NodeLists) (nodes tests : List ℕ) (n from to : ℕ) (set work seen set₂ work₁ seen₁ : List ℕ) : Type 0 where
  pub entered : Entered nodes tests n (member set) (slot work) (member set₂) (slot work₁)
  pub spanned : Spanned from to set₂
  pub recorded : (next : List ℕ) → Recorded sizes work seen next work₁ seen₁ next
  pub moves : tests_at nodes n ≡ false

module _ {sizes nodes tests : List ℕ} {n from to : ℕ} {set work : List ℕ} (L : NodeLists) (rd : VisitReady sizes L nodes tests n from to set work) where
  pub node_small : n < 512
  node_small = let h = rd.legal.well_formed.few in let g = rd.node in omega arith

  -- the node that a visit reads
  pub node_is : {d r : Node} → r ≡ node_in (get_or nodes n 0) → r ≡ d → node_at L n ≡ d
  unfolding read_at
  node_is e q = sym (rd.loaded.node n rd.node) ∙ sym e ∙ q

  -- what the guard lets in
  module _ {k : ℕ} (ek : k ≡ set_in (get_or nodes n 0)) {some : Bool} {set₁ : List ℕ} (ad : Admitted tests k from to set some set₁) where
    cut : (γ : ℕ) → member set₁ γ ≡ (member set γ && guard_at nodes tests n γ)
    unfolding guard_at
    cut γ = ad.kept.members γ ∙ ap (λ j. member set γ && (eqb j 0 || slot tests j γ)) ek

    -- it lets in nothing
    pub leave_blocked : some ≡ false → (seen next : List ℕ) → ThroughLists sizes L nodes tests n set work seen next 0 0 set₁ work seen next
    leave_blocked e seen next =
        record {
          through = through_none n (member set) (slot work) (has_mark next) (member set₁) (λ γ. sym (cut γ) ∙ none γ) none;
          spanned = ad.none e;
          recorded = records_none;
        }
      where
        none : (γ : ℕ) → member set₁ γ ≡ false
        none = empty_span (ad.none e) (omega arith)

    -- the node is tests alone
    pub leave_tests : tests_in (get_or nodes n 0) ≡ true → (seen next : List ℕ) → ThroughLists sizes L nodes tests n set work seen next from to set₁ work seen next
    unfolding tests_at Enterable
    leave_tests e seen next =
        record {
          through = through_tests n (member set) (slot work) (has_mark next) (member set₁) (rd.enterable (subst T (sym e) tt)) rd.below cut;
          spanned = ad.kept.spanned;
          recorded = records_none;
        }

    -- any other node is entered
    module _ {keeps : Bool} (es : keeps ≡ slot_in (get_or nodes n 0)) {more : Bool} {seen set₂ work₁ seen₁ : List ℕ} (en : EnteredLists keeps n from to set₁ work seen more set₂ work₁ seen₁) (ts : tests_in (get_or nodes n 0) ≡ false) (long : length work₁ ≡ length work) where
      pub entry : EntryLists sizes L nodes tests n from to set work seen set₂ work₁ seen₁
      unfolding tests_at
      entry = go keeps refl
        where
          go : (b : Bool) → keeps ≡ b → EntryLists sizes L nodes tests n from to set work seen set₂ work₁ seen₁
          go true e =
              let h = en.slotted e in
              record {
                entered = entered_slot nodes tests n (member set) (slot work) (member set₁) (member set₂) (slot work₁) cut h.slots h.new.members;
                spanned = en.spanned;
                recorded = λ next. records_note h long;
                moves = ts;
              }
          go false e =
              let p = en.plain e in
              record {
                entered = rw (p.0, p.1) (entered_plain nodes tests n (member set) (slot work) (member set₁) (sym es ∙ e) cut);
                spanned = en.spanned;
                recorded = λ next. rw (p.1, p.2) records_none;
                moves = ts;
              }

  module _ {seen set₂ work₁ seen₁ : List ℕ} (en : EntryLists sizes L nodes tests n from to set work seen set₂ work₁ seen₁) where
    moving : Moving sizes L nodes tests n
    moving = rd.loaded.moving n rd.node en.moves

    -- what goes on is below N
    pub entry_below : (γ : ℕ) → T (member set₂ γ) → γ < product sizes
    entry_below γ t = rd.below γ (en.entered.within γ t)

    entry_long : 16384 ≤ length work₁
    entry_long = long_still rd.long (en.recorded []).work_long

    -- nothing is new
    pub leave_known : Spanned 0 0 set₂ → (next : List ℕ) → ThroughLists sizes L nodes tests n set work seen next 0 0 set₂ work₁ seen₁ next
    leave_known s next =
        record {
          through = through_known en.entered (has_mark next) (member set₂) (empty_span s (omega arith)) (empty_span s (omega arith));
          spanned = s;
          recorded = en.recorded next;
        }

    -- a node that is tests alone does not come here
    leave_never : (d : Node) → node_at L n ≡ d → (Moves d → ⊥) → {A : Type 0} → A
    leave_never d e not_so = absurd (not_so (subst Moves e moving.moves))

    -- ⊥, ⊤ and negations are tests alone
    pub leave_idle : {r : Node} → r ≡ node_in (get_or nodes n 0) → (r ≡ Drop) ⊎ ((r ≡ Id) ⊎ ((c : ℕ) × (r ≡ Neg c))) → {A : Type 0} → A
    leave_idle q (inl e) = leave_never Drop (node_is q e) never_drop
    leave_idle q (inr (inl e)) = leave_never Id (node_is q e) never_id
    leave_idle q (inr (inr e)) = leave_never (Neg e.0) (node_is q e.1) (never_neg e.0)

    module _ (a : FieldAction) (e : node_at L n ≡ Field a) where
      acts_in : bad_field sizes (field_of a) (value_of a) ≡ false
      unfolding InFields grow tree_of
      acts_in = subst (InFields sizes) (tree_at rd.legal n rd.node (Field a) e) (tree_fields rd.legal.well_formed (suc n) n (omega arith) rd.node)

      pub acts_changing : Changing sizes (field_of a) (value_of a) from to set₂
      acts_changing = record { legal = rd.legal_sizes; is_in_field = acts_in; spanned = en.spanned; below = entry_below }

      pub leave_change : {f t : ℕ} {set₃ : List ℕ} → Acted sizes a set₂ f t set₃ → (next : List ℕ) → ThroughLists sizes L nodes tests n set work seen next f t set₃ work₁ seen₁ next
      unfolding Moves
      leave_change {f} {t} {set₃} ac next = go a refl
        where
          go : (b : FieldAction) → a ≡ b → ThroughLists sizes L nodes tests n set work seen next f t set₃ work₁ seen₁ next
          go (Equals g v) q = leave_never (Field (Equals g v)) (e ∙ ap Field q) (λ h. h)
          go (Differs g v) q = leave_never (Field (Differs g v)) (e ∙ ap Field q) (λ h. h)
          go (Set g v) q =
              let c = ac.changes g v q in
              record {
                through = through_change rd.loaded rd.legal rd.node en.entered g v (e ∙ ap Field q) (has_mark next) (member set₃) c.all c.only;
                spanned = c.spanned;
                recorded = en.recorded next;
              }

    module _ (e : node_at L n ≡ Dup) {label : ℕ} (el : label ≡ label_in (get_or nodes n 0)) where
      is_label : label ≡ dups_below L (suc n)
      is_label = el ∙ moving.label e

      pub label_small : label < mask_bits
      label_small = subst (λ k. k < mask_bits) (sym is_label) (let h = rd.legal.well_formed.dups in let g = dups_more L (suc n) (node_count L) rd.node in omega arith)

      pub leave_dup : {next next' set₃ : List ℕ} → GotMark label set₂ next next' → set₃ ≡ empty_set → ThroughLists sizes L nodes tests n set work seen next 0 0 set₃ work₁ seen₁ next'
      unfolding empty_set
      leave_dup {next} {next'} {set₃} g q =
          record {
            through = through_dup rd.loaded rd.legal rd.node en.entered e (has_mark next) (has_mark next') (member set₃)
                (λ i γ. g.marks i γ ∙ ap (λ j. has_mark next i γ || (eqb i j && member set₂ γ)) is_label) (λ γ. ap (λ s. member s γ) q ∙ member_empty γ);
            spanned = rw q none;
            recorded = records_then (en.recorded next) (records_mark g entry_below);
          }
        where
          none : Spanned 0 0 empty_set
          none = no_packet 0

    -- ---- nodes with children

    child_ready : (c : ℕ) → c < n → Enterable sizes L nodes tests c → {f t : ℕ} {Y w : List ℕ} → ((γ : ℕ) → T (member Y γ) → γ < product sizes) → Spanned f t Y → 16384 ≤ length w
        → VisitReady sizes L nodes tests c f t Y w
    child_ready c l ok {f} {t} {Y} {w} below s q =
        record {
          legal_sizes = rd.legal_sizes;
          legal = rd.legal;
          loaded = rd.loaded;
          node = let h = rd.node in omega arith;
          enterable = ok;
          below = below;
          spanned = s;
          long = q;
        }

    kids : Each (λ c. c < n) (children (node_at L n))
    kids = children_below rd.legal.well_formed n rd.node

    -- a child whose guard lets in nothing
    shut_out : {c : ℕ} {Y w s m : List ℕ} → ((γ : ℕ) → (member Y γ && guard_at nodes tests c γ) ≡ false) → ThroughLists sizes L nodes tests c Y w s m 0 0 empty_set w s m
    shut_out {c} {Y} {w} {s} {m} none =
        record { through = through_none c (member Y) (slot w) (has_mark m) (member empty_set) none member_empty; spanned = no_packet 0; recorded = records_none }

    module _ (x y : ℕ) where
      sum_kids : node_at L n ≡ Sum x y → (x < n) × (y < n) × Enterable sizes L nodes tests x × Enterable sizes L nodes tests y
      unfolding Each children Enters
      sum_kids e =
          let k = subst (λ d. Each (λ c. c < n) (children d)) e kids in
          let m = subst (Enters sizes L nodes tests) e moving.enters in
          (k.0, k.1.0, m.0, m.1)

      seq_kids : node_at L n ≡ Seq x y → (x < n) × (y < n) × Enterable sizes L nodes tests x × Enterable sizes L nodes tests y
      unfolding Each children Enters
      seq_kids e =
          let k = subst (λ d. Each (λ c. c < n) (children d)) e kids in
          let m = subst (Enters sizes L nodes tests) e moving.enters in
          (k.0, k.1.0, m.0, m.1)

      pub sum_below : node_at L n ≡ Sum x y → (x < n) × (y < n)
      sum_below e = let k = sum_kids e in (k.0, k.1)

      pub seq_below : node_at L n ≡ Seq x y → (x < n) × (y < n)
      seq_below e = let k = seq_kids e in (k.0, k.1)

      pub sum_first : node_at L n ≡ Sum x y → VisitReady sizes L nodes tests x from to set₂ work₁
      sum_first e = let k = sum_kids e in child_ready x k.0 k.2 entry_below en.spanned entry_long

      pub sum_second : node_at L n ≡ Sum x y → {w : List ℕ} → length w ≡ length work₁ → VisitReady sizes L nodes tests y from to set₂ w
      sum_second e q = let k = sum_kids e in child_ready y k.1 k.3 entry_below en.spanned (long_still entry_long q)

      pub seq_first : node_at L n ≡ Seq x y → VisitReady sizes L nodes tests x from to set₂ work₁
      seq_first e = let k = seq_kids e in child_ready x k.0 k.2 entry_below en.spanned entry_long

      pub leave_sum : (e : node_at L n ≡ Sum x y) {next next₂ next₃ seen₂ seen₃ work₂ work₃ setA set_b setR : List ℕ} {f₁ t₁ f₂ t₂ f t : ℕ} → ThroughLists sizes L nodes tests x set₂ work₁ seen₁ next f₁ t₁ setA work₂ seen₂ next₂
          → ThroughLists sizes L nodes tests y set₂ work₂ seen₂ next₂ f₂ t₂ set_b work₃ seen₃ next₃ → Holds f t setR (λ γ. member setA γ || member set_b γ)
          → ThroughLists sizes L nodes tests n set work seen next f t setR work₃ seen₃ next₃
      leave_sum e {next} {setR = setR} a b h =
          record {
            through = through_sum rd.loaded rd.legal rd.node en.entered en.moves x y e a.through b.through (member setR) h.members;
            spanned = h.spanned;
            recorded = records_then (en.recorded next) (records_then a.recorded b.recorded);
          }

      -- the children are read before they are entered
      pub sum_read : node_at L n ≡ Sum x y → (x < 512) × (y < 512) × (set_in (get_or nodes x 0) ≤ 256) × (set_in (get_or nodes y 0) ≤ 256)
      sum_read e =
          let k = sum_kids e in
          let l = rd.node in
          let s = node_small in
          let h = k.0 in
          let g = k.1 in
          (omega arith, omega arith, rd.loaded.small x (omega arith), rd.loaded.small y (omega arith))

      -- one summand lets in nothing: what comes out of the other comes out
      module _ (e : node_at L n ≡ Sum x y) {next seen₂ work₂ next₂ setR : List ℕ} {f t : ℕ} where
        pub leave_sum_first : ((γ : ℕ) → (member set₂ γ && guard_at nodes tests y γ) ≡ false) → ThroughLists sizes L nodes tests x set₂ work₁ seen₁ next f t setR work₂ seen₂ next₂
            → ThroughLists sizes L nodes tests n set work seen next f t setR work₂ seen₂ next₂
        leave_sum_first none a =
            leave_sum e a (shut_out none)
            (record { spanned = a.spanned; members = λ γ. sym (ap (λ b. member setR γ || b) (member_empty γ) ∙ or-false (member setR γ)) })

        pub leave_sum_second : ((γ : ℕ) → (member set₂ γ && guard_at nodes tests x γ) ≡ false) → ThroughLists sizes L nodes tests y set₂ work₁ seen₁ next f t setR work₂ seen₂ next₂
            → ThroughLists sizes L nodes tests n set work seen next f t setR work₂ seen₂ next₂
        leave_sum_second none b =
            leave_sum e (shut_out none) b (record { spanned = b.spanned; members = λ γ. sym (ap (λ c. c || member setR γ) (member_empty γ)) })

      module _ (e : node_at L n ≡ Seq x y) {next next₂ seen₂ work₂ setA : List ℕ} {f₁ t₁ : ℕ} (a : ThroughLists sizes L nodes tests x set₂ work₁ seen₁ next f₁ t₁ setA work₂ seen₂ next₂) where
        pub seq_second : VisitReady sizes L nodes tests y f₁ t₁ setA work₂
        seq_second =
            let k = seq_kids e in
            child_ready y k.1 k.3 (through_below rd.legal (let h = rd.node in let g = k.0 in omega arith) a.through entry_below) a.spanned (long_still entry_long a.recorded.work_long)

        pub leave_seq_none : t₁ ≤ f₁ → ThroughLists sizes L nodes tests n set work seen next f₁ t₁ setA work₂ seen₂ next₂
        leave_seq_none l =
            record {
              through = through_seq rd.loaded rd.legal rd.node en.entered en.moves x y e a.through
                  (through_empty y (member setA) (slot work₂) (has_mark next₂) (member setA) (empty_span a.spanned l) (empty_span a.spanned l));
              spanned = a.spanned;
              recorded = records_then (en.recorded next) a.recorded;
            }

        pub leave_seq : {next₃ seen₃ work₃ setR : List ℕ} {f t : ℕ} → ThroughLists sizes L nodes tests y setA work₂ seen₂ next₂ f t setR work₃ seen₃ next₃
            → ThroughLists sizes L nodes tests n set work seen next f t setR work₃ seen₃ next₃
        leave_seq b =
            record {
              through = through_seq rd.loaded rd.legal rd.node en.entered en.moves x y e a.through b.through;
              spanned = b.spanned;
              recorded = records_then (en.recorded next) (records_then a.recorded b.recorded);
            }

    -- ---- a star: its loop, from the lists at its entry

    pub record TurningLists (next delta out w s x : List ℕ) (f t f₁ t₁ : ℕ) : Type 0 where
      pub turning : Turning sizes L nodes tests n (member set) (slot work) (has_mark next) (member delta) (member out) (slot w) (has_mark x)
      pub delta_spanned : Spanned f t delta
      pub out_spanned : Spanned f₁ t₁ out
      pub recorded : Recorded sizes work seen next w s x

    module _ (c : ℕ) (e : node_at L n ≡ Star c) where
      star_kid : (c < n) × Enterable sizes L nodes tests c
      unfolding Each children Enters
      star_kid = ((subst (λ d. Each (λ i. i < n) (children d)) e kids).0, subst (Enters sizes L nodes tests) e moving.enters)

      pub star_below : c < n
      star_below = star_kid.0

      pub turn_start : (next : List ℕ) → TurningLists next set₂ set₂ work₁ seen₁ next from to from to
      turn_start next =
          record {
            turning = turning_start rd.loaded rd.legal rd.node en.moves c e en.entered (has_mark next);
            delta_spanned = en.spanned;
            out_spanned = en.spanned;
            recorded = en.recorded next;
          }

      module _ {next delta out w s x : List ℕ} {f t f₁ t₁ : ℕ} (tn : TurningLists next delta out w s x f t f₁ t₁) where
        pub turn_ready : VisitReady sizes L nodes tests c f t delta w
        turn_ready =
            child_ready c star_kid.0 star_kid.1 (λ γ d. turning_below rd.legal rd.node tn.turning rd.below γ (tn.turning.within γ d)) tn.delta_spanned (long_still rd.long tn.recorded.work_long)

        module _ {delta₂ w₂ s₂ x₂ : List ℕ} {f₂ t₂ : ℕ} (th : ThroughLists sizes L nodes tests c delta w s x f₂ t₂ delta₂ w₂ s₂ x₂) {some : Bool} {delta₃ w₃ s₃ : List ℕ} (nt : Noted n f₂ t₂ w₂ s₂ delta₂ some w₃ s₃ delta₃) (long : length w₃ ≡ length w₂) where
          -- nothing is new
          pub turn_end : some ≡ false → ThroughLists sizes L nodes tests n set work seen next f₁ t₁ out w₃ s₃ x₂
          turn_end q =
              record {
                through = turning_end rd.loaded rd.legal rd.node en.moves c e (turning_more rd.loaded rd.legal rd.node en.moves c e tn.turning th.through (slot w₃) (member delta₃) (member out) nt.slots nt.new.members (λ γ. or_false (member out γ) (member delta₃ γ) (none γ))) none;
                spanned = tn.out_spanned;
                recorded = records_then tn.recorded (records_then th.recorded (records_note nt long));
              }
            where
              none : (γ : ℕ) → member delta₃ γ ≡ false
              none = empty_span (nt.told.none q) (omega arith)

              or_false : (a b : Bool) → b ≡ false → a ≡ (a || b)
              or_false true b h = refl
              or_false false b h = sym h

          -- what is new goes through the body
          pub turn_more : {out₃ : List ℕ} {f₃ t₃ : ℕ} → Holds f₃ t₃ out₃ (λ γ. member out γ || member delta₃ γ) → TurningLists next delta₃ out₃ w₃ s₃ x₂ f₂ t₂ f₃ t₃
          turn_more {out₃} h =
              record {
                turning = turning_more rd.loaded rd.legal rd.node en.moves c e tn.turning th.through (slot w₃) (member delta₃) (member out₃) nt.slots nt.new.members h.members;
                delta_spanned = nt.new.spanned;
                out_spanned = h.spanned;
                recorded = records_then tn.recorded (records_then th.recorded (records_note nt long));
              }

          -- and less is missing in the star's slot
          pub turn_less : some ≡ true → missing 1024 (slot w₃ n) < missing 1024 (slot w n)
          turn_less q =
              let g = nt.told.found q in
              let b = (both (member delta₂ g.0) (not (slot w₂ n g.0))).0 (subst T (nt.new.members g.0) g.1) in
              missing_lt 1024 (slot w n) (slot w₃ n) (λ γ h. subst T (sym (nt.slots n γ)) ((either (slot w₂ n γ) (eqb n n && member delta₂ γ)).1 (inl (th.through.slots_stay n γ h)))) g.0 (slot_small w₃ n g.0 (here g.0 b.0)) (here g.0 b.0)
              (λ h. not_both (slot w₂ n g.0) (th.through.slots_stay n g.0 h) b.1)
            where
              here : (γ : ℕ) → T (member delta₂ γ) → T (slot w₃ n γ)
              here γ h = subst T (sym (nt.slots n γ)) ((either (slot w₂ n γ) (eqb n n && member delta₂ γ)).1 (inr ((both (eqb n n) (member delta₂ γ)).1 (eqb_true n n refl, h))))

              not_both : (b : Bool) → T b → T (not b) → ⊥
              not_both true h k = k
              not_both false h k = h
