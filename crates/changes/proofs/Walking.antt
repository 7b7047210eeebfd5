-- A change of one field by its stride, and of a set by walking its members. Assumes nothing.
use Prim.Native.Nat.{ℕ, ◌+◌, ◌-◌, ◌*◌, ◌/◌, ◌%◌, ◌≤◌, ◌<◌}
use mathlib.Core.Bool.{Bool, true, false, ◌||◌}
use mathlib.Core.List.{List}
use mathlib.Core.Logic.{◌⊎◌, inl, inr}
use mathlib.Core.Path.{◌≡◌, refl, sym, ap, ◌∙◌, subst}
use native.Mathlib.Nat.{le_trans, mod-le, div-mul-le_self, mul-le-mul_right, zero-div, zero-mod}
use native.Mathlib.Decide.{dec_lt, ℕ_discrete}
use native.Mathlib.Omega.{arith}
use borrow.Author.Tests.{leb-false, eqb-true, eq-eqb}
use lib.Dec.{T, eqb, leb}
use lib.ListN.{length, get_or}
use lib.Seq.{get_or-set_other}
use Rattle.packet.specs.Packets.{value_at, changed, stride}
use Rattle.packet.specs.Sizes.{product, LegalSizes}
use Rattle.packet.proofs.Legal.{product_positive}
use Rattle.packet.proofs.Packets.{value_by_stride, changed_by_stride, changed_below, stride_positive}
use Rattle.packet.proofs.Tests.{T_true, true_T, or_true, or_false}
use Rattle.policy.specs.Legality.{bad_field}
use Rattle.packet_set.specs.InnerMembers.{member, empty_set, with_packet, lowest_in}
use Rattle.std.specs.Prelude.{Option, Some, None}
use Rattle.packet_set.proofs.Words.{member_empty, member_with, length_with}
use Rattle.packet_set.proofs.Walk.{LowestIn, found_at, found_none}
use Rattle.spans.specs.Spans.{Spanned, Hull}
use Rattle.spans.proofs.Sets.{outside_of, no_packet, member_outside}
use Rattle.changes.specs.Changes.{Changing, Changed, Added}

-- ---- a packet is added

module _ (set : List ℕ) (packet : ℕ) where
  pub added : packet < 1024 → (from to : ℕ) → Spanned from to set → (p q : ℕ) → Hull from to (packet / 32) (packet / 32 + 1) p q
      → (now : List ℕ) → now ≡ with_packet set packet → Added packet set p q now
  added l from to s p q h now e = record {
    spanned = record {
      wide = ap length e ∙ length_with set packet ∙ s.wide;
      within = h.within s.within (omega arith);
      outside = λ i o. ap (λ (x : List ℕ). get_or x i 0) e ∙ other i (λ w. out i o (h.second i (omega arith) (omega arith)))
          ∙ s.outside i (outside_of from to i (λ a b. out i o (h.first i a b)));
    };
    members = λ γ t. split γ (or_true (member set γ) (eqb γ packet) (sym (mem γ) ∙ T_true (member now γ) t));
    old = λ γ t. true_T (mem γ ∙ ap (λ (b : Bool). b || eqb γ packet) (T_true (member set γ) t));
    new = true_T (mem packet ∙ ap (λ (b : Bool). member set packet || b) (eq-eqb packet packet refl) ∙ or_right (member set packet));
  }
    where
      out : (i : ℕ) → (i < p) ⊎ (q ≤ i) → (p ≤ i) × (i < q) → ⊥
      out i (inl k) t = omega arith
      out i (inr k) t = omega arith

      other : (i : ℕ) → (i ≡ packet / 32 → ⊥) → get_or (with_packet set packet) i 0 ≡ get_or set i 0
      other i n = unfold with_packet in get_or-set_other set (packet / 32) i _ 0 n

      mem : (γ : ℕ) → member now γ ≡ member set γ || eqb γ packet
      mem γ = ap (λ (x : List ℕ). member x γ) e ∙ member_with set packet γ (omega (arith, s.wide))

      or_right : (b : Bool) → b || true ≡ true
      or_right true = refl
      or_right false = refl

      split : (γ : ℕ) → (member set γ ≡ true) ⊎ (eqb γ packet ≡ true) → T (member set γ) ⊎ (γ ≡ packet)
      split γ (inl t) = inl (true_T t)
      split γ (inr t) = inr (eqb-true γ packet t)

-- ---- the field's stride and size

-- the value that is taken away is in the packet
pub digit_within : (t z α : ℕ) → α / t % z * t ≤ α
digit_within t z α = le_trans (mul-le-mul_right t (mod-le (α / t) z)) (div-mul-le_self α t)

module _ (sizes : List ℕ) (field value : ℕ) (legal : LegalSizes sizes) (is_in_field : bad_field sizes field value ≡ false) where
  pub in_field : (field < length sizes) × (value < get_or sizes field 0)
  unfolding bad_field
  in_field = let h = or_false (leb (length sizes) field) (leb (get_or sizes field 0) value) is_in_field in
      (leb-false (length sizes) field h.0, leb-false (get_or sizes field 0) value h.1)

  some_packet : 0 < product sizes
  some_packet = product_positive sizes legal.positive

  pub field_within : field < length sizes
  field_within = in_field.0

  pub stride_some : 0 < stride sizes field
  stride_some = stride_positive sizes field 0 some_packet

  goal_small : value * stride sizes field < 1024
  goal_small =
      let c = changed_below sizes field value 0 in_field.1 some_packet in
      let e = changed_by_stride sizes field value 0 field_within some_packet in
      let o : value_at sizes field 0 * stride sizes field ≡ 0 =
      ap (λ (x : ℕ). x * stride sizes field) (value_by_stride sizes field 0 field_within some_packet ∙ ap (λ (x : ℕ). x % get_or sizes field 0) (zero-div (stride sizes field)) ∙ zero-mod (get_or sizes field 0)) ∙ omega arith in
      omega (arith, legal.small)

  lands : (α : ℕ) → α < product sizes → α - α / stride sizes field % get_or sizes field 0 * stride sizes field + value * stride sizes field ≡ changed sizes field value α
  lands α l =
      let e = ap (λ (x : ℕ). x * stride sizes field) (value_by_stride sizes field α field_within l) in
      let c = changed_by_stride sizes field value α field_within l in
      let d = digit_within (stride sizes field) (get_or sizes field 0) α in
      omega arith

-- ---- the walk

-- the members below `from` have been changed; t and z are the field's stride and size
pub record Walked (sizes : List ℕ) (field value k : ℕ) (set : List ℕ) (t z goal : ℕ) (out : List ℕ) (p q from : ℕ) : Type 0 where
  pub at : from ≤ 32 * k
  pub few : k ≤ 32
  pub stride_is : t ≡ stride sizes field
  pub size_is : z ≡ get_or sizes field 0
  pub goal_is : goal ≡ value * stride sizes field
  pub spanned : Spanned p q out
  pub done : (α : ℕ) → α < from → T (member set α) → T (member out (changed sizes field value α))
  pub only : (γ : ℕ) → T (member out γ) → (α : ℕ) × T (member set α) × (γ ≡ changed sizes field value α)

module _ (sizes : List ℕ) (field value start k : ℕ) (set : List ℕ) (g : Changing sizes field value start k set) where
  pub goal_fits : (t : ℕ) → t ≡ stride sizes field → value * t < 1024
  goal_fits t e = subst (λ (x : ℕ). value * x < 1024) (sym e) (goal_small sizes field value g.legal g.is_in_field)

  outside_words : (α : ℕ) → T (member set α) → (α / 32 < start) ⊎ (k ≤ α / 32) → ⊥
  outside_words α t o = subst T (member_outside start k set g.spanned α o) t

  pub walk_empty : k ≤ start → Changed sizes field value set start k set
  walk_empty l = record { spanned = g.spanned; all = λ α t. absurd (none α t); only = λ γ t. absurd (none γ t) }
    where
      none : (α : ℕ) → T (member set α) → ⊥
      none α t = go (dec_lt (α / 32) start)
        where
          go : Dec (α / 32 < start) → ⊥
          go (yes b) = outside_words α t (inl b)
          go (no b) = outside_words α t (inr (omega arith))

  pub walk_start : start < k → (t z : ℕ) → t ≡ stride sizes field → z ≡ get_or sizes field 0 → (out : List ℕ) → out ≡ empty_set
      → Walked sizes field value k set t z (value * t) out 0 0 (32 * start)
  walk_start l t z et ez out e = record {
    at = omega arith;
    few = g.spanned.within;
    stride_is = et;
    size_is = ez;
    goal_is = ap (λ (x : ℕ). value * x) et;
    spanned = subst (Spanned 0 0) (sym e) (no_packet 0);
    done = λ α b m. absurd (outside_words α m (inl (omega arith)));
    only = λ γ m. absurd (subst T (ap (λ (x : List ℕ). member x γ) e ∙ member_empty γ) m);
  }

  module _ (t z goal : ℕ) (out : List ℕ) (p q from : ℕ) (w : Walked sizes field value k set t z goal out p q from) (r : Option ℕ) (e : r ≡ lowest_in k from set) where
    module _ (α : ℕ) (h : r ≡ Some α) where
      pub walk_at : LowestIn k from set α
      walk_at = found_at k from set r e α h

      below : α < product sizes
      below = g.below α (true_T walk_at.inside)

      pub walk_needs : (0 < t) × (0 < z) × (α < 1024) × (goal < 1024)
      walk_needs = (
        subst (λ (x : ℕ). 0 < x) (sym w.stride_is) (stride_some sizes field value g.legal g.is_in_field),
        subst (λ (x : ℕ). 0 < x) (sym w.size_is) (let v = (in_field sizes field value g.legal g.is_in_field).1 in omega arith),
        let b = below in omega (arith, g.legal.small),
        subst (λ (x : ℕ). x < 1024) (sym w.goal_is) (goal_small sizes field value g.legal g.is_in_field),
      )

      module _ (δ : ℕ) (ed : δ ≡ α - α / t % z * t + goal) where
        walk_lands : δ ≡ changed sizes field value α
        walk_lands =
            ed ∙ ap (λ (x : ℕ). α - α / x % z * x + goal) w.stride_is ∙ ap (λ (x : ℕ). α - α / stride sizes field % x * stride sizes field + goal) w.size_is
            ∙ ap (λ (x : ℕ). α - α / stride sizes field % get_or sizes field 0 * stride sizes field + x) w.goal_is ∙ lands sizes field value g.legal g.is_in_field α below

        pub walk_small : δ < 1024
        walk_small =
            let b = changed_below sizes field value α (in_field sizes field value g.legal g.is_in_field).1 below in
            let c = walk_lands in
            omega (arith, g.legal.small)

        pub walk_turn : (p' q' : ℕ) (out' : List ℕ) → Added δ out p' q' out' → Walked sizes field value k set t z goal out' p' q' (α + 1)
        walk_turn p' q' out' a = record {
          at = let b = walk_at.below in omega arith;
          few = w.few;
          stride_is = w.stride_is;
          size_is = w.size_is;
          goal_is = w.goal_is;
          spanned = a.spanned;
          done = λ β b m. here β b m (ℕ_discrete β α) (dec_lt β from);
          only = λ γ m. from_one γ (a.members γ m);
        }
          where
            here : (β : ℕ) → β < α + 1 → T (member set β) → Dec (β ≡ α) → Dec (β < from) → T (member out' (changed sizes field value β))
            here β b m (yes x) y = subst (λ (n : ℕ). T (member out' n)) (walk_lands ∙ ap (changed sizes field value) (sym x)) a.new
            here β b m (no x) (yes y) = a.old (changed sizes field value β) (w.done β y m)
            here β b m (no x) (no y) = absurd (subst T (walk_at.first β (omega arith) (omega arith)) m)

            from_one : (γ : ℕ) → T (member out γ) ⊎ (γ ≡ δ) → (β : ℕ) × T (member set β) × (γ ≡ changed sizes field value β)
            from_one γ (inl m) = w.only γ m
            from_one γ (inr x) = (α, true_T walk_at.inside, x ∙ walk_lands)

    pub walk_end : r ≡ None → Changed sizes field value set p q out
    walk_end h = record { spanned = w.spanned; all = λ α m. go α m (dec_lt α from) (dec_lt α (32 * k)); only = w.only }
      where
        go : (α : ℕ) → T (member set α) → Dec (α < from) → Dec (α < 32 * k) → T (member out (changed sizes field value α))
        go α m (yes b) c = w.done α b m
        go α m (no b) (yes c) = absurd (subst T (found_none k from set r e h α (omega arith) c) m)
        go α m (no b) (no c) = absurd (outside_words α m (inr (omega arith)))
