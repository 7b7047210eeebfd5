-- Declared packets for packets of classes: with a value chosen of each class, a packet of classes becomes a declared packet that belongs to it.
-- The lifting along a declared packet and the packet shown are two such choices.
use Prim.Native.Nat.{ℕ, ◌<◌}
use native.Mathlib.Omega.{arith}
use mathlib.Core.Bool.{Bool, true, false, cond}
use mathlib.Core.List.{List}
use mathlib.Core.Path.{◌≡◌, refl, sym, ap, ◌∙◌}
use lib.Dec.{eqb}
use lib.ListN.{length, get_or}
use borrow.Author.Tests.{eqb-true, eq-eqb}
use Rattle.packet.specs.Sizes.{product}
use Rattle.packet.specs.Packets.{number_of, values_of, value_at, Declared}
use Rattle.packet.proofs.Packets.{declared_length, values_declared, values_of_number, number_of_values, number_below}
use Rattle.classes.specs.Classing.{Classing, each_field, class_number, shown_packet, seen_from, lifted, Faithful}
use Rattle.classes.proofs.FieldEntries.{fields_length, field_at, declared_at, declared_fields, fields_are}

-- s chooses a value of each class
abbrev pub Chooses : Classing → List ℕ → (ℕ → ℕ → ℕ) → Type 0
Chooses c sizes s = (f x : ℕ) → f < length sizes → x < get_or c.counts f 0 → (s f x < get_or sizes f 0) × (c.class f (s f x) ≡ x)

-- the packet of the values chosen
abbrev pub chosen : Classing → (ℕ → ℕ → ℕ) → ℕ → List ℕ
chosen c s β = each_field s 0 (values_of c.counts β)

module _ (c : Classing) (sizes : List ℕ) (h : Faithful c sizes) where
  -- ---- the packet of classes of a declared packet

  classes_declared : (α : List ℕ) → Declared sizes α → Declared c.counts (each_field c.class 0 α)
  classes_declared α d =
      declared_fields c.class c.counts α (declared_length sizes α d ∙ sym h.fields)
      (λ f k. let l : f < length sizes = omega (arith, h.fields) in h.class_below f (get_or α f 0) l (declared_at sizes α d f l))

  pub class_number_below : (α : List ℕ) → Declared sizes α → class_number c α < product c.counts
  unfolding class_number
  class_number_below α d = number_below c.counts (each_field c.class 0 α) (classes_declared α d)

  -- ---- the declared packet of a packet of classes

  module _ (β : ℕ) (b : β < product c.counts) where
    classes_length : length (values_of c.counts β) ≡ length sizes
    classes_length = declared_length c.counts (values_of c.counts β) (values_declared c.counts β b) ∙ h.fields

    pub class_at_below : (f : ℕ) → f < length sizes → value_at c.counts f β < get_or c.counts f 0
    unfolding value_at
    class_at_below f k = declared_at c.counts (values_of c.counts β) (values_declared c.counts β b) f (omega (arith, h.fields))

    module _ (s : ℕ → ℕ → ℕ) where
      pub chosen_at : (f : ℕ) → f < length sizes → get_or (chosen c s β) f 0 ≡ s f (value_at c.counts f β)
      unfolding value_at
      chosen_at f k = field_at s (values_of c.counts β) f (omega (arith, classes_length))

      chosen_declared : Chooses c sizes s → Declared sizes (chosen c s β)
      unfolding value_at
      chosen_declared choose =
          declared_fields s sizes (values_of c.counts β) classes_length (λ f k. (choose f (value_at c.counts f β) k (class_at_below f k)).0)

      pub class_of_chosen : Chooses c sizes s → class_number c (chosen c s β) ≡ β
      unfolding class_number value_at
      class_of_chosen choose =
          let n = fields_length s 0 (values_of c.counts β) in
          let at : (f : ℕ) → f < length sizes → c.class f (get_or (chosen c s β) f 0) ≡ value_at c.counts f β =
          λ f k. ap (c.class f) (chosen_at f k) ∙ (choose f (value_at c.counts f β) k (class_at_below f k)).1 in
          ap (number_of c.counts) (fields_are c.class (chosen c s β) (values_of c.counts β) n (λ f k. at f (omega (arith, n, classes_length))))
          ∙ number_of_values c.counts β b

  -- ---- the two choices

  pub shown_chooses : Chooses c sizes c.shown
  shown_chooses f x k b = (h.shown_below f x k b, h.class_shown f x k b)

  pub seen_chooses : (α : List ℕ) → Declared sizes α → Chooses c sizes (seen_from c α)
  unfolding seen_from
  seen_chooses α d f x k b = go (eqb (c.class f (get_or α f 0)) x) refl
    where
      go : (own : Bool) → eqb (c.class f (get_or α f 0)) x ≡ own
          → (cond own (get_or α f 0) (c.shown f x) < get_or sizes f 0) × (c.class f (cond own (get_or α f 0) (c.shown f x)) ≡ x)
      go true e = (declared_at sizes α d f k, eqb-true (c.class f (get_or α f 0)) x e)
      go false e = shown_chooses f x k b

  pub shown_declared : (β : ℕ) → β < product c.counts → Declared sizes (shown_packet c β)
  unfolding shown_packet
  shown_declared β b = chosen_declared β b c.shown shown_chooses

  pub class_of_shown : (β : ℕ) → β < product c.counts → class_number c (shown_packet c β) ≡ β
  unfolding shown_packet
  class_of_shown β b = class_of_chosen β b c.shown shown_chooses

  pub class_of_lifted : (α : List ℕ) → Declared sizes α → (β : ℕ) → β < product c.counts → class_number c (lifted c α β) ≡ β
  unfolding lifted
  class_of_lifted α d β b = class_of_chosen β b (seen_from c α) (seen_chooses α d)

  -- a declared packet, lifted along itself, is itself
  pub lifted_class : (α : List ℕ) → Declared sizes α → lifted c α (class_number c α) ≡ α
  unfolding lifted class_number seen_from
  lifted_class α d =
      let classes = each_field c.class 0 α in
      let n : length classes ≡ length α = fields_length c.class 0 α in
      ap (each_field (seen_from c α) 0) (values_of_number c.counts classes (classes_declared α d))
      ∙ fields_are (seen_from c α) classes α n (λ f k. own f (get_or classes f 0) (sym (field_at c.class α f (omega (arith, n)))))
    where
      own : (f x : ℕ) → c.class f (get_or α f 0) ≡ x → seen_from c α f x ≡ get_or α f 0
      own f x e = rw (eq-eqb (c.class f (get_or α f 0)) x e)
