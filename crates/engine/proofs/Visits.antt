-- The small functions of a visit.
use Prim.Native.Nat.{ℕ}
use mathlib.Core.Bool.{Bool, false, ◌&&◌, ◌||◌}
use mathlib.Core.List.{List}
use mathlib.Core.Logic.{◌⊎◌, inl, inr}
use mathlib.Core.Path.{◌≡◌, sym, ap, ◌∙◌, subst}
use native.Mathlib.Omega.{arith}
use lib.Dec.{eqb}
use lib.ListN.{get_or}
use borrow.Author.Tests.{ne_eqb}
use Rattle.policy.specs.declared.FieldAction.{FieldAction}
use Rattle.policy.specs.declared.FieldAction.TheVariants.{Equals, Differs, Set}
use Rattle.policy.specs.Legality.{field_of, value_of}
use Rattle.packet_set.specs.InnerMembers.{member}
use Rattle.spans.specs.Spans.{slot}
use Rattle.changes.specs.Changes.{Changing, Changed}
use Rattle.loaded.specs.Nodes.{set_in, guard_at}
use Rattle.engine.specs.Visiting.{Acted}

-- the set has none of the packets of the guard
pub none_met : (nodes tests set : List ℕ) (n k : ℕ) {some : Bool} → k ≡ set_in (get_or nodes n 0) → (k ≡ 0 → ⊥)
    → (some ≡ false → (γ : ℕ) → (member set γ && slot tests k γ) ≡ false) → some ≡ false → (γ : ℕ) → (member set γ && guard_at nodes tests n γ) ≡ false
unfolding guard_at
none_met nodes tests set n k e z h f γ = ap (λ j. member set γ && (eqb j 0 || slot tests j γ)) (sym e) ∙ ap (λ b. member set γ && (b || slot tests k γ)) (ne_eqb k 0 z) ∙ h f γ

module _ (sizes : List ℕ) (set set' : List ℕ) (from to : ℕ) where
  -- a test is no change
  pub act_tests : (a : FieldAction) → ((f : ℕ) × (v : ℕ) × (a ≡ Equals f v)) ⊎ ((f : ℕ) × (v : ℕ) × (a ≡ Differs f v)) → Acted sizes a set from to set'
  act_tests a (inl e) = record { changes = λ g w d. absurd (let h : Equals e.0 e.1 ≡ Set g w = sym e.2 ∙ d in let y : ◌≡◌ {A = ℕ} 0 1 = cc in omega arith) }
  act_tests a (inr e) = record { changes = λ g w d. absurd (let h : Differs e.0 e.1 ≡ Set g w = sym e.2 ∙ d in let y : ◌≡◌ {A = ℕ} 0 1 = cc in omega arith) }

  pub act_set : (a : FieldAction) (f v : ℕ) → a ≡ Set f v → Changed sizes f v set from to set' → Acted sizes a set from to set'
  act_set a f v e h = record { changes = λ g w d. let q : Set f v ≡ Set g w = sym e ∙ d in let x : f ≡ g = cc in let y : v ≡ w = cc in rw (sym x, sym y) h }

pub act_asks : {sizes set : List ℕ} {from to : ℕ} {a : FieldAction} {f v : ℕ} → a ≡ Set f v → Changing sizes (field_of a) (value_of a) from to set → Changing sizes f v from to set
unfolding field_of value_of
act_asks {sizes} {set} {from} {to} e h = subst (λ b. Changing sizes (field_of b) (value_of b) from to set) e h
