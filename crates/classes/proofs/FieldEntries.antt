-- An entry for each field: what stands at a field, and where the entries are those of a declared packet.
use Prim.Native.Nat.{ℕ, zero, suc, suc-le-suc, ◌<◌}
use native.Mathlib.Nat.{not-suc-le-zero, le_of_suc-le-suc}
use native.Mathlib.Omega.{arith}
use mathlib.Core.List.{List, [], ◌∷◌}
use mathlib.Core.Path.{◌≡◌, refl, ap, ◌∙◌}
use lib.ListN.{length, get_or, set}
use lib.Seq.{ext_get_or}
use Rattle.packet.specs.Packets.{Declared}
use Rattle.classes.specs.Classing.{each_field}

-- the fields from 1 on, counted from 0
later_fields : (g : ℕ → ℕ → ℕ) (f : ℕ) (vs : List ℕ) → each_field g (suc f) vs ≡ each_field (λ i. g (suc i)) f vs
unfolding each_field
later_fields g f [] = refl
later_fields g f (v ∷ vs) = ap (λ (ws : List ℕ). g (suc f) v ∷ ws) (later_fields g (suc f) vs)

pub fields_length : (g : ℕ → ℕ → ℕ) (f : ℕ) (vs : List ℕ) → length (each_field g f vs) ≡ length vs
unfolding each_field
fields_length g f [] = refl
fields_length g f (v ∷ vs) = ap suc (fields_length g (suc f) vs)

pub field_at : (g : ℕ → ℕ → ℕ) (vs : List ℕ) (f : ℕ) → f < length vs → get_or (each_field g 0 vs) f 0 ≡ g f (get_or vs f 0)
unfolding each_field
field_at g [] f k = absurd (not-suc-le-zero k)
field_at g (v ∷ vs) zero k = refl
field_at g (v ∷ vs) (suc f) k = rw (later_fields g 0 vs) (field_at (λ i. g (suc i)) vs f (le_of_suc-le-suc k))

pub field_set : (g : ℕ → ℕ → ℕ) (vs : List ℕ) (f v : ℕ) → each_field g 0 (set vs f v) ≡ set (each_field g 0 vs) f (g f v)
unfolding each_field
field_set g [] f v = refl
field_set g (x ∷ vs) zero v = refl
field_set g (x ∷ vs) (suc f) v =
    rw (later_fields g 0 (set vs f v), later_fields g 0 vs) (ap (λ (ws : List ℕ). g 0 x ∷ ws) (field_set (λ i. g (suc i)) vs f v))

pub declared_at : (sizes vs : List ℕ) → Declared sizes vs → (f : ℕ) → f < length sizes → get_or vs f 0 < get_or sizes f 0
unfolding Declared
declared_at [] vs d f k = absurd (not-suc-le-zero k)
declared_at (s ∷ ss) [] d f k = absurd d
declared_at (s ∷ ss) (v ∷ vs) d zero k = d.0
declared_at (s ∷ ss) (v ∷ vs) d (suc f) k = declared_at ss vs d.1 f (le_of_suc-le-suc k)

pub declared_fields : (g : ℕ → ℕ → ℕ) (sizes vs : List ℕ) → length vs ≡ length sizes
    → ((f : ℕ) → f < length sizes → g f (get_or vs f 0) < get_or sizes f 0) → Declared sizes (each_field g 0 vs)
unfolding Declared each_field
declared_fields g [] [] e b = tt
declared_fields g [] (v ∷ vs) e b = omega arith
declared_fields g (s ∷ ss) [] e b = omega arith
declared_fields g (s ∷ ss) (v ∷ vs) e b = (
  b 0 (omega arith),
  rw (later_fields g 0 vs) (declared_fields (λ i. g (suc i)) ss vs (omega arith) (λ f k. b (suc f) (suc-le-suc k))),
)

-- g takes the entries of vs to those of ws
pub fields_are : (g : ℕ → ℕ → ℕ) (vs ws : List ℕ) → length vs ≡ length ws
    → ((f : ℕ) → f < length vs → g f (get_or vs f 0) ≡ get_or ws f 0) → each_field g 0 vs ≡ ws
fields_are g vs ws e same =
    let n = fields_length g 0 vs in
    ext_get_or 0 (each_field g 0 vs) ws (n ∙ e) (λ f k. let l : f < length vs = omega (arith, n) in field_at g vs f l ∙ same f l)
