-- Packed nodes and places are written one after the other.
use Prim.Native.Nat.{ℕ, ◌+◌, ◌≤◌, ◌<◌}
use mathlib.Core.List.{List}
use mathlib.Core.Path.{◌≡◌, refl, sym, ◌∙◌, subst}
use native.Mathlib.Decide.{ℕ_discrete}
use native.Mathlib.Omega.{arith}
use borrow.Author.Tests.{ltb-false}
use lib.ListN.{length, get_or, set, length-set}
use lib.Seq.{get_or-set_same, get_or-set_other}
use Rattle.packet_set.specs.Bits.{mask_bits}
use Rattle.policy.specs.declared.Node.{Node}
use Rattle.policy.specs.declared.Node.TheVariants.{Star}
use Rattle.policy.specs.Legality.{bad_kind}
use Rattle.policy.specs.NodeLists.{NodeLists, node_count, node_at}
use Rattle.loaded.specs.Loading.{Formed, packed, Packed}
use Rattle.loaded.proofs.Trees.{small}

pub kind_small : (L : NodeLists) → Formed L → (n : ℕ) → n < node_count L → get_or L.kind n 0 ≤ 9
unfolding bad_kind
kind_small L f n l = ltb-false 9 (get_or L.kind n 0) (f.legal.well_formed.kinds n l)

-- a star keeps a slot, by the node that was read
pub star_keeps : {node read : Node} {keeps : ℕ} → read ≡ node → ((c : ℕ) → read ≡ Star c → keeps ≡ 1) → (c : ℕ) → node ≡ Star c → keeps ≡ 1
star_keeps e h c q = h c (e ∙ q)

-- the first n nodes are packed
pub record Writing (L : NodeLists) (guards alone labels ups nodes now : List ℕ) (n : ℕ) : Type 0 where
  pub at : n ≤ node_count L
  pub long : length now ≡ length nodes
  pub each : (j : ℕ) → j < n → Packed L guards alone labels ups now j

module _ (L : NodeLists) (guards alone labels ups nodes : List ℕ) where
  pub writing_start : Writing L guards alone labels ups nodes nodes 0
  writing_start = record { at = omega arith; long = refl; each = λ j h. absurd (omega arith) }

  module _ (now : List ℕ) (n : ℕ) (m : Writing L guards alone labels ups nodes now n) where
    pub writing_turn : Formed L → length nodes ≡ 576 → n < node_count L → (keeps : ℕ) → keeps ≤ 1 → ((c : ℕ) → node_at L n ≡ Star c → keeps ≡ 1)
        → get_or L.first n 0 < 65536 → get_or L.second n 0 < 65536 → (x : ℕ) → x ≡ packed (get_or L.kind n 0) (get_or L.first n 0) (get_or L.second n 0) (get_or guards n 0) (get_or alone n 0) (get_or labels n 0) (get_or ups n 0) keeps
        → Writing L guards alone labels ups nodes (set now n x) (n + 1)
    writing_turn f w l keeps flag star a b x e = record { at = omega arith; long = length-set now n x ∙ m.long; each = λ j h. split j h (ℕ_discrete j n) }
      where
        split : (j : ℕ) → j < n + 1 → Dec (j ≡ n) → Packed L guards alone labels ups (set now n x) j
        split j h (yes q) =
            subst (Packed L guards alone labels ups (set now n x)) (sym q)
            (record { keeps = keeps; flag = flag; star = star; first_small = a; second_small = b; here = get_or-set_same now n x 0 (let s = small L f n l in omega (arith, m.long)) ∙ e })
        split j h (no q) =
            let p = m.each j (omega arith) in
            record { keeps = p.keeps; flag = p.flag; star = p.star; first_small = p.first_small; second_small = p.second_small; here = get_or-set_other now n j x 0 q ∙ p.here }

-- i places are written
pub record Listing (places nodes now : List ℕ) (i : ℕ) : Type 0 where
  pub at : i ≤ mask_bits
  pub long : length now ≡ length nodes
  pub after : (j : ℕ) → j < i → get_or now (512 + j) 0 ≡ get_or places j 0
  pub before : (n : ℕ) → n < 512 → get_or now n 0 ≡ get_or nodes n 0
