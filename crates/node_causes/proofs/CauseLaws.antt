-- Causes 4 and 7 as their functions find them.
use Prim.Native.Nat.{ℕ, ◌<◌, ◌≤◌}
use mathlib.Core.Bool.{Bool, true, false}
use mathlib.Core.Path.{◌≡◌, sym, ap, ◌∙◌}
use native.Mathlib.Omega.{arith}
use lib.ListN.{length}
use borrow.Author.Tests.{eq-eqb, ne_eqb, lt-ltb}
use Rattle.policy.specs.declared.Node.{Node}
use Rattle.policy.specs.NodeLists.{NodeLists, node_count, node_at, children}
use Rattle.policy.specs.Legality.{bad_lengths, some_not_below, bad_child}
use Rattle.policy.proofs.LegalityLaws.{lengths}

-- ---- cause 4

module _ (L : NodeLists) where
  pub first_unequal : (length L.first ≡ node_count L → ⊥) → bad_lengths L ≡ true
  unfolding bad_lengths
  first_unequal d = rw (ne_eqb _ _ d)

  pub second_unequal : length L.first ≡ node_count L → (length L.second ≡ node_count L → ⊥) → bad_lengths L ≡ true
  unfolding bad_lengths
  second_unequal e d = rw (eq-eqb _ _ e, ne_eqb _ _ d)

  pub no_node : length L.first ≡ node_count L → length L.second ≡ node_count L → node_count L ≡ 0 → bad_lengths L ≡ true
  unfolding bad_lengths
  no_node e f z = rw (eq-eqb _ _ e, eq-eqb _ _ f, eq-eqb (node_count L) 0 z)

  pub too_long : length L.first ≡ node_count L → length L.second ≡ node_count L → (node_count L ≡ 0 → ⊥) → 512 < node_count L → bad_lengths L ≡ true
  unfolding bad_lengths
  too_long e f d o = rw (eq-eqb _ _ e, eq-eqb _ _ f, ne_eqb (node_count L) 0 d, lt-ltb 512 (node_count L) o)

  pub lengths_good : length L.first ≡ node_count L → length L.second ≡ node_count L → (node_count L ≡ 0 → ⊥) → node_count L ≤ 512 → bad_lengths L ≡ false
  lengths_good e f d o = (lengths L).1 record { first = e; second = f; some = omega arith; few = o }

-- ---- cause 7

pub bad_child_at : (L : NodeLists) (i : ℕ) {n : Node} {b d : Bool} → n ≡ node_at L i → b ≡ some_not_below i (children n) → b ≡ d → bad_child L i ≡ d
unfolding bad_child
bad_child_at L i e f g = sym (f ∙ ap (λ (n : Node). some_not_below i (children n)) e) ∙ g
