-- A node packed into one number gives its parts back.
use Prim.Native.Nat.{ℕ, ◌/◌, ◌%◌, ◌<◌}
use mathlib.Core.Path.{◌≡◌, sym, ap}
use native.Mathlib.Omega.{arith}
use Rattle.policy.specs.NodeLists.{node_of}
use Rattle.loaded.specs.Nodes.{set_in, label_in, up_in}
use Rattle.loaded.specs.Loading.{packed}

-- a node of kind k
pub of_kind : (x k a b : ℕ) → x ≡ k → node_of k a b ≡ node_of x a b
of_kind x k a b e = sym (ap (λ (k : ℕ). node_of k a b) e)

module _ (k a b s t l u o : ℕ) (hk : k < 16) (ha : a < 65536) (hb : b < 65536) (hs : s < 512) (ht : t < 2) (hl : l < 64) (hu : u < 1024) (ho : o < 2) where
  pub kind_back : packed k a b s t l u o % 16 ≡ k
  unfolding packed
  kind_back = omega arith

  pub first_back : packed k a b s t l u o / 16 % 65536 ≡ a
  unfolding packed
  first_back = omega arith

  pub second_back : packed k a b s t l u o / 1048576 % 65536 ≡ b
  unfolding packed
  second_back = omega arith

  pub set_back : set_in (packed k a b s t l u o) ≡ s
  unfolding packed set_in
  set_back = omega arith

  pub test_back : packed k a b s t l u o / 35184372088832 % 2 ≡ t
  unfolding packed
  test_back = omega arith

  pub label_back : label_in (packed k a b s t l u o) ≡ l
  unfolding packed label_in
  label_back = omega arith

  pub up_back : up_in (packed k a b s t l u o) ≡ u
  unfolding packed up_in
  up_back = omega arith

  pub slot_back : packed k a b s t l u o / 4611686018427387904 % 2 ≡ o
  unfolding packed
  slot_back = omega arith
