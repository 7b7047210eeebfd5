-- The nodes of the lists of a legal policy: their trees and their children.
use Prim.Native.Nat.{ℕ, suc, ◌≤◌, ◌<◌}
use mathlib.Core.List.{List}
use mathlib.Core.Path.{◌≡◌, sym, ap, ◌∙◌, subst}
use native.Mathlib.Omega.{arith}
use lib.ListN.{length}
use Rattle.packet_set.specs.Bits.{mask_bits}
use Rattle.policy.specs.declared.Node.{Node}
use Rattle.policy.specs.Legality.{Legal}
use Rattle.policy.specs.NodeLists.{NodeLists, node_count, node_at, children, dups_below, grow, tree_of}
use Rattle.policy.proofs.EachLaws.{each_map}
use Rattle.policy.proofs.LabelLaws.{dups_more}
use Rattle.policy.proofs.Trees.{ChildrenBelow, children_below, tree_grow}
use Rattle.loaded.specs.Loading.{Formed}
use Rattle.tree_causes.specs.Alone.{ChildrenPlaced}

pub legal_formed : (sizes : List ℕ) (L : NodeLists) → Legal sizes L → Formed L
legal_formed sizes L g = record { sizes = sizes; legal = g }

-- the lists are as long as one another, and no longer than what goes with them
abbrev pub Alike : NodeLists → Type 0
Alike L = (length L.first ≡ length L.kind) × (length L.second ≡ length L.kind) × (length L.kind ≤ 512)

pub formed_alike : {L : NodeLists} → Formed L → Alike L
unfolding node_count
formed_alike f = (f.legal.well_formed.firsts, f.legal.well_formed.seconds, f.legal.well_formed.few)

module _ (L : NodeLists) (f : Formed L) where
  pub below : ChildrenBelow L
  below = children_below f.legal.well_formed

  pub few : node_count L ≤ 512
  few = f.legal.well_formed.few

  pub firsts : length L.first ≡ node_count L
  firsts = f.legal.well_formed.firsts

  pub seconds : length L.second ≡ node_count L
  seconds = f.legal.well_formed.seconds

  pub some : 0 < node_count L
  some = f.legal.some

  -- dups are numbered up to 63
  pub few_dups : (n : ℕ) → n ≤ node_count L → dups_below L n < mask_bits
  few_dups n l = let h = dups_more L n (node_count L) l in let k = f.legal.well_formed.dups in omega arith

  module _ (n : ℕ) (l : n < node_count L) where
    pub small : n < 512
    small = let h = few in omega arith

    -- the children of a node have a place
    pub placed : ChildrenPlaced (node_at L n)
    unfolding ChildrenPlaced
    placed = let h = few in each_map (λ c. c < n) (λ c. c < 512) (children (node_at L n)) (λ c k. omega arith) (below n l)

    -- a tree by the trees of the children, where the node is known
    pub tree_of_lem : (d : Node) → node_at L n ≡ d → tree_of L n ≡ grow (tree_of L) (dups_below L (suc n)) d
    tree_of_lem d e = tree_grow L below n l ∙ ap (grow (tree_of L) (dups_below L (suc n))) e

    pub placed_read : (node : Node) → node ≡ node_at L n → ChildrenPlaced node
    placed_read node e = subst ChildrenPlaced (sym e) placed

    pub in_lists : (n < length L.kind) × (n < length L.first) × (n < length L.second)
    unfolding node_count
    in_lists = let h = firsts in let k = seconds in omega arith
