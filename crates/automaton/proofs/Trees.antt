-- The policy of legal lists can be evaluated: its tests are within the fields, its negations over tests alone and its dups have different numbers.
use Prim.Native.Nat.{ℕ}
use mathlib.Core.List.{List}
use Rattle.policy.specs.Legality.{Legal}
use Rattle.policy.specs.NodeLists.{NodeLists, node_count, dups_below, policy_of}
use Rattle.policy.proofs.LabelLaws.{policy_labelled}
use Rattle.policy.proofs.Trees.{policy_fields, policy_negates}
use Rattle.automaton.specs.Remainder.{Evaluable}

pub policy_evaluable : (sizes : List ℕ) (L : NodeLists) → Legal sizes L → Evaluable sizes (dups_below L (node_count L)) (policy_of L)
policy_evaluable sizes L ok = record { in_fields = policy_fields ok; negates = policy_negates ok; labelled = policy_labelled ok }
