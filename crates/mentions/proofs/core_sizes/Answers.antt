-- `core_sizes` meets its contract. Assumes nothing.
use native.Mathlib.Omega.{arith}
use Rattle.policy.specs.AsLists.{as_lists}
use Rattle.mentions.proofs.Noting.{both_noted}
use Rattle.mentions.proofs.core_sizes.Goals as goal

pub returns : goal.returns
returns c = record { room = omega arith; sizes_of_core = λ l r s t. both_noted _ (as_lists _ _ s) (as_lists _ _ t) _ _ c.requires (c.note_policy.ensures l) (c.note_policy-2.ensures r) }
