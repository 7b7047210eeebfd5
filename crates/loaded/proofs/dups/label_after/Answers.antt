-- `label_after` meets its contract. Assumes nothing.
use mathlib.Core.Path.{refl}
use Rattle.policy.specs.NodeLists.{is_dup}
use Rattle.loaded.proofs.Labelling.{next_label, same_label, not_dup}
use Rattle.loaded.proofs.dups.label_after.Goals as goal

pub returns-in-Dup : goal.returns-in-Dup
unfolding is_dup
returns-in-Dup c = next_label _ _ _ c.in-Dup.is refl

pub returns-in_default : goal.returns-in_default
returns-in_default c = same_label _ _ _ refl (not_dup _ c.in_default.not-Dup)
