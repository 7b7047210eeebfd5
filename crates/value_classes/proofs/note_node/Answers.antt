-- `note_node` meets its contract: kinds 2, 3 and 4 name a key. Assumes nothing.
use native.Mathlib.Omega.{arith}
use mathlib.Core.List.{[], ◌∷◌}
use mathlib.Core.Path.{sym, ap, ◌∙◌}
use Rattle.value_classes.proofs.NodeLaws.{naming, naming_none, one_key, no_keys, one_added, none_added}
use Rattle.value_classes.proofs.note_node.Goals as goal

pub returns-in-2 : goal.returns-in-2
returns-in-2 c = (one_added _ _ _ _ (one_key (naming _ _ _ (omega arith) (omega arith)) ∙ ap (λ k. k ∷ []) (sym c.key.ensures)) (omega arith), c.ranges.second.fits)

pub returns-in_default : goal.returns-in_default
returns-in_default c = (none_added _ _ _ (no_keys _ (naming_none _ _ _ (λ l h. omega arith))), c.ranges.second.fits)

pub returns-in_default-2 : goal.returns-in_default-2
returns-in_default-2 c = (none_added _ _ _ (no_keys _ (naming_none _ _ _ (λ l h. omega arith))), c.ranges.second.fits)
