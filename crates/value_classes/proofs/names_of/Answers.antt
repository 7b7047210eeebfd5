-- `names_of` meets its contract: the keys of both policies are gathered, then sorted. Assumes nothing.
use native.Mathlib.Omega.{arith}
use mathlib.Core.Path.{◌∙◌}
use Rattle.value_classes.proofs.NameLaws.{gathered, left_few, sorted_order, names_sorted}
use Rattle.value_classes.proofs.names_of.Goals as goal

pub note_policy-both-requires : goal.note_policy-both-requires
note_policy-both-requires c = (c.requires.1, omega (arith, left_few c.requires.0 c.note_policy-n.ensures.0), c.note_policy-n.ensures.0.long)

pub starts_of-requires : goal.starts_of-requires
starts_of-requires c = sorted_order (gathered c.requires.0 c.requires.1 c.note_policy-n.ensures.0 c.note_policy-both.ensures.0) c.sort-count.ensures

pub returns : goal.returns
returns c = names_sorted (c.requires.0, c.requires.1) c.note_policy-n.ensures c.note_policy-both.ensures c.sort-count.ensures (c.sort-count.auto.out ∙ c.requires.2) c.starts_of.ensures
