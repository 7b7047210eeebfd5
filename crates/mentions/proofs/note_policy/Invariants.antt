-- `note_policy` meets its contract: the first `i` nodes are noted. Assumes nothing.
use Rattle.mentions.specs.Noting.{PolicyNoted}
use Rattle.mentions.proofs.note_policy.Given as goal

abbrev pub invariant-loop-i : goal.invariant-loop-i
invariant-loop-i l = PolicyNoted l.sizes l.policy.kind.now l.policy.first.now l.i l.initial.core l.core
