-- `Input::build` writes no more than the text has room for.
use Rattle.std.proofs.Common.{◌≤◌, length}
use Rattle.harness.proofs.Input.build.Given as goal

abbrev pub invariant-loop : goal.invariant-loop
invariant-loop l = l.len ≤ length l.text

abbrev pub invariant-loop-2 : goal.invariant-loop-2
invariant-loop-2 l = l.len ≤ length l.text

abbrev pub invariant-loop-3 : goal.invariant-loop-3
invariant-loop-3 l = l.len ≤ length l.text
