-- `traces::lowest_bad` meets its contract: the entering packet and the first `i` of the trace are in range. Assumes nothing.
use native.Mathlib.Numerals.{add-one}
use native.Mathlib.Omega.{arith}
use Rattle.std.specs.Prelude.{Some}
use mathlib.Core.Path.{sym, ap, ◌∙◌}
use Rattle.packet.proofs.Lowest.{lowest_none_whole}
use Rattle.traces.proofs.Testing.{entering_bad, entering_good, packet_bad, packet_good}
use Rattle.traces.proofs.lowest_bad.Goals as goal

pub returns-then-count-entering : goal.returns-then-count-entering
returns-then-count-entering c = sym (entering_bad _ _ _ c.if-count-entering.true)

pub loop-i-init : goal.loop-i-init
loop-i-init c = entering_good _ _ _ c.if-count-entering.false

pub returns-then-count-packet : goal.returns-then-count-packet
returns-then-count-packet c = sym (packet_bad _ _ _ c.loop-i.invariant c.loop-i-test.true c.if-count-packet.true ∙ ap Some (sym (add-one _)))

pub loop-i-preserved : goal.loop-i-preserved
loop-i-preserved c = rw add-one (packet_good _ _ _ c.loop-i.invariant c.loop-i-test.true c.if-count-packet.false)

pub returns : goal.returns
returns c = sym (lowest_none_whole _ _ _ c.loop-i.invariant (omega arith))
