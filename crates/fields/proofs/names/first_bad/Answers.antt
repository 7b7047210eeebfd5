-- `first_bad` meets its contract: no name below `i` is bad. Assumes nothing.
use native.Mathlib.Numerals.{add-one}
use native.Mathlib.Omega.{arith}
use mathlib.Core.Path.{refl, sym, ap, ◌∙◌}
use Rattle.packet.specs.Lowest.{lowest}
use Rattle.packet.proofs.Lowest.{lowest_more, lowest_found, lowest_none_whole}
use Rattle.fields.specs.Names.{names_in, bad_name}
use Rattle.fields.proofs.TableLaws.{bad, bad_cell}
use Rattle.fields.proofs.names.first_bad.Goals as goal

pub loop-i-init : goal.loop-i-init
unfolding lowest
loop-i-init c = refl

pub returns-then-is_bad : goal.returns-then-is_bad
returns-then-is_bad c =
    sym (lowest_found (bad_name (names_in c.args.cells.now)) c.loop-i.i _ c.loop-i.invariant (bad_cell c.args.cells.now c.loop-i.i c.loop-i-test.true (c.is_bad.ensures ∙ ap (bad _) c.name_in.ensures) c.if-is_bad.true) c.loop-i-test.true)

pub loop-i-preserved : goal.loop-i-preserved
loop-i-preserved c =
    ap (lowest (bad_name (names_in c.args.cells.now))) (add-one c.loop-i.i)
    ∙ lowest_more (bad_name (names_in c.args.cells.now)) c.loop-i.i c.loop-i.invariant (bad_cell c.args.cells.now c.loop-i.i c.loop-i-test.true (c.is_bad.ensures ∙ ap (bad _) c.name_in.ensures) c.if-is_bad.false)

pub returns : goal.returns
returns c = sym (lowest_none_whole (bad_name (names_in c.args.cells.now)) c.loop-i.i _ c.loop-i.invariant (omega arith))
