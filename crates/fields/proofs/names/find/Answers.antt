-- `find` meets its contract: no cell below `f` holds the word. Assumes nothing.
use native.Mathlib.Numerals.{add-one}
use native.Mathlib.Omega.{arith}
use mathlib.Core.Path.{refl, sym, ap, ◌∙◌}
use Rattle.packet.specs.Lowest.{lowest}
use Rattle.packet.proofs.Lowest.{lowest_more}
use Rattle.fields.specs.Names.{same_word}
use Rattle.fields.proofs.NameLaws.{bears, bears_cell, find_found, find_none}
use Rattle.fields.proofs.names.find.Goals as goal

pub loop-f-init : goal.loop-f-init
unfolding lowest
loop-f-init c = refl

pub returns-then-eq : goal.returns-then-eq
returns-then-eq c =
    sym (find_found c.args.cells.now c.args.w.now c.loop-f.f c.loop-f-test.true c.loop-f.invariant (bears_cell c.args.cells.now c.args.w.now c.loop-f.f c.loop-f-test.true (c.eq.ensures ∙ ap (same_word c.args.w.now) c.name_in.ensures) c.if-eq.true))

pub loop-f-preserved : goal.loop-f-preserved
loop-f-preserved c =
    ap (lowest (bears c.args.cells.now c.args.w.now)) (add-one c.loop-f.f)
    ∙ lowest_more (bears c.args.cells.now c.args.w.now) c.loop-f.f c.loop-f.invariant (bears_cell c.args.cells.now c.args.w.now c.loop-f.f c.loop-f-test.true (c.eq.ensures ∙ ap (same_word c.args.w.now) c.name_in.ensures) c.if-eq.false)

pub returns : goal.returns
returns c = sym (find_none c.args.cells.now c.args.w.now c.loop-f.f c.loop-f.invariant (omega arith))
