-- `show` meets its contract.
use native.Mathlib.Omega.{arith}
use Rattle.printed_verdict.specs.Output.{word_left, word_right}
use Rattle.printed_verdict.specs.Inner.{verdict_lines, Fits}
use Rattle.printed_verdict.proofs.Fitting.{fits_at, shows_at}
use Rattle.printed_verdict.proofs.show.Goals as goal

pub equal-requires : goal.equal-requires
unfolding Fits
equal-requires c = let f = fits_at c.args.rows.packets.now c.args.rows.left.now c.args.rows.right.now c.args.trace.now c.in-Equal.is c.requires.1 in (c.requires.0, f.0, f.1, f.2, f.3)

pub telling-requires : goal.telling-requires
unfolding Fits
telling-requires c = let f = fits_at c.args.rows.packets.now c.args.rows.left.now c.args.rows.right.now c.args.trace.now c.in-Left.is c.requires.1 in (c.requires.0, omega arith, f.0, f.1)

pub telling-requires-in-Right : goal.telling-requires-in-Right
unfolding Fits
telling-requires-in-Right c = let f = fits_at c.args.rows.packets.now c.args.rows.left.now c.args.rows.right.now c.args.trace.now c.in-Right.is c.requires.1 in (c.requires.0, omega arith, f.0, f.1)

pub returns-in-Equal : goal.returns-in-Equal
unfolding verdict_lines word_left word_right
returns-in-Equal c = shows_at c.args.rows.packets.now c.args.rows.left.now c.args.rows.right.now c.args.trace.now c.in-Equal.is c.equal.ensures

pub returns-in-Left : goal.returns-in-Left
unfolding verdict_lines word_left word_right
returns-in-Left c = shows_at c.args.rows.packets.now c.args.rows.left.now c.args.rows.right.now c.args.trace.now c.in-Left.is c.telling.ensures

pub returns-in-Right : goal.returns-in-Right
unfolding verdict_lines word_left word_right
returns-in-Right c = shows_at c.args.rows.packets.now c.args.rows.left.now c.args.rows.right.now c.args.trace.now c.in-Right.is c.telling-in-Right.ensures

pub returns-in-Full : goal.returns-in-Full
unfolding verdict_lines word_left word_right
returns-in-Full c = shows_at c.args.rows.packets.now c.args.rows.left.now c.args.rows.right.now c.args.trace.now c.in-Full.is c.refused.ensures

pub returns-in-Refused : goal.returns-in-Refused
unfolding verdict_lines word_left word_right
returns-in-Refused c = shows_at c.args.rows.packets.now c.args.rows.left.now c.args.rows.right.now c.args.trace.now c.in-Refused.is c.refused-in-Refused.ensures
