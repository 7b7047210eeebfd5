-- `tables::entry_of` meets its contract.
use native.Mathlib.Omega.{arith}
use mathlib.Core.Path.{sym, ◌∙◌}
use Rattle.input.proofs.EntryLaws.{no_equals, more_equals, no_size, one_equals}
use Rattle.input.proofs.tables.entry_of.Goals as goal

pub returns-then-equals-w : goal.returns-then-equals-w
returns-then-equals-w c = no_equals c.part_end-equals.ensures c.if-equals-w.true

pub returns-then-part_end-w : goal.returns-then-part_end-w
returns-then-part_end-w c = more_equals c.part_end-equals.ensures (omega (arith, c.part_end-equals.ensures.within, c.if-equals-w.false)) c.part_end.ensures c.if-part_end-w.true

pub returns-in_err-size : goal.returns-in_err-size
returns-in_err-size c = rw c.from_residual.ensures (no_size c.part_end-equals.ensures (omega (arith, c.part_end-equals.ensures.within, c.if-equals-w.false)) c.part_end.ensures c.if-part_end-w.false (sym c.size_of.ensures ∙ c.in_err-size.was))

pub returns : goal.returns
returns c = one_equals c.part_end-equals.ensures (omega (arith, c.part_end-equals.ensures.within, c.if-equals-w.false)) c.part_end.ensures c.if-part_end-w.false (sym c.size_of.ensures ∙ c.in_ok-size.was)
