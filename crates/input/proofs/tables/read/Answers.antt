-- `tables::read` meets its contract.
use borrow.Author.Rules.{rules}
use mathlib.Core.Path.{refl, sym, ◌∙◌}
use native.Mathlib.Omega.{arith}
use borrow.Author.Tests.{eqb-true, eqb-false}
use Rattle.input.proofs.TableLaws.{none_read, no_entries, has_room, onward, not_entry, read_on, read_last}
use Rattle.input.proofs.tables.read.Goals as goal

pub returns-then-is_empty : goal.returns-then-is_empty
returns-then-is_empty c = no_entries _ _ _ (eqb-true _ _ (sym c.is_empty.ensures ∙ c.if-is_empty.true))

pub loop-count-init : goal.loop-count-init
loop-count-init c = (none_read _ _ _ (eqb-false _ _ (sym c.is_empty.ensures ∙ c.if-is_empty.false)), refl, refl)

pub store-requires : goal.store-requires
store-requires c = (has_room c.loop-count.invariant.0 c.requires.0, omega (arith, c.loop-count.invariant.1, c.requires.1), omega (arith, c.loop-count.invariant.2, c.requires.2))

pub returns-then-not-store : goal.returns-then-not-store
returns-then-not-store c = not_entry c.loop-count.invariant.0 c.requires.0 c.part_end-end.ensures c.store.ensures c.if-not-store.true

pub returns-then-end-line : goal.returns-then-end-line
returns-then-end-line c = read_last c.loop-count.invariant.0 c.requires.0 c.part_end-end.ensures c.store.ensures c.if-not-store.false (omega (arith, c.loop-count.invariant.1, c.requires.1)) (omega (arith, c.loop-count.invariant.2, c.requires.2)) c.if-end-line.true

pub loop-count-smaller : goal.loop-count-smaller
loop-count-smaller c = omega (arith, onward c.loop-count.invariant.0 c.requires.0 c.part_end-end.ensures c.store.ensures c.if-not-store.false, c.part_end-end.ensures.within, c.if-end-line.false)

pub loop-count-preserved : goal.loop-count-preserved
loop-count-preserved c = (read_on c.loop-count.invariant.0 c.requires.0 c.part_end-end.ensures c.store.ensures c.if-not-store.false (omega (arith, c.loop-count.invariant.1, c.requires.1)) (omega (arith, c.loop-count.invariant.2, c.requires.2)) (omega (arith, c.part_end-end.ensures.within, c.if-end-line.false)), search rules, search rules)
