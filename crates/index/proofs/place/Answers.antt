-- `index::place` meets its contract: a look goes from a row to a child whose number is above its own. Assumes nothing.
use mathlib.Core.Path.{◌∙◌, ap}
use borrow.Author.Rules.{rules}
use lib.ListN.{length}
use native.Mathlib.Omega.{arith}
use Rattle.index.proofs.Looking.{at_row, at_slot, looking_start, looking_slot, looking_vacant, looking_place, looking_less, looking_deep, looking_listed, looking_more}
use Rattle.index.proofs.place.Goals as goal
use Rattle.index.proofs.States.{rows_equal}

pub loop-row-init : goal.loop-row-init
loop-row-init c = looking_start c.requires.indexed c.args.row c.requires.packet_lt_count _ c.bucket-slot.ensures.0 c.bucket-slot.ensures.1

pub bounds-trees-slot : goal.bounds-trees-slot
bounds-trees-slot c = looking_slot c.requires.indexed c.args.row c.requires.packet_lt_count c.loop-row.invariant

pub returns-then-entry-eq0 : goal.returns-then-entry-eq0
returns-then-entry-eq0 c = at_slot (looking_vacant c.requires.indexed c.args.row c.requires.packet_lt_count c.loop-row.invariant _ c.from-entry.ensures c.if-entry-eq0.true)

pub row-requires : goal.row-requires
row-requires c = record { even_columns = c.requires.indexed.table; i_in_bounds = looking_place c.requires.indexed c.args.row c.requires.packet_lt_count c.loop-row.invariant _ c.from-entry.ensures c.if-entry-eq0.false }

pub returns-then-eq : goal.returns-then-eq
returns-then-eq c = at_row (looking_listed c.requires.indexed c.args.row c.requires.packet_lt_count c.loop-row.invariant _ c.from-entry.ensures c.if-entry-eq0.false _ _ c.row.ensures (c.eq.ensures ∙ rows_equal _ _ (ap (λ x. length x.states) c.row.ensures) (search rules)) c.if-eq.true)

pub overflow_mul-slot : goal.overflow_mul-slot
overflow_mul-slot c = record { fits = omega (arith, looking_place c.requires.indexed c.args.row c.requires.packet_lt_count c.loop-row.invariant _ c.from-entry.ensures c.if-entry-eq0.false, c.requires.indexed.numbered) }

pub overflow_add-slot : goal.overflow_add-slot
overflow_add-slot c = record { fits = omega (arith, looking_place c.requires.indexed c.args.row c.requires.packet_lt_count c.loop-row.invariant _ c.from-entry.ensures c.if-entry-eq0.false, c.requires.indexed.numbered) }

pub overflow_add-slot-in-loop-row : goal.overflow_add-slot-in-loop-row
overflow_add-slot-in-loop-row c = record { fits = omega (arith, looking_place c.requires.indexed c.args.row c.requires.packet_lt_count c.loop-row.invariant _ c.from-entry.ensures c.if-entry-eq0.false, c.requires.indexed.numbered, c.side_at.ensures.1) }

pub overflow_add-depth : goal.overflow_add-depth
overflow_add-depth c = record { fits = omega (arith, looking_deep c.requires.indexed c.args.row c.requires.packet_lt_count c.loop-row.invariant _ c.from-entry.ensures c.if-entry-eq0.false, c.requires.indexed.within, c.requires.indexed.numbered) }

pub loop-row-smaller : goal.loop-row-smaller
loop-row-smaller c = looking_less c.requires.indexed c.args.row c.requires.packet_lt_count c.loop-row.invariant _ c.from-entry.ensures c.if-entry-eq0.false

pub loop-row-preserved : goal.loop-row-preserved
loop-row-preserved c = looking_more c.requires.indexed c.args.row c.requires.packet_lt_count c.loop-row.invariant _ c.from-entry.ensures c.if-entry-eq0.false _ _ c.row.ensures (c.eq.ensures ∙ rows_equal _ _ (ap (λ x. length x.states) c.row.ensures) (search rules)) c.if-eq.false _ c.side_at.ensures.0
