-- `two_sizes` meets its contract: no name below `i` has another size in the other table. Assumes nothing.
use native.Mathlib.Numerals.{add-one}
use native.Mathlib.Omega.{arith}
use mathlib.Core.Path.{refl, sym, ap, ◌∙◌}
use lib.ListN.{get_or}
use Rattle.packet.specs.Lowest.{lowest}
use Rattle.packet.proofs.Lowest.{lowest_more, lowest_found, lowest_none_whole}
use Rattle.fields.specs.Names.{names_in, field_named}
use Rattle.fields.specs.Tables.{another}
use Rattle.fields.proofs.TableLaws.{two_sizes_cell}
use Rattle.fields.proofs.two_sizes.Goals as goal

pub loop-i-init : goal.loop-i-init
unfolding lowest
loop-i-init c = refl

pub returns-then-has_other : goal.returns-then-has_other
returns-then-has_other c =
    sym (lowest_found _ c.loop-i.i _ c.loop-i.invariant (two_sizes_cell _ _ _ _ c.loop-i.i c.requires.0 c.loop-i-test.true (c.has_other.ensures ∙ ap (λ w. another (get_or c.args.table.sizes.now c.loop-i.i 0) c.args.other.sizes.now (field_named (names_in c.args.other.names.now) w)) c.name_in.ensures) c.if-has_other.true) c.loop-i-test.true)

pub loop-i-preserved : goal.loop-i-preserved
loop-i-preserved c =
    ap (lowest _) (add-one c.loop-i.i)
    ∙ lowest_more _ c.loop-i.i c.loop-i.invariant (two_sizes_cell _ _ _ _ c.loop-i.i c.requires.0 c.loop-i-test.true (c.has_other.ensures ∙ ap (λ w. another (get_or c.args.table.sizes.now c.loop-i.i 0) c.args.other.sizes.now (field_named (names_in c.args.other.names.now) w)) c.name_in.ensures) c.if-has_other.false)

pub returns : goal.returns
returns c = sym (lowest_none_whole _ c.loop-i.i _ c.loop-i.invariant (omega arith))
