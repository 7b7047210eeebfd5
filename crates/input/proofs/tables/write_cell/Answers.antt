-- `tables::write_cell` meets its contract.
use native.Mathlib.Omega.{arith}
use mathlib.Core.Path.{◌∙◌}
use Rattle.input.proofs.CellLaws.{cell_built, cell_written}
use Rattle.input.proofs.tables.write_cell.Goals as goal

pub returns : goal.returns
returns c = cell_written c.args.name.now c.args.cells.now c.args.at _ (omega arith) (c.copy_from_slice-2.ensures.after ∙ cell_built c.args.name.now c.min.ensures c.min-n.ensures (omega arith) c.copy_from_slice.ensures.after)
