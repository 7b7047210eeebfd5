-- `put` meets its contract. Assumes nothing.
use native.Mathlib.Omega.{arith}
use Rattle.fields.proofs.HeldLaws.{put_full, put_more, cell_written}
use Rattle.fields.proofs.JointFields.put.Goals as goal

pub returns-then-self-eq8 : goal.returns-then-self-eq8
returns-then-self-eq8 c = put_full _ _ _ _ _ c.if-self-eq8.true (omega arith)

pub returns : goal.returns
returns c =
    put_more c.args.cell.now c.args.size c.args.self.now.count c.args.self.now.names c.args.self.now.sizes c.requires.0 (omega arith) (omega arith) (omega arith) _
    (cell_written c.args.cell.now c.args.size c.args.self.now.count c.args.self.now.names c.args.self.now.sizes c.requires.0 (omega arith) (omega arith) (omega arith) c.copy_from_slice.new.self c.copy_from_slice.ensures.after)
