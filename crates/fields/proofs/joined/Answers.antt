-- `joined` meets its contract: the fields of both tables are held. Assumes nothing.
use native.Mathlib.Omega.{arith}
use mathlib.Core.Path.{sym, ap, ◌∙◌}
use Rattle.std.proofs.Common.{Err}
use Rattle.packet.specs.Sizes.{fields_stage}
use Rattle.packet.proofs.Stages.{handed_on}
use Rattle.fields.specs.Tables.{lent_tables}
use Rattle.fields.proofs.CauseLaws.{answer_refused}
use Rattle.fields.proofs.HeldLaws.{joint_held, joined_many, joined_sizes, joined_held}
use Rattle.fields.proofs.joined.Goals as goal

pub returns-then-joint-gt8 : goal.returns-then-joint-gt8
returns-then-joint-gt8 c =
    joined_many (lent_tables c.args.tables) _ _ _ (joint_held c.add_table.ensures c.add_table-2.ensures) (omega arith) (omega arith) c.if-joint-gt8.true ∙ sym (ap Err c.unsided.ensures)

pub returns-in_err-fields_stage : goal.returns-in_err-fields_stage
returns-in_err-fields_stage c =
    answer_refused _ c.from_residual.result (handed_on _ c.from_residual.ensures.1)
    (ap fields_stage (sym (joined_sizes (lent_tables c.args.tables) _ _ _ (joint_held c.add_table.ensures c.add_table-2.ensures) (omega arith) (omega arith) c.if-joint-gt8.false)) ∙ sym c.fields_stage.ensures ∙ c.in_err-fields_stage.was)

pub returns : goal.returns
returns c = (
  ap fields_stage (sym (joined_sizes (lent_tables c.args.tables) _ _ _ (joint_held c.add_table.ensures c.add_table-2.ensures) (omega arith) (omega arith) c.if-joint-gt8.false)) ∙ sym c.fields_stage.ensures ∙ c.in_ok-fields_stage.was,
  joined_held (lent_tables c.args.tables) _ _ _ (joint_held c.add_table.ensures c.add_table-2.ensures) (omega arith) (omega arith) c.if-joint-gt8.false,
)
