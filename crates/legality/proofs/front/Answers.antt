-- `front` meets its contract: the stages as found, in their order. Assumes nothing.
use native.Mathlib.Omega.{arith}
use mathlib.Core.Path.{sym}
use lib.Seq.{length-take-le}
use Rattle.fields.specs.Tables.{lent_tables}
use Rattle.policy.specs.AsLists.{lists_of}
use Rattle.packet.proofs.Stages.{handed_on}
use Rattle.legality.proofs.AnswerLaws.{fields_refused, few_taken, front_policies, front_product, front_lists, front_told, front_refused}
use Rattle.legality.proofs.front.Goals as goal

pub slice_bounds-core-end : goal.slice_bounds-core-end
slice_bounds-core-end c = omega (arith, c.in_ok-joint.ensures.1.few, c.core_sizes-core.ensures.room)

pub slice_bounds-packet_count-end : goal.slice_bounds-packet_count-end
slice_bounds-packet_count-end c = sym (length-take-le _ _ (omega (arith, c.in_ok-joint.ensures.1.few, c.core_sizes-core.ensures.room)))

pub returns-in_err-joint : goal.returns-in_err-joint
returns-in_err-joint c = front_refused _ _ _ _ _ c.from_residual.result (handed_on _ c.from_residual.ensures.1) (fields_refused _ _ _ _ _ c.in_err-joint.ensures)

pub returns-in_err-left_dups : goal.returns-in_err-left_dups
returns-in_err-left_dups c =
    front_refused _ _ _ _ _ c.from_residual-in_err-left_dups.result (handed_on _ c.from_residual-in_err-left_dups.ensures.1)
    (front_policies _ _ _ _ _ _ c.in_ok-joint.ensures c.policy_stage.ensures c.policy_stage-2.ensures c.both_legal-policies.ensures c.in_err-left_dups.was)

pub core_sizes-core-requires : goal.core_sizes-core-requires
core_sizes-core-requires c = few_taken (lent_tables c.args.tables) c.args.side (lists_of c.args.left) (lists_of c.args.right) c.args.lists c.in_ok-joint.joint c.in_ok-joint.ensures c.policy_stage.ensures c.policy_stage-2.ensures c.both_legal-policies.ensures

pub returns-in_err-packets : goal.returns-in_err-packets
returns-in_err-packets c =
    front_refused _ _ _ _ _ c.from_residual-in_err-packets.result (handed_on _ c.from_residual-in_err-packets.ensures.1)
    (front_product _ _ _ _ _ _ c.in_ok-joint.ensures c.policy_stage.ensures c.policy_stage-2.ensures c.both_legal-policies.ensures _ c.in_ok-left_dups.was c.core_sizes-core.ensures c.packet_count.ensures c.in_err-packets.was)

pub returns-in_err-lists : goal.returns-in_err-lists
returns-in_err-lists c =
    front_refused _ _ _ _ _ c.from_residual-in_err-lists.result (handed_on _ c.from_residual-in_err-lists.ensures.1)
    (front_lists _ _ _ _ _ _ c.in_ok-joint.ensures c.policy_stage.ensures c.policy_stage-2.ensures c.both_legal-policies.ensures _ c.in_ok-left_dups.was c.core_sizes-core.ensures c.packet_count.ensures _ c.in_ok-packets.was c.in_err-lists.was)

pub returns : goal.returns
returns c = front_told _ _ _ _ _ _ c.in_ok-joint.ensures c.policy_stage.ensures c.policy_stage-2.ensures c.both_legal-policies.ensures _ c.in_ok-left_dups.was c.core_sizes-core.ensures c.packet_count.ensures _ c.in_ok-packets.was c.in_ok-lists.was
