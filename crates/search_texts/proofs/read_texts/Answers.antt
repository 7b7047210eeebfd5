-- `read_texts` meets its contract.
use mathlib.Core.Path.{refl, sym, ap, ◌∙◌}
use Rattle.std.specs.Prelude.{Ok}
use Rattle.packet.proofs.Stages.{handed_on}
use Rattle.text.proofs.SideLaws.{side_is}
use Rattle.search_texts.specs.Call.{text_stage}
use Rattle.search_texts.proofs.Running.{renamed, texts_handed, tables_tested, left_refused, right_refused}
use Rattle.search_texts.proofs.read_texts.Goals as goal

pub returns-in_err-joint : goal.returns-in_err-joint
returns-in_err-joint c = texts_handed _ _ _ _ _ (handed_on _ c.from_residual.ensures.1) (λ x. tables_tested _ _ _ _ x c.in_err-joint.ensures)

pub returns-in_err-left_nodes : goal.returns-in_err-left_nodes
returns-in_err-left_nodes c =
    texts_handed _ _ _ _ _ (handed_on _ c.from_residual-in_err-left_nodes.ensures.1)
    (λ x. left_refused _ _ _ _ x c.in_ok-joint.ensures.0 (ap (λ ns. text_stage ns c.args.left.now) (sym (side_is _ _ 1 c.in_ok-joint.ensures.1.named refl)) ∙ c.in_err-left_nodes.ensures))

pub returns-in_err-right_nodes : goal.returns-in_err-right_nodes
returns-in_err-right_nodes c =
    texts_handed _ _ _ _ _ (handed_on _ c.from_residual-in_err-right_nodes.ensures.1)
    (λ x. right_refused _ _ _ _ x c.in_ok-joint.ensures.0 (renamed _ (Ok c.in_ok-left_nodes.left_nodes) (side_is _ _ 1 c.in_ok-joint.ensures.1.named refl) c.in_ok-left_nodes.ensures).0
    (ap (λ ns. text_stage ns c.args.right.now) (sym (side_is _ _ 2 c.in_ok-joint.ensures.1.named refl)) ∙ c.in_err-right_nodes.ensures))

pub returns : goal.returns
returns c =
    let named = c.in_ok-joint.ensures.1.named in (
      renamed _ (Ok c.in_ok-left_nodes.left_nodes) (side_is _ _ 1 named refl) c.in_ok-left_nodes.ensures,
      renamed _ (Ok c.in_ok-right_nodes.right_nodes) (side_is _ _ 2 named refl) c.in_ok-right_nodes.ensures,
    )
