-- `read_with` meets its contract.
use borrow.Author.Rules.{rules}
use mathlib.Core.Path.{refl}
use Rattle.std.proofs.lemmas.Result.{err_from_is_err_and}
use Rattle.grammar.proofs.AnswerLaws.{with_refused}
use Rattle.text.proofs.StageLaws.{with_ready, with_done, with_small, with_left}
use Rattle.text.proofs.read_with.Goals as goal

pub returns-in_err-n : goal.returns-in_err-n
returns-in_err-n c =
    let p = err_from_is_err_and c.from_residual.result c.from_residual.ensures.1 in
    rw (p.1, p.2) (with_refused _ _ _ _ _ _ _ _ c.min.ensures c.min-room.ensures c.in_err-n.ensures _ refl)

pub invariant_of-writing : goal.invariant_of-writing
invariant_of-writing c = record { few_names = c.requires; small_room = with_small _ _ _ _ _ _ _ _ c.min.ensures c.min-room.ensures c.in_ok-n.ensures _ refl }

pub sum-requires : goal.sum-requires
sum-requires c = with_ready _ _ _ _ _ _ _ _ c.min.ensures c.min-room.ensures c.in_ok-n.ensures _ refl

pub returns : goal.returns
returns c =
    with_left _ _ _ _ _ _ _ _ c.min.ensures c.min-room.ensures c.in_ok-n.ensures
    (with_done _ _ _ _ _ _ _ _ c.min.ensures c.min-room.ensures c.in_ok-n.ensures _ _ _ _ _ refl c.sum.ensures.nodes)
    (search rules) (search rules) (search rules)
