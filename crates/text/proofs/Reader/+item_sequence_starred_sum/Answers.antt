-- The cycle of readers: sum, sequence, starred item, item. Each calls one of a lower rank, or one after a token that it has read: the measure
-- is four times the tokens left, and the reader's rank.
use borrow.Author.Rules.{rules}
use native.Mathlib.Nat.{le_of_lt}
use native.Mathlib.Omega.{arith}
use mathlib.Core.Path.{◌≡◌}
use Rattle.std.proofs.lemmas.Result.{err_from_is_err_and}
use Rattle.grammar.specs.declared.Token.TheVariants.{Opening}
use Rattle.text.proofs.PutLaws.{same_then}
use Rattle.text.proofs.StepLaws.{opened, opened_stops, unclosed, leaf_item, item_turn, item_stops, ready_open, negate_ready, nodes_pos, ready_next, join_ready, star_turn, star_ends, star_stops, sequence_starts, sequence_stops, sequence_ends, sequence_turn, sequence_broken, sum_starts, sum_stops, sum_ends, sum_turn, sum_broken}
use Rattle.text.proofs.LoopLaws.{fewer_mark, fewer_joined, fewer_scanned}
use Rattle.text.proofs.Reader.+item_sequence_starred_sum.Goals as goal

pub item-sum-requires : goal.item-sum-requires
item-sum-requires t c = (omega (arith, c.decreases, fewer_scanned _ _ c.in_ok-run.ensures), ready_open _ _ _ c.in_ok-run.ensures c.requires)

pub item-returns-in_err-s : goal.item-returns-in_err-s
item-returns-in_err-s t c =
    let e : c.in_ok-run.run'.token.token ≡ Opening = search rules in
    let p = err_from_is_err_and c.from_residual-in_err-s.result c.from_residual-in_err-s.ensures.1 in
    rw (p.1, p.2) (record { lent = c.sum.ensures.lent; nodes = item_stops _ _ 0 c.in_ok-run.ensures (opened_stops _ _ 0 c.in_ok-run.ensures.token_is e c.in_err-s.ensures.nodes) })

pub item-returns-in_err-r : goal.item-returns-in_err-r
item-returns-in_err-r t c =
    let e : c.in_ok-run.run'.token.token ≡ Opening = search rules in
    let p = err_from_is_err_and c.from_residual-in_err-r.result c.from_residual-in_err-r.ensures.1 in
    rw (p.1, p.2) (record { lent = c.sum.ensures.lent; nodes = item_stops _ _ 0 c.in_ok-run.ensures (unclosed _ _ _ c.in_ok-run.ensures.token_is e c.in_ok-s.ensures.nodes c.in_err-r.ensures) })

pub item-negate-requires : goal.item-negate-requires
item-negate-requires t c =
    let e : c.in_ok-run.run'.token.token ≡ Opening = search rules in
    negate_ready _ _ _ c.in_ok-run.ensures (omega (arith, c.well_formed.1.0.1)) c.requires (opened _ _ _ c.in_ok-run.ensures.token_is e c.in_ok-s.ensures.nodes c.in_ok-r.ensures)

pub item-returns-then-eq : goal.item-returns-then-eq
item-returns-then-eq t c =
    let e : c.in_ok-run.run'.token.token ≡ Opening = search rules in
    record { lent = same_then c.sum.ensures.lent c.negate.ensures.lent; nodes = item_turn _ _ _ c.in_ok-run.ensures (opened _ _ _ c.in_ok-run.ensures.token_is e c.in_ok-s.ensures.nodes c.in_ok-r.ensures) c.negate.ensures.nodes }

pub item-negate-requires-2 : goal.item-negate-requires-2
item-negate-requires-2 t c = negate_ready _ _ _ c.in_ok-run.ensures (omega (arith, c.well_formed.1.0.1)) c.requires (leaf_item _ _ _ (c.in_ok-leaf.ensures _ c.in_ok-run.ensures.token_is) c.put.ensures.nodes)

pub item-returns : goal.item-returns
item-returns t c = record { lent = same_then c.put.ensures.lent c.negate-2.ensures.lent; nodes = item_turn _ _ _ c.in_ok-run.ensures (leaf_item _ _ _ (c.in_ok-leaf.ensures _ c.in_ok-run.ensures.token_is) c.put.ensures.nodes) c.negate-2.ensures.nodes }

pub sequence-returns-in_err-s : goal.sequence-returns-in_err-s
sequence-returns-in_err-s t c =
    let p = err_from_is_err_and c.from_residual.result c.from_residual.ensures.1 in
    rw (p.1, p.2) (record { lent = c.starred.ensures.lent; nodes = sequence_stops _ _ 0 _ c.in_err-s.ensures.nodes })

pub sequence-loop-next-init : goal.sequence-loop-next-init
sequence-loop-next-init t c = (c.starred.ensures.lent, sequence_starts _ _ _ c.in_ok-s.ensures.nodes)

pub sequence-starred-requires-in-Some : goal.sequence-starred-requires-in-Some
sequence-starred-requires-in-Some t c = (omega (arith, c.decreases, fewer_mark _ _ (le_of_lt c.loop-next.invariant.1.onward) c.in-Some.ensures), ready_next _ _ _ c.loop-next.invariant.1 c.requires c.in-Some.ensures)

pub sequence-returns-in_err-r : goal.sequence-returns-in_err-r
sequence-returns-in_err-r t c =
    let p = err_from_is_err_and c.from_residual-in_err-r.result c.from_residual-in_err-r.ensures.1 in
    rw (p.1, p.2) (record { lent = same_then c.loop-next.invariant.0 c.starred-in-Some.ensures.lent; nodes = sequence_broken _ _ _ c.loop-next.invariant.1 c.in-Some.ensures c.in_err-r.ensures.nodes })

pub sequence-overflow_sub-s : goal.sequence-overflow_sub-s
sequence-overflow_sub-s t c = omega (arith, nodes_pos _ _ _ c.loop-next.invariant.1)

pub sequence-join-s-requires : goal.sequence-join-s-requires
sequence-join-s-requires t c = join_ready _ _ _ c.loop-next.invariant.1 (omega (arith, c.well_formed.1.0.1)) c.requires c.in-Some.ensures c.in_ok-r.ensures.nodes

pub sequence-loop-next-smaller : goal.sequence-loop-next-smaller
sequence-loop-next-smaller t c = rw c.join-s.ensures.nodes.step_is (fewer_joined _ _ c.in-Some.ensures c.in_ok-r.ensures.nodes)

pub sequence-loop-next-preserved : goal.sequence-loop-next-preserved
sequence-loop-next-preserved t c = (same_then (same_then c.loop-next.invariant.0 c.starred-in-Some.ensures.lent) c.join-s.ensures.lent, sequence_turn _ _ _ c.loop-next.invariant.1 c.in-Some.ensures c.in_ok-r.ensures.nodes c.join-s.ensures.nodes)

pub sequence-returns : goal.sequence-returns
sequence-returns t c = record { lent = c.loop-next.invariant.0; nodes = sequence_ends _ _ _ c.loop-next.invariant.1 c.in_default.ensures }

pub starred-returns-in_err-s : goal.starred-returns-in_err-s
starred-returns-in_err-s t c =
    let p = err_from_is_err_and c.from_residual.result c.from_residual.ensures.1 in
    rw (p.1, p.2) (record { lent = c.item.ensures.lent; nodes = star_stops _ _ 0 _ c.in_err-s.ensures.nodes })

pub starred-loop-next-init : goal.starred-loop-next-init
starred-loop-next-init t c = (c.item.ensures.lent, c.in_ok-s.ensures.nodes)

pub starred-overflow_sub-s : goal.starred-overflow_sub-s
starred-overflow_sub-s t c = omega (arith, nodes_pos _ _ _ c.loop-next.invariant.1)

pub starred-put_parent-requires : goal.starred-put_parent-requires
starred-put_parent-requires t c = ((ready_next _ _ _ c.loop-next.invariant.1 c.requires c.in-Some.ensures).fits, omega arith, omega arith)

pub starred-loop-next-preserved : goal.starred-loop-next-preserved
starred-loop-next-preserved t c = (same_then c.loop-next.invariant.0 c.put_parent.ensures.lent, star_turn _ _ _ c.loop-next.invariant.1 c.in-Some.ensures c.put_parent.ensures.nodes)

pub starred-returns : goal.starred-returns
starred-returns t c = record { lent = c.loop-next.invariant.0; nodes = star_ends _ _ _ c.loop-next.invariant.1 c.in_default.ensures }

pub sum-returns-in_err-s : goal.sum-returns-in_err-s
sum-returns-in_err-s t c =
    let p = err_from_is_err_and c.from_residual.result c.from_residual.ensures.1 in
    rw (p.1, p.2) (record { lent = c.sequence.ensures.lent; nodes = sum_stops _ _ 0 _ c.in_err-s.ensures.nodes })

pub sum-loop-next-init : goal.sum-loop-next-init
sum-loop-next-init t c = (c.sequence.ensures.lent, sum_starts _ _ _ c.in_ok-s.ensures.nodes)

pub sum-sequence-requires-in-Some : goal.sum-sequence-requires-in-Some
sum-sequence-requires-in-Some t c = (omega (arith, c.decreases, fewer_mark _ _ (le_of_lt c.loop-next.invariant.1.onward) c.in-Some.ensures), ready_next _ _ _ c.loop-next.invariant.1 c.requires c.in-Some.ensures)

pub sum-returns-in_err-r : goal.sum-returns-in_err-r
sum-returns-in_err-r t c =
    let p = err_from_is_err_and c.from_residual-in_err-r.result c.from_residual-in_err-r.ensures.1 in
    rw (p.1, p.2) (record { lent = same_then c.loop-next.invariant.0 c.sequence-in-Some.ensures.lent; nodes = sum_broken _ _ _ c.loop-next.invariant.1 c.in-Some.ensures c.in_err-r.ensures.nodes })

pub sum-overflow_sub-s : goal.sum-overflow_sub-s
sum-overflow_sub-s t c = omega (arith, nodes_pos _ _ _ c.loop-next.invariant.1)

pub sum-join-s-requires : goal.sum-join-s-requires
sum-join-s-requires t c = join_ready _ _ _ c.loop-next.invariant.1 (omega (arith, c.well_formed.1.0.1)) c.requires c.in-Some.ensures c.in_ok-r.ensures.nodes

pub sum-loop-next-smaller : goal.sum-loop-next-smaller
sum-loop-next-smaller t c = rw c.join-s.ensures.nodes.step_is (fewer_joined _ _ c.in-Some.ensures c.in_ok-r.ensures.nodes)

pub sum-loop-next-preserved : goal.sum-loop-next-preserved
sum-loop-next-preserved t c = (same_then (same_then c.loop-next.invariant.0 c.sequence-in-Some.ensures.lent) c.join-s.ensures.lent, sum_turn _ _ _ c.loop-next.invariant.1 c.in-Some.ensures c.in_ok-r.ensures.nodes c.join-s.ensures.nodes)

pub sum-returns : goal.sum-returns
sum-returns t c = record { lent = c.loop-next.invariant.0; nodes = sum_ends _ _ _ c.loop-next.invariant.1 c.in_default.ensures }
