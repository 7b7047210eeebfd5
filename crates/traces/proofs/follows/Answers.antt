-- `follows` meets its contract: the state has been followed along the first `i` packets. Assumes nothing.
use native.Mathlib.Numerals.{add-one}
use mathlib.Core.Path.{sym, ap, ◌∙◌}
use lib.ListN.{get_or}
use Rattle.packet_set.specs.InnerMembers.{words_for, empty_set}
use Rattle.traces.proofs.Following.{following_none, step_ready, few_marked, none_left, last_packet, following_more, dead_end}
use Rattle.traces.proofs.follows.Goals as goal

pub loop-i-init : goal.loop-i-init
loop-i-init c = following_none c.requires

pub step-requires : goal.step-requires
unfolding empty_set
step-requires c = step_ready c.requires c.loop-i.invariant

pub returns-then-i-trace : goal.returns-then-i-trace
unfolding empty_set
returns-then-i-trace c = last_packet c.requires c.loop-i.invariant c.loop-i-test.true c.step.ensures (sym (add-one _) ∙ c.if-i-trace.true) _ c.contains.ensures

pub returns-then-state-eq0 : goal.returns-then-state-eq0
unfolding empty_set
returns-then-state-eq0 c = dead_end c.requires c.loop-i.invariant c.loop-i-test.true c.step.ensures (λ e. c.if-i-trace.false (add-one _ ∙ e)) (sym (ap (λ i. get_or c.step.new.next i 0) c.from-in-loop-i.ensures) ∙ c.if-state-eq0.true)

pub forget-requires : goal.forget-requires
unfolding empty_set
forget-requires c =
    let both = few_marked c.requires c.loop-i.invariant c.loop-i-test.true c.step.ensures (c.words_for-words.ensures ∙ ap words_for c.from.ensures) in
    record { words_bound = both.0; marking = both.1 }

pub loop-i-preserved : goal.loop-i-preserved
unfolding empty_set
loop-i-preserved c = rw (add-one, c.from-in-loop-i.ensures) (following_more c.requires c.loop-i.invariant c.loop-i-test.true c.step.ensures (λ e. c.if-i-trace.false (add-one _ ∙ e)) c.forget.ensures)

pub returns : goal.returns
returns c = none_left c.requires c.loop-i.invariant c.loop-i-test.false
