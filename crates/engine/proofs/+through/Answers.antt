-- `through` meets its contract: each way out is a law. Assumes nothing.
use mathlib.Core.Path.{refl, sym, ◌∙◌}
use borrow.Author.Rules.{rules}
use native.Mathlib.Omega.{arith}
use Rattle.engine.proofs.Records.{arrays}
use Rattle.engine.proofs.Leaving.{node_small, node_is, entry, leave_blocked, leave_tests, leave_known, leave_idle, acts_changing, leave_change, label_small, leave_dup, sum_below, sum_read, sum_first, sum_second, leave_sum, leave_sum_first, leave_sum_second, seq_below, seq_first, seq_second, leave_seq_none, leave_seq, star_below, turn_start, turn_ready, turn_end, turn_more, turn_less, long_still, not_true, not_false}
use Rattle.engine.proofs.+through.Goals as goal

pub returns-then-not-admit-clause-sent : goal.returns-then-not-admit-clause-sent
returns-then-not-admit-clause-sent t c = record { sent = λ L rd. leave_blocked L rd c.set_in.ensures c.admit.ensures (not_true _ c.if-not-admit.true-raw) _ _ }

pub returns-then-tests_in-clause-sent : goal.returns-then-tests_in-clause-sent
returns-then-tests_in-clause-sent t c = record { sent = λ L rd. leave_tests L rd c.set_in.ensures c.admit.ensures (sym c.tests_in.ensures ∙ c.if-tests_in.true) _ _ }

pub returns-then-not-enter-clause-sent : goal.returns-then-not-enter-clause-sent
returns-then-not-enter-clause-sent t c = record {
  sent = λ L rd.
      let en = entry L rd c.set_in.ensures c.admit.ensures c.slot_in.ensures c.enter.ensures (sym c.tests_in.ensures ∙ c.if-tests_in.false) c.enter.auto.work in
      leave_known L rd en (c.enter.ensures.none (not_true _ c.if-not-enter.true-raw)) _;
}

pub act-requires : goal.act-requires
act-requires t c =
    let L = c.requires.some_visit_ready.lists in
    let rd = c.requires.some_visit_ready.ready in
    let en = entry L rd c.set_in.ensures c.admit.ensures c.slot_in.ensures c.enter.ensures (sym c.tests_in.ensures ∙ c.if-tests_in.false) c.enter.auto.work in
    acts_changing L rd en _ (node_is L rd c.node_in.ensures c.in-Field.is)

pub mark-requires : goal.mark-requires
mark-requires t c =
    let L = c.requires.some_visit_ready.lists in
    let rd = c.requires.some_visit_ready.ready in
    let en = entry L rd c.set_in.ensures c.admit.ensures c.slot_in.ensures c.enter.ensures (sym c.tests_in.ensures ∙ c.if-tests_in.false) c.enter.auto.work in
    (label_small L rd en (node_is L rd c.node_in.ensures c.in-Dup.is) c.label_in.ensures, c.requires.seen_len.1, c.enter.ensures.spanned)

pub lets_in-requires : goal.lets_in-requires
lets_in-requires t c =
    let L = c.requires.some_visit_ready.lists in
    let rd = c.requires.some_visit_ready.ready in
    let en = entry L rd c.set_in.ensures c.admit.ensures c.slot_in.ensures c.enter.ensures (sym c.tests_in.ensures ∙ c.if-tests_in.false) c.enter.auto.work in
    let e = node_is L rd c.node_in.ensures c.in-Sum.is in
    let k = sum_read L rd en _ _ e in
    (k.1, k.3, c.enter.ensures.spanned)

pub lets_in-requires-in-Sum : goal.lets_in-requires-in-Sum
lets_in-requires-in-Sum t c =
    let L = c.requires.some_visit_ready.lists in
    let rd = c.requires.some_visit_ready.ready in
    let en = entry L rd c.set_in.ensures c.admit.ensures c.slot_in.ensures c.enter.ensures (sym c.tests_in.ensures ∙ c.if-tests_in.false) c.enter.auto.work in
    let e = node_is L rd c.node_in.ensures c.in-Sum.is in
    let k = sum_read L rd en _ _ e in
    (k.0, k.2, c.enter.ensures.spanned)

pub through-requires : goal.through-requires
through-requires t c =
    let L = c.requires.some_visit_ready.lists in
    let rd = c.requires.some_visit_ready.ready in
    let en = entry L rd c.set_in.ensures c.admit.ensures c.slot_in.ensures c.enter.ensures (sym c.tests_in.ensures ∙ c.if-tests_in.false) c.enter.auto.work in
    let e = node_is L rd c.node_in.ensures c.in-Sum.is in
    (omega (arith, (sum_below L rd en _ _ e).0, c.decreases), (record { lists = L; ready = sum_first L rd en _ _ e }, arrays (en.recorded _) c.requires.seen_len))

pub through-a-requires : goal.through-a-requires
through-a-requires t c =
    let L = c.requires.some_visit_ready.lists in
    let rd = c.requires.some_visit_ready.ready in
    let en = entry L rd c.set_in.ensures c.admit.ensures c.slot_in.ensures c.enter.ensures (sym c.tests_in.ensures ∙ c.if-tests_in.false) c.enter.auto.work in
    let e = node_is L rd c.node_in.ensures c.in-Sum.is in
    (omega (arith, (sum_below L rd en _ _ e).0, c.decreases), (record { lists = L; ready = sum_first L rd en _ _ e }, arrays (en.recorded _) c.requires.seen_len))

pub through-requires-then-not-lets_in-2 : goal.through-requires-then-not-lets_in-2
through-requires-then-not-lets_in-2 t c =
    let L = c.requires.some_visit_ready.lists in
    let rd = c.requires.some_visit_ready.ready in
    let en = entry L rd c.set_in.ensures c.admit.ensures c.slot_in.ensures c.enter.ensures (sym c.tests_in.ensures ∙ c.if-tests_in.false) c.enter.auto.work in
    let e = node_is L rd c.node_in.ensures c.in-Sum.is in
    (omega (arith, (sum_below L rd en _ _ e).1, c.decreases), (record { lists = L; ready = sum_second L rd en _ _ e refl }, arrays (en.recorded _) c.requires.seen_len))

pub through-b-requires : goal.through-b-requires
through-b-requires t c =
    let L = c.requires.some_visit_ready.lists in
    let rd = c.requires.some_visit_ready.ready in
    let en = entry L rd c.set_in.ensures c.admit.ensures c.slot_in.ensures c.enter.ensures (sym c.tests_in.ensures ∙ c.if-tests_in.false) c.enter.auto.work in
    let e = node_is L rd c.node_in.ensures c.in-Sum.is in
    let a = c.through-a.ensures.sent.sent L (sum_first L rd en _ _ e) in
    (omega (arith, (sum_below L rd en _ _ e).1, c.decreases), (record { lists = L; ready = sum_second L rd en _ _ e a.recorded.work_long }, arrays a.recorded (arrays (en.recorded _) c.requires.seen_len)))

pub join-requires : goal.join-requires
join-requires t c =
    let L = c.requires.some_visit_ready.lists in
    let rd = c.requires.some_visit_ready.ready in
    let en = entry L rd c.set_in.ensures c.admit.ensures c.slot_in.ensures c.enter.ensures (sym c.tests_in.ensures ∙ c.if-tests_in.false) c.enter.auto.work in
    let e = node_is L rd c.node_in.ensures c.in-Sum.is in
    let a = c.through-a.ensures.sent.sent L (sum_first L rd en _ _ e) in
    let b = c.through-b.ensures.sent.sent L (sum_second L rd en _ _ e a.recorded.work_long) in
    (a.spanned, b.spanned)

pub returns-then-not-lets_in-clause-sent : goal.returns-then-not-lets_in-clause-sent
returns-then-not-lets_in-clause-sent t c = record {
  sent = λ L rd.
      let en = entry L rd c.set_in.ensures c.admit.ensures c.slot_in.ensures c.enter.ensures (sym c.tests_in.ensures ∙ c.if-tests_in.false) c.enter.auto.work in
      let e = node_is L rd c.node_in.ensures c.in-Sum.is in
      leave_sum_first L rd en _ _ e (c.lets_in.ensures (not_true _ c.if-not-lets_in.true-raw)) (c.through.ensures.sent.sent L (sum_first L rd en _ _ e));
}

pub returns-then-not-lets_in-2-clause-sent : goal.returns-then-not-lets_in-2-clause-sent
returns-then-not-lets_in-2-clause-sent t c = record {
  sent = λ L rd.
      let en = entry L rd c.set_in.ensures c.admit.ensures c.slot_in.ensures c.enter.ensures (sym c.tests_in.ensures ∙ c.if-tests_in.false) c.enter.auto.work in
      let e = node_is L rd c.node_in.ensures c.in-Sum.is in
      leave_sum_second L rd en _ _ e (c.lets_in-in-Sum.ensures (not_true _ c.if-not-lets_in-2.true-raw)) (c.through-then-not-lets_in-2.ensures.sent.sent L (sum_second L rd en _ _ e refl));
}

pub returns-else-not-lets_in-2-clause-sent : goal.returns-else-not-lets_in-2-clause-sent
returns-else-not-lets_in-2-clause-sent t c = record {
  sent = λ L rd.
      let en = entry L rd c.set_in.ensures c.admit.ensures c.slot_in.ensures c.enter.ensures (sym c.tests_in.ensures ∙ c.if-tests_in.false) c.enter.auto.work in
      let e = node_is L rd c.node_in.ensures c.in-Sum.is in
      let a = c.through-a.ensures.sent.sent L (sum_first L rd en _ _ e) in
      let b = c.through-b.ensures.sent.sent L (sum_second L rd en _ _ e a.recorded.work_long) in
      leave_sum L rd en _ _ e a b c.join.ensures;
}

pub through-a-requires-in-Seq : goal.through-a-requires-in-Seq
through-a-requires-in-Seq t c =
    let L = c.requires.some_visit_ready.lists in
    let rd = c.requires.some_visit_ready.ready in
    let en = entry L rd c.set_in.ensures c.admit.ensures c.slot_in.ensures c.enter.ensures (sym c.tests_in.ensures ∙ c.if-tests_in.false) c.enter.auto.work in
    let e = node_is L rd c.node_in.ensures c.in-Seq.is in
    (omega (arith, (seq_below L rd en _ _ e).0, c.decreases), (record { lists = L; ready = seq_first L rd en _ _ e }, arrays (en.recorded _) c.requires.seen_len))

pub through-requires-in-Seq : goal.through-requires-in-Seq
through-requires-in-Seq t c =
    let L = c.requires.some_visit_ready.lists in
    let rd = c.requires.some_visit_ready.ready in
    let en = entry L rd c.set_in.ensures c.admit.ensures c.slot_in.ensures c.enter.ensures (sym c.tests_in.ensures ∙ c.if-tests_in.false) c.enter.auto.work in
    let e = node_is L rd c.node_in.ensures c.in-Seq.is in
    let a = c.through-a-in-Seq.ensures.sent.sent L (seq_first L rd en _ _ e) in
    (omega (arith, (seq_below L rd en _ _ e).1, c.decreases), (record { lists = L; ready = seq_second L rd en _ _ e a }, arrays a.recorded (arrays (en.recorded _) c.requires.seen_len)))

pub returns-then-a-clause-sent : goal.returns-then-a-clause-sent
returns-then-a-clause-sent t c = record {
  sent = λ L rd.
      let en = entry L rd c.set_in.ensures c.admit.ensures c.slot_in.ensures c.enter.ensures (sym c.tests_in.ensures ∙ c.if-tests_in.false) c.enter.auto.work in
      let e = node_is L rd c.node_in.ensures c.in-Seq.is in
      let a = c.through-a-in-Seq.ensures.sent.sent L (seq_first L rd en _ _ e) in
      leave_seq_none L rd en _ _ e a c.if-a.true;
}

pub returns-else-a-clause-sent : goal.returns-else-a-clause-sent
returns-else-a-clause-sent t c = record {
  sent = λ L rd.
      let en = entry L rd c.set_in.ensures c.admit.ensures c.slot_in.ensures c.enter.ensures (sym c.tests_in.ensures ∙ c.if-tests_in.false) c.enter.auto.work in
      let e = node_is L rd c.node_in.ensures c.in-Seq.is in
      let a = c.through-a-in-Seq.ensures.sent.sent L (seq_first L rd en _ _ e) in
      leave_seq L rd en _ _ e a (c.through-in-Seq.ensures.sent.sent L (seq_second L rd en _ _ e a));
}

pub loop-delta-init : goal.loop-delta-init
loop-delta-init t c = ((refl, refl), λ L set0 work0 seen0 rd en e. turn_start L rd en _ e _)

pub through-at-requires : goal.through-at-requires
through-at-requires t c =
    let L = c.requires.some_visit_ready.lists in
    let rd = c.requires.some_visit_ready.ready in
    let en = entry L rd c.set_in.ensures c.admit.ensures c.slot_in.ensures c.enter.ensures (sym c.tests_in.ensures ∙ c.if-tests_in.false) c.enter.auto.work in
    let e = node_is L rd c.node_in.ensures c.in-Star.is in
    let tn = c.loop-delta.invariant.1 L _ _ _ rd en e in
    (omega (arith, star_below L rd en _ e, c.decreases), (record { lists = L; ready = turn_ready L rd en _ e tn }, arrays tn.recorded c.requires.seen_len))

pub note-requires : goal.note-requires
note-requires t c =
    let L = c.requires.some_visit_ready.lists in
    let rd = c.requires.some_visit_ready.ready in
    let en = entry L rd c.set_in.ensures c.admit.ensures c.slot_in.ensures c.enter.ensures (sym c.tests_in.ensures ∙ c.if-tests_in.false) c.enter.auto.work in
    let e = node_is L rd c.node_in.ensures c.in-Star.is in
    let tn = c.loop-delta.invariant.1 L _ _ _ rd en e in
    let th = c.through-at.ensures.sent.sent L (turn_ready L rd en _ e tn) in
    (node_small L rd, long_still rd.long (th.recorded.work_long ∙ tn.recorded.work_long), (arrays th.recorded (arrays tn.recorded c.requires.seen_len)).0, th.spanned)

pub join-out-requires : goal.join-out-requires
join-out-requires t c =
    let L = c.requires.some_visit_ready.lists in
    let rd = c.requires.some_visit_ready.ready in
    let en = entry L rd c.set_in.ensures c.admit.ensures c.slot_in.ensures c.enter.ensures (sym c.tests_in.ensures ∙ c.if-tests_in.false) c.enter.auto.work in
    let e = node_is L rd c.node_in.ensures c.in-Star.is in
    let tn = c.loop-delta.invariant.1 L _ _ _ rd en e in
    (tn.out_spanned, c.note.ensures.new.spanned)

pub loop-delta-smaller : goal.loop-delta-smaller
loop-delta-smaller t c =
    let L = c.requires.some_visit_ready.lists in
    let rd = c.requires.some_visit_ready.ready in
    let en = entry L rd c.set_in.ensures c.admit.ensures c.slot_in.ensures c.enter.ensures (sym c.tests_in.ensures ∙ c.if-tests_in.false) c.enter.auto.work in
    let e = node_is L rd c.node_in.ensures c.in-Star.is in
    let tn = c.loop-delta.invariant.1 L _ _ _ rd en e in
    let th = c.through-at.ensures.sent.sent L (turn_ready L rd en _ e tn) in
    turn_less L rd en _ e tn th c.note.ensures c.note.auto.work (not_false _ c.if-not-note.false-raw)

pub loop-delta-preserved : goal.loop-delta-preserved
loop-delta-preserved t c = (
  search rules,
  λ L set0 work0 seen0 rd en e.
      let tn = c.loop-delta.invariant.1 L _ _ _ rd en e in
      turn_more L rd en _ e tn (c.through-at.ensures.sent.sent L (turn_ready L rd en _ e tn)) c.note.ensures c.note.auto.work c.join-out.ensures,
)

pub returns-then-not-note-clause-sent : goal.returns-then-not-note-clause-sent
returns-then-not-note-clause-sent t c = record {
  sent = λ L rd.
      let en = entry L rd c.set_in.ensures c.admit.ensures c.slot_in.ensures c.enter.ensures (sym c.tests_in.ensures ∙ c.if-tests_in.false) c.enter.auto.work in
      let e = node_is L rd c.node_in.ensures c.in-Star.is in
      let tn = c.loop-delta.invariant.1 L _ _ _ rd en e in
      let th = c.through-at.ensures.sent.sent L (turn_ready L rd en _ e tn) in
      turn_end L rd en _ e tn th c.note.ensures c.note.auto.work (not_true _ c.if-not-note.true-raw);
}

pub returns-in-Drop-clause-sent : goal.returns-in-Drop-clause-sent
returns-in-Drop-clause-sent t c = record {
  sent = λ L rd.
      let en = entry L rd c.set_in.ensures c.admit.ensures c.slot_in.ensures c.enter.ensures (sym c.tests_in.ensures ∙ c.if-tests_in.false) c.enter.auto.work in
      leave_idle L rd en c.node_in.ensures c.in-Drop.is;
}

pub returns-in-Field-clause-sent : goal.returns-in-Field-clause-sent
returns-in-Field-clause-sent t c = record {
  sent = λ L rd.
      let en = entry L rd c.set_in.ensures c.admit.ensures c.slot_in.ensures c.enter.ensures (sym c.tests_in.ensures ∙ c.if-tests_in.false) c.enter.auto.work in
      leave_change L rd en _ (node_is L rd c.node_in.ensures c.in-Field.is) c.act.ensures _;
}

pub returns-in-Dup-clause-sent : goal.returns-in-Dup-clause-sent
returns-in-Dup-clause-sent t c = record {
  sent = λ L rd.
      let en = entry L rd c.set_in.ensures c.admit.ensures c.slot_in.ensures c.enter.ensures (sym c.tests_in.ensures ∙ c.if-tests_in.false) c.enter.auto.work in
      leave_dup L rd en (node_is L rd c.node_in.ensures c.in-Dup.is) c.label_in.ensures c.mark.ensures c.clear.ensures;
}
