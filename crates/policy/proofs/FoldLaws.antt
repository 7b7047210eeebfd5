-- The meaning of left-folded sums and sequences; sequences of trace sets are associative, with a unit.
use mathlib.Core.List.{List, [], ◌∷◌, ◌++◌, append_assoc}
use mathlib.Core.Logic.Iff
use mathlib.Core.Logic.{◌⊎◌, inl, inr, ⊎_elim, ◌↔◌}
use mathlib.Core.Path.{◌≡◌, refl, sym, ap, ◌∙◌, subst}
use Rattle.policy.specs.Tree.{Policy, drop, id, sum, seq}
use Rattle.policy.specs.Meaning.{Packets, TraceSet, Seq, Traces}
use Rattle.policy.specs.InnerFolds.{sums, seqs, OneOf, InTurn}
use Rattle.policy.proofs.TraceLaws.{Trace, in_turn, AllEnd, snoc_injective, traces_end}

module _ (P : Packets) where
  -- ⊤: the packet as it is
  abbrev pub Unchanged : TraceSet P
  Unchanged α t = t ≡ α ∷ []

  pub seq_unit_left : (A : TraceSet P) (α : P.Packet) (t : Trace P) → Seq P Unchanged A α t ↔ A α t
  seq_unit_left A α t = (to, λ h. in_turn [] α t refl refl h)
    where
      to : Seq P Unchanged A α t → A α t
      to s =
          let i = snoc_injective s.a [] s.β α s.first in
          let second : A α s.b = subst (λ (β : P.Packet). A β s.b) i.1 s.second in
          subst (A α) (sym (s.joined ∙ ap (λ (a : Trace P). a ++ s.b) i.0)) second

  pub seq_unit_right : (A : TraceSet P) → AllEnd P A → (α : P.Packet) (t : Trace P) → Seq P A Unchanged α t ↔ A α t
  seq_unit_right A ends α t = (λ s. subst (A α) (sym (s.joined ∙ ap (λ (b : Trace P). s.a ++ b) s.second)) s.first, from)
    where
      from : A α t → Seq P A Unchanged α t
      from h = let e = ends α t h in in_turn e.before e.last (e.last ∷ []) e.whole (subst (A α) e.whole h) refl

  pub seq_assoc : (A B C : TraceSet P) → AllEnd P B → (α : P.Packet) (t : Trace P) → Seq P (Seq P A B) C α t ↔ Seq P A (Seq P B C) α t
  seq_assoc A B C ends α t = (to, from)
    where
      to : Seq P (Seq P A B) C α t → Seq P A (Seq P B C) α t
      to s =
          let f = s.first in
          let e = ends f.β f.b f.second in
          let split : s.a ++ (s.β ∷ []) ≡ (f.a ++ e.before) ++ (e.last ∷ []) =
          f.joined ∙ ap (λ (b : Trace P). f.a ++ b) e.whole ∙ sym (append_assoc f.a e.before (e.last ∷ [])) in
          let i = snoc_injective s.a (f.a ++ e.before) s.β e.last split in
          let whole : t ≡ f.a ++ (e.before ++ s.b) =
          s.joined ∙ ap (λ (a : Trace P). a ++ s.b) i.0 ∙ append_assoc f.a e.before s.b in
          in_turn f.a f.β (e.before ++ s.b) whole f.first
          (in_turn e.before e.last s.b refl (subst (B f.β) e.whole f.second)
          (subst (λ (β : P.Packet). C β s.b) i.1 s.second))

      from : Seq P A (Seq P B C) α t → Seq P (Seq P A B) C α t
      from s =
          let g = s.second in
          let whole : t ≡ (s.a ++ g.a) ++ g.b =
          s.joined ∙ ap (λ (b : Trace P). s.a ++ b) g.joined ∙ sym (append_assoc s.a g.a g.b) in
          in_turn (s.a ++ g.a) g.β g.b whole
          (in_turn s.a s.β (g.a ++ (g.β ∷ [])) (append_assoc s.a g.a (g.β ∷ [])) s.first g.first) g.second

  -- a left-folded sum has the traces of each of its policies
  pub sums_mean : (p : Policy) (ps : List Policy) (α : P.Packet) (t : Trace P) → Traces P (sums p ps) α t ↔ OneOf P (p ∷ ps) α t
  unfolding sums OneOf Traces
  sums_mean p [] α t = (inl, ⊎_elim (λ h. h) (λ h. absurd h))
  sums_mean p (q ∷ qs) α t = Iff.trans (sums_mean (sum p q) qs α t) (to, from)
    where
      to : (Traces P p α t ⊎ Traces P q α t) ⊎ OneOf P qs α t → Traces P p α t ⊎ (Traces P q α t ⊎ OneOf P qs α t)
      to = ⊎_elim (⊎_elim inl (λ h. inr (inl h))) (λ h. inr (inr h))

      from : Traces P p α t ⊎ (Traces P q α t ⊎ OneOf P qs α t) → (Traces P p α t ⊎ Traces P q α t) ⊎ OneOf P qs α t
      from = ⊎_elim (λ h. inl (inl h)) (⊎_elim (λ h. inl (inr h)) inr)

  -- a left-folded sequence has the traces of its policies in turn
  pub seqs_mean : (p : Policy) (ps : List Policy) (α : P.Packet) (t : Trace P) → Traces P (seqs p ps) α t ↔ InTurn P (p ∷ ps) α t
  unfolding seqs InTurn Traces
  seqs_mean p [] α t = let u = seq_unit_right (Traces P p) (traces_end P p) α t in (u.1, u.0)
  seqs_mean p (q ∷ qs) α t =
      Iff.trans (seqs_mean (seq p q) qs α t) (seq_assoc (Traces P p) (Traces P q) (InTurn P qs) (traces_end P q) α t)

  -- from drop and from id: the sum and the sequence of the list alone
  pub sum_of_list : (ps : List Policy) (α : P.Packet) (t : Trace P) → Traces P (sums drop ps) α t ↔ OneOf P ps α t
  unfolding OneOf Traces
  sum_of_list ps α t = Iff.trans (sums_mean drop ps α t) (⊎_elim (λ h. absurd h) (λ h. h), inr)

  pub seq_of_list : (ps : List Policy) (α : P.Packet) (t : Trace P) → Traces P (seqs id ps) α t ↔ InTurn P ps α t
  unfolding InTurn Traces
  seq_of_list ps α t = Iff.trans (seqs_mean id ps α t) (seq_unit_left (InTurn P ps) α t)
