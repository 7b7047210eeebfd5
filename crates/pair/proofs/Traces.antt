-- Where a word leads in the system of two policies, in terms of Figure 1; nothing tells exactly when the traces are the same.
use Prim.Native.Nat.{ℕ, suc, ◌<◌, ◌≤◌}
use mathlib.Core.Bool.{Bool, true, false, xor, cond}
use mathlib.Core.List.{List, [], ◌∷◌, ◌++◌}
use mathlib.Core.Logic.{◌↔◌}
use mathlib.Core.Path.{◌≡◌, refl, sym, ap, ap₂, subst}
use native.Mathlib.Omega.{arith}
use lib.Dec.{T}
use lib.ListN.{length}
use Rattle.packet.specs.Sizes.{product}
use Rattle.packet.proofs.Tests.{clash, xor_same, xor_false, T_true, true_T, T_false}
use Rattle.policy.specs.Meaning.{numbered, Traces, SameShortTraces, SameTracesBelow, SameShortTracesBelow}
use Rattle.policy.specs.InnerEach.{Each}
use Rattle.policy.proofs.EachLaws.{each_append}
use Rattle.policy.proofs.TraceLaws.{traces_non_empty, same_each_length}
use Rattle.policy.proofs.Numbered.{traces_below}
use Rattle.packet_set.specs.Bits.{bit}
use Rattle.automaton.specs.State.{StateTraces}
use Rattle.automaton.proofs.Tests.{same_test}
use Rattle.automaton.proofs.Laws.{split_last, output_mask_iff, next_mask_iff, whole_iff}
use Rattle.system.specs.System.{Row, start_row, next_row, tells}
use Rattle.system.specs.InnerWords.{PacketWord, end, then, leads_to, SilentBelow, Silent}
use Rattle.system.proofs.Basics.{length_snoc}
use Rattle.pair.specs.Sides.{Side, left, right, other, Pair, at, NumberedPolicy}
use Rattle.pair.specs.Pair.{SideTraces, output_at, next_at, in_one_output, pair_system}
use Rattle.pair.proofs.Sides.{at_each}
use Rattle.pair.proofs.Lawful.{EvaluablePair}

-- a list of packets below n is a word
word_of : (n : ℕ) (t : List ℕ) → Each (λ γ. γ < n) t → PacketWord n t
unfolding Each
word_of n [] e = end
word_of n (γ ∷ t) e = then e.0 (word_of n t e.1)

-- one side of the two passes, the left one if it does
pub one_side : (test : Side → Bool) → xor (test left) (test right) ≡ true → T (test (cond (test left) left right)) × (T (test (other (cond (test left) left right))) → ⊥)
unfolding xor other
one_side test e = go (test left) (test right) refl refl e
  where
    go : (a b : Bool) → test left ≡ a → test right ≡ b → xor a b ≡ true → T (test (cond a left right)) × (T (test (other (cond a left right))) → ⊥)
    go true true p q r = clash refl (sym r)
    go true false p q r = (true_T p, λ t. subst T q t)
    go false true p q r = (true_T q, λ t. subst T p t)
    go false false p q r = clash refl (sym r)

pub side_one : (test : Side → Bool) (s : Side) → T (test s) → (T (test (other s)) → ⊥) → xor (test left) (test right) ≡ true
unfolding xor other
side_one test left t f = ap₂ xor (T_true (test left) t) (T_false (test right) f)
side_one test right t f = ap₂ xor (T_false (test left) f) (T_true (test right) t)

module _ (sizes : List ℕ) (ps : Pair NumberedPolicy) where
  -- the side's policy has the trace and the other has not
  unfoldable pub Alone : Side → ℕ → List ℕ → Type 0
  Alone s α t = SideTraces sizes ps s α t × (SideTraces sizes ps (other s) α t → ⊥)

  -- after the word w from α, γ is in the side's output
  unfoldable pub ends : Side → ℕ → List ℕ → ℕ → Bool
  ends s α w γ =
      let r = leads_to (pair_system sizes ps) (start_row (pair_system sizes ps) α) w in
      bit (output_at sizes ps s r.packet r.state) γ

module _ (sizes : List ℕ) (ps : Pair NumberedPolicy) (ok : EvaluablePair sizes ps) where
  -- the traces of a side's state at a row
  RowTraces : Side → Row (pair_system sizes ps) → List ℕ → Type 0
  RowTraces s r t = StateTraces sizes (at s ps).tree (bit (at s r.state)) r.packet t

  next_traces : (s : Side) (r : Row (pair_system sizes ps)) (γ δ : ℕ) (t : List ℕ) → r.packet < product sizes
      → RowTraces s r (γ ∷ δ ∷ t) ↔ RowTraces s (next_row (pair_system sizes ps) r γ) (δ ∷ t)
  unfolding RowTraces next_at
  next_traces s r γ δ t h =
      subst (λ n. StateTraces sizes (at s ps).tree (bit (at s r.state)) r.packet (γ ∷ δ ∷ t) ↔ StateTraces sizes (at s ps).tree (bit n) γ (δ ∷ t))
      (sym (at_each (λ s. next_at sizes ps s r.packet r.state γ) s))
      (next_mask_iff sizes (at s ps).dups (at s ps).tree (ok s) (at s r.state) r.packet h γ δ t)

  -- after a word, a side's output holds the packets that end a trace of the row before it
  follow_output : (s : Side) {w : List ℕ} → PacketWord (product sizes) w → (r : Row (pair_system sizes ps)) → r.packet < product sizes → (γ : ℕ)
      → T (bit (output_at sizes ps s (leads_to (pair_system sizes ps) r w).packet (leads_to (pair_system sizes ps) r w).state) γ) ↔ RowTraces s r (w ++ (γ ∷ []))
  unfolding leads_to RowTraces output_at
  follow_output s end r h γ = output_mask_iff sizes (at s ps).dups (at s ps).tree (ok s) (at s r.state) r.packet h γ
  follow_output s (then {γ = δ} {w = w} l v) r h γ =
      let ih = follow_output s v (next_row (pair_system sizes ps) r δ) l γ in
      let e = cons w in
      (λ t. e.1 (ih.0 t), λ t. ih.1 (e.0 t))
    where
      cons : (w : List ℕ) → RowTraces s r (δ ∷ (w ++ (γ ∷ []))) ↔ RowTraces s (next_row (pair_system sizes ps) r δ) (w ++ (γ ∷ []))
      cons [] = next_traces s r δ γ [] h
      cons (ε ∷ w) = next_traces s r δ ε (w ++ (γ ∷ [])) h

  -- from a starting row: the packets that end a Figure 1 trace
  pub output_after : (s : Side) (α : ℕ) → α < product sizes → {w : List ℕ} → PacketWord (product sizes) w → (γ : ℕ)
      → T (ends sizes ps s α w γ) ↔ SideTraces sizes ps s α (w ++ (γ ∷ []))
  unfolding RowTraces SideTraces ends
  output_after s α h {w} v γ =
      let e = follow_output s v (start_row (pair_system sizes ps) α) h γ in
      let k = subst (λ n. StateTraces sizes (at s ps).tree (bit n) α (w ++ (γ ∷ [])) ↔ Traces (numbered sizes) (at s ps).tree α (w ++ (γ ∷ []))) (sym (at_each (λ s. 1) s)) (whole_iff sizes (at s ps).dups (at s ps).tree (ok s) α (w ++ (γ ∷ []))) in
      (λ t. k.0 (e.0 t), λ t. e.1 (k.1 t))

  -- γ tells after a word exactly when one policy alone has the word and γ as a trace: the one whose output γ is in
  pub telling_after : (α : ℕ) → α < product sizes → {w : List ℕ} → PacketWord (product sizes) w → (γ : ℕ)
      → tells (pair_system sizes ps) (leads_to (pair_system sizes ps) (start_row (pair_system sizes ps) α) w) γ ≡ true
      → Alone sizes ps (cond (ends sizes ps left α w γ) left right) α (w ++ (γ ∷ []))
  unfolding in_one_output ends Alone
  telling_after α h {w} v γ e =
      let x = one_side (λ s. ends sizes ps s α w γ) e in
      ((output_after (cond (ends sizes ps left α w γ) left right) α h v γ).0 x.0, λ t. x.1 ((output_after (other (cond (ends sizes ps left α w γ) left right)) α h v γ).1 t))

  pub alone_tells : (α : ℕ) → α < product sizes → {w : List ℕ} → PacketWord (product sizes) w → (γ : ℕ)
      → (s : Side) → Alone sizes ps s α (w ++ (γ ∷ []))
      → tells (pair_system sizes ps) (leads_to (pair_system sizes ps) (start_row (pair_system sizes ps) α) w) γ ≡ true
  unfolding in_one_output ends Alone
  alone_tells α h {w} v γ s x = side_one (λ s. ends sizes ps s α w γ) s ((output_after s α h v γ).1 x.0) (λ t. x.1 ((output_after (other s) α h v γ).0 t))

  -- where it does not tell, both or neither have
  pub silent_after : (α : ℕ) → α < product sizes → {w : List ℕ} → PacketWord (product sizes) w → (γ : ℕ)
      → tells (pair_system sizes ps) (leads_to (pair_system sizes ps) (start_row (pair_system sizes ps) α) w) γ ≡ false
      → (s z : Side) → SideTraces sizes ps s α (w ++ (γ ∷ [])) → SideTraces sizes ps z α (w ++ (γ ∷ []))
  unfolding in_one_output ends
  silent_after α h {w} v γ e s z t = (output_after z α h v γ).0 (subst T (same s z) ((output_after s α h v γ).1 t))
    where
      same : (s z : Side) → ends sizes ps s α w γ ≡ ends sizes ps z α w γ
      same left left = refl
      same left right = xor_false _ _ e
      same right left = sym (xor_false _ _ e)
      same right right = refl

  pub traces_silent : (α : ℕ) → α < product sizes → {w : List ℕ} → PacketWord (product sizes) w → (γ : ℕ)
      → ((s z : Side) → SideTraces sizes ps s α (w ++ (γ ∷ [])) → SideTraces sizes ps z α (w ++ (γ ∷ [])))
      → tells (pair_system sizes ps) (leads_to (pair_system sizes ps) (start_row (pair_system sizes ps) α) w) γ ≡ false
  unfolding in_one_output ends
  traces_silent α h {w} v γ f = xor_same _ _ (same_test _ _ (there left right) (there right left))
    where
      there : (s z : Side) → T (ends sizes ps s α w γ) → T (ends sizes ps z α w γ)
      there s z t = (output_after z α h v γ).1 (f s z ((output_after s α h v γ).0 t))

  -- where nothing tells after fewer than d packets, traces of at most d packets are the same
  silent_below_traces : (d : ℕ) → SilentBelow (pair_system sizes ps) d → (α : ℕ) → α < product sizes → (t : List ℕ) → length t ≤ d
      → (s z : Side) → SideTraces sizes ps s α t → SideTraces sizes ps z α t
  unfolding SideTraces Each
  silent_below_traces d Q α h [] l s z t = absurd (traces_non_empty (numbered sizes) (at s ps).tree α t)
  silent_below_traces d Q α h (δ ∷ u) l s z t = go (split_last δ u)
    where
      go : (w : List ℕ) × (ε : ℕ) × (δ ∷ u ≡ w ++ (ε ∷ [])) → SideTraces sizes ps z α (δ ∷ u)
      go (w, ε, e) =
          let below = (each_append (λ γ. γ < product sizes) w (ε ∷ [])).0 (subst (Each (λ γ. γ < product sizes)) e (traces_below sizes (at s ps).tree (ok s).in_fields α h (δ ∷ u) t)) in
          let word : PacketWord (product sizes) w = word_of (product sizes) w below.0 in
          let short : length w < d = omega (arith, length_snoc w ε, ap length e) in
          subst (λ x. SideTraces sizes ps z α x) (sym e)
          (silent_after α h word ε (Q.silent α h w word short ε below.1.0) s z (subst (λ x. SideTraces sizes ps s α x) e t))

  -- nothing tells after fewer than d packets exactly when both policies have the same traces of d packets or fewer from every packet
  pub short_iff : (d : ℕ) → SilentBelow (pair_system sizes ps) d ↔ SameShortTracesBelow sizes d ps.left.tree ps.right.tree
  unfolding SameShortTraces SameShortTracesBelow SideTraces at
  short_iff d = (λ Q α h t l. let f = silent_below_traces d Q α h t l in (f left right, f right left), back)
    where
      back : SameShortTracesBelow sizes d ps.left.tree ps.right.tree → SilentBelow (pair_system sizes ps) d
      back E = record { silent = λ α h w v l γ g. traces_silent α h v γ (both α h (w ++ (γ ∷ [])) (omega (arith, length_snoc w γ))) }
        where
          both : (α : ℕ) → α < product sizes → (t : List ℕ) → length t ≤ d → (s z : Side) → SideTraces sizes ps s α t → SideTraces sizes ps z α t
          both α h t l left left x = x
          both α h t l left right x = (E α h t l).0 x
          both α h t l right left x = (E α h t l).1 x
          both α h t l right right x = x

  -- nothing tells exactly when they have the same traces from every packet
  pub silent_iff : Silent (pair_system sizes ps) ↔ SameTracesBelow sizes ps.left.tree ps.right.tree
  unfolding SameTracesBelow SameShortTracesBelow
  silent_iff =
      let each = same_each_length (numbered sizes) (λ α. α < product sizes) ps.left.tree ps.right.tree in (
        λ Q. each.1 (λ d. (short_iff d).0 (record { silent = λ α h w v l. Q.silent α h w v })),
        λ E. record { silent = λ α h w v. ((short_iff (suc (length w))).1 (each.0 E (suc (length w)))).silent α h w v (omega arith) },
      )
