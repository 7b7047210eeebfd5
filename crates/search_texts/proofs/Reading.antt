-- What the reader's answer tells: the stage that tested the text, and the text's nodes.
use Prim.Native.Nat.{ℕ, ◌≤◌, min}
use native.Mathlib.Omega.{arith}
use mathlib.Core.List.{List, map}
use mathlib.Core.Path.{◌≡◌, refl, sym, ◌∙◌, ap, subst}
use lib.ListN.{length, take, drop, replicate, length-map, length-replicate}
use lib.Seq.{take_at}
use Rattle.packet.specs.declared.Refusal.{Refusal}
use Rattle.packet.specs.Refusals.{Tested}
use Rattle.std.specs.Prelude.{Result, Ok, Err}
use Rattle.policy.specs.AsLists.{as_lists}
use Rattle.policy.specs.NodesOfTree.{NodeEntry, tree_size, entries_from, lists_of, nodes_of}
use Rattle.policy.proofs.Nodes.{entries_length}
use Rattle.grammar.specs.Answer.{Answer, answer_after, text_tree, answer_to, left_by, shortest, ReadWith}
use Rattle.packet.specs.Written.{written}
use Rattle.grammar.proofs.AnswerLaws.{few_enough, count_parts}
use Rattle.search_texts.specs.Call.{text_nodes, text_stage, TextRead}
use Rattle.search_texts.specs.declared.TextNodes.{TextNodes}

pub zeros_length : length (replicate {A = ℕ} 512 0) ≡ 512
zeros_length = length-replicate {A = ℕ} 512 0

zero≢one : ◌≡◌ {A = ℕ} 0 1 → ⊥
zero≢one z = omega arith

nodes_stage : (t : Tested) (n m : ℕ) → Ok m ≡ answer_after t n → (t ≡ Ok tt) × (n ≡ m)
unfolding answer_after
nodes_stage (Ok _) n m e = (refl, let same : m ≡ n = cc in sym same)
nodes_stage (Err r) n m e = absurd (zero≢one (let z : ◌≡◌ {A = ℕ} 0 1 = cc in z))

refused_stage : (t : Tested) (n : ℕ) (r : Refusal) → Err r ≡ answer_after t n → t ≡ Err r
unfolding answer_after
refused_stage (Ok _) n r e = absurd (zero≢one (let z : ◌≡◌ {A = ℕ} 0 1 = cc in z))
refused_stage (Err q) n r e = ap Err (let same : r ≡ q = cc in sym same)

-- a text that passes has its number of nodes as the answer
pub stage_answer : (names : List (List ℕ)) (text : List ℕ) → text_stage names text ≡ Ok tt → answer_to names text 512 ≡ Ok (tree_size (text_tree names text))
unfolding text_stage answer_to answer_after
stage_answer names text e = ap (λ (t : Tested). answer_after t (tree_size (text_tree names text))) e

-- the front of a list that entries were written into
front : (f : NodeEntry → ℕ) (es : List NodeEntry) (n : ℕ) (old : List ℕ) → length es ≡ n → take n (written (map f es) old) ≡ map f es
unfolding written
front f es n old e = take_at (map f es) (drop (length (map f es)) old) n (length-map es f ∙ e)

module _ (names : List (List ℕ)) (text K F S : List ℕ) {r : Answer} {K' F' S' : List ℕ} (d : ReadWith names text K F S r K' F' S') (k : length K ≡ 512) (f : length F ≡ 512) (s : length S ≡ 512) where
  room : shortest K F S ≡ 512
  unfolding shortest
  room = omega arith

  answer_is : r ≡ answer_after (text_stage names text) (tree_size (text_tree names text))
  unfolding text_stage answer_to
  answer_is = d.answer ∙ ap (answer_to names text) room

  read_refused : {x : Refusal} → r ≡ Err x → text_stage names text ≡ Err x
  read_refused {x} e = refused_stage (text_stage names text) _ x (sym e ∙ answer_is)

  read_passed : {n : ℕ} → r ≡ Ok n → text_stage names text ≡ Ok tt
  read_passed {n} e = (nodes_stage (text_stage names text) _ n (sym e ∙ answer_is)).0

  many : {n : ℕ} → r ≡ Ok n → length (entries_from 0 (text_tree names text)) ≡ n
  many {n} e = entries_length 0 (text_tree names text) ∙ (nodes_stage (text_stage names text) _ n (sym e ∙ answer_is)).1

  read_few : {n : ℕ} → r ≡ Ok n → n ≤ 512
  read_few {n} e =
      let q : answer_to names text 512 ≡ Ok n = ap (answer_to names text) (sym room) ∙ sym d.answer ∙ e in
      let h : tree_size (text_tree names text) ≤ min 512 512 = few_enough 512 (tree_size (text_tree names text)) (count_parts names text 512 n (sym q)).2 in
      omega (arith, (count_parts names text 512 n (sym q)).3)

  read_nodes : {n : ℕ} → r ≡ Ok n → as_lists (take n K') (take n F') (take n S') ≡ text_nodes names text
  unfolding text_nodes nodes_of lists_of left_by
  read_nodes {n} e =
      same
      (ap (take n) (d.kinds ∙ ap (λ (a : Answer). left_by a (nodes_of (text_tree names text)).kind K) e) ∙ front (λ (x : NodeEntry). x.kind) (entries_from 0 (text_tree names text)) n K (many e))
      (ap (take n) (d.firsts ∙ ap (λ (a : Answer). left_by a (nodes_of (text_tree names text)).first F) e) ∙ front (λ (x : NodeEntry). x.first) (entries_from 0 (text_tree names text)) n F (many e))
      (ap (take n) (d.seconds ∙ ap (λ (a : Answer). left_by a (nodes_of (text_tree names text)).second S) e) ∙ front (λ (x : NodeEntry). x.second) (entries_from 0 (text_tree names text)) n S (many e))
    where
      same : {a a' b b' c c' : List ℕ} → a ≡ a' → b ≡ b' → c ≡ c' → as_lists a b c ≡ as_lists a' b' c'
      same p q t = rw (p, q, t) refl

  -- over the same names, however they were found
  pub refuses : {x : Refusal} → r ≡ Err x → {ns : List (List ℕ)} → names ≡ ns → (q : Result TextNodes Refusal) → q ≡ Err x → TextRead ns text q
  refuses {x} e {ns} p q h =
      let stage : text_stage ns text ≡ Err x = subst (λ (ms : List (List ℕ)). text_stage ms text ≡ Err x) p (read_refused e) in
      subst (λ (a : Result TextNodes Refusal). TextRead ns text a) (sym h) stage

  pub reads : {n : ℕ} → r ≡ Ok n → length K' ≡ 512 → length F' ≡ 512 → length S' ≡ 512 → {ns : List (List ℕ)} → names ≡ ns → TextRead ns text (Ok (record { kind = K'; first = F'; second = S'; count = n }))
  reads {n} e k' f' s' p =
      let h : n ≤ 512 = read_few e in
      subst (λ (ns : List (List ℕ)). TextRead ns text (Ok (record { kind = K'; first = F'; second = S'; count = n }))) p (read_passed e, (omega (arith, h, k'), omega (arith, h, f'), omega (arith, h, s')), read_nodes e)
