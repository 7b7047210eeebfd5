-- The nodes of a text that is read: of causes 4 to 9 and 19 only 6, 19 and 9 remain possible, and the policy of the nodes is the text's
-- tree, dups' numbers apart, so it has the same traces.
use Prim.Native.Nat.{ℕ, pred, ◌≤◌, min}
use native.Mathlib.Omega.{arith}
use mathlib.Core.List.{List, [], ◌∷◌}
use Rattle.std.specs.Prelude.{Option, None, Ok, Err}
use mathlib.Core.Path.{◌≡◌, refl, sym, ◌∙◌, ap, ap₂}
use Rattle.packet.specs.Lowest.{lowest}
use Rattle.packet.specs.Refusals.{refused_at, at_place, at_zero, first_refused}
use Rattle.packet.specs.Refusals.{Tested}
use Rattle.packet.proofs.Lowest.{none_lowest}
use Rattle.policy.specs.Tree.{Policy, sum, seq, star, neg}
use Rattle.policy.specs.Meaning.{Packets, Traces}
use Rattle.policy.specs.NodeLists.{NodeLists, node_count, policy_of}
use Rattle.policy.specs.NodesOfTree.{tree_size, nodes_of, unlabelled}
use Rattle.policy.specs.Legality.{bad_lengths, bad_kind, bad_entries, bad_child, not_once, bad_negation, too_many_dups}
use Rattle.policy.specs.Order.{sided, cause, causes, policies_stage}
use Rattle.policy.proofs.Congruence.{traces_unlabelled}
use Rattle.policy.proofs.Nodes.{nodes_count, nodes_read_back, nodes_lengths, nodes_kinds, nodes_below, nodes_once}
use Rattle.grammar.specs.declared.Token.{Token}
use Rattle.grammar.specs.declared.Constant.{Constant}
use Rattle.grammar.specs.declared.Constant.TheVariants.{Drop, Id, Dup}
use Rattle.grammar.specs.declared.Comparison.{Comparison}
use Rattle.grammar.specs.Grammar.{constant_policy, field_action, Item, Starred, Sequence, Sum, word, action, parentheses, negation, item, starred, single, sequenced, alone, summed}
use Rattle.grammar.specs.Answer.{text_tree, answer_to}
use Rattle.grammar.proofs.AnswerLaws.{few_enough, count_parts}
use Rattle.grammar.proofs.GrammarLaws.{read_derives, tree_read_lem}

-- the tree of a text has no numbers at its dups
constant_unlabelled : (c : Constant) → unlabelled (constant_policy c) ≡ constant_policy c
unfolding unlabelled constant_policy
constant_unlabelled Drop = refl
constant_unlabelled Id = refl
constant_unlabelled Dup = refl

record Bare (p : Policy) : Type 0 where
  same : unlabelled p ≡ p

bare_of : {p : Policy} (q : Policy) → p ≡ q → Bare q → Bare p
bare_of q e h = record { same = ap unlabelled e ∙ h.same ∙ sym e }

bare_action : {p : Policy} (f v : ℕ) (c : Comparison) → p ≡ Rattle.policy.specs.Tree.field (field_action c f v) → Bare p
unfolding unlabelled
bare_action f v c e = record { same = ap unlabelled e ∙ sym e }

bare_star : {p : Policy} → Bare p → Bare (star p)
unfolding unlabelled
bare_star h = record { same = ap star h.same }

bare_neg : {p : Policy} → Bare p → Bare (neg p)
unfolding unlabelled
bare_neg h = record { same = ap neg h.same }

bare_seq : {p q : Policy} → Bare p → Bare q → Bare (seq p q)
unfolding unlabelled
bare_seq h k = record { same = ap₂ seq h.same k.same }

bare_sum : {p q : Policy} → Bare p → Bare q → Bare (sum p q)
unfolding unlabelled
bare_sum h k = record { same = ap₂ sum h.same k.same }

constant_bare : (c : Constant) → Bare (constant_policy c)
constant_bare c = record { same = constant_unlabelled c }

mutual
  item_bare : {ts : List Token} {p : Policy} → Item ts p → Bare p
  item_bare (word c e q) = bare_of (constant_policy c) q (constant_bare c)
  item_bare (action f v c e q) = bare_action f v c q
  item_bare (parentheses d e) = sum_bare d
  item_bare (negation {q = q} d e r) = bare_of (neg q) r (bare_neg (item_bare d))

  starred_bare : {ts : List Token} {p : Policy} → Starred ts p → Bare p
  starred_bare (item d) = item_bare d
  starred_bare (starred {q = q} d e r) = bare_of (star q) r (bare_star (starred_bare d))

  sequence_bare : {ts : List Token} {p : Policy} → Sequence ts p → Bare p
  sequence_bare (single d) = starred_bare d
  sequence_bare (sequenced {q = q} {r = r} d f e x) = bare_of (seq q r) x (bare_seq (sequence_bare d) (starred_bare f))

  sum_bare : {ts : List Token} {p : Policy} → Sum ts p → Bare p
  sum_bare (alone d) = sequence_bare d
  sum_bare (summed {q = q} {r = r} d f e x) = bare_of (sum q r) x (bare_sum (sum_bare d) (sequence_bare f))

-- a derived tree has no numbers at its dups
pub derived_unlabelled : {ts : List Token} {p : Policy} → Sum ts p → unlabelled p ≡ p
derived_unlabelled d = (sum_bare d).same

passes : (number side : ℕ) (L : NodeLists) (place : NodeLists → Option ℕ) → place L ≡ None → cause number place (sided side L ∷ []) ≡ Ok tt
unfolding cause first_refused refused_at
passes number side L place e = rw e

four_pass : (a b c d f g h : Tested) → a ≡ Ok tt → b ≡ Ok tt → d ≡ Ok tt → f ≡ Ok tt → first_refused (a ∷ b ∷ c ∷ d ∷ f ∷ g ∷ h ∷ []) ≡ first_refused (c ∷ g ∷ h ∷ [])
unfolding first_refused
four_pass a b (Ok _) d f g h p q r s = rw (p, q, r, s)
four_pass a b (Err x) d f g h p q r s = rw (p, q)

module _ (names : List (List ℕ)) (text : List ℕ) (room n : ℕ) (e : answer_to names text room ≡ Ok n) where
  few : tree_size (text_tree names text) ≤ 512
  few = let h : tree_size (text_tree names text) ≤ min 512 room = few_enough room (tree_size (text_tree names text)) (count_parts names text room n (sym e)).2 in omega arith

  -- of the causes of a policy only 6, 19 and 9 remain
  pub causes_remaining : (sizes : List ℕ) (side : ℕ)
      → policies_stage sizes (sided side (nodes_of (text_tree names text)) ∷ [])
      ≡ first_refused
      (cause 6 (λ L. lowest (bad_entries sizes L) (node_count L)) (sided side (nodes_of (text_tree names text)) ∷ [])
      ∷ cause 19 (λ L. lowest (bad_negation L) (node_count L)) (sided side (nodes_of (text_tree names text)) ∷ [])
      ∷ cause 9 (λ L. lowest (too_many_dups L) (node_count L)) (sided side (nodes_of (text_tree names text)) ∷ [])
      ∷ [])
  unfolding policies_stage causes at_place
  causes_remaining sizes side =
      let L = nodes_of (text_tree names text) in
      four_pass _ _ _ _ _ _ _
      (passes 4 side L (λ L. at_zero (bad_lengths L)) (ap at_zero (nodes_lengths (text_tree names text) few)))
      (passes 5 side L (λ L. lowest (bad_kind L) (node_count L)) (none_lowest (bad_kind L) (node_count L) (λ i l. nodes_kinds (text_tree names text) i)))
      (passes 7 side L (λ L. lowest (bad_child L) (node_count L)) (none_lowest (bad_child L) (node_count L) (nodes_below (text_tree names text))))
      (passes 8 side L (λ L. lowest (not_once L) (pred (node_count L))) (none_lowest (not_once L) (pred (node_count L)) (nodes_once (text_tree names text))))

  -- the policy of the nodes is the text's tree, dups' numbers apart
  pub text_policy : unlabelled (policy_of (nodes_of (text_tree names text))) ≡ text_tree names text
  text_policy =
      nodes_read_back (text_tree names text)
      ∙ derived_unlabelled ((read_derives names text (text_tree names text)).0 (tree_read_lem names text (count_parts names text room n (sym e)).1))

  -- so the nodes have the traces of the text
  pub text_traces : (P : Packets) → Traces P (policy_of (nodes_of (text_tree names text))) ≡ Traces P (text_tree names text)
  text_traces P = sym (traces_unlabelled P (policy_of (nodes_of (text_tree names text)))) ∙ ap (λ (p : Policy). Traces P p) text_policy

  pub text_count : node_count (nodes_of (text_tree names text)) ≡ n
  text_count = nodes_count (text_tree names text) ∙ (count_parts names text room n (sym e)).3
