-- The search on two texts: a text policy is the nodes that the section Text gives it (document 01, "Causes, in the order tested"; document 02, A.6).
use Rattle.std.specs.Prelude.{ℕ, ◌≤◌, List, [], ◌∷◌, ◌↔◌, ◌≡◌, length, take, Result}
use Rattle.packet.specs.declared.Refusal.{Refusal}
use Rattle.packet.specs.Refusals.{Tested}
use Rattle.std.specs.Prelude.{Ok, Err}
use Rattle.packet.specs.Refusals.{first_refused}
use Rattle.policy.specs.AsLists.{as_lists}
use Rattle.policy.specs.Order.{in_order, stages_of, pair_of, pair_core}
use Rattle.classes.specs.Classing.{Classing, TellsOver}
use Rattle.classes.specs.Mentioned.{pair_classes}
use Rattle.policy.specs.Meaning.{SameTracesDeclared, SameShortTracesDeclared}
use Rattle.policy.specs.NodeLists.{NodeLists, node_count, dups_below}
use Rattle.policy.specs.NodesOfTree.{nodes_of}
use Rattle.system.specs.RowOrder.{NeedsMore}
use Rattle.pair.specs.Sides.{Side, other, Pair, at, NumberedPolicy, policies}
use Rattle.pair.specs.Pair.{pair_system}
use Rattle.pair.specs.Search.{SearchAnswer, Columns}
use Rattle.lent_lists.specs.LentLists.{lists_stage}
use Rattle.fields.specs.Tables.{Table, joint_sizes}
use Rattle.grammar.specs.Answer.{text_tree, tested, text_names}
use Rattle.verdict.specs.declared.Verdict.{Verdict}
use Rattle.verdict.specs.declared.Verdict.TheVariants.{Equal, Full}
use Rattle.verdict.specs.Verdicts.{telling_verdict}
use Rattle.search.specs.Call.{SearchLists, verdict_after, lent_after, answer_here, rows_here, full_here}
use Rattle.search_texts.specs.declared.TextNodes.{TextNodes}

-- the nodes of a text
unfoldable pub text_nodes : List (List ℕ) → List ℕ → NodeLists
text_nodes names text = nodes_of (text_tree names text)

-- causes 14 to 17 on one text; it may have 512 nodes
unfoldable pub text_stage : List (List ℕ) → List ℕ → Tested
text_stage names text = tested names text 512

-- the texts' own trees
abbrev pub text_policy : List (List ℕ) → List ℕ → NumberedPolicy
text_policy names text = record { tree = text_tree names text; dups = dups_below (text_nodes names text) (node_count (text_nodes names text)) }

module _ (left_table right_table : Table) where
  abbrev pub text_tables : List Table
  text_tables = left_table ∷ right_table ∷ []

  -- each text with the names of its side
  abbrev pub left_names : List (List ℕ)
  left_names = text_names left_table right_table 1

  abbrev pub right_names : List (List ℕ)
  right_names = text_names left_table right_table 2

  abbrev pub text_policies : List ℕ → List ℕ → Pair NumberedPolicy
  text_policies left right = record { left = text_policy left_names left; right = text_policy right_names right }

module _ (left_table right_table : Table) (left right : List ℕ) where
  abbrev pub left_nodes : NodeLists
  left_nodes = text_nodes (left_names left_table right_table) left

  abbrev pub right_nodes : NodeLists
  right_nodes = text_nodes (right_names left_table right_table) right

  -- the core sizes and the classes, by what the two texts mention
  abbrev pub texts_core : List ℕ
  texts_core = pair_core (text_tables left_table right_table) left_nodes right_nodes

  abbrev pub texts_classes : Classing
  texts_classes = pair_classes (text_tables left_table right_table) left_nodes right_nodes

  -- the trace tells the texts apart over declared packets: that side's text alone has it (Figure 1)
  abbrev pub TextsTell : Side → ℕ → List ℕ → Type 0
  TextsTell s α trace =
      TellsOver texts_classes (joint_sizes (text_tables left_table right_table)) (at s (text_policies left_table right_table left right)).tree (at (other s) (text_policies left_table right_table left right)).tree α trace

module _ (left_table right_table : Table) (left right : List ℕ) (x : SearchLists) where
  abbrev L : NodeLists
  L = left_nodes left_table right_table left right

  abbrev R : NodeLists
  R = right_nodes left_table right_table left right

  abbrev sizes : List ℕ
  sizes = joint_sizes (text_tables left_table right_table)

  abbrev core : List ℕ
  core = texts_core left_table right_table left right

  -- the causes of the tables; 14 to 17 on the left text, then on the right; 4 to 9 and 19; 3; 10
  unfoldable pub texts_tests : Tested
  texts_tests =
      in_order
      (stages_of (text_tables left_table right_table) (first_refused (text_stage (left_names left_table right_table) left ∷ text_stage (right_names left_table right_table) right ∷ [])) (pair_of L R)
      (lists_stage (length x.packets ∷ length x.lefts ∷ length x.rights ∷ length x.parents ∷ []) (length x.work)) (Ok tt))

  -- the theory's answer and rows, as for the search on the texts' nodes
  abbrev pub texts_answer : SearchAnswer
  texts_answer = answer_here core L R x

  abbrev pub texts_rows : Columns
  texts_rows = rows_here core L R x

  -- refusal 11, too
  abbrev pub texts_full : Verdict
  texts_full = full_here core L R x

  unfoldable pub texts_verdict : Verdict
  texts_verdict = verdict_after texts_tests texts_answer

  unfoldable pub texts_leaves : SearchLists
  texts_leaves = lent_after texts_tests texts_rows texts_answer x

  -- the first n packets of the trace list tell the texts apart
  pub record TextsTelling (s : Side) (n α : ℕ) (trace : List ℕ) : Type 0 where
    pub long : length (take n trace) ≡ n
    pub tells : TextsTell left_table right_table left right s α (take n trace)

  -- The promise of the search on two texts; what is said of traces is said of declared packets, which have a value for each joint field.
  pub record TextsSearched (verdict : Verdict) (y : SearchLists) : Type 0 where
    pub answers : verdict ≡ texts_verdict
    pub leaves : y ≡ texts_leaves
    -- demand 2: equal only if both texts have the same traces from every packet
    pub equal_same : (rows : ℕ) → verdict ≡ Equal rows → SameTracesDeclared sizes (text_tree (left_names left_table right_table) left) (text_tree (right_names left_table right_table) right)
    -- and equal wherever they have, if the row order needs no more rows than were lent
    pub same_equal : texts_tests ≡ Ok tt → SameTracesDeclared sizes (text_tree (left_names left_table right_table) left) (text_tree (right_names left_table right_table) right) → (NeedsMore (pair_system core (policies L R)) (length x.packets) → ⊥) → (rows : ℕ) × (verdict ≡ Equal rows)
    -- different only with a packet and trace that exactly one of them has, and no shorter trace tells the two apart from any packet
    pub different_tells : (s : Side) (n α : ℕ) → verdict ≡ telling_verdict s n α → TextsTelling s n α y.trace
    -- where no cause tested earlier holds, full comes exactly when the row order needs more rows than were lent
    pub full_exactly : texts_tests ≡ Ok tt → (verdict ≡ texts_full) ↔ NeedsMore (pair_system core (policies L R)) (length x.packets)
    -- and it names the rows lent, and the depth of the row being handled
    pub full_place : (r : Refusal) (d : ℕ) → verdict ≡ Full r d → Full r d ≡ texts_full
    -- document 02, A.3: both texts have the same traces of d packets or fewer from every packet
    pub full_same : (r : Refusal) (d : ℕ) → verdict ≡ Full r d → SameShortTracesDeclared sizes d (text_tree (left_names left_table right_table) left) (text_tree (right_names left_table right_table) right)

-- ---- the texts as they are read

-- the entries counted are there
abbrev pub few_nodes : TextNodes → Type 0
few_nodes q = (q.count ≤ length q.kind) × (q.count ≤ length q.first) × (q.count ≤ length q.second)

-- the nodes held
abbrev pub held_nodes : TextNodes → NodeLists
held_nodes q = as_lists (take q.count q.kind) (take q.count q.first) (take q.count q.second)

-- the nodes of a text over these names, or what refuses it
abbrev pub TextRead : List (List ℕ) → List ℕ → Result TextNodes Refusal → Type 0
TextRead names text (Ok q) = (text_stage names text ≡ Ok tt) × few_nodes q × (held_nodes q ≡ text_nodes names text)
TextRead names text (Err r) = text_stage names text ≡ Err r

-- the nodes of both texts, or what refuses the call whatever lists are lent
abbrev pub TextsRead : Table → Table → List ℕ → List ℕ → Result (TextNodes × TextNodes) Refusal → Type 0
TextsRead left_table right_table left right (Ok q) = TextRead (left_names left_table right_table) left (Ok q.0) × TextRead (right_names left_table right_table) right (Ok q.1)
TextsRead left_table right_table left right (Err r) = (x : SearchLists) → texts_tests left_table right_table left right x ≡ Err r
