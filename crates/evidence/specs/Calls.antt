-- The evidence checker's call: the first cause that refuses, else the row rules (document 01, "Row rules for evidence"; document 02, A.6).
use Rattle.std.specs.Prelude.{ℕ, ◌≤◌, List, [], ◌∷◌, ◌↔◌, ◌≡◌, length}
use Rattle.packet.specs.Refusals.{Tested}
use Rattle.std.specs.Prelude.{Ok, Err}
use Rattle.fields.specs.Tables.{Table, joint_sizes}
use Rattle.policy.specs.NodeLists.{NodeLists, policy_of}
use Rattle.policy.specs.Order.{pair_core, pair_tests}
use Rattle.policy.specs.Meaning.{SameTracesDeclared}
use Rattle.system.specs.RowOrder.{NeedsMore}
use Rattle.pair.specs.Sides.{policies}
use Rattle.pair.specs.Pair.{pair_system}
use Rattle.pair.specs.Search.{held_columns}
use Rattle.pair.specs.Rules.{RulesAnswer, accepted, rule_a, rule_b, rule_c, rule_d, Judged}
use Rattle.pair.specs.Evidence.{table_of, evidence_answer, RowRules}
use Rattle.lent_lists.specs.LentLists.{lists_stage, lent_tests, work_after}
use Rattle.evidence.specs.declared.Evidence.{Evidence}
use Rattle.evidence.specs.declared.Evidence.TheVariants.{Accepted, RuleA, RuleB, RuleC, RuleD, Refused as NotChecked}

-- the broken rule and its spot: (a) row; (b) packet; (c) row; (d) row and packet
unfoldable pub as_evidence : RulesAnswer → Evidence
as_evidence accepted = Accepted
as_evidence (rule_a i) = RuleA i
as_evidence (rule_b α) = RuleB α
as_evidence (rule_c i) = RuleC i
as_evidence (rule_d i γ) = RuleD i γ

-- the answer: a refusal has its own number, side and place
unfoldable pub evidence_of : Tested → RulesAnswer → Evidence
evidence_of (Ok _) x = as_evidence x
evidence_of (Err r) x = NotChecked r

module _ (sizes : List ℕ) (L R : NodeLists) (packets lefts rights : List ℕ) where
  -- The columns hold the row order itself, row for row: it needs no more than `room` rows, at most 65,535, and they are what so
  -- many lent rows hold in the end (law `whole_order`: the rows listed when all of them are handled).
  pub record HoldRowOrder : Type 0 where
    pub room : ℕ
    pub few : room ≤ 65535
    pub enough : NeedsMore (pair_system sizes (policies L R)) room → ⊥
    pub packets_held : packets ≡ (held_columns sizes (policies L R) room).packets
    pub lefts_held : lefts ≡ (held_columns sizes (policies L R) room).lefts
    pub rights_held : rights ≡ (held_columns sizes (policies L R) room).rights

module _ (ts : List Table) (L R : NodeLists) where
  module _ (packets lefts rights : List ℕ) where
    -- the causes in the order tested, up to 10; the work list has so many words
    unfoldable pub evidence_tests : ℕ → Tested
    evidence_tests words = lent_tests ts L R (lists_stage (length packets ∷ length lefts ∷ length rights ∷ []) words)

    -- the checker's answer
    unfoldable pub evidence_call : ℕ → Evidence
    evidence_call words = evidence_of (evidence_tests words) (evidence_answer (pair_core ts L R) (policies L R) packets lefts rights)

    -- Demand 3: what the call answers, and what it leaves in the work list.
    pub record CheckedRows (work : List ℕ) (answer : Evidence) (work' : List ℕ) : Type 0 where
      pub answers : answer ≡ evidence_call (length work)
      pub works : work' ≡ work_after (evidence_tests (length work)) work
      -- "it accepts exactly when no listed cause of refusal holds and the rows keep all four row rules"
      pub accepts : (answer ≡ Accepted) ↔ ((evidence_tests (length work) ≡ Ok tt) × RowRules (pair_core ts L R) (policies L R) packets lefts rights)
      -- "where no cause holds and a rule is broken, it rejects with the rule and spot that document 01 names"
      pub rejects : evidence_tests (length work) ≡ Ok tt → (x : RulesAnswer) → answer ≡ as_evidence x → Judged (pair_system (pair_core ts L R) (policies L R)) (table_of (pair_core ts L R) (policies L R) packets lefts rights) x
      -- "whenever it accepts, the two policies have the same traces from every packet": every value of every declared field
      pub sound : answer ≡ Accepted → SameTracesDeclared (joint_sizes ts) (policy_of L) (policy_of R)
      -- an equal pair's row order "is a table that the checker accepts, with any work list that refusal 10 lets pass"
      pub complete : pair_tests ts L R ≡ Ok tt → SameTracesDeclared (joint_sizes ts) (policy_of L) (policy_of R) → HoldRowOrder (pair_core ts L R) L R packets lefts rights → 16384 ≤ length work → answer ≡ Accepted
