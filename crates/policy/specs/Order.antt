-- The order of causes (document 01, "Causes, in the order tested"), in two lists: the stages of a call, and the causes of a policy. Those
-- of the tables are a list in `fields` (`tables_stage`), those of one text, 14 to 17, the reader's (`grammar` `tested`).
use Rattle.std.specs.Prelude.{ℕ, suc, pred, Bool, true, false, List, [], ◌∷◌, map, eqb}
use Rattle.std.specs.Prelude.{Option}
use Rattle.packet.specs.Lowest.{lowest}
use Rattle.packet.specs.Refusals.{refused_at, at_zero, first_refused}
use Rattle.packet.specs.Sizes.{product_stage}
use Rattle.packet.specs.Refusals.{Tested}
use Rattle.std.specs.Prelude.{Ok}
use Rattle.fields.specs.Tables.{Table, joint_sizes, tables_stage}
use Rattle.policy.specs.NodeLists.{NodeLists, node_count}
use Rattle.policy.specs.Mentions.{core_sizes}
use Rattle.policy.specs.Legality.{bad_lengths, bad_kind, bad_entries, bad_child, not_once, bad_negation, too_many_dups}

-- what the stages of a call say; a stage that the call does not test passes
pub record Stages : Type 0 where
  pub fields : Tested
  pub texts : Tested
  pub policies : Tested
  pub product : Tested
  pub lists : Tested
  pub packets : Tested

-- The stages of a call, in the order tested: a stage that comes elsewhere is a line that moves, here and in `legality` `front`. 18 comes before them all,
-- 11 and 12 after. Calls that test a stage apart rest on a law of `OrderLaws`: texts are read where the stages before them pass, packets are
-- tested last.
unfoldable pub order : Stages → List Tested
order stages =
    stages.fields  -- 4 of side 0, 20, 21, 1, 2
    ∷ stages.texts  -- 14 to 17 on the left text, then on the right
    ∷ stages.policies  -- 4 to 9 and 19
    ∷ stages.product  -- 3
    ∷ stages.lists  -- 10
    ∷ stages.packets  -- 13
    ∷ []

-- the first stage that refuses
unfoldable pub in_order : Stages → Tested
in_order stages = first_refused (order stages)

-- a cause of a policy: its number, and its place if it holds
abbrev pub Cause : Type 0
Cause = ℕ × (NodeLists → Option ℕ)

-- The causes of a policy, in the order tested.
unfoldable pub causes : List ℕ → List Cause
causes sizes =
    (4, λ L. at_zero (bad_lengths L))
    ∷ (5, λ L. lowest (bad_kind L) (node_count L))
    ∷ (6, λ L. lowest (bad_entries sizes L) (node_count L))
    ∷ (7, λ L. lowest (bad_child L) (node_count L))
    ∷ (8, λ L. lowest (not_once L) (pred (node_count L)))
    ∷ (19, λ L. lowest (bad_negation L) (node_count L))
    ∷ (9, λ L. lowest (too_many_dups L) (node_count L))
    ∷ []

-- ---- the tests of each call

-- a policy and the side that its refusals name
pub record Sided : Type 0 where
  pub side : ℕ
  pub lists : NodeLists

abbrev pub sided : ℕ → NodeLists → Sided
sided side L = record { side = side; lists = L }

-- one cause, tested on each policy in order
unfoldable pub cause : ℕ → (NodeLists → Option ℕ) → List Sided → Tested
cause number place policies = first_refused (map (λ (p : Sided). refused_at number p.side (place p.lists)) policies)

-- stage "policies": each cause on every policy before the next
unfoldable pub policies_stage : List ℕ → List Sided → Tested
policies_stage sizes policies = first_refused (map (λ (c : Cause). cause c.0 c.1 policies) (causes sizes))

-- the core sizes of a call with these tables and policies: packets are numbered over them
abbrev pub core_of : List Table → List Sided → List ℕ
core_of ts policies = core_sizes (map (λ (p : Sided). p.lists) policies) (joint_sizes ts)

-- those of a left and a right policy
abbrev pub pair_core : List Table → NodeLists → NodeLists → List ℕ
pair_core ts L R = core_sizes (L ∷ R ∷ []) (joint_sizes ts)

-- the stages of a call with these tables: what its texts say, its policies, what its lists and its packets say
unfoldable pub stages_of : List Table → Tested → List Sided → Tested → Tested → Stages
stages_of ts texts policies lists packets =
    record {
      fields = tables_stage ts;
      texts = texts;
      policies = policies_stage (joint_sizes ts) policies;
      product = product_stage (core_of ts policies);
      lists = lists;
      packets = packets;
    }

-- a left and a right policy
abbrev pub pair_of : NodeLists → NodeLists → List Sided
pair_of L R = sided 1 L ∷ sided 2 R ∷ []

-- the tests on one policy: side 0
unfoldable pub policy_tests : List Table → NodeLists → Tested
policy_tests ts L = in_order (stages_of ts (Ok tt) (sided 0 L ∷ []) (Ok tt) (Ok tt))

-- the tests on a left and a right policy
unfoldable pub pair_tests : List Table → NodeLists → NodeLists → Tested
pair_tests ts L R = in_order (stages_of ts (Ok tt) (pair_of L R) (Ok tt) (Ok tt))

-- ---- the place of a policy's cause in the list, from 1 on

unfoldable pub one_or : Bool → ℕ → ℕ
one_or true n = 1
one_or false n = suc n

unfoldable pub place_among : ℕ → List Cause → ℕ
place_among number [] = 1
place_among number (c ∷ cs) = one_or (eqb number c.0) (place_among number cs)

-- no number depends on the sizes
unfoldable pub cause_place : ℕ → ℕ
cause_place number = place_among number (causes [])
