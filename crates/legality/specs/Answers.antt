-- The answers of the calls that test policies.
use Rattle.std.specs.Prelude.{ℕ, pred, ◌≤◌, Bool, true, false, List, [], ◌∷◌, ◌≡◌, Result, Ok, Err, ltb, length, take}
use Rattle.packet.specs.Lowest.{lowest}
use Rattle.packet.specs.Refusals.{refused_at, first_refused}
use Rattle.packet.specs.Sizes.{product, counted}
use Rattle.packet.specs.declared.Refusal.{Refusal}
use Rattle.packet.specs.Refusals.{Tested}
use Rattle.legality.specs.declared.LegalCall.{LegalCall}
use Rattle.fields.specs.Tables.{Table, joint_sizes}
use Rattle.policy.specs.AsLists.{as_lists}
use Rattle.policy.specs.NodeLists.{NodeLists, node_count, dups_below}
use Rattle.policy.specs.Legality.{bad_kind, bad_entries, bad_child, not_once, bad_negation, too_many_dups}
use Rattle.policy.specs.Order.{in_order, sided, pair_core, stages_of, policy_tests, pair_tests, cause_place}

-- the number of dups of each of two policies where a test passes
unfoldable pub pair_answer : Tested → ℕ → ℕ → Result (ℕ × ℕ) Refusal
pair_answer (Ok _) left right = Ok (left, right)
pair_answer (Err r) left right = Err r

-- the answer on one policy
unfoldable pub policy_legality : List Table → NodeLists → Result ℕ Refusal
policy_legality ts L = counted (policy_tests ts L) (dups_below L (node_count L))

-- the answer on a left and a right policy
unfoldable pub pair_legality : List Table → NodeLists → NodeLists → Result (ℕ × ℕ) Refusal
pair_legality ts L R = pair_answer (pair_tests ts L R) (dups_below L (node_count L)) (dups_below R (node_count R))

-- ---- how the answers are worked out: one policy after the other, and each by the causes that need the ones before

-- causes 5 to 7
unfoldable pub nodes_stage : List ℕ → ℕ → NodeLists → Tested
nodes_stage sizes side L =
    first_refused
    (refused_at 5 side (lowest (bad_kind L) (node_count L))
    ∷ refused_at 6 side (lowest (bad_entries sizes L) (node_count L))
    ∷ refused_at 7 side (lowest (bad_child L) (node_count L))
    ∷ [])

-- causes 8, 19 and 9
unfoldable pub tree_stage : ℕ → NodeLists → Tested
tree_stage side L =
    first_refused
    (refused_at 8 side (lowest (not_once L) (pred (node_count L)))
    ∷ refused_at 19 side (lowest (bad_negation L) (node_count L))
    ∷ refused_at 9 side (lowest (too_many_dups L) (node_count L))
    ∷ [])

-- of two refusals the one whose cause comes first in the list, of the same cause the first
unfoldable pub earlier_if : Bool → Refusal → Refusal → Refusal
earlier_if true p q = q
earlier_if false p q = p

unfoldable pub earlier : Refusal → Refusal → Refusal
earlier p q = earlier_if (ltb (cause_place q.number) (cause_place p.number)) p q

unfoldable pub earlier_of : Tested → Tested → Tested
earlier_of (Ok _) u = u
earlier_of (Err p) (Ok _) = Err p
earlier_of (Err p) (Err q) = Err (earlier p q)

-- the nodes of ⊥
abbrev pub drop_nodes : NodeLists
drop_nodes = as_lists (0 ∷ []) (0 ∷ []) (0 ∷ [])

-- the dups of both policies, or the refusal that comes first
unfoldable pub both_legal : Result ℕ Refusal → Result ℕ Refusal → Result (ℕ × ℕ) Refusal
both_legal (Ok l) (Ok r) = Ok (l, r)
both_legal (Ok l) (Err q) = Err q
both_legal (Err p) (Ok r) = Err p
both_legal (Err p) (Err q) = Err (earlier p q)

-- the joint sizes, the core sizes, N and the dups of each policy
pub record Told (ts : List Table) (L R : NodeLists) (r : LegalCall) : Type 0 where
  pub few : (r.count ≤ length r.sizes) × (r.count ≤ length r.core)
  pub joint : take r.count r.sizes ≡ joint_sizes ts
  pub core : take r.count r.core ≡ pair_core ts L R
  pub packets : r.packets ≡ product (pair_core ts L R)
  pub left_dups : r.left_dups ≡ dups_below L (node_count L)
  pub right_dups : r.right_dups ≡ dups_below R (node_count R)

-- the tests of a call, `side` being what the left policy's refusals name and `lists` what stage "lists" says
abbrev pub front_tests : List Table → ℕ → NodeLists → NodeLists → Tested → Tested
front_tests ts side L R lists = in_order (stages_of ts (Ok tt) (sided side L ∷ sided 2 R ∷ []) lists (Ok tt))

-- What a call is told where its tests pass, or the first cause.
abbrev pub FrontOf : List Table → ℕ → NodeLists → NodeLists → Tested → Result LegalCall Refusal → Type 0
FrontOf ts side L R lists (Ok r) = (front_tests ts side L R lists ≡ Ok tt) × Told ts L R r
FrontOf ts side L R lists (Err r) = front_tests ts side L R lists ≡ Err r
