-- The trace checker (document 01, "Row rules for evidence" and "Causes, in the order tested"; document 02, A.6).
use Rattle.std.specs.Prelude.{ℕ, suc, ◌<◌, ◌≤◌, Bool, List, [], ◌∷◌, map, ◌↔◌, ◌≡◌, T, leb, length, get_or, Ok, Err}
use Rattle.packet.specs.Refusals.{Tested, refused_at}
use Rattle.packet.specs.Lowest.{lowest}
use Rattle.packet.specs.Sizes.{product, LegalSizes}
use Rattle.policy.specs.Legality.{Legal}
use Rattle.policy.specs.Order.{in_order, stages_of, pair_of, pair_core}
use Rattle.policy.specs.Meaning.{declared, Traces}
use Rattle.packet.specs.Packets.{Declared}
use Rattle.classes.specs.Classing.{class_number, shown_packet, lifted}
use Rattle.classes.specs.Mentioned.{pair_classes}
use Rattle.fields.specs.Tables.{Table, joint_sizes}
use Rattle.policy.specs.NodeLists.{NodeLists, node_count, dups_below, policy_of}
use Rattle.automaton.specs.State.{has_trace}
use Rattle.pair.specs.Sides.{Side, left, right, at, policies}
use Rattle.pair.specs.TraceCheck.{TraceAnswer, only, both, neither, has, trace_answer}
use Rattle.loaded.specs.Loaded.{Loaded}
use Rattle.engine.specs.Stepping.{Stands}
use Rattle.lent_lists.specs.LentLists as rows
use Rattle.lent_lists.specs.LentLists.{lists_stage, work_after}
use Rattle.traces.specs.declared.TraceChecked.{TraceChecked}
use Rattle.traces.specs.declared.TraceChecked.TheVariants.{Left, Right, Both, Neither, Refused as CheckRefused}

-- cause 13 with N packets: place 0 is the entering packet, place i the i-th packet of the trace
unfoldable pub bad_packet : ℕ → ℕ → List ℕ → ℕ → Bool
bad_packet N α trace i = leb N (get_or (α ∷ trace) i 0)

-- stage "packets": cause 13
unfoldable pub packets_stage : ℕ → ℕ → List ℕ → Tested
packets_stage N α trace = refused_at 13 0 (lowest (bad_packet N α trace) (suc (length trace)))

-- an answer's case of the call
unfoldable pub checked_as : TraceAnswer → TraceChecked
checked_as (only left) = Left
checked_as (only right) = Right
checked_as both = Both
checked_as neither = Neither

-- each case's number and values: a refusal's are its own
unfoldable pub checked_unless : Tested → TraceAnswer → TraceChecked
checked_unless (Ok _) a = checked_as a
checked_unless (Err r) a = CheckRefused r

module _ (ts : List Table) (L R : NodeLists) where
  -- the tests on what else is lent, with a work list of so many words: the causes up to 10
  unfoldable pub lists_tests : ℕ → Tested
  lists_tests words = rows.lent_tests ts L R (lists_stage [] words)

  -- the order of causes: up to 10, then 13
  unfoldable pub trace_tests : ℕ → List ℕ → ℕ → Tested
  trace_tests α trace words = in_order (stages_of ts (Ok tt) (pair_of L R) (lists_stage [] words) (packets_stage (product (pair_core ts L R)) α trace))

  -- the trace checker's answer
  unfoldable pub trace_call : ℕ → List ℕ → ℕ → TraceChecked
  trace_call α trace words = checked_unless (trace_tests α trace words) (trace_answer (pair_core ts L R) (policies L R) α trace)

  -- The call's promise. Where it answers, the answer says of each policy whether Figure 1 gives it the trace: from the declared packet shown, and from every
  -- declared packet of the entering packet's classes, the trace being lifted along that packet.
  pub record CheckedTrace (α : ℕ) (trace work : List ℕ) (answer : TraceChecked) (work' : List ℕ) : Type 0 where
    pub answers : answer ≡ trace_call α trace (length work)
    pub work_list : work' ≡ work_after (lists_tests (length work)) work
    pub shown_trace : (a : TraceAnswer) → answer ≡ checked_as a → (s : Side)
        → T (has s a) ↔ Traces declared (at s (policies L R)).tree (shown_packet (pair_classes ts L R) α) (map (shown_packet (pair_classes ts L R)) trace)
    pub lifted_trace : (a : TraceAnswer) → answer ≡ checked_as a → (s : Side) (β : List ℕ) → Declared (joint_sizes ts) β → class_number (pair_classes ts L R) β ≡ α
        → T (has s a) ↔ Traces declared (at s (policies L R)).tree β (map (lifted (pair_classes ts L R) β) trace)

-- what following a trace through one policy asks: no cause up to 13 holds, N = count, and the first words of the work list 0
pub record FollowReady (sizes : List ℕ) (L : NodeLists) (count α : ℕ) (trace work : List ℕ) : Type 0 where
  pub legal_sizes : LegalSizes sizes
  pub legal : Legal sizes L
  pub packets : count ≡ product sizes
  pub entering : α < product sizes
  pub inside : (i : ℕ) → i < length trace → get_or trace i 0 < product sizes
  pub long : 16384 ≤ length work
  pub zero : (i : ℕ) → i < 16384 → get_or work i 0 ≡ 0

-- the policy has the trace or not, and the work list is as it was
pub record Followed (sizes : List ℕ) (L : NodeLists) (α : ℕ) (trace work : List ℕ) (answer : Bool) (work' : List ℕ) : Type 0 where
  pub answers : answer ≡ has_trace sizes (policy_of L) (dups_below L (node_count L)) α trace
  pub kept : work' ≡ work

module _ (sizes nodes tests : List ℕ) where
  -- the same of a policy that is loaded
  pub record LoadedReady (count α : ℕ) (trace work : List ℕ) : Type 0 where
    pub lists : NodeLists
    pub loaded : Loaded sizes lists nodes tests
    pub ready : FollowReady sizes lists count α trace work

  -- the answer, whatever policy is loaded
  pub record LoadedFollowed (α : ℕ) (trace work : List ℕ) (answer : Bool) (work' : List ℕ) : Type 0 where
    pub answers : (L : NodeLists) → Stands sizes L nodes tests α → answer ≡ has_trace sizes (policy_of L) (dups_below L (node_count L)) α trace
    pub kept : work' ≡ work
