-- The search on node lists: its answer and what it leaves in every lent list (document 01, "States and rows" and "Causes, in the order tested";
-- document 02, A.6).
use Rattle.std.specs.Prelude.{ℕ, ◌≤◌, List, [], ◌∷◌, ◌↔◌, ◌≡◌, length, replicate, take}
use Rattle.std.specs.Borrow.{MutBor}
use denote.Triple.Both.{Both}
use Rattle.packet.specs.declared.Refusal.{Refusal}
use Rattle.packet.specs.Refusals.{Tested}
use Rattle.std.specs.Prelude.{Ok, Err}
use Rattle.packet.specs.Refusals.{refusal}
use Rattle.packet.specs.Sizes.{product, LegalSizes}
use Rattle.fields.specs.Tables.{Table, joint_sizes}
use Rattle.policy.specs.Legality.{Legal}
use Rattle.policy.specs.Meaning.{SameTracesDeclared, SameShortTracesDeclared}
use Rattle.policy.specs.Order.{pair_core}
use Rattle.policy.specs.NodeLists.{NodeLists, policy_of}
use Rattle.system.specs.RowOrder.{NeedsMore, depth_at_full}
use Rattle.classes.specs.Classing.{TellsOver}
use Rattle.classes.specs.Mentioned.{pair_classes}
use Rattle.pair.specs.Sides.{Side, other, at, policies}
use Rattle.pair.specs.Pair.{pair_system}
use Rattle.pair.specs.Search.{SearchAnswer, Columns, search_answer, held_columns}
use Rattle.index.specs.declared.RowLists.{RowLists}
use Rattle.lent_lists.specs.LentLists.{lists_stage, lent_tests}
use Rattle.packet.specs.Written.{written}
use Rattle.verdict.specs.declared.Verdict.{Verdict}
use Rattle.verdict.specs.Verdicts.{telling_verdict, verdict_of, trace_after}
use Rattle.verdict.specs.declared.Verdict.TheVariants.{Equal, Full, Refused}

-- the lists lent to a search
pub record SearchLists : Type 0 where
  pub packets : List ℕ
  pub lefts : List ℕ
  pub rights : List ℕ
  pub parents : List ℕ
  pub trace : List ℕ
  pub work : List ℕ

abbrev pub lent : List ℕ → List ℕ → List ℕ → List ℕ → List ℕ → List ℕ → SearchLists
lent P L R Q trace work = record { packets = P; lefts = L; rights = R; parents = Q; trace = trace; work = work }

-- what the row lists and the others contain
abbrev pub lent_in : RowLists → List ℕ → List ℕ → SearchLists
lent_in rows trace work = lent rows.packets.now rows.left.now rows.right.now rows.parents.now trace work

-- the same of the references that an `ensures` names
abbrev pub lent_at_entry : (P L R Q trace work : Both (MutBor (List ℕ)) (MutBor (List ℕ))) → SearchLists
lent_at_entry P L R Q trace work = lent P.entry.now L.entry.now R.entry.now Q.entry.now trace.entry.now work.entry.now

abbrev pub lent_at_exit : (P L R Q trace work : Both (MutBor (List ℕ)) (MutBor (List ℕ))) → SearchLists
lent_at_exit P L R Q trace work = lent P.exit.now L.exit.now R.exit.now Q.exit.now trace.exit.now work.exit.now

-- the lists that a search leaves where no cause up to 10 holds: the rows listed first, entries beyond as they were; the work list all 0
unfoldable pub filled : Columns → SearchAnswer → SearchLists → SearchLists
filled rows a x =
    record {
      packets = written rows.packets x.packets;
      lefts = written rows.lefts x.lefts;
      rights = written rows.rights x.rights;
      parents = written rows.parents x.parents;
      trace = trace_after a x.trace;
      work = replicate (length x.work) 0;
    }

unfoldable pub verdict_after : Tested → SearchAnswer → Verdict
verdict_after (Ok _) a = verdict_of a
verdict_after (Err r) a = Refused r

unfoldable pub lent_after : Tested → Columns → SearchAnswer → SearchLists → SearchLists
lent_after (Ok _) rows a x = filled rows a x
lent_after (Err r) rows a x = x

module _ (sizes : List ℕ) (L R : NodeLists) (x : SearchLists) where
  -- the theory's answer with as many rows and as long a trace as were lent
  abbrev pub answer_here : SearchAnswer
  answer_here = search_answer sizes (policies L R) (length x.packets) (length x.trace)

  -- the rows of the row order that the lent lists hold in the end
  abbrev pub rows_here : Columns
  rows_here = held_columns sizes (policies L R) (length x.packets)

  -- refusal 11: the rows lent, and the depth of the row being handled when they ran out
  abbrev pub depth_here : ℕ
  depth_here = depth_at_full (pair_system sizes (policies L R)) (length x.packets)

  abbrev pub full_here : Verdict
  full_here = Full (refusal 11 0 (length x.packets)) depth_here

module _ (ts : List Table) (L R : NodeLists) (x : SearchLists) where
  -- the causes up to 10 in the order tested
  unfoldable pub search_tests : Tested
  search_tests = lent_tests ts L R (lists_stage (length x.packets ∷ length x.lefts ∷ length x.rights ∷ length x.parents ∷ []) (length x.work))

  unfoldable pub search_verdict : Verdict
  search_verdict = verdict_after search_tests (answer_here (pair_core ts L R) L R x)

  unfoldable pub search_leaves : SearchLists
  search_leaves = lent_after search_tests (rows_here (pair_core ts L R) L R x) (answer_here (pair_core ts L R) L R x) x

  -- the first n packets of the trace list tell the policies apart over declared packets (Figure 1)
  pub record Telling (s : Side) (n α : ℕ) (trace : List ℕ) : Type 0 where
    pub long : length (take n trace) ≡ n
    pub tells : TellsOver (pair_classes ts L R) (joint_sizes ts) (at s (policies L R)).tree (at (other s) (policies L R)).tree α (take n trace)

  -- The promise of the search. Rows and traces are numbered over the core sizes; what is said of traces is said of declared packets, which have a
  -- value for each joint field.
  pub record Searched (verdict : Verdict) (y : SearchLists) : Type 0 where
    pub answers : verdict ≡ search_verdict
    pub leaves : y ≡ search_leaves
    -- demand 2: equal only if both policies have the same traces from every packet
    pub equal_same : (rows : ℕ) → verdict ≡ Equal rows → SameTracesDeclared (joint_sizes ts) (policy_of L) (policy_of R)
    -- and equal wherever they have, if the row order needs no more rows than were lent
    pub same_equal : search_tests ≡ Ok tt → SameTracesDeclared (joint_sizes ts) (policy_of L) (policy_of R) → (NeedsMore (pair_system (pair_core ts L R) (policies L R)) (length x.packets) → ⊥) → (rows : ℕ) × (verdict ≡ Equal rows)
    -- different only with a packet and trace that exactly one of them has, and no shorter trace tells the two apart from any packet
    pub different_tells : (s : Side) (n α : ℕ) → verdict ≡ telling_verdict s n α → Telling s n α y.trace
    -- where no cause tested earlier holds, full comes exactly when the row order needs more rows than were lent
    pub full_exactly : search_tests ≡ Ok tt → (verdict ≡ full_here (pair_core ts L R) L R x) ↔ NeedsMore (pair_system (pair_core ts L R) (policies L R)) (length x.packets)
    -- and it names the rows lent, and the depth of the row being handled
    pub full_place : (r : Refusal) (d : ℕ) → verdict ≡ Full r d → Full r d ≡ full_here (pair_core ts L R) L R x
    -- document 02, A.3: both policies have the same traces of d packets or fewer from every packet
    pub full_same : (r : Refusal) (d : ℕ) → verdict ≡ Full r d → SameShortTracesDeclared (joint_sizes ts) d (policy_of L) (policy_of R)

-- what is known of the lent lists where no cause up to 10 holds, and N = count
pub record Accepted (sizes : List ℕ) (L R : NodeLists) (count : ℕ) (x : SearchLists) : Type 0 where
  pub legal : LegalSizes sizes
  pub left_legal : Legal sizes L
  pub right_legal : Legal sizes R
  pub packets : count ≡ product sizes
  pub lefts : length x.lefts ≡ length x.packets
  pub rights : length x.rights ≡ length x.packets
  pub parents : length x.parents ≡ length x.packets
  pub few : length x.packets ≤ 65535
  pub long : 16384 ≤ length x.work

-- the verdict and the lists after a search where no cause up to 10 holds
pub record SearchDone (sizes : List ℕ) (L R : NodeLists) (x : SearchLists) (verdict : Verdict) (y : SearchLists) : Type 0 where
  pub answers : verdict ≡ verdict_of (answer_here sizes L R x)
  pub leaves : y ≡ filled (rows_here sizes L R x) (answer_here sizes L R x) x
