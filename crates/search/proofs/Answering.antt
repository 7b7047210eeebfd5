-- The call: what is ready where no cause refuses, and the promise. Assumes nothing.
use Prim.Native.Nat.{ℕ, ◌<◌, ◌≤◌}
use mathlib.Core.List.{List, [], ◌∷◌, ◌++◌}
use mathlib.Core.Logic.{⊎_elim, ◌↔◌}
use mathlib.Core.Path.{◌≡◌, refl, sym, ap, ap₂, ◌∙◌, subst}
use native.Mathlib.Omega.{arith}
use lib.ListN.{length, get_or, replicate, take, drop, length-replicate, get_or-replicate}
use lib.Seq.{take-append_seam}
use Rattle.packet.specs.declared.Refusal.{Refusal}
use Rattle.packet.specs.Refusals.{Tested}
use Rattle.std.specs.Prelude.{Ok, Err}
use Rattle.packet.specs.Refusals.{refusal}
use Rattle.packet.specs.Sizes.{product}
use Rattle.legality.specs.declared.LegalCall.{LegalCall}
use Rattle.legality.specs.Answers as legality
use Rattle.legality.specs.Answers.{front_tests}
use Rattle.fields.specs.Tables.{Table, joint_sizes}
use Rattle.policy.specs.Meaning.{numbered, SameTracesBelow, SameTracesDeclared, Tells}
use Rattle.policy.specs.NodeLists.{NodeLists, policy_of}
use Rattle.policy.specs.Order.{pair_core}
use Rattle.classes.specs.Classing.{TellsOver}
use Rattle.classes.specs.Mentioned.{pair_classes}
use Rattle.classes.proofs.Pairs.{LegalPair, left_named, right_named, same_declared, short_declared, tells_declared}
use Rattle.system.specs.RowOrder.{NeedsMore}
use Rattle.pair.specs.Sides.{Side, left, right, other, Pair, at, NumberedPolicy, policies}
use Rattle.pair.specs.Pair.{SideTraces, pair_system}
use Rattle.pair.specs.Search.{SearchAnswer, equal, different, rows_full, trace_short, held_columns, Distinguishes}
use Rattle.pair.proofs.Lawful.{EvaluablePair, legal_pair}
use Rattle.pair.proofs.Verdicts as verdicts
use Rattle.index.specs.Appending.{Lists, lists}
use Rattle.index.specs.declared.RowLists.{RowLists}
use Rattle.lent_lists.specs.LentLists.{lists_stage, rows_misfit}
use Rattle.packet.specs.Written.{written}
use Rattle.listed_rows.proofs.Searching.{holds}
use Rattle.lent_lists.proofs.Testing.{side_named, front_as, tests_passed, lists_passed, row_list_fits, rows_few}
use Rattle.verdict.specs.declared.Stop.{Stop}
use Rattle.verdict.specs.declared.Verdict.{Verdict}
use Rattle.verdict.specs.declared.Verdict.TheVariants.{Equal, Full, Refused}
use Rattle.compare.specs.Comparison.{LoadReady, BothLoaded}
use Rattle.compare.proofs.Comparing.{load_asks}
use Rattle.verdict.specs.InnerEnding.{ended_answer}
use Rattle.verdict.specs.Verdicts.{telling_verdict, verdict_of, trace_after, Told}
use Rattle.search.specs.InnerRows.{RowsRun, RunReady}
use Rattle.search.specs.Call.{SearchLists, lent, lent_in, filled, verdict_after, lent_after, search_tests, answer_here, rows_here, depth_here, full_here, search_verdict, search_leaves, Telling, Searched, Accepted, SearchDone}

zero≢one : ◌≡◌ {A = ℕ} 0 1 → ⊥
zero≢one z = omega arith

same_lent : {a a' b b' c c' d d' t t' w w' : List ℕ} → a ≡ a' → b ≡ b' → c ≡ c' → d ≡ d' → t ≡ t' → w ≡ w' → lent a b c d t w ≡ lent a' b' c' d' t' w'
same_lent p q r s t w = rw (p, q, r, s, t, w) refl

-- ---- what a verdict says of its answer

pub equal_of : (a : SearchAnswer) (n : ℕ) → verdict_of a ≡ Equal n → a ≡ equal n
unfolding verdict_of
equal_of (equal m) n e = let same : m ≡ n = cc in ap equal same
equal_of (different left α t) n e = let z : ◌≡◌ {A = ℕ} 0 1 = cc in absurd (zero≢one z)
equal_of (different right α t) n e = let z : ◌≡◌ {A = ℕ} 0 1 = cc in absurd (zero≢one z)
equal_of (rows_full m d) n e = let z : ◌≡◌ {A = ℕ} 0 1 = cc in absurd (zero≢one z)
equal_of (trace_short m) n e = let z : ◌≡◌ {A = ℕ} 0 1 = cc in absurd (zero≢one z)

-- the trace of a telling verdict
pub record Trace (a : SearchAnswer) (s : Side) (n α : ℕ) : Type 0 where
  pub trace : List ℕ
  pub answer : a ≡ different s α trace
  pub long : length trace ≡ n

pub telling_of : (a : SearchAnswer) (s : Side) (n α : ℕ) → verdict_of a ≡ telling_verdict s n α → Trace a s n α
unfolding verdict_of
telling_of (equal m) left n α e = let z : ◌≡◌ {A = ℕ} 0 1 = cc in absurd (zero≢one z)
telling_of (equal m) right n α e = let z : ◌≡◌ {A = ℕ} 0 1 = cc in absurd (zero≢one z)
telling_of (different left β t) left n α e = let same : β ≡ α = cc in record { trace = t; answer = ap (λ γ. different left γ t) same; long = cc }
telling_of (different left β t) right n α e = let z : ◌≡◌ {A = ℕ} 0 1 = cc in absurd (zero≢one z)
telling_of (different right β t) left n α e = let z : ◌≡◌ {A = ℕ} 0 1 = cc in absurd (zero≢one z)
telling_of (different right β t) right n α e = let same : β ≡ α = cc in record { trace = t; answer = ap (λ γ. different right γ t) same; long = cc }
telling_of (rows_full m d) left n α e = let z : ◌≡◌ {A = ℕ} 0 1 = cc in absurd (zero≢one z)
telling_of (rows_full m d) right n α e = let z : ◌≡◌ {A = ℕ} 0 1 = cc in absurd (zero≢one z)
telling_of (trace_short m) left n α e = let z : ◌≡◌ {A = ℕ} 0 1 = cc in absurd (zero≢one z)
telling_of (trace_short m) right n α e = let z : ◌≡◌ {A = ℕ} 0 1 = cc in absurd (zero≢one z)

-- the rows of a full verdict
record FullWith (a : SearchAnswer) (r : Refusal) (d : ℕ) : Type 0 where
  rows : ℕ
  answer : a ≡ rows_full rows d
  place : r ≡ refusal 11 0 rows

full_of : (a : SearchAnswer) (r : Refusal) (d : ℕ) → verdict_of a ≡ Full r d → FullWith a r d
unfolding verdict_of
full_of (equal m) r d e = let z : ◌≡◌ {A = ℕ} 0 1 = cc in absurd (zero≢one z)
full_of (different left α t) r d e = let z : ◌≡◌ {A = ℕ} 0 1 = cc in absurd (zero≢one z)
full_of (different right α t) r d e = let z : ◌≡◌ {A = ℕ} 0 1 = cc in absurd (zero≢one z)
full_of (rows_full m c) r d e = let same : c ≡ d = cc in record { rows = m; answer = ap (rows_full m) same; place = cc }
full_of (trace_short m) r d e = let z : ◌≡◌ {A = ℕ} 0 1 = cc in absurd (zero≢one z)

-- ---- a refusal is no other verdict

pub refused_equal : {r : Refusal} {n : ℕ} → Refused r ≡ Equal n → ⊥
refused_equal e = let z : ◌≡◌ {A = ℕ} 0 1 = cc in zero≢one z

pub refused_telling : {r : Refusal} (s : Side) (n α : ℕ) → Refused r ≡ telling_verdict s n α → ⊥
refused_telling left n α e = let z : ◌≡◌ {A = ℕ} 0 1 = cc in zero≢one z
refused_telling right n α e = let z : ◌≡◌ {A = ℕ} 0 1 = cc in zero≢one z

pub refused_full : {r q : Refusal} {d : ℕ} → Refused r ≡ Full q d → ⊥
refused_full e = let z : ◌≡◌ {A = ℕ} 0 1 = cc in zero≢one z

-- ---- the tests

-- the tests as they were made
module _ (ts : List Table) (L R : NodeLists) (x : SearchLists) {said : Tested} (is : said ≡ lists_stage (length x.packets ∷ length x.lefts ∷ length x.rights ∷ length x.parents ∷ []) (length x.work)) where
  tests_are : front_tests ts 1 L R said ≡ search_tests ts L R x
  unfolding search_tests
  tests_are = ap (front_tests ts 1 L R) is ∙ front_as ts L R _

  pub tests_refuse : {r : Refusal} → front_tests ts 1 L R said ≡ Err r → search_tests ts L R x ≡ Err r
  tests_refuse e = sym tests_are ∙ e

  pub tests_pass : {q : LegalCall} → (front_tests ts 1 L R said ≡ Ok tt) × legality.Told ts L R q → (search_tests ts L R x ≡ Ok tt) × (q.packets ≡ product (pair_core ts L R)) × (take q.count q.core ≡ pair_core ts L R)
  tests_pass f = (sym tests_are ∙ f.0, f.1.packets, f.1.core)

module _ {sizes : List ℕ} {L R : NodeLists} {x : SearchLists} where
  -- ---- where no cause up to 10 holds

  module _ {count : ℕ} (A : Accepted sizes L R count x) where
    pub load_ready : LoadReady sizes L R count (replicate 2 (replicate 576 0)) (replicate 2 (replicate 8224 0))
    load_ready = load_asks A.legal A.left_legal A.right_legal A.packets

    pub run_asks : {nodes tests : List (List ℕ)} → BothLoaded sizes L R nodes tests → (work' : List ℕ) → work' ≡ replicate (length x.work) 0
        → RunReady sizes nodes tests (lists x.packets x.lefts x.rights x.parents []) count work'
    run_asks B work' w =
        record {
          prepared =
              record {
                lists = L;
                others = R;
                loaded = B;
                packets = A.packets;
                long = subst (λ n. 16384 ≤ n) (sym (ap length w ∙ length-replicate {A = ℕ} (length x.work) 0)) A.long;
                zero = λ i h. ap (λ v. get_or v i 0) w ∙ get_or-replicate (length x.work) i 0 0 (omega (arith, A.long));
              };
          table = record { left = A.lefts; right = A.rights };
          parents = A.parents;
          few = A.few;
        }

    module _ {trees : List ℕ} {z : Lists} {stop : Stop} (D : RowsRun sizes L R (lists x.packets x.lefts x.rights x.parents trees) z count stop) (long : length z.parents ≡ length z.packets) (same : length z.packets ≡ length x.packets) where
      answer_here_lem : ended_answer (length z.packets) (length x.trace) z.packets z.parents stop ≡ answer_here sizes L R x
      answer_here_lem = ap (λ n. ended_answer n (length x.trace) z.packets z.parents stop) same ∙ sym (D.answers (length x.trace))

      pub search_done : {verdict : Verdict} {trace' work' : List ℕ} → Told (ended_answer (length z.packets) (length x.trace) z.packets z.parents stop) x.trace verdict trace' → work' ≡ replicate (length x.work) 0
          → SearchDone sizes L R x verdict (lent z.packets z.left z.right z.parents trace' work')
      unfolding filled held_columns
      search_done T w =
          let H = holds sizes (policies L R) D.standing long in
          record {
            answers = T.answers ∙ ap verdict_of answer_here_lem;
            leaves = same_lent H.packets H.left H.right H.parents (T.leaves ∙ ap (λ a. trace_after a x.trace) answer_here_lem) w;
          }

-- `sizes` are the core sizes as they were found
pub accepts : (ts : List Table) {L R : NodeLists} {x : SearchLists} → search_tests ts L R x ≡ Ok tt → (count : ℕ) → count ≡ product (pair_core ts L R) → {sizes : List ℕ} → sizes ≡ pair_core ts L R → Accepted sizes L R count x
unfolding search_tests rows_misfit
accepts ts {L} {R} {x} e count c {sizes} same =
    let h = tests_passed ts L R _ e in
    let l = lists_passed _ _ h.passed in
    let a = row_list_fits _ _ _ l.0 in
    let b = row_list_fits _ _ _ a.1 in
    let d = row_list_fits _ _ _ b.1 in
    subst (λ (s : List ℕ). Accepted s L R count x) (sym same)
    record {
      legal = h.legal_sizes;
      left_legal = h.left_legal;
      right_legal = h.right_legal;
      packets = c;
      lefts = a.0;
      rights = b.0;
      parents = d.0;
      few = rows_few _ d.1;
      long = l.1;
    }

-- ---- the promise

-- a trace that distinguishes the policies, in terms of the side's policy and the other
distinguished : (sizes : List ℕ) (ps : Pair NumberedPolicy) (s : Side) (α : ℕ) (t : List ℕ) → Distinguishes sizes ps s α t
    → Tells (numbered sizes) (λ β. β < product sizes) (at s ps).tree (at (other s) ps).tree α t
unfolding SideTraces at other
distinguished sizes ps left α t d = record { enters = d.enters; has = d.has; lacks = d.lacks; shortest = d.shortest }
distinguished sizes ps right α t d = record { enters = d.enters; has = d.has; lacks = d.lacks; shortest = λ β h u l. let e = d.shortest β h u l in (e.1, e.0) }

module _ {ts : List Table} {L R : NodeLists} {x : SearchLists} where
  pub refuses : (r : Refusal) → search_tests ts L R x ≡ Err r → Searched ts L R x (Refused r) x
  unfolding search_verdict search_leaves verdict_after lent_after
  refuses r e =
      record {
        answers = sym (ap (λ (t : Tested). verdict_after t (answer_here (pair_core ts L R) L R x)) e);
        leaves = sym (ap (λ (t : Tested). lent_after t (rows_here (pair_core ts L R) L R x) (answer_here (pair_core ts L R) L R x) x) e);
        equal_same = λ rows q. absurd (refused_equal q);
        same_equal = λ p. let z : Err r ≡ Ok tt = sym e ∙ p in let o : ◌≡◌ {A = ℕ} 0 1 = cc in absurd (zero≢one o);
        different_tells = λ s n α q. absurd (refused_telling s n α q);
        full_exactly = λ p. let z : Err r ≡ Ok tt = sym e ∙ p in let o : ◌≡◌ {A = ℕ} 0 1 = cc in absurd (zero≢one o);
        full_place = λ q d f. absurd (refused_full f);
        full_same = λ q d f. absurd (refused_full f);
      }

  kept : search_tests ts L R x ≡ Ok tt → {verdict : Verdict} {y : SearchLists} → SearchDone (pair_core ts L R) L R x verdict y → Searched ts L R x verdict y
  unfolding search_tests search_verdict search_leaves verdict_after lent_after filled trace_after written verdict_of SideTraces
  kept e {verdict} {y} D =
      record {
        answers = D.answers ∙ sym (ap (λ (t : Tested). verdict_after t (answer_here (pair_core ts L R) L R x)) e);
        leaves = D.leaves ∙ sym (ap (λ (t : Tested). lent_after t (rows_here (pair_core ts L R) L R x) (answer_here (pair_core ts L R) L R x) x) e);
        equal_same = λ rows q. declared.0 (verdicts.equal_same (pair_core ts L R) (policies L R) ok (length x.packets) (length x.trace) rows (equal_of _ rows (sym D.answers ∙ q))).1;
        same_equal = λ p same enough. ⊎_elim (λ m. absurd (enough m)) (λ a. (_, D.answers ∙ ap verdict_of a)) (verdicts.same_answer (pair_core ts L R) (policies L R) ok (declared.1 same) (length x.packets) (length x.trace));
        different_tells = λ s n α q. tells s n α (telling_of _ s n α (sym D.answers ∙ q));
        full_exactly = λ p. (λ q. lacking (full_of _ _ _ (sym D.answers ∙ q)), λ m. D.answers ∙ ap verdict_of ((verdicts.full_exactly (pair_core ts L R) (policies L R) (length x.packets) (length x.trace)).1 m));
        full_place = λ r d q. here (full_of _ r d (sym D.answers ∙ q));
        full_same = λ r d q. let f = full_of _ r d (sym D.answers ∙ q) in (short_declared ts L R pair _ _ (left_named ts L R pair) (right_named ts L R pair) d).0 (verdicts.full_same (pair_core ts L R) (policies L R) ok (length x.packets) (length x.trace) f.rows d f.answer);
      }
    where
      pair : LegalPair ts L R
      pair = (tests_passed ts L R _ e).pair

      declared : SameTracesBelow (pair_core ts L R) (policy_of L) (policy_of R) ↔ SameTracesDeclared (joint_sizes ts) (policy_of L) (policy_of R)
      declared = same_declared ts L R pair _ _ (left_named ts L R pair) (right_named ts L R pair)

      ok : EvaluablePair (pair_core ts L R) (policies L R)
      ok = let h = tests_passed ts L R _ e in legal_pair (pair_core ts L R) L R h.left_legal h.right_legal

      placed : {r : Refusal} {d : ℕ} → (f : FullWith (answer_here (pair_core ts L R) L R x) r d) → (f.rows ≡ length x.packets) × (d ≡ depth_here (pair_core ts L R) L R x)
      placed {r} {d} f = verdicts.full_place (pair_core ts L R) (policies L R) (length x.packets) (length x.trace) f.rows d f.answer

      here : {r : Refusal} {d : ℕ} → FullWith (answer_here (pair_core ts L R) L R x) r d → Full r d ≡ full_here (pair_core ts L R) L R x
      here f = ap₂ Full (f.place ∙ ap (refusal 11 0) (placed f).0) (placed f).1

      lacking : {r : Refusal} → FullWith (answer_here (pair_core ts L R) L R x) r (depth_here (pair_core ts L R) L R x) → NeedsMore (pair_system (pair_core ts L R) (policies L R)) (length x.packets)
      lacking f = (verdicts.full_exactly (pair_core ts L R) (policies L R) (length x.packets) (length x.trace)).0 (f.answer ∙ ap (λ n. rows_full n (depth_here (pair_core ts L R) L R x)) (placed f).0)

      tells : (s : Side) (n α : ℕ) → Trace (answer_here (pair_core ts L R) L R x) s n α → Telling ts L R x s n α y.trace
      tells s n α t =
          let first : take n y.trace ≡ t.trace =
          ap (take n) (ap (λ (z : SearchLists). z.trace) D.leaves ∙ ap (λ a. trace_after a x.trace) t.answer)
          ∙ ap (λ k. take k (t.trace ++ drop (length t.trace) x.trace)) (sym t.long)
          ∙ take-append_seam t.trace (drop (length t.trace) x.trace) in
          let d = verdicts.different_tells (pair_core ts L R) (policies L R) ok (length x.packets) (length x.trace) s α t.trace t.answer in
          let over = tells_declared ts L R pair _ _ (side_named ts L R pair s) (side_named ts L R pair (other s)) α t.trace (distinguished (pair_core ts L R) (policies L R) s α t.trace d) in
          record {
            long = ap length first ∙ t.long;
            tells = subst (TellsOver (pair_classes ts L R) (joint_sizes ts) (at s (policies L R)).tree (at (other s) (policies L R)).tree α) (sym first) over;
          }

  pub promised : search_tests ts L R x ≡ Ok tt → {sizes : List ℕ} → sizes ≡ pair_core ts L R → {verdict : Verdict} {y : SearchLists} → SearchDone sizes L R x verdict y → Searched ts L R x verdict y
  promised e same {verdict} {y} D = kept e (subst (λ (s : List ℕ). SearchDone s L R x verdict y) same D)

  -- the same of the lists as the call leaves them
  pub searched_in : {verdict : Verdict} (rows : RowLists) {trace work P Q S T : List ℕ} → Searched ts L R x verdict (lent_in rows trace work)
      → P ≡ rows.packets.now → Q ≡ rows.left.now → S ≡ rows.right.now → T ≡ rows.parents.now → Searched ts L R x verdict (lent P Q S T trace work)
  searched_in {verdict} rows D p q s t = subst (Searched ts L R x verdict) (sym (same_lent p q s t refl refl)) D
