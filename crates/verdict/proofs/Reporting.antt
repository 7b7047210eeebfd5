-- The verdict where the row order has ended, and the trace that it leaves. Assumes nothing.
use Prim.Native.Nat.{ℕ, ◌+◌, ◌<◌, ◌≤◌}
use mathlib.Core.Bool.{cond}
use mathlib.Core.List.{List, [], ◌∷◌, ◌++◌}
use mathlib.Core.Path.{◌≡◌, refl, sym, ap, ap₂, ◌∙◌, subst}
use native.Mathlib.Omega.{arith}
use lib.ListN.{length}
use borrow.Author.Tests.{lt-ltb, le-ltb}
use Rattle.packet.specs.Refusals.{refusal}
use Rattle.system.proofs.Basics.{length_snoc}
use Rattle.pair.specs.Sides.{Side, left, right}
use Rattle.pair.specs.Search.{SearchAnswer, different, rows_full, trace_short, reported}
use Rattle.parent_traces.specs.ParentLines.{line_depth, line_path, line_start}
use Rattle.packet.specs.Written.{written}
use Rattle.parent_traces.proofs.Lines.{length_path}
use Rattle.verdict.specs.declared.Ended.{Ended}
use Rattle.verdict.specs.declared.Ended.TheVariants.{Done, Left as LeftTells, Right as RightTells, Full as FullUp, Unstarted}
use Rattle.verdict.specs.declared.Stop.{Stop}
use Rattle.verdict.specs.declared.Verdict.{Verdict}
use Rattle.verdict.specs.declared.Verdict.TheVariants.{Equal, Refused}
use Rattle.verdict.specs.InnerEnding.{telling_at, CanRead, telling_answer, answer_at_end, ended_answer, ReadableAt, Readable}
use Rattle.verdict.specs.Verdicts.{telling_verdict, verdict_of, trace_after, Told}

-- ---- a telling row

module _ {packets parents : List ℕ} {row listed : ℕ} (C : CanRead packets parents row listed) (s : Side) (γ : ℕ) (trace : List ℕ) where
  path : List ℕ
  path = line_path packets parents row ++ (γ ∷ [])

  path_long : length path ≡ line_depth parents row + 1
  unfolding path
  path_long = let l = length_path C.rooted packets row C.inside in length_snoc (line_path packets parents row) γ ∙ omega (arith, l)

  module _ (needed : ℕ) (e : needed ≡ line_depth parents row + 1) where
    short_answer : length trace < needed → telling_answer (length trace) packets parents row s γ ≡ trace_short needed
    unfolding telling_answer reported path
    short_answer h =
        ap (λ b. cond b (trace_short (length path)) (different s (line_start packets parents row) path)) (lt-ltb (length trace) (length path) (omega (arith, path_long, e, h)))
        ∙ ap trace_short (path_long ∙ sym e)

    long_answer : needed ≤ length trace → telling_answer (length trace) packets parents row s γ ≡ different s (line_start packets parents row) path
    unfolding telling_answer reported path
    long_answer h = ap (λ b. cond b (trace_short (length path)) (different s (line_start packets parents row) path)) (le-ltb (length trace) (length path) (omega (arith, path_long, e, h)))

    pub tells_short : length trace < needed → Told (telling_answer (length trace) packets parents row s γ) trace (Refused (refusal 12 0 needed)) trace
    unfolding verdict_of trace_after
    tells_short h = record { answers = sym (ap verdict_of (short_answer h)); leaves = sym (ap (λ a. trace_after a trace) (short_answer h)) }

    pub tells_trace : needed ≤ length trace → (trace' : List ℕ) → trace' ≡ written (line_path packets parents row ++ (γ ∷ [])) trace → (α : ℕ) → α ≡ line_start packets parents row
        → (t : Side) → s ≡ t → Told (telling_answer (length trace) packets parents row s γ) trace (telling_verdict t needed α) trace'
    unfolding verdict_of trace_after path
    tells_trace h trace' w α enters t is =
        record {
          answers = ap₂ (telling_verdict t) (e ∙ sym path_long) enters ∙ ap (λ u. telling_verdict u (length path) (line_start packets parents row)) (sym is) ∙ sym (ap verdict_of (long_answer h));
          leaves = w ∙ sym (ap (λ a. trace_after a trace) (long_answer h));
        }

-- ---- the row order's end

-- what can be read where the row order ends so
pub reads : (packets parents : List ℕ) (stop : Stop) {e : Ended} → Readable packets parents stop → stop.ended ≡ e → ReadableAt packets parents stop.row stop.listed e
unfolding Readable
reads packets parents stop C f = subst (ReadableAt packets parents stop.row stop.listed) f C

module _ (rows : ℕ) (packets parents : List ℕ) (stop : Stop) (trace : List ℕ) where
  answer_is : (e : Ended) → stop.ended ≡ e → ended_answer rows (length trace) packets parents stop ≡ answer_at_end rows (length trace) packets parents stop.row e
  unfolding ended_answer
  answer_is e f = ap (answer_at_end rows (length trace) packets parents stop.row) f

  told_as : {a : SearchAnswer} {verdict : Verdict} {trace' : List ℕ} → ended_answer rows (length trace) packets parents stop ≡ a → Told a trace verdict trace'
      → Told (ended_answer rows (length trace) packets parents stop) trace verdict trace'
  told_as {verdict = verdict} {trace' = trace'} f T = subst (λ a. Told a trace verdict trace') (sym f) T

  pub ends_done : (n : ℕ) → stop.ended ≡ Done n → Told (ended_answer rows (length trace) packets parents stop) trace (Equal n) trace
  unfolding answer_at_end verdict_of trace_after
  ends_done n f = told_as (answer_is (Done n) f) (record { answers = refl; leaves = refl })

  -- refusal 11 with a depth d
  told_full : {d : ℕ} {verdict : Verdict} → ended_answer rows (length trace) packets parents stop ≡ rows_full rows d → verdict ≡ verdict_of (rows_full rows d)
      → Told (ended_answer rows (length trace) packets parents stop) trace verdict trace
  unfolding trace_after
  told_full f v = told_as f (record { answers = v; leaves = refl })

  pub ends_full : stop.ended ≡ FullUp → {d : ℕ} → d ≡ line_depth parents stop.row → {verdict : Verdict} → verdict ≡ verdict_of (rows_full rows d)
      → Told (ended_answer rows (length trace) packets parents stop) trace verdict trace
  unfolding answer_at_end
  ends_full f e v = told_full (answer_is FullUp f ∙ ap (rows_full rows) (sym e)) v

  pub ends_unstarted : stop.ended ≡ Unstarted → {verdict : Verdict} → verdict ≡ verdict_of (rows_full rows 0) → Told (ended_answer rows (length trace) packets parents stop) trace verdict trace
  unfolding answer_at_end
  ends_unstarted f v = told_full (answer_is Unstarted f) v

  pub ends_telling : (s : Side) (γ : ℕ) → stop.ended ≡ telling_at s γ → (verdict : Verdict) (trace' : List ℕ)
      → Told (telling_answer (length trace) packets parents stop.row s γ) trace verdict trace' → Told (ended_answer rows (length trace) packets parents stop) trace verdict trace'
  unfolding answer_at_end
  ends_telling left γ f verdict trace' T = told_as (answer_is (LeftTells γ) f) T
  ends_telling right γ f verdict trace' T = told_as (answer_is (RightTells γ) f) T
