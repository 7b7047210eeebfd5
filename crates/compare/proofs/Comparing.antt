-- The comparison of two outputs is the row's lowest telling packet and its side.
-- Assumes nothing.
use Prim.Native.Nat.{ℕ, ◌*◌, ◌/◌, ◌≤◌, ◌<◌}
use mathlib.Core.Bool.{Bool, false, cond, xor}
use mathlib.Core.List.{List, []}
use mathlib.Core.Logic.{◌⊎◌, inl, inr}
use Rattle.std.specs.Prelude.{Option, None, Some}
use mathlib.Core.Path.{◌≡◌, refl, sym, ap, ap₂, ◌∙◌, subst}
use native.Mathlib.Decide.{dec_lt}
use native.Mathlib.Omega.{arith}
use lib.ListN.{length, get_or, set, replicate, length-set, length-replicate}
use lib.Seq.{get_or-set_same, get_or-set_other}
use Rattle.packet.specs.Sizes.{product, LegalSizes}
use Rattle.packet.proofs.Tests.{xor_same}
use Rattle.policy.specs.Legality.{Legal}
use Rattle.policy.specs.NodeLists.{NodeLists}
use Rattle.loaded.specs.Loaded.{Loaded}
use Rattle.packet_set.specs.InnerMembers.{member, lowest_in, exclusive_or_of, empty_set, words_for}
use Rattle.packet_set.proofs.Walk.{lowest_as, found_at}
use Rattle.packet_set.proofs.Words.{member_exclusive_or}
use Rattle.system.specs.System as system
use Rattle.system.specs.System.{System, tells}
use Rattle.system.specs.RowOrder.{lowest_telling}
use Rattle.pair.specs.Sides.{Side, left, right, Pair, at, NumberedPolicy, policies}
use Rattle.pair.specs.Pair.{output_at, next_at, in_one_output, pair_system}
use Rattle.pair.specs.Search.{side_of}
use Rattle.index.specs.declared.Row.{Row}
use Rattle.index.specs.Columns.{left_of, right_of}
use Rattle.marks.specs.Marks.{Marking, Blank}
use Rattle.marks.proofs.Touched.{forget_asks}
use Rattle.spans.specs.Spans.{Spanned, Hull}
use Rattle.spans.proofs.Sets.{no_packet, member_outside}
use Rattle.engine.specs.Stepping.{Stands, StepReady, Stepped}
use Rattle.engine.proofs.Answers.{step_marking, output_is, output_beyond, next_is}
use Rattle.compare.specs.declared.Compared.{Compared}
use Rattle.compare.specs.declared.Compared.TheVariants.{Same}
use Rattle.compare.specs.Comparison.{differs_at, compared_of, compared_sets, LoadReady, BothLoaded, answer_at, BothMarking, BothBlank, CompareReady, ComparedRow, ComparedStates}

-- ---- two sets compared

module _ (k : ℕ) (a b x : List ℕ) (ex : x ≡ exclusive_or_of k a b) (r : Option ℕ) (er : r ≡ lowest_in k 0 x) where
  none_apart : r ≡ None → lowest_in k 0 (exclusive_or_of k a b) ≡ None
  none_apart e = ap (lowest_in k 0) (sym ex) ∙ sym er ∙ e

  some_apart : (γ : ℕ) → r ≡ Some γ → lowest_in k 0 (exclusive_or_of k a b) ≡ Some γ
  some_apart γ e = ap (lowest_in k 0) (sym ex) ∙ sym er ∙ e

  pub apart_small : k ≤ 32 → (γ : ℕ) → r ≡ Some γ → γ < 1024
  apart_small few γ e = let h = (found_at k 0 x r er γ e).below in omega arith

  pub told_same : r ≡ None → Same ≡ compared_sets k a b
  unfolding compared_sets compared_of
  told_same e = rw (none_apart e) refl

  pub told_side : (γ : ℕ) → r ≡ Some γ → (s : Bool) → member a γ ≡ s → differs_at (cond s left right) γ ≡ compared_sets k a b
  unfolding compared_sets compared_of
  told_side γ e s m = rw (some_apart γ e, m) refl

compared_same : (f g : ℕ → Side) → ((γ : ℕ) → f γ ≡ g γ) → (o p : Option ℕ) → o ≡ p → compared_of f o ≡ compared_of g p
unfolding compared_of
compared_same f g h o p e = ap (compared_of f) e ∙ go p
  where
    go : (q : Option ℕ) → compared_of f q ≡ compared_of g q
    go None = refl
    go (Some γ) = ap (λ s. differs_at s γ) (h γ)

-- ---- two lists, one for each policy

-- a list put for each policy
module _ (xs : List (List ℕ)) (two : length xs ≡ 2) (a b : List ℕ) where
  put_left : left_of (set (set xs 0 a) 1 b) ≡ a
  put_left = get_or-set_other (set xs 0 a) 1 0 b [] (λ e. omega arith) ∙ get_or-set_same xs 0 a [] (omega arith)

  put_right : right_of (set (set xs 0 a) 1 b) ≡ b
  put_right = get_or-set_same (set xs 0 a) 1 b [] (omega (arith, length-set xs 0 a))

  put_two : length (set (set xs 0 a) 1 b) ≡ 2
  put_two = length-set (set xs 0 a) 1 b ∙ length-set xs 0 a ∙ two

-- the right one's list where the left one's has been put
right_stays : (xs : List (List ℕ)) (a : List ℕ) → right_of (set xs 0 a) ≡ right_of xs
right_stays xs a = get_or-set_other xs 0 1 a [] (λ e. omega arith)

-- ---- the row

-- a policy's lists, and the same among those of both
module _ {s n t s' n' t' : List ℕ} (same : (s ≡ s') × (n ≡ n') × (t ≡ t')) {β : ℕ} {work next : List ℕ} where
  pub ready_as : {f u : ℕ} {out : List ℕ} → StepReady s' n' t' β f u out work next → StepReady s n t β f u out work next
  ready_as h = rw (same.0, same.1, same.2) h

  pub stepped_as : {l f u : ℕ} {out out' next' work' : List ℕ} → Stepped s n t l β out next work f u out' next' work' → Stepped s' n' t' l β out next work f u out' next' work'
  stepped_as h = rw (sym same.0, sym same.1, sym same.2) h

module _ {sizes : List ℕ} {nodes tests : List (List ℕ)} {β : ℕ} {next : List (List ℕ)} {work : List ℕ} (rd : CompareReady sizes nodes tests β next work) where
  left_stands : {L R : NodeLists} → BothLoaded sizes L R nodes tests → Stands sizes L (left_of nodes) (left_of tests) β
  left_stands b = record { legal_sizes = b.legal_sizes; legal = b.left_legal; loaded = b.left_loaded; packet = rd.packet }

  right_stands : {L R : NodeLists} → BothLoaded sizes L R nodes tests → Stands sizes R (right_of nodes) (right_of tests) β
  right_stands b = record { legal_sizes = b.legal_sizes; legal = b.right_legal; loaded = b.right_loaded; packet = rd.packet }

  pub left_ready : StepReady sizes (left_of nodes) (left_of tests) β 0 0 empty_set work (left_of next)
  left_ready =
      record { lists = rd.lists; stands = left_stands rd.loaded; spanned = no_packet 0; long = rd.long; marks_long = rd.blank.left_blank.long; zero = rd.zero }

  module _ {l : ℕ} {f t : ℕ} {outL nextL' work₁ : List ℕ} (sl : Stepped sizes (left_of nodes) (left_of tests) l β empty_set (left_of next) work f t outL nextL' work₁) where
    -- the next list of the right policy is as it was
    right_blank : Blank (right_of (set next 0 nextL'))
    right_blank = subst Blank (sym (right_stays next nextL')) rd.blank.right_blank

    pub right_ready : StepReady sizes (right_of nodes) (right_of tests) β 0 0 empty_set work₁ (right_of (set next 0 nextL'))
    right_ready =
        record {
          lists = rd.others;
          stands = right_stands rd.loaded;
          spanned = no_packet 0;
          long = subst (λ w. 16384 ≤ length w) (sym sl.kept) rd.long;
          marks_long = right_blank.long;
          zero = λ i h. ap (λ w. get_or w i 0) sl.kept ∙ rd.zero i h;
        }

    outputs_short : {r f₁ t₁ : ℕ} {outR nextR' work₂ : List ℕ} → Stepped sizes (right_of nodes) (right_of tests) r β empty_set (right_of (set next 0 nextL')) work₁ f₁ t₁ outR nextR' work₂ → {p q : ℕ} → Hull f t f₁ t₁ p q → q ≤ 32
    outputs_short sr h = h.within (sl.output rd.lists (left_stands rd.loaded)).spanned.within (sr.output rd.others (right_stands rd.loaded)).spanned.within

    module _ {r f₁ t₁ : ℕ} {outR nextR' work₂ : List ℕ} (sr : Stepped sizes (right_of nodes) (right_of tests) r β empty_set (right_of (set next 0 nextL')) work₁ f₁ t₁ outR nextR' work₂) {p k : ℕ} (h : Hull f t f₁ t₁ p k) where
      module _ (L R : NodeLists) (b : BothLoaded sizes L R nodes tests) where
        abbrev ps : Pair NumberedPolicy
        ps = policies L R

        abbrev S : System
        S = pair_system sizes (policies L R)

        abbrev row : system.Row (pair_system sizes (policies L R))
        row = record { packet = β; state = record { left = l; right = r } }

        left_holds : Spanned f t outL
        left_holds = (sl.output L (left_stands b)).spanned

        right_holds : Spanned f₁ t₁ outR
        right_holds = (sr.output R (right_stands b)).spanned

        -- beyond the span of both there is no packet of either
        beyond : (γ : ℕ) → 32 * k ≤ γ → (member outL γ ≡ false) × (member outR γ ≡ false)
        beyond γ g = (member_outside f t outL left_holds γ (side f t (λ i x y. (h.first i x y).1)), member_outside f₁ t₁ outR right_holds γ (side f₁ t₁ (λ i x y. (h.second i x y).1)))
          where
            side : (x y : ℕ) → ((i : ℕ) → x ≤ i → i < y → i < k) → (γ / 32 < x) ⊎ (y ≤ γ / 32)
            side x y c = go (dec_lt (γ / 32) x) (dec_lt (γ / 32) y)
              where
                go : Dec (γ / 32 < x) → Dec (γ / 32 < y) → (γ / 32 < x) ⊎ (y ≤ γ / 32)
                go (yes u) v = inl u
                go (no u) (yes v) = let z = c (γ / 32) (omega arith) v in absurd (omega arith)
                go (no u) (no v) = inr (omega arith)

        apart : (γ : ℕ) → γ < 32 * k → member (exclusive_or_of k outL outR) γ ≡ xor (member outL γ) (member outR γ)
        apart γ g = member_exclusive_or k outL outR γ g (let q = outputs_short sr h in let w = left_holds.wide in omega arith)

        tells_is : (γ : ℕ) → xor (member outL γ) (member outR γ) ≡ tells S row γ
        unfolding in_one_output output_at at
        tells_is γ = ap₂ xor (output_is rd.blank.left_blank sl (left_stands b) γ) (output_is (right_blank) sr (right_stands b) γ)

        lowest_apart : lowest_in k 0 (exclusive_or_of k outL outR) ≡ lowest_telling S row
        unfolding lowest_telling xor
        lowest_apart =
            lowest_as k (product sizes) (exclusive_or_of k outL outR) (tells S row)
            (λ γ g l. apart γ l ∙ tells_is γ)
            (λ γ g l. sym (tells_is γ) ∙ (let z = beyond γ g in ap₂ xor z.0 z.1))
            (λ γ g l. apart γ l ∙ xor_same _ _ (output_beyond rd.blank.left_blank sl (left_stands b) γ g ∙ sym (output_beyond (right_blank) sr (right_stands b) γ g)))

        answer_is : compared_sets k outL outR ≡ answer_at sizes L R row
        unfolding compared_sets answer_at side_of output_at at
        answer_is =
            compared_same (λ γ. cond (member outL γ) left right) (side_of sizes ps row) (λ γ. ap (λ (b : Bool). cond b left right) (output_is rd.blank.left_blank sl (left_stands b) γ)) _ _ lowest_apart

      abbrev next' : List (List ℕ)
      next' = set (set next 0 nextL') 1 nextR'

      left_is : left_of next' ≡ nextL'
      left_is = put_left next rd.blank.two nextL' nextR'

      right_is : right_of next' ≡ nextR'
      right_is = put_right next rd.blank.two nextL' nextR'

      pub compared_states : (w : Row) → w.packet ≡ β → get_or w.states 0 0 ≡ l → get_or w.states 1 0 ≡ r → {answer : Compared} → answer ≡ compared_sets k outL outR
          → ComparedStates sizes nodes tests w work answer next' work₂
      unfolding next_at at
      compared_states w isPacket isLeft isRight {answer} e =
          record {
            compared = λ L R b.
                subst (λ x. ComparedRow sizes L R x answer next') (λ k. record { packet = sym isPacket k; state = record { left = sym isLeft k; right = sym isRight k } })
                (record {
                  answers = e ∙ answer_is L R b;
                  left_next = λ γ h. ap (λ m. get_or m γ 0) left_is ∙ next_is rd.blank.left_blank sl (left_stands b) γ h;
                  right_next = λ γ h. ap (λ m. get_or m γ 0) right_is ∙ next_is right_blank sr (right_stands b) γ h;
                });
            marking =
                record {
                  two = put_two next rd.blank.two nextL' nextR';
                  left_marking = subst (Marking (product sizes)) (sym left_is) (step_marking rd.blank.left_blank sl);
                  right_marking = subst (Marking (product sizes)) (sym right_is) (step_marking right_blank sr);
                };
            kept = sr.kept ∙ sl.kept;
          }

-- ---- both policies loaded

-- lists that nothing was written to
pub load_asks : {sizes : List ℕ} {L R : NodeLists} {count : ℕ} → LegalSizes sizes → Legal sizes L → Legal sizes R → count ≡ product sizes
    → LoadReady sizes L R count (replicate 2 (replicate 576 0)) (replicate 2 (replicate 8224 0))
load_asks s l r e =
    record {
      legal_sizes = s;
      left_legal = l;
      right_legal = r;
      packets = e;
      nodes_two = refl;
      tests_two = refl;
      left_nodes = length-replicate {A = ℕ} 576 0;
      left_tests = length-replicate {A = ℕ} 8224 0;
      right_nodes = length-replicate {A = ℕ} 576 0;
      right_tests = length-replicate {A = ℕ} 8224 0;
    }

module _ {sizes : List ℕ} {L R : NodeLists} {count : ℕ} {nodes tests : List (List ℕ)} (P : LoadReady sizes L R count nodes tests) (nodesL testsL nodesR testsR : List ℕ) where
  pub load_both : Loaded sizes L nodesL testsL → Loaded sizes R nodesR testsR → BothLoaded sizes L R (set (set nodes 0 nodesL) 1 nodesR) (set (set tests 0 testsL) 1 testsR)
  load_both l r =
      record {
        legal_sizes = P.legal_sizes;
        left_legal = P.left_legal;
        right_legal = P.right_legal;
        left_loaded = rw (put_left nodes P.nodes_two nodesL nodesR, put_left tests P.tests_two testsL testsR) l;
        right_loaded = rw (put_right nodes P.nodes_two nodesL nodesR, put_right tests P.tests_two testsL testsR) r;
      }

-- ---- both next lists emptied

module _ {next : List (List ℕ)} {count words : ℕ} (few : count ≤ 1024) (M : BothMarking count next) (isWords : words ≡ words_for count) where
  pub forget_left : (words ≤ 32) × Marking (32 * words) (left_of next)
  forget_left = forget_asks (left_of next) few isWords M.left_marking

  module _ (a : List ℕ) where
    pub forget_right : (words ≤ 32) × Marking (32 * words) (right_of (set next 0 a))
    forget_right = forget_asks (right_of (set next 0 a)) few isWords (subst (Marking count) (sym (right_stays next a)) M.right_marking)

    pub forgotten : (b : List ℕ) → Blank a → Blank b → BothBlank (set (set next 0 a) 1 b)
    forgotten b blankA blankB =
        record {
          two = put_two next M.two a b;
          left_blank = subst Blank (sym (put_left next M.two a b)) blankA;
          right_blank = subst Blank (sym (put_right next M.two a b)) blankB;
        }
