-- Rounds on one index, and from one index to the next. Assumes nothing.
use Prim.Native.Nat.{ℕ, ◌+◌, ◌/◌, ◌<◌, ◌≤◌}
use mathlib.Core.Bool.{Bool, true, false}
use mathlib.Core.List.{List, []}
use mathlib.Core.Path.{◌≡◌, refl, sym, ap, ◌∙◌, subst}
use native.Mathlib.Omega.{arith}
use lib.Dec.{leb}
use lib.ListN.{length, get_or, replicate}
use borrow.Author.Tests.{leb-false}
use Rattle.packet.specs.Sizes.{product}
use Rattle.std.specs.Prelude.{Option, Some, None, Result, Ok, Err}
use Rattle.index.specs.Index.{bucket_count, Indexed, Indexable}
use Rattle.index.specs.declared.RowLists.{RowLists}
use Rattle.index.specs.Lent.{SameLists}
use Rattle.index.specs.Appending.{Lists, lists_in}
use Rattle.index.proofs.Growth.{indexed_none}
use Rattle.listed_rows.specs.declared.Progress.{Progress}
use Rattle.listed_rows.specs.Standing.{Started}
use Rattle.listed_rows.proofs.Growing.{SameLengths}
use Rattle.row_handling.specs.declared.Handled.{Handled}
use Rattle.row_handling.specs.declared.Handled.TheVariants.{Open, Stopped}
use Rattle.row_handling.specs.Step.{HandleReady, StepDone}
use Rattle.verdict.specs.declared.Ended as verdict
use Rattle.verdict.specs.declared.Ended.TheVariants.{Unstarted}
use Rattle.verdict.specs.declared.Stop.{Stop}
use Rattle.search.specs.InnerRows.{with_index, RowsRun, Underway, Prepared, RoundsReady, RoundsDone, RestReady, RestDone, RunReady, RunDone}
use Rattle.search.proofs.Underway.{Kept, kept_more, Led, started_full, started_rows, starts_full, starts_underway, underway_few, underway_within, underway_small, indexable, reindexed, round_next, round_stops}

prepared_still : {sizes : List ℕ} {nodes tests : List (List ℕ)} {count count' : ℕ} {work work' : List ℕ} → Prepared sizes nodes tests count work → count' ≡ count → work' ≡ work → Prepared sizes nodes tests count' work'
prepared_still P e w =
    record {
      lists = P.lists;
      others = P.others;
      loaded = P.loaded;
      packets = e ∙ P.packets;
      long = subst (λ v. 16384 ≤ length v) (sym w) P.long;
      zero = λ i h. ap (λ v. get_or v i 0) w ∙ P.zero i h;
    }

-- ---- room

pub room_left : {lent size n : ℕ} → lent ≤ size → (leb lent size ≡ true → (i : ℕ) → i < lent → i < n → i < size) × (leb lent size ≡ false → size < lent)
room_left {lent} {size} l = (λ e i h k. omega arith, λ e. leb-false lent size e)

pub room_told : {lent size n : ℕ} (b : Bool) → size < lent → (b ≡ true → n ≤ size) → (b ≡ true → (i : ℕ) → i < lent → i < n → i < size) × (b ≡ false → size < lent)
room_told b more fits = (λ e i h k. let l = fits e in omega arith, λ e. more)

-- the lists that the lent ones are
pub same_lengths : {rows rows' : RowLists} {trees trees' : List ℕ} → SameLists rows rows' → length trees' ≡ length trees → SameLengths (lists_in rows trees) (lists_in rows' trees')
same_lengths s t = record { packets = s.packets_len; left = s.left_len; right = s.right_len; parents = s.parents_len; trees = t }

-- ---- rounds on one index

module _ {sizes : List ℕ} {nodes tests : List (List ℕ)} {b : Lists} {p : Progress} {work₀ : List ℕ} (P : RoundsReady sizes nodes tests b p work₀) where
  module _ {y : Lists} {next : List (List ℕ)} {work : List ℕ} {q : Progress} (K : Kept b y work₀ next work) (D : Led sizes nodes tests b y p q) where
    is_count : q.count ≡ product sizes
    is_count = D.count ∙ P.prepared.packets

    here : Underway sizes P.prepared.lists P.prepared.others P.start y q
    here = D.led _ _ P.prepared.loaded P.start P.underway

    pub listed_few : q.listed ≤ 65535
    listed_few = underway_few P.prepared.loaded is_count here

    pub handled_within : q.handled < length b.packets
    handled_within = omega (arith, underway_within P.prepared.loaded is_count here, K.lengths.packets)

    pub handled_few : q.handled < 65535
    handled_few = omega (arith, here.more, listed_few)

    pub handle_ready : ((i : ℕ) → i < length y.packets → i < q.listed + q.count → i < length y.trees / 3) → HandleReady sizes nodes tests y q next work
    handle_ready room =
        let prepared = prepared_still P.prepared D.count K.clean in
        record {
          lists = P.prepared.lists;
          others = P.prepared.others;
          loaded = P.prepared.loaded;
          packets = is_count;
          indexed = here.standing.indexed;
          room = record { room = room };
          parents = here.parents;
          row = here.more;
          small = underway_small P.prepared.loaded is_count here q.handled here.more;
          blank = K.blank;
          long = prepared.long;
          zero = prepared.zero;
        }

    module _ {z : Lists} {answer : Handled} {next' : List (List ℕ)} {work' : List ℕ} (H : StepDone sizes nodes tests y z q work answer next' work') (s : SameLengths y z) where
      pub rounds_on : (m : ℕ) → answer ≡ Open m → Kept b z work₀ next' work' × Led sizes nodes tests b z p (record { count = q.count; listed = m; handled = q.handled + 1 })
      rounds_on m e = (
        kept_more K s (H.blank m e) H.kept,
        record { count = D.count; led = λ L R l x U. round_next l is_count (D.led L R l x U) (H.handled L R l) s e },
      )

      pub rounds_end : (e : verdict.Ended) → answer ≡ Stopped e → RoundsDone sizes nodes tests b z p work₀ (Ok (record { row = q.handled; listed = q.listed; ended = e })) work'
      rounds_end e f =
          record {
            leads = λ L R l x U.
                record {
                  ended = λ stop g.
                      let same : record { row = q.handled; listed = q.listed; ended = e } ≡ stop = cc in
                      subst (RowsRun sizes L R x z p.count) same
                      (subst (λ c. RowsRun sizes L R x z c (record { row = q.handled; listed = q.listed; ended = e })) D.count (round_stops l is_count (D.led L R l x U) (H.handled L R l) s e f));
                  outgrown = λ w g. let z : ◌≡◌ {A = ℕ} 0 1 = cc in absurd (omega arith);
                };
            outgrown = λ w g. let z : ◌≡◌ {A = ℕ} 0 1 = cc in absurd (omega arith);
            kept = H.kept ∙ K.clean;
          }

    pub rounds_outgrown : length y.trees / 3 < length y.packets → RoundsDone sizes nodes tests b y p work₀ (Err q) work
    rounds_outgrown less =
        record {
          leads = λ L R l x U.
              record {
                ended = λ stop g. let z : ◌≡◌ {A = ℕ} 0 1 = cc in absurd (omega arith);
                outgrown = λ w g. let same : q ≡ w = cc in subst (λ v. (v.count ≡ p.count) × Underway sizes L R x y v) same (D.count, D.led L R l x U);
              };
          outgrown = λ w g. subst (λ n. bucket_count b.trees < n) K.lengths.packets (subst (λ m. m / 3 < length y.packets) K.lengths.trees less);
          kept = K.clean;
        }

-- ---- the rest, on a large index

module _ {sizes : List ℕ} {nodes tests : List (List ℕ)} {y : Lists} {p : Progress} {work : List ℕ} (P : RestReady sizes nodes tests y p work) where
  abbrev ready : RoundsReady sizes nodes tests (with_index y P.index) p work
  ready = P.ready

  few : length y.packets ≤ 65535
  few = omega (arith, ready.underway.standing.indexed.numbered)

  pub rest_index : Indexed y.packets y.left y.right p.count 0 (replicate 196608 0) × Indexable y.packets p.count p.listed (replicate 196608 0)
  rest_index =
      let small : product sizes ≤ 1024 = ready.prepared.loaded.legal_sizes.small in (
        indexed_none y.packets y.left y.right p.count 196608 ready.underway.standing.indexed.table (omega (arith, few)) (omega (arith, ready.prepared.packets)),
        indexable ready.prepared.loaded ready.prepared.packets ready.underway (omega arith),
      )

  module _ {trees : List ℕ} (I : Indexed y.packets y.left y.right p.count p.listed trees) where
    pub rest_ready : RoundsReady sizes nodes tests (with_index y trees) p work
    rest_ready = record { prepared = ready.prepared; start = ready.start; underway = reindexed ready.prepared.loaded ready.prepared.packets ready.underway I }

    module _ {z : Lists} {answer : Result Stop Progress} {work' : List ℕ} (D : RoundsDone sizes nodes tests (with_index y trees) z p work answer work') where
      pub rest_ends : (stop : Stop) → answer ≡ Ok stop → RestDone sizes nodes tests y (with_index z []) p work stop work'
      rest_ends stop e =
          record {
            index = z.trees;
            runs = λ L R l x before U. (D.leads L R l x (reindexed l ready.prepared.packets U I)).ended stop e;
            kept = D.kept;
          }

      -- the index has room for all rows that can be lent
      pub rest_never : length trees ≡ 196608 → (q : Progress) → answer ≡ Err q → {A : Type 0} → A
      rest_never long q e = absurd (omega (arith, D.outgrown q e, few))

-- ---- the whole row order

module _ {sizes : List ℕ} {nodes tests : List (List ℕ)} {x : Lists} {count : ℕ} {work : List ℕ} (P : RunReady sizes nodes tests x count work) where
  pub run_index : Indexed x.packets x.left x.right count 0 (replicate 12288 0) × (length x.parents ≡ length x.packets)
  run_index =
      let small : product sizes ≤ 1024 = P.prepared.loaded.legal_sizes.small in
      (indexed_none x.packets x.left x.right count 12288 P.table (omega (arith, P.few)) (omega (arith, P.prepared.packets)), P.parents)

  module _ {y : Lists} {a : Option ℕ} (T : Started (with_index x (replicate 12288 0)) y count a) where
    pub run_full : a ≡ None → RunDone sizes nodes tests x (with_index y []) count work (record { row = 0; listed = 0; ended = Unstarted }) work
    run_full e =
        record {
          first = replicate 12288 0;
          last = y.trees;
          runs = λ L R l. starts_full l P.prepared.packets (started_full T e);
          kept = refl;
        }

    module _ (same : length y.packets ≡ length x.packets) (parents : length y.parents ≡ length x.parents) {m : ℕ} (e : a ≡ Some m) where
      pub run_ready : RoundsReady sizes nodes tests y (record { count = count; listed = m; handled = 0 }) work
      run_ready =
          record {
            prepared = P.prepared;
            start = with_index x (replicate 12288 0);
            underway = starts_underway P.prepared.loaded P.prepared.packets (started_rows T e) same (parents ∙ P.parents ∙ sym same);
          }

      module _ {z : Lists} {answer : Result Stop Progress} {work' : List ℕ} (D : RoundsDone sizes nodes tests y z (record { count = count; listed = m; handled = 0 }) work answer work') where
        pub run_ends : (stop : Stop) → answer ≡ Ok stop → RunDone sizes nodes tests x (with_index z []) count work stop work'
        run_ends stop f =
            record {
              first = replicate 12288 0;
              last = z.trees;
              runs = λ L R l. (D.leads L R l _ (starts_underway l P.prepared.packets (started_rows T e) same (parents ∙ P.parents ∙ sym same))).ended stop f;
              kept = D.kept;
            }

        module _ {q : Progress} (f : answer ≡ Err q) where
          pub rest_asks : RestReady sizes nodes tests (with_index z []) q work'
          unfolding run_ready prepared_still
          rest_asks =
              let on = (D.leads _ _ P.prepared.loaded _ run_ready.underway).outgrown q f in
              record { index = z.trees; ready = record { prepared = prepared_still P.prepared on.0 D.kept; start = with_index x (replicate 12288 0); underway = on.1 } }

          pub run_goes_on : {v : Lists} {stop : Stop} {work'' : List ℕ} → RestDone sizes nodes tests (with_index z []) v q work' stop work'' → RunDone sizes nodes tests x v count work stop work''
          run_goes_on {v} {stop} E =
              record {
                first = replicate 12288 0;
                last = E.index;
                runs = λ L R l.
                    let on = (D.leads L R l _ (starts_underway l P.prepared.packets (started_rows T e) same (parents ∙ P.parents ∙ sym same))).outgrown q f in
                    subst (λ c. RowsRun sizes L R (with_index x (replicate 12288 0)) (with_index v E.index) c stop) on.0 (E.runs L R l _ z.trees on.1);
                kept = E.kept ∙ D.kept;
              }
