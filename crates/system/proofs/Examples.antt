-- The row order computes: a small system over two packets, whose laws hold. Every packet counts down from 3; 0 is dead.
-- Both packets tell where the count is t.
use mathlib.Core.Path.{◌≡◌, refl, ◌∙◌, ap}
use mathlib.Core.Bool.{true}
use mathlib.Core.List.{List, [], ◌∷◌, map}
use Prim.Native.Nat.{ℕ, zero, suc}
use lib.Dec.{eqb, eqb-zero-suc}
use borrow.Author.Tests.{eqb-true, eq-eqb}
use Rattle.packet.specs.Lowest.{lowest, or_at}
use Rattle.system.specs.System.{System, Lawful}
use Rattle.system.specs.RowOrder.{Entry, starts, same_row, listed, append, append_next, lowest_telling, turn, handle, run_from, run, climbing, climb, depth, path, entering, depth_before, depth_at_full, answer_with, run_answer, held, full, equal, different}

count : ℕ → ℕ → ℕ
count zero γ = 0
count (suc s) γ = s

toy : ℕ → System
toy t =
    record {
      State = ℕ;
      same = eqb;
      packets = 2;
      start = 3;
      next = λ β s γ. count s γ;
      dead = λ s. eqb s 0;
      telling = λ β s γ. eqb s t;
      valid = λ s. true;
    }

lawful : (t : ℕ) → Lawful (toy (suc t))
unfolding toy count
lawful t =
    record {
      same_refl = λ s. eq-eqb s s refl;
      same_eq = eqb-true;
      dead_silent = λ β s γ h l d. ap (λ n. eqb n (suc t)) (eqb-true s 0 d) ∙ eqb-zero-suc t;
      dead_next = λ β s γ h l d. ap (λ n. eqb (count n γ) 0) (eqb-true s 0 d);
      start_valid = refl;
      next_valid = λ β s γ h l v. refl;
    }

-- packet, state and parent of each row
table : (t : ℕ) → List (Entry (toy t)) → List (List ℕ)
unfolding toy
table t = map (λ e. e.row.packet ∷ e.row.state ∷ e.parent ∷ [])

-- Nothing tells at 7: six rows, the last at depth 2. The successors of a row come in the order of their packets.
all_rows : table 7 (held (toy 7) 6) ≡ (0 ∷ 3 ∷ 0 ∷ []) ∷ (1 ∷ 3 ∷ 1 ∷ []) ∷ (0 ∷ 2 ∷ 0 ∷ []) ∷ (1 ∷ 2 ∷ 0 ∷ []) ∷ (0 ∷ 1 ∷ 2 ∷ []) ∷ (1 ∷ 1 ∷ 2 ∷ []) ∷ []
unfolding count toy table lowest or_at starts same_row listed append append_next lowest_telling turn handle run_from run held
all_rows = refl

last_depth : depth (toy 7) (held (toy 7) 6) 5 ≡ 2
unfolding count toy lowest or_at starts same_row listed append append_next lowest_telling turn handle run_from run held climbing climb depth
last_depth = refl

-- six rows are enough, five are not
answers : answer_with (toy 7) 64 ∷ answer_with (toy 7) 6 ∷ answer_with (toy 7) 5 ∷ [] ≡ equal 6 ∷ equal 6 ∷ full 1 ∷ []
unfolding count toy lowest or_at starts same_row listed append append_next lowest_telling turn handle run_from run climbing climb depth depth_before depth_at_full answer_with run_answer
answers = refl

-- with fewer rows: one starting row doesn't fit; row 0 is being handled; row 2, of depth 1, is
runs_out : map (answer_with (toy 7)) (0 ∷ 1 ∷ 2 ∷ 3 ∷ 4 ∷ []) ≡ full 0 ∷ full 0 ∷ full 0 ∷ full 0 ∷ full 1 ∷ []
unfolding count toy lowest or_at starts same_row listed append append_next lowest_telling turn handle run_from run climbing climb depth depth_before depth_at_full answer_with run_answer
runs_out = refl

-- Both packets tell at 1: at row 4, entered by 0, after the packets 0 and 0; the lower one is named.
different_at_4 : answer_with (toy 1) 64 ≡ different 4 0 (0 ∷ 0 ∷ 0 ∷ [])
unfolding count toy lowest or_at starts same_row listed append append_next lowest_telling turn handle run_from run answer_with run_answer climbing climb path entering
different_at_4 = refl
