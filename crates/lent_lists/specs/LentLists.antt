-- The causes up to 10 for two policies and what else is lent. Stage "lists": cause 10, "row lists (packet, left, right, parent) unequal or over 65,535, or work list under 16,384 32-bit numbers", over the lists' lengths.
use Rattle.std.specs.Prelude.{Bool, false, ◌||◌, not, List, [], ◌∷◌, ℕ, eqb, ltb, length, replicate}
use Rattle.packet.specs.Refusals.{Tested}
use Rattle.std.specs.Prelude.{Ok, Err}
use Rattle.packet.specs.Refusals.{refused_at, at_zero}
use Rattle.fields.specs.Tables.{Table}
use Rattle.policy.specs.Order.{in_order, stages_of, pair_of}
use Rattle.policy.specs.NodeLists.{NodeLists}

-- a row list has another length than the first, or is over 65,535
unfoldable pub misfit : ℕ → List ℕ → Bool
misfit n [] = ltb 65535 n
misfit n (m ∷ ms) =
    let later = misfit n ms in
    not (eqb m n) || later

-- row lists of these lengths don't serve; with no row list at all, nothing is wrong with them
unfoldable pub rows_misfit : List ℕ → Bool
rows_misfit [] = false
rows_misfit (n ∷ ms) = misfit n ms

-- the stage, over the lengths of the row lists and of the work list
unfoldable pub lists_stage : List ℕ → ℕ → Tested
lists_stage rows work = refused_at 10 0 (at_zero (rows_misfit rows || ltb work 16384))

-- the causes up to 10 in the order tested; `lists` is what the stage of the lists says
unfoldable pub lent_tests : List Table → NodeLists → NodeLists → Tested → Tested
lent_tests ts L R lists = in_order (stages_of ts (Ok tt) (pair_of L R) lists (Ok tt))

-- "past refusal 10 the work list is all 0 on return"; causes up to 10 leave it as it was
unfoldable pub work_after : Tested → List ℕ → List ℕ
work_after (Ok _) work = replicate (length work) 0
work_after (Err r) work = work
