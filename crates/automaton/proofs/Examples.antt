-- Values of output and next, computed: document 01's P2, P5 and P10 at their starting rows, and nested stars.
use Prim.Native.Nat.{ℕ, zero, suc}
use mathlib.Core.Bool.{true}
use mathlib.Core.List.{List, [], ◌∷◌, ◌++◌}
use mathlib.Core.Option.{some}
use mathlib.Core.Path.{◌≡◌, refl}
use Rattle.packet.specs.Packets.{value_at, changed, values_of, number_of}
use Rattle.packet.specs.Sizes.{product}
use Rattle.policy.specs.declared.FieldAction.TheVariants.{Equals, Set}
use Rattle.policy.specs.Tree.{Policy, drop, id, field, dup, sum, seq, star}
use Rattle.policy.specs.Visits.{labels}
use Rattle.packet_set.specs.Bits.{bit, mask_of}
use Rattle.automaton.specs.Remainder.{right_spine, or_else, followed_by, remainder}
use Rattle.automaton.specs.State.{any_below, set_of, union, takes, image, star_rounds, single, union_over, flow, enter, of_marked, output_set, entered_set, next, output_mask, next_mask, runs, has_trace}

-- the output of a state at β, then the next states at γ = 0 to n − 1
handled : List ℕ → Policy → ℕ → ℕ → ℕ → ℕ → List ℕ
handled sizes p dups m β zero = output_mask sizes p m β ∷ []
handled sizes p dups m β (suc γ) = handled sizes p dups m β γ ++ (next_mask sizes p dups m β γ ∷ [])

steps : List (List ℕ)
steps =
    -- P2: f0=0;dup and dup;f0=0, from packets 0 and 1
    handled (2 ∷ []) (seq (field (Equals 0 0)) (dup 1)) 1 1 0 2
    ∷ handled (2 ∷ []) (seq (field (Equals 0 0)) (dup 1)) 1 1 1 2
    ∷ handled (2 ∷ []) (seq (dup 1) (field (Equals 0 0))) 1 1 0 2
    ∷ handled (2 ∷ []) (seq (dup 1) (field (Equals 0 0))) 1 1 1 2
    -- P5: dup* and id+dup;dup*, and the latter after its first dup
    ∷ handled (1 ∷ []) (star (dup 1)) 1 1 0 1
    ∷ handled (1 ∷ []) (sum id (seq (dup 1) (star (dup 2)))) 2 1 0 1
    ∷ handled (1 ∷ []) (sum id (seq (dup 1) (star (dup 2)))) 2 2 0 1
    -- P10: dup;drop keeps its dead mark
    ∷ handled (1 ∷ []) (seq (dup 1) drop) 1 1 0 1
    ∷ handled (1 ∷ []) (seq (dup 1) drop) 1 2 0 1
    ∷ []

computed : steps
    ≡ (0 ∷ 2 ∷ 0 ∷ [])
    ∷ (0 ∷ 0 ∷ 0 ∷ [])
    ∷ (0 ∷ 2 ∷ 0 ∷ [])
    ∷ (0 ∷ 0 ∷ 2 ∷ [])
    ∷ (1 ∷ 2 ∷ [])
    ∷ (1 ∷ 2 ∷ [])
    ∷ (1 ∷ 4 ∷ [])
    ∷ (0 ∷ 2 ∷ [])
    ∷ (0 ∷ 0 ∷ [])
    ∷ []
unfolding steps handled value_at changed values_of number_of product bit mask_of any_below set_of union takes image star_rounds single union_over flow enter labels right_spine or_else followed_by remainder of_marked output_set entered_set next output_mask next_mask
computed = refl

-- nested stars over 8 packets
nested : handled (2 ∷ 2 ∷ 2 ∷ []) (star (sum (star (seq (field (Set 0 1)) (dup 1))) (star (sum (field (Set 1 0)) (seq (field (Equals 2 0)) (field (Set 2 1))))))) 1 3 2 8 ≡ 15 ∷ 0 ∷ 0 ∷ 0 ∷ 0 ∷ 2 ∷ 2 ∷ 2 ∷ 2 ∷ []
unfolding handled value_at changed values_of number_of product bit mask_of any_below set_of union takes image star_rounds single union_over flow enter labels right_spine or_else followed_by remainder of_marked output_set entered_set next output_mask next_mask
nested = refl

-- the right spine of the dup in (dup;f0=0)* is (1;f0=0);(dup;f0=0)*
spine : right_spine (star (seq (dup 1) (field (Equals 0 0)))) 1 ≡ some (seq (seq id (field (Equals 0 0))) (star (seq (dup 1) (field (Equals 0 0)))))
unfolding right_spine or_else followed_by
spine = refl

run : has_trace (2 ∷ []) (seq (dup 1) (field (Set 0 1))) 1 0 (0 ∷ 1 ∷ []) ≡ true
unfolding value_at changed values_of number_of product bit mask_of any_below set_of union takes image star_rounds single union_over flow enter labels right_spine or_else followed_by remainder of_marked output_set entered_set next output_mask next_mask runs has_trace
run = refl
