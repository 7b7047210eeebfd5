-- The definitions at small texts, by computation.
use Prim.Native.Nat.{ℕ}
use mathlib.Core.List.{List, [], ◌∷◌}
use mathlib.Core.Path.{◌≡◌, refl}
use lib.ListN.{replicate}
use Rattle.packet.specs.Lowest.{lowest, or_at}
use Rattle.packet.specs.Refusals.{refusal, refused_at, first_refused}
use Rattle.policy.specs.Tree.{drop, id, dup, sum, seq, star, neg}
use Rattle.policy.specs.Tree
use Rattle.policy.specs.NodesOfTree.{tree_size}
use Rattle.policy.specs.declared.FieldAction.TheVariants.{Equals, Differs, Set}
use Rattle.std.specs.Prelude.{Ok, Err}
use Rattle.fields.specs.Bytes.{is_blank, is_capital, is_small, is_letter, is_digit, in_word}
use Rattle.fields.specs.Names.{field_named}
use Rattle.grammar.specs.Tokens.{all_digits, decimal, leading_zero, is_number, number_token, field_token, word_token, single_mark, is_double, double_mark, begins_double, mark_token, word_of, front_token, is_bad, rest_of_token, placed_from, tokens_from, tokens}
use Rattle.grammar.specs.Grammar.{constant_policy, field_action}
use Rattle.grammar.specs.Reading.{Outcome, tree, nothing, join_sequence, join_sum, up_to, whole, negated, start, negating, item_read, close, step, finish, read_on}
use Rattle.grammar.specs.Answer.{Answer, bad_place, open_after, deep_place, stop_place, tree_read, too_many, answer_after, outcome, text_tree, tested, answer_to}

-- f0 to f7
unfoldable example_names : List (List ℕ)
example_names =
    (102 ∷ 48 ∷ [])
    ∷ (102 ∷ 49 ∷ [])
    ∷ (102 ∷ 50 ∷ [])
    ∷ (102 ∷ 51 ∷ [])
    ∷ (102 ∷ 52 ∷ [])
    ∷ (102 ∷ 53 ∷ [])
    ∷ (102 ∷ 54 ∷ [])
    ∷ (102 ∷ 55 ∷ [])
    ∷ []

-- sw and vlan are fields 0 and 2; field 1 has a name that this text's table lacks
unfoldable switch_names : List (List ℕ)
switch_names = (115 ∷ 119 ∷ []) ∷ [] ∷ (118 ∷ 108 ∷ 97 ∷ 110 ∷ []) ∷ []

-- a text's reading and answer, which compute where these are opened
unfoldable reading_with : List (List ℕ) → List ℕ → Outcome
unfolding outcome tokens tokens_from placed_from rest_of_token is_bad front_token word_of mark_token begins_double is_double double_mark single_mark word_token field_named field_token number_token is_number leading_zero decimal all_digits is_blank is_capital is_small is_letter is_digit in_word lowest or_at constant_policy field_action nothing join_sequence join_sum up_to whole negated start negating item_read close step finish read_on
reading_with names text = outcome names text

unfoldable answer_with : List (List ℕ) → List ℕ → ℕ → Answer
unfolding reading_with bad_place open_after deep_place stop_place tree_read too_many answer_after text_tree tested answer_to refused_at first_refused tree_size
answer_with names text room = answer_to names text room

unfoldable reading_of : List ℕ → Outcome
unfolding reading_with example_names
reading_of text = reading_with example_names text

unfoldable answer_of : List ℕ → ℕ → Answer
unfolding answer_with example_names
answer_of text room = answer_with example_names text room

-- f0=0;dup
p2 : reading_of (102 ∷ 48 ∷ 61 ∷ 48 ∷ 59 ∷ 100 ∷ 117 ∷ 112 ∷ []) ≡ tree (seq (Tree.field (Equals 0 0)) (dup 0))
unfolding reading_of
p2 = refl

-- id+dup;dup*
p5 : reading_of (105 ∷ 100 ∷ 43 ∷ 100 ∷ 117 ∷ 112 ∷ 59 ∷ 100 ∷ 117 ∷ 112 ∷ 42 ∷ []) ≡ tree (sum id (seq (dup 0) (star (dup 0))))
unfolding reading_of
p5 = refl

-- id;drop;id joins to the left
left : reading_of (105 ∷ 100 ∷ 59 ∷ 100 ∷ 114 ∷ 111 ∷ 112 ∷ 59 ∷ 105 ∷ 100 ∷ []) ≡ tree (seq (seq id drop) id)
unfolding reading_of
left = refl

-- f0 ! = 0 is no comparison: the ! stands where one should
broken : answer_of (102 ∷ 48 ∷ 32 ∷ 33 ∷ 32 ∷ 61 ∷ 32 ∷ 48 ∷ []) 9 ≡ Err (refusal 16 0 3)
unfolding answer_of refusal
broken = refl

-- !f0=0*: the star is over the negation
star_of_negation : reading_of (33 ∷ 102 ∷ 48 ∷ 61 ∷ 48 ∷ 42 ∷ []) ≡ tree (star (neg (Tree.field (Equals 0 0))))
unfolding reading_of
star_of_negation = refl

-- !(f0=0*) the other way round
negation_of_star : reading_of (33 ∷ 40 ∷ 102 ∷ 48 ∷ 61 ∷ 48 ∷ 42 ∷ 41 ∷ []) ≡ tree (neg (star (Tree.field (Equals 0 0))))
unfolding reading_of
negation_of_star = refl

-- !(f0=0;f1=0)
negated_sequence : reading_of (33 ∷ 40 ∷ 102 ∷ 48 ∷ 61 ∷ 48 ∷ 59 ∷ 102 ∷ 49 ∷ 61 ∷ 48 ∷ 41 ∷ [])
    ≡ tree (neg (seq (Tree.field (Equals 0 0)) (Tree.field (Equals 1 0))))
unfolding reading_of
negated_sequence = refl

-- f0!=0;! !dup: != is one token, and a ! negates the next item alone
negated_twice : reading_of (102 ∷ 48 ∷ 33 ∷ 61 ∷ 48 ∷ 59 ∷ 33 ∷ 32 ∷ 33 ∷ 100 ∷ 117 ∷ 112 ∷ 43 ∷ 105 ∷ 100 ∷ [])
    ≡ tree (sum (seq (Tree.field (Differs 0 0)) (neg (neg (dup 0)))) id)
unfolding reading_of
negated_twice = refl

-- !!=0: a ! and then !=
negated_comparison : answer_of (33 ∷ 33 ∷ 61 ∷ 48 ∷ []) 9 ≡ Err (refusal 16 0 1)
unfolding answer_of refusal
negated_comparison = refl

-- !
negated_nothing : answer_of (33 ∷ []) 9 ≡ Err (refusal 16 0 1)
unfolding answer_of refusal
negated_nothing = refl

-- < is still no token
less_alone : answer_of (102 ∷ 48 ∷ 60 ∷ []) 9 ≡ Err (refusal 14 0 2)
unfolding answer_of refusal
less_alone = refl

-- each ! is a node: !!!id with room for three
negations_count : answer_of (33 ∷ 33 ∷ 33 ∷ 105 ∷ 100 ∷ []) 3 ≡ Err (refusal 17 0 4)
unfolding answer_of refusal
negations_count = refl

-- f7<-65535 reads, and needs one entry
assignment : answer_of (102 ∷ 55 ∷ 60 ∷ 45 ∷ 54 ∷ 53 ∷ 53 ∷ 51 ∷ 53 ∷ []) 1 ≡ Ok 1
unfolding answer_of
assignment = refl

-- 65536, 00, f8
large : answer_of (54 ∷ 53 ∷ 53 ∷ 51 ∷ 54 ∷ []) 1 ≡ Err (refusal 14 0 0)
unfolding answer_of refusal
large = refl

zeros : answer_of (48 ∷ 48 ∷ []) 1 ≡ Err (refusal 14 0 0)
unfolding answer_of refusal
zeros = refl

-- ))) and then 65 (
deep : answer_of (41 ∷ 41 ∷ 41 ∷ replicate 65 40) 1 ≡ Err (refusal 15 0 67)
unfolding answer_of refusal
deep = refl

-- )))
closed : answer_of (41 ∷ 41 ∷ 41 ∷ []) 1 ≡ Err (refusal 16 0 0)
unfolding answer_of refusal
closed = refl

-- blanks alone: the end
blanks : answer_of (32 ∷ 9 ∷ 32 ∷ []) 1 ≡ Err (refusal 16 0 3)
unfolding answer_of refusal
blanks = refl

-- (id)*;dup with room for three nodes
full : answer_of (40 ∷ 105 ∷ 100 ∷ 41 ∷ 42 ∷ 59 ∷ 100 ∷ 117 ∷ 112 ∷ []) 3 ≡ Err (refusal 17 0 4)
unfolding answer_of refusal
full = refl

-- sw=1;vlan<-2: each name at its number
switch_names_lem : reading_with switch_names (115 ∷ 119 ∷ 61 ∷ 49 ∷ 59 ∷ 118 ∷ 108 ∷ 97 ∷ 110 ∷ 60 ∷ 45 ∷ 50 ∷ [])
    ≡ tree (seq (Tree.field (Equals 0 1)) (Tree.field (Set 2 2)))
unfolding reading_with switch_names
switch_names_lem = refl

-- sw=1;port=2: a field of the other table alone is no field here
hidden_name : answer_with switch_names (115 ∷ 119 ∷ 61 ∷ 49 ∷ 59 ∷ 112 ∷ 111 ∷ 114 ∷ 116 ∷ 61 ∷ 50 ∷ []) 9 ≡ Err (refusal 14 0 5)
unfolding answer_with switch_names refusal
hidden_name = refl
