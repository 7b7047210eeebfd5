-- Tokens of a text (document 01, "Text", and document 02, A.1 and A.4). The names of the fields are a parameter.
use Rattle.std.specs.Prelude.{ℕ, zero, suc, ◌+◌, ◌-◌, ◌*◌, Bool, true, false, cond, not, ◌&&◌, ◌||◌, List, [], ◌∷◌, leb, ltb, eqb, length, get_or, drop, Option, None, Some}
use Rattle.fields.specs.Bytes.{is_blank, is_digit, in_word}
use Rattle.fields.specs.Names.{same_word, field_named, word_drop, word_id, word_dup}
use Rattle.grammar.specs.declared.Token.{Token}
use Rattle.grammar.specs.declared.Token.TheVariants.{Keyword, Field, Number, Operator, Plus, Semicolon, Asterisk, Opening, Closing, Exclamation, Bad}
use Rattle.grammar.specs.declared.Constant.TheVariants.{Drop, Id, Dup}
use Rattle.grammar.specs.declared.Comparison.TheVariants.{Equal, Different, Assigned}

unfoldable pub all_digits : List ℕ → Bool
all_digits [] = true
all_digits (b ∷ bs) = is_digit b && all_digits bs

-- the value of digits that follow others of value n
unfoldable pub decimal : ℕ → List ℕ → ℕ
decimal n [] = n
decimal n (b ∷ bs) = decimal (n * 10 + (b - 48)) bs

unfoldable pub leading_zero : List ℕ → Bool
leading_zero w = eqb (get_or w 0 0) 48 && ltb 1 (length w)

-- a number to 65,535 without leading zeros
unfoldable pub is_number : List ℕ → Bool
is_number w = all_digits w && not (leading_zero w) && leb (decimal 0 w) 65535

-- a word that is no name of a field: a number, or bad
unfoldable pub number_token : List ℕ → Token
number_token w = cond (is_number w) (Number (decimal 0 w)) Bad

unfoldable pub field_token : Option ℕ → List ℕ → Token
field_token (Some f) w = Field f
field_token None w = number_token w

-- a word: drop, id, dup, a field's name or a number
unfoldable pub word_token : List (List ℕ) → List ℕ → Token
word_token names w =
    cond (same_word w word_drop) (Keyword Drop)
    (cond (same_word w word_id) (Keyword Id) (cond (same_word w word_dup) (Keyword Dup) (field_token (field_named names w) w)))

-- marks of one byte: = + ; * ( )
unfoldable pub single_mark : ℕ → Token
single_mark b =
    cond (eqb b 61) (Operator Equal)
    (cond (eqb b 43) Plus (cond (eqb b 59) Semicolon (cond (eqb b 42) Asterisk (cond (eqb b 40) Opening (cond (eqb b 41) Closing Bad)))))

-- != and <-
unfoldable pub is_double : ℕ → ℕ → Bool
is_double b after = (eqb b 33 && eqb after 61) || (eqb b 60 && eqb after 45)

unfoldable pub begins_double : ℕ → Bool
begins_double b = eqb b 33 || eqb b 60

-- the mark at a byte that may begin one of two bytes; a ! without = is a mark of its own
unfoldable pub double_mark : ℕ → ℕ → Token
double_mark b after =
    cond (eqb b 33) (cond (eqb after 61) (Operator Different) Exclamation) (cond (eqb b 60 && eqb after 45) (Operator Assigned) Bad)

-- the mark at a byte, which the next byte may be a part of
unfoldable pub mark_token : ℕ → ℕ → Token
mark_token b after = cond (begins_double b) (double_mark b after) (single_mark b)

-- the longest run of letters and digits at the front
unfoldable pub word_of : List ℕ → List ℕ
word_of [] = []
word_of (b ∷ bs) = cond (in_word b) (b ∷ word_of bs) []

-- the token at the front of bytes that begin with no blank
unfoldable pub front_token : List (List ℕ) → ℕ → List ℕ → Token
front_token names b bs = cond (in_word b) (word_token names (word_of (b ∷ bs))) (mark_token b (get_or bs 0 0))

unfoldable pub is_bad : Token → Bool
is_bad Bad = true
is_bad _ = false

-- how many bytes after its first the front token has
unfoldable pub rest_of_token : ℕ → List ℕ → ℕ
rest_of_token b bs = cond (in_word b) (length (word_of bs)) (cond (is_double b (get_or bs 0 0)) 1 0)

-- a token and the byte at which it starts
pub record Placed : Type 0 where
  pub token : Token
  pub start : ℕ

module _ (names : List (List ℕ)) where
  -- the tokens of bytes whose first has the number at; so many bytes at the front belong to the token before
  unfoldable pub placed_from : ℕ → ℕ → List ℕ → List Placed
  placed_from over at [] = []
  placed_from (suc over) at (b ∷ bs) = placed_from over (suc at) bs
  placed_from zero at (b ∷ bs) =
      elim (is_blank b) [
        | true ↦ placed_from zero (suc at) bs
        | false ↦ record { token = front_token names b bs; start = at } ∷ placed_from (rest_of_token b bs) (suc at) bs
      ]

  -- the tokens of a text from a byte on at which no token is cut
  unfoldable pub tokens_from : List ℕ → ℕ → List Placed
  tokens_from text at = placed_from 0 at (drop at text)

  -- the tokens of a text
  unfoldable pub tokens : List ℕ → List Placed
  tokens text = tokens_from text 0
