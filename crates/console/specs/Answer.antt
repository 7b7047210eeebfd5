-- The program's output as a function of its input, and what it says of the two texts (document 01, "The program";
-- document 02, A.4 and A.6). How far two texts agree where rows run out is not printed, and not said here.
use Rattle.std.specs.Prelude.{ℕ, List, [], ◌∷◌, ◌≡◌, length, replicate, take}
use Rattle.packet.specs.Refusals.{refusal}
use Rattle.fields.specs.Tables.{Table, joint_sizes}
use Rattle.policy.specs.Meaning.{SameTracesDeclared}
use Rattle.pair.specs.Sides.{Side}
use Rattle.packet.specs.Written.{written}
use Rattle.search.specs.Call.{SearchLists, lent}
use Rattle.grammar.specs.Answer.{text_tree, text_names}
use Rattle.search_texts.specs.Call.{TextsTell, texts_tests, texts_answer, texts_rows}
use Rattle.input.specs.Input.{Asked, malformed, compare, asked}
use Rattle.printing.specs.InnerWrote.{Wrote}
use Rattle.printed_verdict.specs.Output.{word_equal, word_of_side, refusal_line, telling_lines, output_after}

-- it lends 4,096 rows and as long a trace
unfoldable pub program_lent : SearchLists
program_lent = lent (replicate 4096 0) (replicate 4096 0) (replicate 4096 0) (replicate 4096 0) (replicate 4096 0) (replicate 16384 0)

-- cause 18 is tested first, then those of the search on two texts
unfoldable pub output_of : Asked → List ℕ
output_of malformed = refusal_line (refusal 18 0 0)
output_of (compare left_table right_table left right) =
    output_after (texts_tests left_table right_table left right program_lent) (texts_rows left_table right_table left right program_lent) (texts_answer left_table right_table left right program_lent)

unfoldable pub program_output : List ℕ → List ℕ
program_output input = output_of (asked input)

module _ (left_table right_table : Table) (left right : List ℕ) where
  -- both texts have the same traces from every declared packet
  abbrev pub TextsSame : Type 0
  TextsSame = SameTracesDeclared (joint_sizes (left_table ∷ right_table ∷ [])) (text_tree (text_names left_table right_table 1) left) (text_tree (text_names left_table right_table 2) right)

  -- a telling trace has been printed
  pub record TellingPrinted (s : Side) : Type 0 where
    pub entering : ℕ
    pub trace : List ℕ
    pub printed : output_of (compare left_table right_table left right) ≡ telling_lines s entering trace
    pub tells : TextsTell left_table right_table left right s entering trace

  -- the search on two texts has been printed at the front of the output, and what its first word says of them
  pub record Printed (old : List ℕ) (n : ℕ) (new : List ℕ) : Type 0 where
    pub wrote : Wrote old new 0 n (output_of (compare left_table right_table left right))
    pub equal_same : take (length word_equal) (output_of (compare left_table right_table left right)) ≡ word_equal → TextsSame
    pub different_tells : (s : Side) → take (length (word_of_side s)) (output_of (compare left_table right_table left right)) ≡ word_of_side s → TellingPrinted s

-- the input asks about two texts, and they have the same traces from every declared packet
pub record SaysSame (input : List ℕ) : Type 0 where
  pub left_table : Table
  pub right_table : Table
  pub left : List ℕ
  pub right : List ℕ
  pub asks : asked input ≡ compare left_table right_table left right
  pub same : TextsSame left_table right_table left right

-- the input asks about two texts, and the entering packet and trace printed tell them apart over declared packets
pub record SaysTelling (input : List ℕ) (s : Side) : Type 0 where
  pub left_table : Table
  pub right_table : Table
  pub left : List ℕ
  pub right : List ℕ
  pub asks : asked input ≡ compare left_table right_table left right
  pub entering : ℕ
  pub trace : List ℕ
  pub printed : program_output input ≡ telling_lines s entering trace
  pub tells : TextsTell left_table right_table left right s entering trace

-- The promise of the program, for every input: n bytes are written at the front of the output, and those beyond are kept.
pub record Answered (input old : List ℕ) (n : ℕ) (new : List ℕ) : Type 0 where
  pub count : n ≡ length (program_output input)
  pub output : new ≡ written (program_output input) old
  pub equal_same : take (length word_equal) (program_output input) ≡ word_equal → SaysSame input
  pub different_tells : (s : Side) → take (length (word_of_side s)) (program_output input) ≡ word_of_side s → SaysTelling input s
