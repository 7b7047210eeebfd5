-- The program's output at small inputs, by computation: document 01's example, and what its four lines may be.
use Prim.Native.Nat.{ℕ}
use Prim.Native.String.{String}
use mathlib.Core.Bool.{xor}
use mathlib.Core.List.{List, [], ◌∷◌, ◌++◌, map}
use mathlib.Core.Path.{◌≡◌, refl}
use Rattle.packet.specs.Lowest.{lowest, or_at}
use Rattle.packet.specs.Packets.{value_at, changed, values_of, number_of}
use Rattle.packet.specs.Sizes.{product, bad_count, zero_size, product_over, fields_stage, product_stage}
use Rattle.packet.specs.Refusals.{refusal, refused_at, at_place, first_refused}
use Rattle.fields.specs.Bytes.{is_blank, is_capital, is_small, is_letter, is_digit, in_word}
use Rattle.fields.specs.Names.{field_named, is_named, cell_name, names_from, names_in, is_constant, all_small_or_digit, well_formed, bad_name}
use Rattle.fields.specs.Tables.{fields_from, fields_of, with_field, with_fields, with_tables, joint, joint_names, joint_sizes, names_for, table_on, any_table, mismatched, names_stage, another, other_size, sizes_stage, is_empty, tables_stage}
use Rattle.policy.specs.NodeLists.{node_count, node_of, node_at, children, one, is_dup, dups_below, grow, tree_at, tree_of, policy_of}
use Rattle.policy.specs.Legality.{bad_lengths, bad_kind, bad_field, used, wrong_entries, bad_entries, some_not_below, bad_child, occurrences, times_child, not_once, negates_other, bad_negation, too_many_dups, field_of}
use Rattle.policy.specs.Tests.{is_test}
use Rattle.policy.specs.Mentions.{is_of_field, mentioned_below, mentioned, core_from, core_sizes}
use Rattle.policy.specs.Order.{order, in_order, causes, cause, policies_stage, stages_of}
use Rattle.policy.specs.NodesOfTree.{node_entry, action_entry, tree_size, entries_from, lists_of, nodes_of}
use Rattle.packet_set.specs.Bits.{bit, mask_of, only_bits}
use Rattle.policy.specs.Visits.{labels}
use Rattle.automaton.specs.Remainder.{or_else, followed_by, right_spine, remainder}
use Rattle.automaton.specs.State.{any_below, set_of, union, takes, image, star_rounds, single, union_over, flow, enter, of_marked, output_set, entered_set, next, output_mask, next_mask}
use Rattle.system.specs.RowOrder.{starts, same_row, listed, append, append_next, lowest_telling, turn, handle, run_from, run, climbing, climb, path, entering, run_answer, answer_with, held}
use Rattle.pair.specs.Sides.{at, on_both}
use Rattle.pair.specs.Pair.{output_at, next_at, same_states, both_zero, in_one_output, bits_of_dups}
use Rattle.pair.specs.Search.{last_of, side_of, reported, search_answer, columns_of, held_columns}
use Rattle.lent_lists.specs.LentLists.{misfit, rows_misfit, lists_stage}
use Rattle.grammar.specs.Tokens.{all_digits, decimal, leading_zero, is_number, number_token, field_token, word_token, single_mark, is_double, double_mark, begins_double, mark_token, word_of, front_token, is_bad, rest_of_token, placed_from, tokens_from, tokens}
use Rattle.grammar.specs.Grammar.{constant_policy, field_action}
use Rattle.grammar.specs.Reading.{nothing, join_sequence, join_sum, up_to, whole, negated, negating, item_read, start, close, step, finish, read_on}
use Rattle.grammar.specs.Answer.{bad_place, open_after, deep_place, stop_place, tree_read, too_many, outcome, text_tree, tested, text_names}
use Rattle.search_texts.specs.Call.{text_nodes, text_stage, texts_tests}
use Rattle.input.specs.Lines.{begins_lf, is_cr, onto, lines_of}
use Rattle.input.specs.Input.{split_by, is_size, is_name_and_size, is_entry, entry_name, entry_size, entries_of, all_entries, is_table, cell_of, cells_of, sizes_of, table_of, asked_of, asked_by_lines, asked}
use Rattle.input.proofs.Examples.{bytes}
use Rattle.printing.specs.ThreeFields.{digits_up_to, numeral, line_rest, number_line, verdict_line, row_lines, last_flag, trace_lines}
use Rattle.printed_verdict.specs.Output.{word_equal, word_left, word_right, word_refused, word_of_side, refusal_line, telling_lines, answer_lines, output_after}
use Rattle.console.specs.Answer.{program_lent, output_of, program_output}

-- lines, each ended by LF, or by CRLF
unfoldable lf : List String → List ℕ
unfolding bytes
lf [] = []
lf (l ∷ ls) = bytes l ++ 10 ∷ lf ls

unfoldable crlf : List String → List ℕ
unfolding bytes
crlf [] = []
crlf (l ∷ ls) = bytes l ++ 13 ∷ 10 ∷ crlf ls

-- an input and what is stated of its output
record Case : Type 0 where
  input : List ℕ
  stated : List ℕ

abbrev gives : List ℕ → List String → Case
gives input stated = record { input = input; stated = crlf stated }

-- texts over the same table on both sides
unfoldable over : String → String → String → List ℕ
unfolding lf
over t left right = lf (t ∷ t ∷ left ∷ right ∷ [])

unfoldable cases : List Case
unfolding lf crlf bytes over
cases =
    -- document 01's example, with either line end, and with none at the end
    gives (over "f0=2" "f0=0;dup" "dup;f0=0") ("equal,4,0" ∷ "0,1,1" ∷ "1,1,1" ∷ "0,2,2" ∷ "1,0,2" ∷ [])
    ∷ gives (crlf ("f0=2" ∷ "f0=2" ∷ "f0=0;dup" ∷ "dup;f0=0" ∷ [])) ("equal,4,0" ∷ "0,1,1" ∷ "1,1,1" ∷ "0,2,2" ∷ "1,0,2" ∷ [])
    ∷ gives (lf ("f0=2" ∷ "f0=2" ∷ "drop" ∷ []) ++ bytes "id") ("right,1,0" ∷ "1,0,1" ∷ [])
    -- P7: two packets, the last one marked
    ∷ gives (over "f0=1" "dup" "dup;dup") ("left,2,0" ∷ "1,0,0" ∷ "2,0,1" ∷ [])
    -- fields of its own on each side
    ∷ gives (lf ("sw=2" ∷ "port=2" ∷ "sw=0" ∷ "port=0" ∷ [])) ("left,1,1" ∷ "1,1,1" ∷ [])
    ∷ gives (lf ("sw=2" ∷ "port=2" ∷ "sw=0" ∷ "sw=0" ∷ [])) ("refused,14,0" ∷ [])
    -- no bytes; three lines; four, the fourth empty; five
    ∷ gives [] ("refused,18,0" ∷ [])
    ∷ gives (lf ("f0=2" ∷ "f0=2" ∷ "id" ∷ [])) ("refused,18,0" ∷ [])
    ∷ gives (over "f0=2" "id" "") ("refused,16,0" ∷ [])
    ∷ gives (over "f0=2" "id" "id" ++ 10 ∷ []) ("refused,18,0" ∷ [])
    -- a CR that no LF follows belongs to its line
    ∷ gives (lf ("f0=2" ∷ "f0=2" ∷ "id" ∷ []) ++ bytes "id" ++ 13 ∷ []) ("refused,14,2" ∷ [])
    -- table lines: two `=`, no further entry, none, no size, leading zero, blank, too large, the right line alone
    ∷ gives (over "a==1" "id" "id") ("refused,18,0" ∷ [])
    ∷ gives (over "a=1," "id" "id") ("refused,18,0" ∷ [])
    ∷ gives (over "a" "id" "id") ("refused,18,0" ∷ [])
    ∷ gives (over "a=" "id" "id") ("refused,18,0" ∷ [])
    ∷ gives (over "a=01" "id" "id") ("refused,18,0" ∷ [])
    ∷ gives (over "a=1 " "id" "id") ("refused,18,0" ∷ [])
    ∷ gives (over "a=65536" "id" "id") ("refused,18,0" ∷ [])
    ∷ gives (lf ("a=1" ∷ "a" ∷ "id" ∷ "id" ∷ [])) ("refused,18,0" ∷ [])
    -- tables: no name, a capital, a blank, a name of 16 bytes, the same name again, a constant; two sizes; none, nine joint fields; a size 0
    ∷ gives (over "=1" "id" "id") ("refused,20,0" ∷ [])
    ∷ gives (over "A=1" "id" "id") ("refused,20,0" ∷ [])
    ∷ gives (over "a =1" "id" "id") ("refused,20,0" ∷ [])
    ∷ gives (over "a=1,abcdefghijklmnop=1" "id" "id") ("refused,20,1" ∷ [])
    ∷ gives (over "sw=1,sw=1" "id" "id") ("refused,20,1" ∷ [])
    ∷ gives (lf ("sw=1" ∷ "dup=1" ∷ "id" ∷ "id" ∷ [])) ("refused,20,0" ∷ [])
    ∷ gives (lf ("sw=2,port=4" ∷ "port=5,sw=2" ∷ "id" ∷ "id" ∷ [])) ("refused,21,1" ∷ [])
    ∷ gives (over "" "id" "id") ("refused,1,0" ∷ [])
    ∷ gives (lf ("a=1,b=1,c=1,d=1,e=1,f=1,g=1,h=1" ∷ "i=1" ∷ "id" ∷ "id" ∷ [])) ("refused,1,0" ∷ [])
    ∷ gives (lf ("a=1" ∷ "b=0" ∷ "id" ∷ "id" ∷ [])) ("refused,2,1" ∷ [])
    -- causes in their order: 18 before 20, 14 before 3, left before right
    ∷ gives (lf ("A=1" ∷ "a" ∷ "id" ∷ "id" ∷ [])) ("refused,18,0" ∷ [])
    ∷ gives (over "f0=5,f1=205" "f0=0;f1=0" "#") ("refused,14,0" ∷ [])
    ∷ gives (over "f0=2" "id+" "id #") ("refused,16,3" ∷ [])
    -- negated tests, and 19
    ∷ gives (over "f0=2" "dup;!f0=0" "!f0=0;dup") ("equal,4,0" ∷ "0,1,1" ∷ "1,1,1" ∷ "0,2,0" ∷ "1,2,2" ∷ [])
    ∷ gives (over "f0=2" "id" "!(f0=0*)") ("refused,19,2" ∷ [])
    -- fields that nobody mentions: they count for nothing; 3 over the others, after 19
    ∷ gives (over "f0=1000,f1=2" "f1=0" "id") ("right,1,1" ∷ "1,1,1" ∷ [])
    ∷ gives (over "f0=65535,f1=65535" "id" "id") ("equal,1,0" ∷ "0,1,1" ∷ [])
    ∷ gives (over "f0=5000,f1=2,f2=3" "f1=1;f2<-2;dup" "f1=1;dup;f2<-2") ("right,2,3" ∷ "1,3,0" ∷ "2,5,1" ∷ [])
    ∷ gives (over "f0=1024,f1=5000,f2=2" "f0=0;f2=0" "id") ("refused,3,2" ∷ [])
    ∷ gives (over "f0=5,f1=205" "f0=0;f1=0" "!dup") ("refused,19,1" ∷ [])
    ∷ []

all_as_stated : map (λ (c : Case). program_output c.input) cases ≡ map (λ (c : Case). c.stated) cases
unfolding xor lowest or_at value_at changed values_of number_of product node_count node_of node_at one is_dup dups_below grow tree_at tree_of policy_of node_entry action_entry tree_size entries_from lists_of nodes_of bit mask_of any_below set_of union takes image star_rounds single union_over labels right_spine or_else followed_by remainder flow enter of_marked output_set entered_set next output_mask next_mask starts same_row listed append append_next lowest_telling turn handle run_from run climbing climb path entering run_answer answer_with held at on_both output_at next_at same_states both_zero in_one_output bits_of_dups last_of side_of reported search_answer columns_of held_columns is_named cell_name names_from names_in is_constant all_small_or_digit well_formed bad_name fields_from fields_of with_field with_fields with_tables joint joint_names joint_sizes names_for table_on any_table mismatched names_stage another other_size sizes_stage is_empty tables_stage is_blank is_capital is_small is_letter is_digit in_word field_named all_digits decimal leading_zero is_number number_token field_token word_token single_mark is_double double_mark begins_double mark_token word_of front_token is_bad rest_of_token placed_from tokens_from tokens constant_policy field_action nothing join_sequence join_sum up_to whole negated negating item_read start close step finish read_on bad_place open_after deep_place stop_place tree_read too_many outcome text_tree tested text_names bad_count zero_size product_over fields_stage product_stage refusal refused_at at_place first_refused children bad_lengths bad_kind bad_field used wrong_entries bad_entries some_not_below bad_child occurrences times_child not_once is_test negates_other bad_negation too_many_dups order in_order causes cause policies_stage stages_of is_of_field field_of mentioned_below mentioned core_from core_sizes only_bits misfit rows_misfit lists_stage text_nodes text_stage texts_tests begins_lf is_cr onto lines_of split_by is_size is_name_and_size is_entry entry_name entry_size entries_of all_entries is_table cell_of cells_of sizes_of table_of asked_of asked_by_lines asked digits_up_to numeral line_rest number_line word_equal word_left word_right word_refused word_of_side verdict_line row_lines last_flag trace_lines refusal_line telling_lines answer_lines output_after program_lent output_of program_output bytes lf crlf over cases
all_as_stated = refl
