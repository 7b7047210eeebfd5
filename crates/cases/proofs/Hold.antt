-- Every line comes out as stated: each part of the table by computation.
use mathlib.Core.Path.{◌≡◌, refl, sym, ◌∙◌, ap₂}
use mathlib.Core.Bool.{xor}
use mathlib.Core.List.{List, ◌++◌, map, map-append}
use Rattle.packet.specs.Lowest.{lowest, or_at}
use Rattle.packet.specs.Packets.{value_at, changed, values_of, number_of}
use Rattle.packet.specs.Sizes.{product, counted, bad_count, zero_size, product_over, fields_stage, product_stage}
use Rattle.packet.specs.Refusals.{refusal, refused_at, at_place, first_refused}
use Rattle.packet.specs.Written.{written}
use Rattle.policy.specs.NodeLists.{node_count, node_of, node_at, children, one, is_dup, dups_below, grow, tree_at, tree_of, policy_of}
use Rattle.policy.specs.Legality.{bad_lengths, bad_kind, bad_field, used, wrong_entries, bad_entries, some_not_below, bad_child, occurrences, times_child, not_once, negates_other, bad_negation, too_many_dups, field_of}
use Rattle.policy.specs.Tests.{is_test}
use Rattle.policy.specs.Mentions.{is_of_field, mentioned_below, mentioned, core_from, core_sizes}
use Rattle.classes.specs.Classing.{each_field, class_number, shown_packet}
use Rattle.policy.specs.Order.{order, in_order, causes, cause, policies_stage, stages_of, policy_tests, pair_tests}
use Rattle.turning.specs.Turning.{length_test, number_stage, values_tests, kept_unless, values_left, bad_value, values_stage, number_tests, number_call}
use Rattle.legality.specs.Answers.{pair_answer, policy_legality, pair_legality}
use Rattle.policy.specs.Visits.{labels}
use Rattle.policy.specs.NodesOfTree.{node_entry, action_entry, tree_size, entries_from, lists_of, nodes_of}
use Rattle.packet_set.specs.Bits.{bit, mask_of, only_bits}
use Rattle.automaton.specs.Remainder.{or_else, followed_by, right_spine, remainder}
use Rattle.automaton.specs.State.{any_below, set_of, union, takes, image, star_rounds, single, union_over, flow, enter, of_marked, output_set, entered_set, next, output_mask, next_mask, runs, has_trace}
use Rattle.system.specs.RowOrder.{starts, same_row, listed, append, append_next, lowest_telling, turn, handle, run_from, run, climbing, climb, depth, path, entering, run_answer, depth_before, depth_at_full, answer_with, held}
use Rattle.pair.specs.Sides.{at, on_both}
use Rattle.pair.specs.Pair.{output_at, next_at, same_states, both_zero, in_one_output, bits_of_dups}
use Rattle.pair.specs.Search.{last_of, side_of, reported, search_answer, columns_of, held_columns}
use Rattle.pair.specs.Rules.{and_then, broken_at, present, breaks_a, breaks_b, breaks_d, check_row, check_rows, check_rules}
use Rattle.pair.specs.Evidence.{evidence_answer}
use Rattle.pair.specs.TraceCheck.{answer_of, side_has, trace_answer}
use Rattle.lent_lists.specs.LentLists.{misfit, rows_misfit, lists_stage, lent_tests, work_after}
use Rattle.verdict.specs.Verdicts.{verdict_of, trace_after}
use Rattle.search.specs.Call.{filled, verdict_after, lent_after, search_tests, search_verdict, search_leaves}
use Rattle.records.specs.Records.{column}
use Rattle.evidence.specs.Calls as checking
use Rattle.evidence.specs.Calls.{evidence_of, evidence_tests, evidence_call}
use Rattle.traces.specs.Checking as following
use Rattle.traces.specs.Checking.{bad_packet, packets_stage, checked_as, checked_unless, trace_tests, trace_call}
use Rattle.fields.specs.Bytes.{is_blank, is_capital, is_small, is_letter, is_digit, in_word}
use Rattle.fields.specs.Names.{field_named, is_named, cell_name, names_from, names_in, is_constant, all_small_or_digit, well_formed, bad_name}
use Rattle.fields.specs.Tables.{fields_from, fields_of, with_field, with_fields, with_tables, joint, joint_names, joint_sizes, names_for, table_on, any_table, mismatched, names_stage, another, other_size, sizes_stage, is_empty, tables_stage}
use Rattle.grammar.specs.Tokens.{all_digits, decimal, leading_zero, is_number, number_token, field_token, word_token, single_mark, is_double, double_mark, begins_double, mark_token, word_of, front_token, is_bad, rest_of_token, placed_from, tokens_from, tokens}
use Rattle.grammar.specs.Grammar.{constant_policy, field_action}
use Rattle.grammar.specs.Reading.{nothing, join_sequence, join_sum, up_to, whole, negated, negating, item_read, start, close, step, finish, read_on}
use Rattle.grammar.specs.Answer.{bad_place, open_after, deep_place, stop_place, tree_read, too_many, answer_after, outcome, text_tree, tested, answer_to, left_by, shortest, text_names, read_tests, read_answer}
use Rattle.search_texts.specs.Call.{text_nodes, text_stage, texts_tests, texts_verdict, texts_leaves}
use Rattle.cases.specs.Cases.{Case, result_of, bytes, cell_for, with_name, numbered_from, dups, nested, nines, words, lending, then_nines, holding, compares, of_document01, of_document02, of_tables, of_mentions, cases}

-- a part of the table is as stated
abbrev pub AsStated : List Case → Type 0
AsStated lines = map (λ (c : Case). result_of c.call) lines ≡ map (λ (c : Case). c.stated) lines

document_01 : AsStated of_document01
unfolding xor lowest or_at value_at changed values_of number_of product counted node_count node_of node_at one is_dup dups_below grow tree_at tree_of policy_of node_entry action_entry tree_size entries_from lists_of nodes_of bit mask_of any_below set_of union takes image star_rounds single union_over labels right_spine or_else followed_by remainder flow enter of_marked output_set entered_set next output_mask next_mask runs has_trace starts same_row listed append append_next lowest_telling turn handle run_from run climbing climb depth path entering run_answer depth_before depth_at_full answer_with held at on_both output_at next_at same_states both_zero in_one_output bits_of_dups last_of side_of reported search_answer columns_of held_columns and_then broken_at present breaks_a breaks_b breaks_d check_row check_rows check_rules evidence_answer answer_of side_has trace_answer misfit rows_misfit lists_stage lent_tests work_after verdict_of trace_after filled verdict_after lent_after search_tests search_verdict search_leaves checking.as_evidence evidence_of evidence_tests evidence_call bad_packet packets_stage checked_as checked_unless following.lists_tests trace_tests trace_call policy_tests pair_tests pair_answer policy_legality pair_legality length_test number_stage values_stage values_tests kept_unless values_left bad_value number_tests number_call is_of_field field_of mentioned_below mentioned core_from core_sizes each_field class_number shown_packet is_blank is_capital is_small is_letter is_digit in_word field_named is_named cell_name names_from names_in is_constant all_small_or_digit well_formed bad_name fields_from fields_of with_field with_fields with_tables joint joint_names joint_sizes names_for table_on any_table mismatched names_stage another other_size sizes_stage is_empty tables_stage text_names read_tests read_answer cell_for with_name numbered_from all_digits decimal leading_zero is_number number_token field_token word_token single_mark is_double double_mark begins_double mark_token word_of front_token is_bad rest_of_token placed_from tokens_from tokens constant_policy field_action nothing join_sequence join_sum up_to whole negated negating item_read start close step finish read_on bad_place open_after deep_place stop_place tree_read too_many answer_after outcome text_tree tested answer_to left_by shortest text_nodes text_stage texts_tests texts_verdict texts_leaves bad_count zero_size product_over fields_stage product_stage refusal refused_at at_place first_refused written children bad_lengths bad_kind bad_field used wrong_entries bad_entries some_not_below bad_child occurrences times_child not_once is_test negates_other bad_negation too_many_dups cause policies_stage only_bits result_of bytes dups nested nines words lending then_nines holding compares of_document01 order in_order causes stages_of column
document_01 = refl

document_02 : AsStated of_document02
unfolding xor lowest or_at value_at changed values_of number_of product counted node_count node_of node_at one is_dup dups_below grow tree_at tree_of policy_of node_entry action_entry tree_size entries_from lists_of nodes_of bit mask_of any_below set_of union takes image star_rounds single union_over labels right_spine or_else followed_by remainder flow enter of_marked output_set entered_set next output_mask next_mask runs has_trace starts same_row listed append append_next lowest_telling turn handle run_from run climbing climb depth path entering run_answer depth_before depth_at_full answer_with held at on_both output_at next_at same_states both_zero in_one_output bits_of_dups last_of side_of reported search_answer columns_of held_columns and_then broken_at present breaks_a breaks_b breaks_d check_row check_rows check_rules evidence_answer answer_of side_has trace_answer misfit rows_misfit lists_stage lent_tests work_after verdict_of trace_after filled verdict_after lent_after search_tests search_verdict search_leaves checking.as_evidence evidence_of evidence_tests evidence_call bad_packet packets_stage checked_as checked_unless following.lists_tests trace_tests trace_call policy_tests pair_tests pair_answer policy_legality pair_legality length_test number_stage values_stage values_tests kept_unless values_left bad_value number_tests number_call is_of_field field_of mentioned_below mentioned core_from core_sizes each_field class_number shown_packet is_blank is_capital is_small is_letter is_digit in_word field_named is_named cell_name names_from names_in is_constant all_small_or_digit well_formed bad_name fields_from fields_of with_field with_fields with_tables joint joint_names joint_sizes names_for table_on any_table mismatched names_stage another other_size sizes_stage is_empty tables_stage text_names read_tests read_answer cell_for with_name numbered_from all_digits decimal leading_zero is_number number_token field_token word_token single_mark is_double double_mark begins_double mark_token word_of front_token is_bad rest_of_token placed_from tokens_from tokens constant_policy field_action nothing join_sequence join_sum up_to whole negated negating item_read start close step finish read_on bad_place open_after deep_place stop_place tree_read too_many answer_after outcome text_tree tested answer_to left_by shortest text_nodes text_stage texts_tests texts_verdict texts_leaves bad_count zero_size product_over fields_stage product_stage refusal refused_at at_place first_refused written children bad_lengths bad_kind bad_field used wrong_entries bad_entries some_not_below bad_child occurrences times_child not_once is_test negates_other bad_negation too_many_dups cause policies_stage only_bits result_of bytes dups nested nines words lending then_nines holding compares of_document02 order in_order causes stages_of column
document_02 = refl

tables : AsStated of_tables
unfolding xor lowest or_at value_at changed values_of number_of product counted node_count node_of node_at one is_dup dups_below grow tree_at tree_of policy_of node_entry action_entry tree_size entries_from lists_of nodes_of bit mask_of any_below set_of union takes image star_rounds single union_over labels right_spine or_else followed_by remainder flow enter of_marked output_set entered_set next output_mask next_mask runs has_trace starts same_row listed append append_next lowest_telling turn handle run_from run climbing climb depth path entering run_answer depth_before depth_at_full answer_with held at on_both output_at next_at same_states both_zero in_one_output bits_of_dups last_of side_of reported search_answer columns_of held_columns and_then broken_at present breaks_a breaks_b breaks_d check_row check_rows check_rules evidence_answer answer_of side_has trace_answer misfit rows_misfit lists_stage lent_tests work_after verdict_of trace_after filled verdict_after lent_after search_tests search_verdict search_leaves checking.as_evidence evidence_of evidence_tests evidence_call bad_packet packets_stage checked_as checked_unless following.lists_tests trace_tests trace_call policy_tests pair_tests pair_answer policy_legality pair_legality length_test number_stage values_stage values_tests kept_unless values_left bad_value number_tests number_call is_of_field field_of mentioned_below mentioned core_from core_sizes each_field class_number shown_packet is_blank is_capital is_small is_letter is_digit in_word field_named is_named cell_name names_from names_in is_constant all_small_or_digit well_formed bad_name fields_from fields_of with_field with_fields with_tables joint joint_names joint_sizes names_for table_on any_table mismatched names_stage another other_size sizes_stage is_empty tables_stage text_names read_tests read_answer cell_for with_name numbered_from all_digits decimal leading_zero is_number number_token field_token word_token single_mark is_double double_mark begins_double mark_token word_of front_token is_bad rest_of_token placed_from tokens_from tokens constant_policy field_action nothing join_sequence join_sum up_to whole negated negating item_read start close step finish read_on bad_place open_after deep_place stop_place tree_read too_many answer_after outcome text_tree tested answer_to left_by shortest text_nodes text_stage texts_tests texts_verdict texts_leaves bad_count zero_size product_over fields_stage product_stage refusal refused_at at_place first_refused written children bad_lengths bad_kind bad_field used wrong_entries bad_entries some_not_below bad_child occurrences times_child not_once is_test negates_other bad_negation too_many_dups cause policies_stage only_bits result_of bytes dups nested nines words lending then_nines holding compares of_tables order in_order causes stages_of column
tables = refl

mentions : AsStated of_mentions
unfolding xor lowest or_at value_at changed values_of number_of product counted node_count node_of node_at one is_dup dups_below grow tree_at tree_of policy_of node_entry action_entry tree_size entries_from lists_of nodes_of bit mask_of any_below set_of union takes image star_rounds single union_over labels right_spine or_else followed_by remainder flow enter of_marked output_set entered_set next output_mask next_mask runs has_trace starts same_row listed append append_next lowest_telling turn handle run_from run climbing climb depth path entering run_answer depth_before depth_at_full answer_with held at on_both output_at next_at same_states both_zero in_one_output bits_of_dups last_of side_of reported search_answer columns_of held_columns and_then broken_at present breaks_a breaks_b breaks_d check_row check_rows check_rules evidence_answer answer_of side_has trace_answer misfit rows_misfit lists_stage lent_tests work_after verdict_of trace_after filled verdict_after lent_after search_tests search_verdict search_leaves checking.as_evidence evidence_of evidence_tests evidence_call bad_packet packets_stage checked_as checked_unless following.lists_tests trace_tests trace_call policy_tests pair_tests pair_answer policy_legality pair_legality length_test number_stage values_stage values_tests kept_unless values_left bad_value number_tests number_call is_of_field field_of mentioned_below mentioned core_from core_sizes each_field class_number shown_packet is_blank is_capital is_small is_letter is_digit in_word field_named is_named cell_name names_from names_in is_constant all_small_or_digit well_formed bad_name fields_from fields_of with_field with_fields with_tables joint joint_names joint_sizes names_for table_on any_table mismatched names_stage another other_size sizes_stage is_empty tables_stage text_names read_tests read_answer cell_for with_name numbered_from all_digits decimal leading_zero is_number number_token field_token word_token single_mark is_double double_mark begins_double mark_token word_of front_token is_bad rest_of_token placed_from tokens_from tokens constant_policy field_action nothing join_sequence join_sum up_to whole negated negating item_read start close step finish read_on bad_place open_after deep_place stop_place tree_read too_many answer_after outcome text_tree tested answer_to left_by shortest text_nodes text_stage texts_tests texts_verdict texts_leaves bad_count zero_size product_over fields_stage product_stage refusal refused_at at_place first_refused written children bad_lengths bad_kind bad_field used wrong_entries bad_entries some_not_below bad_child occurrences times_child not_once is_test negates_other bad_negation too_many_dups cause policies_stage only_bits result_of bytes dups nested nines words lending then_nines holding compares of_mentions order in_order causes stages_of column
mentions = refl

-- two parts, one after the other
both : (xs ys : List Case) → AsStated xs → AsStated ys → AsStated (xs ++ ys)
both xs ys p q = map-append (λ (c : Case). result_of c.call) xs ys ∙ ap₂ ◌++◌ p q ∙ sym (map-append (λ (c : Case). c.stated) xs ys)

pub all_as_stated : AsStated cases
unfolding cases
all_as_stated = both (of_document01 ++ of_document02 ++ of_tables) of_mentions (both (of_document01 ++ of_document02) of_tables (both of_document01 of_document02 document_01 document_02) tables) mentions
