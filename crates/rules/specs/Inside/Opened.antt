-- One name that opens every definition, for what is proved by computing. Assumes nothing.
use Rattle.rules.specs.Lists.{mem, keep, every, insert, insert_all, distinct, count, is_nil, up_to, sum, last_of, init, swap_out, swap_out_all, same_list, gather, padded, laid_over, laid_at}
use Rattle.rules.specs.Cells.{empty, filled, is_height, word_limit, word_fits, row_at, position, log_from, log2, row_start, level_of, cell_of, first_lower, second_lower, row, rooms, stage_of, has_row, row_of, first_empty}
use Rattle.rules.specs.Graph.{pin_of, inversion_of, literal_of, operands, node_of, graph_of, pin_count, below, own_bit, literal_bit, gate_bit, value, literal_value}
use Rattle.rules.specs.Loops.{grown, closure, under, on_loop, loop_from, loop_pin, is_nothing, loopless}
use Rattle.rules.specs.Records.{size_of, group_at, whole_at, and_then, read_from, read, endpoints_of, waiting_of, all_named, groups_of}
use Rattle.rules.specs.Reservation.{activations, codes_at, extra_at, duplicates, memories, reserved, reservable}
use Rattle.rules.specs.Checks.{plan_sized, work_size, areas_sized, nodes_right, graph_right, loops_right, pin_found, pin_shown, groups_right, records_right, given_right, refusal_of}
use Rattle.rules.specs.Traversal.{thread, visit, traverse, over, levels, greatest, setting, level_at, raise, lift, reverse_levels}
use Rattle.rules.specs.Placing.{tree, choose, place, cost, take_back, freed, asked, asks, needed, tree_of, reverse_of, needed_of, roomy, cell_at, pin_at, placed, fill, filled_plan}
use Rattle.rules.specs.Ending.{add_sparse, sparse_from, sparse_runs, meet, fill_in, put_cell, put_cells, put_run, allows, goes_on, put_runs, put_rest, words_in, words_up, close, in_tree, in_need, untouched, last_stage, written, rest, more_words, ending, finish, one_stage}
use Rattle.rules.specs.Build.{more, stages, build, cells_of, words_of, counts_of, refuse, refuse_checked, reply, areas_after, stages_of, coded_stages, answer_of, sizes_right, placer}
use Rattle.rules.specs.Depth.{depth, remaining, deepest}
use Rattle.rules.specs.Fold.{cell_bit, bit_at, is_leaf, first_load, first_at, lowest, load_from, as_number, stage_bits, fold_from, fold_bits}
use Rattle.rules.specs.Coded.{cell_pin, ands, first_inversion, second_inversion, and_of, and_cell, coded_cell, coded_at, coded, pins, coded_bit, bit_of, load_of, cell_bits, fold_stages, fold_cells, fold_sized, fold_refusal, folder}
use Rattle.rules.specs.Faults.{is_found, splits, right_above, right_at, first_not, end_right, first_may, held_in, fault_from, holds_in, written_in, last_right, fault_of, cut, fault}
use Rattle.rules.specs.Merge.{named, built_of, size_for, part_of, before, add_rank, rank_of, ranking, begun, accepted, attempt, without, rounds, add_part, merging, cons, original, most_stages, occupied, merge, split_by, merge_work_size, merge_sized, mergeable, refuse_merge, refuse_merge_checked, indices_of, lengths_of, stages_in, words_for, cells_for, merge_reply, group_list_after, merge_refusal, merge_answer_of, merger}
use Rattle.rules.specs.Job.{bits_of, number_of, next, field, fields, read_pin, read_pins, number_width, read_record, read_records, read_fields, fits_program, is_padding, accept, read_job, pin_bits, pins_bits, group_bits, groups_bits, job_bits, to_byte, bytes_of, is_mark, literal_fits, pin_fits, node_fits, nodes_fit, group_fits, groups_fit, gates_fit, file_of, write_job}
use Rattle.rules.specs.Listing.{text, digits, decimal, spaced, words_text, cell_lines, stage_lines, stages_lines, listing, pin_text, refused_line, answer_text, job_text, printed}
use Rattle.rules.specs.Inside.Lean.{blank, start_levels, rank_in, rank, buckets, level_list, candidates, scan, first_free, lacks, wanted, room_for, recount, sweep, lean, onward, lean_plan, cells_holding, low_waiting, high_waiting}

unfoldable pub everything : Unit {0}
unfolding mem keep every insert insert_all distinct count is_nil up_to sum last_of init swap_out swap_out_all same_list gather padded laid_over laid_at empty filled is_height word_limit word_fits row_at position log_from log2 row_start level_of cell_of first_lower second_lower row rooms stage_of has_row row_of first_empty pin_of inversion_of literal_of operands node_of graph_of pin_count below own_bit literal_bit gate_bit value literal_value size_of group_at whole_at and_then read_from read endpoints_of waiting_of all_named groups_of activations codes_at extra_at duplicates memories reserved reservable plan_sized work_size areas_sized nodes_right graph_right grown closure under on_loop loop_from loop_pin is_nothing loopless loops_right pin_found pin_shown groups_right records_right given_right refusal_of thread visit traverse over levels greatest setting level_at raise lift reverse_levels tree choose place cost take_back freed asked asks needed tree_of reverse_of needed_of roomy cell_at pin_at placed fill filled_plan add_sparse sparse_from sparse_runs meet fill_in put_cell put_cells put_run allows goes_on put_runs put_rest words_in words_up close in_tree in_need untouched last_stage written rest more_words ending finish one_stage more stages build cells_of words_of counts_of refuse refuse_checked reply areas_after stages_of answer_of sizes_right placer depth remaining deepest cell_bit bit_at is_leaf first_load first_at lowest load_from as_number stage_bits fold_from fold_bits cell_pin ands first_inversion second_inversion and_of and_cell coded_cell coded_at coded pins coded_stages coded_bit bit_of load_of cell_bits fold_stages fold_cells fold_sized fold_refusal folder is_found splits right_above right_at first_not end_right first_may held_in fault_from holds_in written_in last_right fault_of cut fault named built_of size_for part_of before add_rank rank_of ranking begun accepted attempt without rounds add_part merging cons original most_stages occupied merge split_by merge_work_size merge_sized mergeable refuse_merge refuse_merge_checked indices_of lengths_of stages_in words_for cells_for merge_reply group_list_after merge_refusal merge_answer_of merger bits_of number_of next field fields read_pin read_pins number_width read_record read_records read_fields fits_program is_padding accept read_job pin_bits pins_bits group_bits groups_bits job_bits to_byte bytes_of is_mark literal_fits pin_fits node_fits nodes_fit group_fits groups_fit gates_fit file_of write_job text digits decimal spaced words_text cell_lines stage_lines stages_lines listing pin_text refused_line answer_text job_text printed blank start_levels rank_in rank buckets level_list candidates scan first_free lacks wanted room_for recount sweep lean onward lean_plan cells_holding low_waiting high_waiting
everything = tt
