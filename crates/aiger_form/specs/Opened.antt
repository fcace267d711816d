-- One name that opens every definition of this crate, for what is proved by computing. Assumes nothing.
use Rattle.aiger_form.specs.Text.{grow, parts, ended, words, is_digit, more_digits, number, before, numbers_of, placed, numbers_line, unlines}
use Rattle.aiger_form.specs.Aag.{header_right, header_from, after_magic, header_of, body_size, or_bad, is_literal, is_variable, input_item, reset_right, latch_item, output_item, gate_item, numbers_item, line_item, symbol_count, symbol_number, symbol_word, symbol_item, spots, is_comment, symbol_lines, has_comment, gate_spots, output_spots, latch_spots, all_spots, is_cut, defines, uses, items, gather_items, defined, is_text, fresh, first_again, stands, first_bad, reset_of, first_reset, resets, judge, judged, place_or, body_of, lines_of, file_of, driver, driven, node_numbers, gates_of, record_of, records_of, latch_of, latches_of, netlist, checked, handed_out, admit, answered, read_aag, with_output, with_data, ends_of, is_leaf_pin, different, inputs_of, input_row, latch_rows, output_row, gate_rows, header_line, file_lines, writable, write_ends, write_aag}
use Rattle.aiger_form.specs.Calls.{holds, imported, importer, exported, exporter}

unfoldable pub all_of_aag : Unit {0}
unfolding grow parts ended words is_digit more_digits number before numbers_of placed numbers_line unlines header_right header_from after_magic header_of body_size or_bad is_literal is_variable input_item reset_right latch_item output_item gate_item numbers_item line_item symbol_count symbol_number symbol_word symbol_item spots is_comment symbol_lines has_comment gate_spots output_spots latch_spots all_spots is_cut defines uses items gather_items defined is_text fresh first_again stands first_bad reset_of first_reset resets judge judged place_or body_of lines_of file_of driver driven node_numbers gates_of record_of records_of latch_of latches_of netlist checked handed_out admit answered read_aag with_output with_data ends_of is_leaf_pin different inputs_of input_row latch_rows output_row gate_rows header_line file_lines writable write_ends write_aag holds imported importer exported exporter
all_of_aag = tt
