-- One name that opens every definition, for what is proved by computing. Assumes nothing.
use Rattle.rules.specs.Inside.Opened.{everything as rules}
use Rattle.sheet_form.specs.Forms.{does, cell_with, is_cell, behind_pin, form_fits, form_read}
use Rattle.sheet_form.specs.Sheets.{cell_bits, cells_bits, stage_bits, stages_bits, sheet_bits, sheet_bytes, cell_fits, cells_fit, stage_fits, stages_fit, holdable, write_sheet, read_cell, read_cells, read_words, read_stage, read_stages, read_height, read_body, accept, read_sheet}
use Rattle.sheet_form.specs.Lifting.{lifts_at, stage_lifts, stages_lift, lift, read_either}
use Rattle.sheet_form.specs.Calls.{stages_in, stand, sheet_in, unwritten, into, writer, unread, roomy, areas_with, from, reader}

-- opens the definitions of sheets and of the rules
unfoldable pub all_of_sheets : Unit {0}
unfolding rules does cell_with is_cell behind_pin form_fits form_read cell_bits cells_bits stage_bits stages_bits sheet_bits sheet_bytes cell_fits cells_fit stage_fits stages_fit holdable write_sheet read_cell read_cells read_words read_stage read_stages read_height read_body accept read_sheet lifts_at stage_lifts stages_lift lift read_either stages_in stand sheet_in unwritten into writer unread roomy areas_with from reader
all_of_sheets = tt
