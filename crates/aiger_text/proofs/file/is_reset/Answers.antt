-- `aiger_text::file::is_reset` meets its contract. Assumes nothing.
use Rattle.aiger_form.specs.Aag.{reset_of}
use Rattle.aiger_rows.specs.Rows.{said, row_item}
use Rattle.aiger_text.proofs.Laws.Resets.{reset_other}
use Rattle.aiger_text.proofs.file.is_reset.Goals as goal

pub returns-in_default : goal.returns-in_default
unfolding said reset_of
returns-in_default c = rw c.in_default.is

pub returns-in-Latch : goal.returns-in-Latch
unfolding said row_item reset_of
returns-in-Latch c = rw (c.in-Some.is, c.in-Latch.is)

pub returns-in_default-row : goal.returns-in_default-row
unfolding said
returns-in_default-row c = rw c.in-Some.is (reset_other _ c.in_default-row.not-Latch)
