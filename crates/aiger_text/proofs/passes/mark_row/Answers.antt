-- `aiger_text::passes::mark_row` meets its contract. Assumes nothing.
use mathlib.Core.Path.{refl}
use Rattle.aiger_form.specs.Aag.{is_text, defines}
use Rattle.aiger_rows.specs.Rows.{said, row_item}
use Rattle.aiger_text.proofs.Laws.Passes.{passed_none, passed_one}
use Rattle.aiger_text.proofs.passes.mark_row.Goals as goal

pub returns-in_default : goal.returns-in_default
unfolding said is_text defines
returns-in_default c = rw c.in_default.is (passed_none _ _ _ _ refl refl)

pub returns-in-Symbol : goal.returns-in-Symbol
unfolding said row_item is_text defines
returns-in-Symbol c = rw (c.in-Some.is, c.in-Symbol.is) (passed_none _ _ _ _ refl refl)

pub returns-in-Output : goal.returns-in-Output
unfolding said row_item is_text defines
returns-in-Output c = rw (c.in-Some.is, c.in-Output.is) (passed_none _ _ _ _ refl refl)

pub returns-in-Input : goal.returns-in-Input
unfolding said row_item is_text defines
returns-in-Input c = rw (c.in-Some.is, c.in-Input.is) (passed_one _ _ _ _ _ _ refl refl c.mark.ensures)

pub returns-in-Latch : goal.returns-in-Latch
unfolding said row_item is_text defines
returns-in-Latch c = rw (c.in-Some.is, c.in-Latch.is) (passed_one _ _ _ _ _ _ refl refl c.mark-in-Latch.ensures)

pub returns-in-Gate : goal.returns-in-Gate
unfolding said row_item is_text defines
returns-in-Gate c = rw (c.in-Some.is, c.in-Gate.is) (passed_one _ _ _ _ _ _ refl refl c.mark-in-Gate.ensures)
