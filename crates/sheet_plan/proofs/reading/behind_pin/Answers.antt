-- `sheet_plan::reading::behind_pin` meets its contract. Assumes nothing.
use Rattle.sheet_form.specs.Forms.{behind_pin}
use Rattle.sheet_plan.proofs.reading.behind_pin.Goals as goal

pub returns-in-Pins : goal.returns-in-Pins
unfolding behind_pin
returns-in-Pins c = rw c.in-Pins.is

pub returns-in-Cells : goal.returns-in-Cells
unfolding behind_pin
returns-in-Cells c = rw c.in-Cells.is
