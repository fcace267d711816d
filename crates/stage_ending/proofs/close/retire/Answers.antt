-- `stage_ending::close::retire` meets its contract: the count decides whether the pin is realised. Assumes nothing.
use mathlib.Core.Path.{sym, ◌∙◌}
use Rattle.stage_ending.proofs.Laws.Close.{retire_none, retire_one}
use Rattle.stage_ending.proofs.close.retire.Goals as goal
use Rattle.stage_ending.proofs.close.retire.Goals.{then-get-ne0, else-get-ne0}

pub returns : goal.returns
returns c = elim c.if-get-ne0.branch [
  | then-get-ne0 w ↦ retire_one c.requires _ w.set_field.ensures (λ e. w.if-get-ne0.true (c.get.ensures ∙ e)) (rw w.work-is at c.wipe.ensures)
  | else-get-ne0 w ↦ retire_none c.requires (sym c.get.ensures ∙ w.if-get-ne0.false) (rw w.work-is at c.wipe.ensures)
]
