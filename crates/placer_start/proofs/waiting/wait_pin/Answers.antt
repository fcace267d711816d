-- `placer_start::waiting::wait_pin` meets its contract: pin 0 is passed over. Assumes nothing.
use mathlib.Core.Path.{sym, ◌∙◌}
use Rattle.placer_start.proofs.Laws.Waiting.{pin_zero, pin_waits}
use Rattle.placer_start.proofs.waiting.wait_pin.Goals as goal

pub returns-then-index-eq0 : goal.returns-then-index-eq0
returns-then-index-eq0 c = pin_zero c.requires (sym c.index.ensures ∙ c.if-index-eq0.true)

pub returns : goal.returns
returns c = pin_waits c.requires (λ e. c.if-index-eq0.false (c.index.ensures ∙ e)) c.wait.ensures
