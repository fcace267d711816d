-- `sheet_write::fits::measure` meets its contract. Assumes nothing.
use mathlib.Core.Path.{sym, ◌∙◌}
use Rattle.sheet_write.proofs.Laws.Fits.{bad_height, many_stages, not_held, measured}
use Rattle.sheet_write.proofs.fits.measure.Goals as goal

pub returns-then-not-is_height : goal.returns-then-not-is_height
returns-then-not-is_height c = bad_height _ _ _ (sym c.is_height.ensures ∙ c.if-not-is_height.true)

pub returns-then-stages-gt65535 : goal.returns-then-stages-gt65535
returns-then-stages-gt65535 c = many_stages _ _ _ c.if-stages-gt65535.true

pub returns-then-not-hold : goal.returns-then-not-hold
returns-then-not-hold c = not_held _ _ _ (sym c.hold.ensures ∙ c.if-not-hold.true)

pub returns : goal.returns
returns c = measured _ _ _ (sym c.is_height.ensures ∙ c.if-not-is_height.false) c.if-stages-gt65535.false (sym c.hold.ensures ∙ c.if-not-hold.false) _ c.stages_end.ensures
