-- `program::built_text` meets its contract: what the build leaves is listed. Assumes nothing.
use mathlib.Core.Path.{◌∙◌}
use Rattle.program.proofs.Laws.Text.{text_built, text_refused}
use Rattle.program.proofs.built_text.Goals as goal

pub returns-in-Ok : goal.returns-in-Ok
returns-in-Ok c = let a = c.args in c.listing.ensures ∙ text_built c.requires a.given.now a.out.now _ _ _ _ _ c.in-Ok.ensures

pub returns-in-Err : goal.returns-in-Err
returns-in-Err c = let a = c.args in (rw (c.number.ensures, c.pin.ensures) at c.refused.ensures) ∙ text_refused c.requires a.given.now a.out.now _ _ _ _ _ c.in-Err.ensures
