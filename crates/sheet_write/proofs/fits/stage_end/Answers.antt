-- `sheet_write::fits::stage_end` meets its contract. Assumes nothing.
use mathlib.Core.Path.{sym, ◌∙◌}
use Rattle.sheet_write.proofs.Laws.Fits.{stage_first, stage_many, stage_word, stage_cells}
use Rattle.sheet_write.proofs.fits.stage_end.Goals as goal

pub returns-then-cells : goal.returns-then-cells
returns-then-cells c = stage_first c.requires _ c.if-cells.true

pub returns-then-words-gt65535 : goal.returns-then-words-gt65535
returns-then-words-gt65535 c = stage_many c.requires _ c.if-words-gt65535.true

pub returns-then-not-words_fit : goal.returns-then-not-words_fit
returns-then-not-words_fit c = stage_word c.requires _ c.word_limit.ensures (sym c.words_fit.ensures ∙ c.if-not-words_fit.true)

pub returns : goal.returns
returns c = stage_cells c.requires _ c.if-cells.false c.if-words-gt65535.false c.word_limit.ensures (sym c.words_fit.ensures ∙ c.if-not-words_fit.false) _ c.cells_end.ensures
