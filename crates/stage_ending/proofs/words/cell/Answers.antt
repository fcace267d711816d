-- `stage_ending::words::cell` meets its contract: only an endpoint counts. Assumes nothing.
use mathlib.Core.Path.{sym, ◌∙◌}
use Rattle.stage_ending.proofs.Laws.Words.{cell_none, cell_not, cell_at, cell_end}
use Rattle.stage_ending.proofs.words.cell.Goals as goal

pub returns-then-p : goal.returns-then-p
returns-then-p c = record { all = λ ws A. cell_none A c.if-p.true }

pub returns-then-is_end : goal.returns-then-is_end
returns-then-is_end c = record { all = λ ws A. cell_end A c.if-p.false (sym c.is_end.ensures ∙ c.if-is_end.true) (c.word.ensures.all ws (cell_at A)) }

pub returns : goal.returns
returns c = record { all = λ ws A. cell_not A c.if-p.false (sym c.is_end.ensures ∙ c.if-is_end.false) }
