-- `explain_stages::over_line` meets its contract: the numbers of a stage that was stopped. Assumes nothing.
use native.Mathlib.Omega.{arith}
use Rattle.explain_lines.specs.Lines.{six}
use Rattle.explain_stages.proofs.Laws.Over.{seven_line, size_within, eight_line}
use Rattle.explain_stages.proofs.over_line.Goals as goal

pub returns-in-OverWords : goal.returns-in-OverWords
unfolding six
returns-in-OverWords c = rw (c.number.ensures, c.in-OverWords.is) (seven_line _ _ _ _)

pub overflow_sub-most : goal.overflow_sub-most
overflow_sub-most c = (size_within c.requires c.level_one_size-most.ensures).0

pub returns-in-NoCell : goal.returns-in-NoCell
unfolding six
returns-in-NoCell c = rw (c.number-in-NoCell.ensures, c.in-NoCell.is) (eight_line c.requires _ _ _ c.level_one_size-most.ensures)

pub overflow_cast-result-in-NoCell : goal.overflow_cast-result-in-NoCell
overflow_cast-result-in-NoCell c = record { fits = omega (arith, (size_within c.requires c.level_one_size-most.ensures).1) }
