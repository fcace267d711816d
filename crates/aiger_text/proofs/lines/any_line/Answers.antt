-- `aiger_text::lines::any_line` meets its contract. Assumes nothing.
use mathlib.Core.Path.{sym, ◌∙◌}
use Rattle.aiger_text.proofs.Laws.Passes.{line_inside}
use Rattle.aiger_text.proofs.Laws.Lines.{step_last, step_stop, step_line}
use Rattle.aiger_text.proofs.lines.any_line.Goals as goal

pub returns-then-bytes-e : goal.returns-then-bytes-e
returns-then-bytes-e c = step_last c.requires _ c.until-e.ensures c.if-bytes-e.true

pub slice_bounds-stops_at-end : goal.slice_bounds-stops_at-end
slice_bounds-stops_at-end c = (line_inside _ _ _ c.requires c.until-e.ensures).1

pub returns-then-stops_at : goal.returns-then-stops_at
returns-then-stops_at c = step_stop c.requires _ c.until-e.ensures c.if-bytes-e.false (sym (c.stops_at.ensures _) ∙ c.if-stops_at.true)

pub slice_bounds-row_at-end : goal.slice_bounds-row_at-end
slice_bounds-row_at-end c = (line_inside _ _ _ c.requires c.until-e.ensures).1

pub returns : goal.returns
returns c = step_line c.requires _ c.until-e.ensures c.if-bytes-e.false (sym (c.stops_at.ensures _) ∙ c.if-stops_at.false) c.row_at.ensures
