-- `aiger_write::lines::input_line` meets its contract: no line for another pin. Assumes nothing.
use mathlib.Core.Path.{sym, ◌∙◌}
use Rattle.listing_lines.proofs.Laws.Laid.{laid_none, laid_as}
use Rattle.aiger_write.proofs.Laws.Lines.{input_none, input_some}
use Rattle.aiger_write.proofs.lines.input_line.Goals as goal

pub returns-then-not-is_input : goal.returns-then-not-is_input
returns-then-not-is_input c = laid_as laid_none (input_none c.args.gates.now c.args.marks.now c.args.pin.0 (sym c.is_input.ensures ∙ c.if-not-is_input.true))

pub returns : goal.returns
returns c = laid_as c.pin_line.ensures (input_some c.args.gates.now c.args.marks.now c.args.pin.0 (sym c.is_input.ensures ∙ c.if-not-is_input.false))
