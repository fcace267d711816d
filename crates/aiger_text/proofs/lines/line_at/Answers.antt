-- `aiger_text::lines::line_at` meets its contract. Assumes nothing.
use Rattle.aiger_text.proofs.Laws.Lines.{step_gate}
use Rattle.aiger_text.proofs.lines.line_at.Goals as goal

pub returns-in-Some : goal.returns-in-Some
returns-in-Some c = step_gate c.requires c.in-Gates.ensures c.in-Some.ensures c.gate_of.ensures
