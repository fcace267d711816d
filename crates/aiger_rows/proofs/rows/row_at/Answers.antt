-- `aiger_rows::rows::row_at` meets its contract. Assumes nothing.
use mathlib.Core.Path.{◌∙◌}
use Rattle.aiger_rows.proofs.Laws.Rows.{at_input, at_latch, at_output, at_gate, at_symbol}
use Rattle.aiger_rows.proofs.rows.row_at.Goals as goal

pub returns-in-Inputs : goal.returns-in-Inputs
returns-in-Inputs c = c.input_row.ensures ∙ (at_input _ _ _ c.in-Inputs.ensures).0

pub returns-in-Latches : goal.returns-in-Latches
returns-in-Latches c = let s = c.in-Latches.ensures in c.latch_row.ensures ∙ (at_latch _ _ _ s.0 s.1).0

pub returns-in-Outputs : goal.returns-in-Outputs
returns-in-Outputs c = let s = c.in-Outputs.ensures in c.output_row.ensures ∙ (at_output _ _ _ s.0 s.1 s.2).0

pub returns-in-Gates : goal.returns-in-Gates
returns-in-Gates c = let s = c.in-Gates.ensures in c.gate_row.ensures ∙ (at_gate _ _ _ s.0 s.1 s.2 s.3).0

pub returns-in-Symbols : goal.returns-in-Symbols
returns-in-Symbols c = let s = c.in-Symbols.ensures in c.symbol_row.ensures ∙ (at_symbol _ _ _ s.0 s.1 s.2 s.3).0
