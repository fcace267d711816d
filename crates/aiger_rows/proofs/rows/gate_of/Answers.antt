-- `aiger_rows::rows::gate_of` meets its contract. Assumes nothing.
use Rattle.rules.proofs.Bools.{and_none}
use Rattle.aiger_form.specs.Aag.{or_bad}
use Rattle.aiger_rows.specs.Rows.{row_item, said}
use Rattle.aiger_rows.proofs.rows.gate_of.Goals as goal

pub returns-in_err-gate : goal.returns-in_err-gate
unfolding said or_bad
returns-in_err-gate c = rw (c.from_residual.ensures, c.in_err-gate.ensures)

pub returns-in_err-first : goal.returns-in_err-first
unfolding said or_bad
returns-in_err-first c = rw (c.from_residual-in_err-first.ensures, c.in_err-first.ensures, and_none _)

pub returns-in_err-second : goal.returns-in_err-second
unfolding said or_bad
returns-in_err-second c = rw (c.from_residual-in_err-second.ensures, c.in_err-second.ensures, and_none _)

pub returns : goal.returns
unfolding said or_bad row_item
returns c = rw (c.in_ok-gate.ensures.0, c.in_ok-gate.ensures.1, c.in_ok-first.ensures.0, c.in_ok-first.ensures.1, c.in_ok-second.ensures.0, c.in_ok-second.ensures.1)
