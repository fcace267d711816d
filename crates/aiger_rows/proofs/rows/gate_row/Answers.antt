-- `aiger_rows::rows::gate_row` meets its contract. Assumes nothing.
use borrow.Author.Tests.{ne_eqb, eq-eqb}
use Rattle.aiger_form.specs.Aag.{line_item, or_bad}
use Rattle.aiger_rows.specs.Rows.{said}
use Rattle.aiger_rows.proofs.Laws.Rows.{no_line, gate_is}
use Rattle.aiger_rows.proofs.rows.gate_row.Goals as goal

pub returns-in_err-n : goal.returns-in_err-n
returns-in_err-n c = rw c.from_residual.ensures (no_line _ _ c.in_err-n.ensures)

pub returns-then-n-ne3 : goal.returns-then-n-ne3
unfolding line_item said or_bad
returns-then-n-ne3 c = rw (gate_is _ c.args.h.few c.in_ok-n.ensures, ne_eqb _ 3 c.if-n-ne3.true)

pub returns : goal.returns
unfolding line_item
returns c = rw (gate_is _ c.args.h.few c.in_ok-n.ensures, eq-eqb _ 3 c.if-n-ne3.false) c.gate_of.ensures
