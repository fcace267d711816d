-- `aiger_rows::rows::output_row` meets its contract. Assumes nothing.
use borrow.Author.Tests.{ne_eqb, eq-eqb}
use Rattle.rules.proofs.Bools.{and_none}
use Rattle.aiger_form.specs.Aag.{line_item, or_bad}
use Rattle.aiger_rows.specs.Rows.{row_item, said}
use Rattle.aiger_rows.proofs.Laws.Rows.{no_line, output_is}
use Rattle.aiger_rows.proofs.rows.output_row.Goals as goal

pub returns-in_err-n : goal.returns-in_err-n
returns-in_err-n c = rw c.from_residual.ensures (no_line _ _ c.in_err-n.ensures)

pub returns-then-n-ne1 : goal.returns-then-n-ne1
unfolding line_item said or_bad
returns-then-n-ne1 c = rw (output_is _ c.args.h.few c.in_ok-n.ensures, ne_eqb _ 1 c.if-n-ne1.true)

pub returns-in_err-literal : goal.returns-in_err-literal
unfolding line_item said or_bad
returns-in_err-literal c = rw (c.from_residual-in_err-literal.ensures, output_is _ c.args.h.few c.in_ok-n.ensures, c.in_err-literal.ensures, and_none _)

pub returns : goal.returns
unfolding line_item said or_bad row_item
returns c = rw (output_is _ c.args.h.few c.in_ok-n.ensures, eq-eqb _ 1 c.if-n-ne1.false, c.in_ok-literal.ensures.0, c.in_ok-literal.ensures.1)
