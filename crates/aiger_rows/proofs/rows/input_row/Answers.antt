-- `aiger_rows::rows::input_row` meets its contract. Assumes nothing.
use borrow.Author.Tests.{ne_eqb, eq-eqb}
use Rattle.rules.proofs.Bools.{and_none}
use Rattle.aiger_form.specs.Aag.{line_item, or_bad}
use Rattle.aiger_rows.specs.Rows.{row_item, said}
use Rattle.aiger_rows.proofs.Laws.Rows.{no_line, input_is}
use Rattle.aiger_rows.proofs.rows.input_row.Goals as goal

pub returns-in_err-n : goal.returns-in_err-n
returns-in_err-n c = rw c.from_residual.ensures (no_line _ _ c.in_err-n.ensures)

pub returns-then-n-ne1 : goal.returns-then-n-ne1
unfolding line_item said or_bad
returns-then-n-ne1 c = rw (input_is _ c.args.h.few c.in_ok-n.ensures, ne_eqb _ 1 c.if-n-ne1.true)

pub returns-in_err-variable : goal.returns-in_err-variable
unfolding line_item said or_bad
returns-in_err-variable c = rw (c.from_residual-in_err-variable.ensures, input_is _ c.args.h.few c.in_ok-n.ensures, c.in_err-variable.ensures, and_none _)

pub returns : goal.returns
unfolding line_item said or_bad row_item
returns c = rw (input_is _ c.args.h.few c.in_ok-n.ensures, eq-eqb _ 1 c.if-n-ne1.false, c.in_ok-variable.ensures.0, c.in_ok-variable.ensures.1)
