-- `aiger_rows::rows::latch_row` meets its contract. Assumes nothing.
use mathlib.Core.Path.{sym}
use borrow.Author.Rules.{rules}
use Rattle.rules.proofs.Bools.{and_none}
use Rattle.aiger_form.specs.Aag.{line_item, or_bad}
use Rattle.aiger_rows.specs.Rows.{row_item, said}
use Rattle.aiger_rows.proofs.Laws.Rows.{no_line, latch_is, reset_fits}
use Rattle.aiger_rows.proofs.rows.latch_row.Goals as goal

pub returns-in_err-n : goal.returns-in_err-n
returns-in_err-n c = rw c.from_residual.ensures (no_line _ _ c.in_err-n.ensures)

pub returns-then-not-is_reset : goal.returns-then-not-is_reset
unfolding line_item said or_bad
returns-then-not-is_reset c = rw (latch_is _ c.args.h.few c.in_ok-n.ensures, sym c.if-not-is_reset.ensures)

pub returns-in_err-latch : goal.returns-in_err-latch
unfolding line_item said or_bad
returns-in_err-latch c = rw (c.from_residual-in_err-latch.ensures, latch_is _ c.args.h.few c.in_ok-n.ensures, c.in_err-latch.ensures, and_none _)

pub returns-in_err-next : goal.returns-in_err-next
unfolding line_item said or_bad
returns-in_err-next c = rw (c.from_residual-in_err-next.ensures, latch_is _ c.args.h.few c.in_ok-n.ensures, c.in_err-next.ensures, and_none _)

pub overflow_cast-result : goal.overflow_cast-result
overflow_cast-result c = let h = reset_fits _ c.args.h.few c.in_ok-n.ensures (sym c.if-not-is_reset.ensures) c.in_ok-latch.ensures.0 in search rules

pub returns : goal.returns
unfolding line_item said or_bad row_item
returns c = rw (latch_is _ c.args.h.few c.in_ok-n.ensures, sym c.if-not-is_reset.ensures, c.in_ok-latch.ensures.0, c.in_ok-latch.ensures.1, c.in_ok-next.ensures.0, c.in_ok-next.ensures.1)
