-- `aiger_rows::rows::symbol_row` meets its contract. Assumes nothing.
use mathlib.Core.Path.{sym}
use native.Mathlib.Omega.{arith}
use borrow.Author.Tests.{lt-ltb, le-ltb}
use Rattle.aiger_form.specs.Aag.{or_bad}
use Rattle.aiger_rows.specs.Rows.{row_item, said}
use Rattle.aiger_rows.proofs.Laws.Rows.{symbol_none, symbol_cut, symbol_word_none, symbol_is}
use Rattle.aiger_rows.proofs.rows.symbol_row.Goals as goal

pub returns-then-line-eq0 : goal.returns-then-line-eq0
unfolding said
returns-then-line-eq0 c = sym (symbol_none _ _ c.if-line-eq0.true)

pub returns-then-line-e : goal.returns-then-line-e
unfolding said
returns-then-line-e c = sym (symbol_cut _ _ _ c.until-e.ensures c.if-line-e.true)

pub returns-in_err-x : goal.returns-in_err-x
unfolding said
returns-in_err-x c = rw c.from_residual.ensures (symbol_word_none _ _ _ c.if-line-eq0.false c.until-e.ensures c.if-line-e.false c.in_err-x.ensures)

pub returns-then-x-symbol_count : goal.returns-then-x-symbol_count
unfolding said row_item or_bad
returns-then-x-symbol_count c = let s = symbol_is _ _ _ c.if-line-eq0.false c.until-e.ensures c.if-line-e.false _ _ c.symbol_count.ensures (omega arith) c.in_ok-x.ensures in rw (lt-ltb _ _ c.if-x-symbol_count.true) at s

pub returns-else-x-symbol_count : goal.returns-else-x-symbol_count
unfolding said or_bad
returns-else-x-symbol_count c = let s = symbol_is _ _ _ c.if-line-eq0.false c.until-e.ensures c.if-line-e.false _ _ c.symbol_count.ensures (omega arith) c.in_ok-x.ensures in rw (le-ltb _ _ c.if-x-symbol_count.false) at s
