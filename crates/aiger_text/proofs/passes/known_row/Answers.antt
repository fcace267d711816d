-- `aiger_text::passes::known_row` meets its contract. Assumes nothing.
use mathlib.Core.Path.{refl}
use Rattle.aiger_form.specs.Aag.{uses}
use Rattle.aiger_rows.specs.Rows.{said, row_item}
use Rattle.aiger_text.proofs.Laws.Passes.{known_none, known_both, known_not}
use Rattle.aiger_text.proofs.passes.known_row.Goals as goal

pub returns-in_default : goal.returns-in_default
unfolding said uses
returns-in_default c = rw c.in_default.is (known_none _ _ _ refl)

pub returns-in-Symbol : goal.returns-in-Symbol
unfolding said row_item uses
returns-in-Symbol c = rw (c.in-Some.is, c.in-Symbol.is) (known_none _ _ _ refl)

pub returns-in-Input : goal.returns-in-Input
unfolding said row_item uses
returns-in-Input c = rw (c.in-Some.is, c.in-Input.is) (known_none _ _ _ refl)

pub returns-in-Output : goal.returns-in-Output
unfolding said row_item uses
returns-in-Output c = rw (c.in-Some.is, c.in-Output.is) c.known.ensures

pub returns-in-Latch : goal.returns-in-Latch
unfolding said row_item uses
returns-in-Latch c = rw (c.in-Some.is, c.in-Latch.is) c.known-in-Latch.ensures

pub returns-then-known : goal.returns-then-known
unfolding said row_item uses
returns-then-known c = rw (c.in-Some.is, c.in-Gate.is) (known_both _ _ _ _ _ _ c.if-known.true c.known-in-Gate.ensures c.known-then-known.ensures)

pub returns-else-known : goal.returns-else-known
unfolding said row_item uses
returns-else-known c = rw (c.in-Some.is, c.in-Gate.is, c.if-known.false) (known_not _ _ _ _ _ c.if-known.false c.known-in-Gate.ensures)
