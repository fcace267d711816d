-- `sheet_write::sections::put_cell` meets its contract. Assumes nothing.
use Rattle.sheet_form.specs.Forms.{does}
use mathlib.Core.Path.{sym, ◌∙◌}
use native.Mathlib.Omega.{arith}
use borrow.Author.Tests.{not-true, not-false}
use Rattle.rules.proofs.Job.Bits.{width}
use Rattle.sheet_write.proofs.Laws.Sections.{cell_blank, cell_full}
use Rattle.sheet_write.proofs.sections.put_cell.Goals as goal

pub returns-then-is_empty : goal.returns-then-is_empty
returns-then-is_empty c = cell_blank _ (not-true _ (sym c.is_empty.ensures ∙ c.if-is_empty.true)) c.put.ensures

pub put-q-requires : goal.put-q-requires
put-q-requires c = record { near = omega (arith, c.requires, c.put-p.ensures.behind, width 1 1); short = omega arith }

pub put-requires-2 : goal.put-requires-2
put-requires-2 c = record { near = omega (arith, c.requires, c.put-p.ensures.behind, width 1 1, c.put-q.ensures.behind, width 16 c.pin.result.0); short = omega arith }

pub returns : goal.returns
unfolding does
returns c = cell_full _ (not-false _ (sym c.is_empty.ensures ∙ c.if-is_empty.false)) c.put-p.ensures c.pin.ensures c.put-q.ensures c.does.ensures c.put-2.ensures
