-- `cell::Cell::is_cell` meets its contract: each way out is a case of the test. Assumes nothing.
use Rattle.cell.proofs.Cells.{cell_great, cell_none, cell_plain, cell_ands}
use Rattle.cell.proofs.Cell.is_cell.Goals as goal

pub returns-then-self-ge524288 : goal.returns-then-self-ge524288
returns-then-self-ge524288 c = cell_great _ c.if-self-ge524288.true

pub returns-then-self-eq0 : goal.returns-then-self-eq0
returns-then-self-eq0 c = cell_none _ c.if-self-ge524288.false c.if-self-eq0.true

pub returns-then-self-lt65536 : goal.returns-then-self-lt65536
returns-then-self-lt65536 c = cell_plain _ c.if-self-ge524288.false c.if-self-eq0.false c.if-self-lt65536.true

pub returns : goal.returns
returns c = cell_ands _ c.if-self-ge524288.false c.if-self-eq0.false c.if-self-lt65536.false
