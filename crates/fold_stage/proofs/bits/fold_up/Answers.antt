use mathlib.Core.Path.{refl}
use native.Mathlib.Omega.{arith}
use Rattle.fold_stage.proofs.Laws.Cells.{width_there}
use Rattle.fold_stage.proofs.Laws.Cells.{rising_none, rising_cell, rising_more, rising_done}
use borrow.Author.Rules.{rules}
use Rattle.fold_stage.proofs.bits.fold_up.Goals as goal

pub loop-c-init : goal.loop-c-init
loop-c-init c = let s = c.requires.stage in let e = width_there s c.width-c.ensures in (refl, omega (arith, s.high), omega (arith, s.size, s.double), λ K A e. rising_none _ _ _ A _ e)

pub fold_cell-requires : goal.fold_cell-requires
fold_cell-requires c = rising_cell _ _ _ c.requires _ _ (c.loop-c.invariant.3 _ c.requires (width_there c.requires.stage c.width-c.ensures)) c.loop-c-test.true

pub loop-c-preserved : goal.loop-c-preserved
loop-c-preserved c = (search rules, search rules, search rules, λ K A e. rising_more _ _ _ A _ _ (c.loop-c.invariant.3 K A e) c.loop-c-test.true _ c.fold_cell.ensures _ c.as_number.ensures)

pub returns : goal.returns
returns c = rising_done _ _ _ c.requires _ _ (c.loop-c.invariant.3 _ c.requires (width_there c.requires.stage c.width-c.ensures)) c.loop-c-test.false
