use native.Mathlib.Omega.{arith}
use Rattle.coding.proofs.Laws.{still_long, next_cell, next_coded}
use Rattle.coding.proofs.code_part.Goals as goal

pub coded_cell-requires : goal.coded_cell-requires
coded_cell-requires c = let P = c.requires.at in next_cell _ _ _ P.stage _ _ (c.loop-p.invariant.all _ P).1 (omega (arith, c.loop-p-test.true, P.high))

pub bounds-cells-p : goal.bounds-cells-p
bounds-cells-p c = let P = c.requires.at in omega (arith, still_long _ _ _ P.stage _ _ (c.loop-p.invariant.all _ P).1 (omega (arith, c.loop-p-test.true, P.high)), c.loop-p-test.true, P.high, P.stage.double)

pub loop-p-preserved : goal.loop-p-preserved
loop-p-preserved c = record { all = λ pl P. (omega (arith, c.loop-p-test.true), next_coded _ _ _ P.stage _ _ (c.loop-p.invariant.all pl P).1 (omega (arith, c.loop-p-test.true, P.high)) _ c.coded_cell.ensures) }
