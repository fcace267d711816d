-- `sheet_read::stages::read_stage` meets its contract. Assumes nothing.
use mathlib.Core.List.{[]}
use native.Mathlib.Omega.{arith}
use Rattle.sheet_read.proofs.Laws.Stages.{counted_asks, words_lost, plan_asks, size_small, cells_lost, stage_took}
use Rattle.sheet_read.proofs.stages.read_stage.Goals as goal

pub read_counted-requires : goal.read_counted-requires
read_counted-requires c = counted_asks c.requires 0 [] []

pub returns-in_err-a : goal.returns-in_err-a
returns-in_err-a c = rw c.from_residual.ensures (words_lost c.requires _ _ _ c.in_err-a.ensures (omega arith))

pub read_plan-requires : goal.read_plan-requires
read_plan-requires c = plan_asks c.requires 0 [] [] c.in_ok-a.ensures.0 c.in_ok-a.ensures.1

pub returns-in_err-at : goal.returns-in_err-at
returns-in_err-at c = rw c.from_residual-in_err-at.ensures (cells_lost c.requires _ _ _ c.in_ok-a.ensures.0 c.in_ok-a.ensures.1 c.in_err-at.ensures.took (omega arith))

pub overflow_mul-place : goal.overflow_mul-place
overflow_mul-place c = omega (arith, (size_small c.requires _ _ [] c.in_ok-a.ensures.0 c.in_ok-a.ensures.1 c.in_ok-at.ensures.took).0)

pub lay-requires : goal.lay-requires
lay-requires c = omega (arith, (size_small c.requires _ _ [] c.in_ok-a.ensures.0 c.in_ok-a.ensures.1 c.in_ok-at.ensures.took).1)

pub returns : goal.returns
returns c = (stage_took c.requires _ _ _ c.in_ok-a.ensures.0 c.in_ok-a.ensures.1 c.in_ok-at.ensures.took c.lay.ensures, c.in_ok-at.ensures.inside)
