-- `placer::place` meets its contract: the stages that were laid are coded. Assumes nothing.
use native.Mathlib.Omega.{arith}
use Rattle.refusals.proofs.Numbers.{handed_on}
use Rattle.placer.specs.Answers.{told}
use Rattle.placer.proofs.Laws.Coding.{code_at, placed, placed_none}
use Rattle.placer.proofs.place.Goals as goal

pub code_plan-requires : goal.code_plan-requires
unfolding told
code_plan-requires c = code_at c.requires _ c.in_ok-built.ensures (omega arith)

pub returns-in_err-built : goal.returns-in_err-built
returns-in_err-built c = let q = handed_on c.from_residual.result _ c.from_residual.ensures.1 in rw q (placed_none c.requires _ c.in_err-built.ensures)

pub returns : goal.returns
unfolding told
returns c = placed c.requires _ c.in_ok-built.ensures c.code_plan.ensures
