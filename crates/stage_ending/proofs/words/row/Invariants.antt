-- `stage_ending::words::row` meets its contract: cell after cell. Assumes nothing.
use Rattle.rules.specs.Inside.Some.{Every}
use Rattle.stage_ending.specs.Words.{RowAt}
use Rattle.stage_ending.proofs.Laws.Words.{Going}
use Rattle.stage_ending.proofs.words.row.Given as goal

abbrev pub invariant-loop-c : goal.invariant-loop-c
invariant-loop-c l = Every (λ ws. RowAt l.m l.n l.a l.e ws l.stage l.initial.work) (λ ws. Going l.m l.a l.e l.c ws l.stage l.initial.work l.work l.k)
