-- `stage_ending::words::level` meets its contract: run after run, then what is left. Assumes nothing.
use Prim.Native.Nat.{◌+◌, ◌*◌}
use Rattle.rules.specs.Inside.Some.{Every}
use Rattle.stage_ending.specs.Words.{RowAt}
use Rattle.stage_ending.proofs.Laws.Words.{Going}
use Rattle.stage_ending.proofs.words.level.Given as goal

abbrev pub invariant-loop-i : goal.invariant-loop-i
invariant-loop-i l = Every (λ ws. RowAt l.m l.n l.a l.e ws l.stage l.initial.work) (λ ws. Going l.m l.a l.e (l.a + 32 * l.i) ws l.stage l.initial.work l.work l.k)
