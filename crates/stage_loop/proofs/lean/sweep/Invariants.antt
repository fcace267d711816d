-- `stage_loop::lean::sweep` meets its contract: the candidates from i on are left to do. Assumes nothing.
use mathlib.Core.Path.{◌≡◌}
use lib.ListN.{length}
use Rattle.rules.specs.Inside.Some.{Every}
use Rattle.stage_loop.specs.Loop.{At, Gone}
use Rattle.stage_loop.proofs.lean.sweep.Given as goal

abbrev pub invariant-loop-i : goal.invariant-loop-i
invariant-loop-i l = Every (λ C. At C l.s.m l.s.n l.s.k l.l l.w l.s.half l.gates l.initial.stage l.initial.work l.start l.e l.most)
    (λ C. Gone C l.s.m l.s.n l.s.k l.l l.w l.s.half l.gates l.initial.stage l.initial.work l.start l.e l.most l.stage l.work l.i l.b l.from) × (length l.stage ≡ length l.initial.stage) ×
    (length l.work ≡ length l.initial.work)
