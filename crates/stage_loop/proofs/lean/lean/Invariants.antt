-- `stage_loop::lean::lean` meets its contract: the levels above l are done. Assumes nothing.
use mathlib.Core.Path.{◌≡◌}
use lib.ListN.{length}
use Rattle.rules.specs.Inside.Some.{Every}
use Rattle.stage_loop.specs.Loop.{LeanAt, Leaning}
use Rattle.stage_loop.proofs.lean.lean.Given as goal

abbrev pub invariant-loop-l : goal.invariant-loop-l
invariant-loop-l l = Every (λ C. LeanAt C l.s.m l.s.n l.s.k l.top l.width l.s.half l.gates l.initial.stage l.initial.work l.most)
    (λ C. Leaning C l.s.m l.s.n l.s.k l.top l.w l.s.half l.gates l.initial.stage l.initial.work l.most l.l l.stage l.work l.b) × (length l.stage ≡ length l.initial.stage) ×
    (length l.work ≡ length l.initial.work)
