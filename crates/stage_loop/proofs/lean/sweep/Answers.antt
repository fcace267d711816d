use mathlib.Core.Path.{refl}
use Rattle.stage_loop.proofs.Laws.Turns.{gone_none, gone_next, gone_end}
use Rattle.stage_loop.proofs.lean.sweep.Goals as goal

pub loop-i-init : goal.loop-i-init
loop-i-init c = (record { all = λ C A. gone_none A }, refl, refl)

pub turn-requires : goal.turn-requires
turn-requires c = let A = c.requires in record { it = A.it; at = gone_next (c.loop-i.invariant.0.all A.it A.at) c.loop-i-test.true }

pub returns : goal.returns
returns c = record { all = λ C A. gone_end (c.loop-i.invariant.0.all C A) c.loop-i-test.false }
