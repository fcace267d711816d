use Prim.Native.Nat.{◌-◌}
use Rattle.merge_trials.proofs.Laws.Keys.{looking_none, looking_more, looked_open, looked_none}
use Rattle.merge_trials.proofs.any_open.Goals as goal

pub loop-s-init : goal.loop-s-init
loop-s-init c = looking_none

pub returns-then-work-base-eq0 : goal.returns-then-work-base-eq0
returns-then-work-base-eq0 c = looked_open

pub loop-s-preserved : goal.loop-s-preserved
loop-s-preserved c = looking_more c.loop-s.invariant c.if-work-base-eq0.false

pub returns : goal.returns
returns c = looked_none c.loop-s.invariant c.loop-s-test.false
