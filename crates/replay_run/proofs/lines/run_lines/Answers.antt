use Prim.Native.Nat.{◌-◌}
use mathlib.Core.Path.{◌≡◌, refl}
use native.Mathlib.Omega.{arith}
use Rattle.replay_run.proofs.Laws.Lines.{clocked_none, line_there, part_there, clock_in, clocked_more, clocked_done}
use Rattle.replay_run.proofs.lines.run_lines.Goals as goal

pub loop-init : goal.loop-init
loop-init c = let z : c.args.lines - 0 ≡ c.args.lines = omega arith in rw z (clocked_none _ _ _ _ _ _ _ _ _ _ _ _ c.requires)

pub overflow_add-end : goal.overflow_add-end
overflow_add-end c = omega (arith, line_there _ _ _ _ _ _ _ _ _ _ _ _ c.requires _ _ _ _ _ _ c.loop.invariant (omega arith) _ _ refl refl)

pub overflow_add-stop : goal.overflow_add-stop
overflow_add-stop c = omega (arith, part_there _ _ _ _ _ _ _ _ _ _ _ _ c.requires _ _ _ _ _ _ c.loop.invariant (omega arith) _ _ refl refl)

pub slice_bounds-clock-end : goal.slice_bounds-clock-end
slice_bounds-clock-end c = omega (arith, line_there _ _ _ _ _ _ _ _ _ _ _ _ c.requires _ _ _ _ _ _ c.loop.invariant (omega arith) _ _ refl refl)

pub slice_bounds-clock-end-in-loop : goal.slice_bounds-clock-end-in-loop
slice_bounds-clock-end-in-loop c = omega (arith, part_there _ _ _ _ _ _ _ _ _ _ _ _ c.requires _ _ _ _ _ _ c.loop.invariant (omega arith) _ _ refl refl)

pub clock-requires : goal.clock-requires
clock-requires c = clock_in _ _ _ _ _ _ _ _ _ _ _ _ c.requires _ _ _ _ _ _ c.loop.invariant (omega arith) _ _ refl refl

pub loop-preserved : goal.loop-preserved
loop-preserved c = clocked_more _ _ _ _ _ _ _ _ _ _ _ _ c.requires _ _ _ _ _ _ c.loop.invariant (omega arith) _ _ refl refl _ _ _ c.clock.ensures _ (omega arith)

pub shape_of-bits : goal.shape_of-bits
shape_of-bits c = omega (arith, c.loop.invariant.blen)

pub shape_of-state : goal.shape_of-state
shape_of-state c = omega (arith, c.loop.invariant.slen)

pub shape_of-out : goal.shape_of-out
shape_of-out c = omega (arith, c.loop.invariant.olen)

pub returns : goal.returns
returns c = clocked_done _ _ _ _ _ _ _ _ _ _ _ _ c.requires _ _ _ _ _ _ c.loop.invariant (omega arith)
