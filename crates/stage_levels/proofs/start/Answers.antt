use native.Mathlib.Omega.{arith}
use Rattle.stage_levels.proofs.Laws.Lifting.{start_pin, raised_more, raised_end}
use Rattle.stage_levels.proofs.start.Goals as goal

pub raise-requires : goal.raise-requires
raise-requires c =
    let s = c.requires in
    let U = c.loop-i.invariant.0 in
    let h = start_pin s U c.loop-i-test.true _ c.pin_at-p.ensures in
    record { p_in_bounds = omega (arith, s.area.room, U.frame.len); r_bound = omega arith }

pub loop-i-preserved : goal.loop-i-preserved
loop-i-preserved c = (raised_more c.requires c.loop-i.invariant.0 c.loop-i-test.true _ c.pin_at-p.ensures _ c.raise.ensures, omega arith)

pub returns : goal.returns
returns c = raised_end c.requires c.loop-i.invariant.0 c.loop-i-test.false
