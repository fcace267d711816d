use mathlib.Core.Path.{◌≡◌, refl}
use Prim.Native.Nat.{◌+◌, ◌*◌}
use native.Mathlib.Omega.{arith}
use Rattle.coding.proofs.Plans.{size_is, stage_inside, stage_at, reached_more, reached_all}
use Rattle.coding.proofs.code_plan.Goals as goal

pub slice_bounds-code_stage-end : goal.slice_bounds-code_stage-end
slice_bounds-code_stage-end c = stage_inside _ _ _ _ c.requires _ _ _ c.loop-k.invariant c.loop-k-test.true _ _ (size_is c.requires c.stage_size-size.ensures) refl

pub code_stage-requires : goal.code_stage-requires
code_stage-requires c = stage_at _ _ _ _ c.requires _ _ _ c.loop-k.invariant c.loop-k-test.true _ _ (size_is c.requires c.stage_size-size.ensures) refl

pub loop-k-preserved : goal.loop-k-preserved
loop-k-preserved c =
    let z : (c.loop-k.k + 1) * c.stage_size-size.result ≡ c.loop-k.k * c.stage_size-size.result + c.stage_size-size.result = omega arith in
    rw z (reached_more _ _ _ _ c.requires _ _ _ c.loop-k.invariant c.loop-k-test.true _ _ (size_is c.requires c.stage_size-size.ensures) refl _ c.code_stage.ensures)

pub returns : goal.returns
returns c = reached_all _ _ _ _ c.requires _ _ _ c.loop-k.invariant c.loop-k-test.false
