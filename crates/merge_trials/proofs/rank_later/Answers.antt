use Prim.Native.Nat.{◌-◌}
use mathlib.Core.Path.{refl}
use native.Mathlib.Omega.{arith}
use Rattle.merge_trials.proofs.Laws.Keys.{keying_none, keying_end, keying_at, keying_more, keying_done}
use borrow.Author.Rules.{rules}
use Rattle.merge_trials.proofs.rank_later.Goals as goal

pub loop-s-init : goal.loop-s-init
loop-s-init c = (record { all = λ given A. keying_none A }, refl)

pub overflow_add-next : goal.overflow_add-next
overflow_add-next c = let s = c.requires in omega (arith, keying_end s.at (c.loop-s.invariant.0.all s.it s.at) c.loop-s-test.true c.wide.ensures refl, s.at.short)

pub offset_bounds-indices-at : goal.offset_bounds-indices-at
offset_bounds-indices-at c = let s = c.requires in omega (arith, keying_end s.at (c.loop-s.invariant.0.all s.it s.at) c.loop-s-test.true c.wide.ensures refl, s.at.short)

pub slice_bounds-rank_slot-end : goal.slice_bounds-rank_slot-end
slice_bounds-rank_slot-end c = let s = c.requires in keying_end s.at (c.loop-s.invariant.0.all s.it s.at) c.loop-s-test.true c.wide.ensures refl

pub rank_slot-requires : goal.rank_slot-requires
rank_slot-requires c = let s = c.requires in record { it = _; at = keying_at s.at (c.loop-s.invariant.0.all s.it s.at) c.loop-s-test.true c.wide.ensures refl }

pub loop-s-smaller : goal.loop-s-smaller
loop-s-smaller c = omega (arith, c.loop-s-test.true)

pub loop-s-preserved : goal.loop-s-preserved
loop-s-preserved c = (record { all = λ given A. let N = c.loop-s.invariant.0.all given A in keying_more A N c.loop-s-test.true c.wide.ensures refl (c.rank_slot.ensures.all _ (keying_at A N c.loop-s-test.true c.wide.ensures refl)) }, search rules)

pub shape_of-work : goal.shape_of-work
shape_of-work c = c.loop-s.invariant.1

pub returns : goal.returns
returns c = record { all = λ given A. keying_done A (c.loop-s.invariant.0.all given A) c.loop-s-test.false }
