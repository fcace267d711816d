use mathlib.Core.Path.{sym, ◌∙◌}
use native.Mathlib.Omega.{arith}
use Rattle.replay_checks.proofs.Laws.Driven.{right_none, right_past, right_wrong, right_more, right_done}
use Rattle.replay_checks.proofs.driven.mark_leaves.Goals.{then-pins-p-via-then-pins-p, then-pins-p-via-else-pins-p+then-not-line_leaf}
use Rattle.replay_checks.proofs.driven.mark_leaves.Goals as goal

pub loop-i-init : goal.loop-i-init
loop-i-init c = right_none _ _ _ c.requires

pub offset_bounds-driven-i : goal.offset_bounds-driven-i
offset_bounds-driven-i c = omega (arith, c.loop-i.invariant.marked.upto)

pub bounds-driven-i : goal.bounds-driven-i
bounds-driven-i c = omega (arith, c.loop-i.invariant.marked.upto)

pub shape_of-marks-then-pins-p : goal.shape_of-marks-then-pins-p
shape_of-marks-then-pins-p c = c.loop-i.invariant.marked.marked.len

pub returns-then-pins-p : goal.returns-then-pins-p
returns-then-pins-p c = elim c.then-pins-p.branch [
  | then-pins-p-via-then-pins-p w ↦ right_past _ _ _ c.requires _ _ c.loop-i.invariant c.loop-i-test.true _ c.wide-p.ensures _ c.pin_count-pins.ensures w.if-pins-p.true
  | then-pins-p-via-else-pins-p+then-not-line_leaf w ↦
      right_wrong _ _ _ c.requires _ _ c.loop-i.invariant c.loop-i-test.true _ c.wide-p.ensures _ c.pin_count-pins.ensures (omega (arith, w.if-pins-p.false))
      (sym w.line_leaf.ensures ∙ w.if-not-line_leaf.true)
]

pub line_leaf-requires : goal.line_leaf-requires
line_leaf-requires c = record { p_in_bounds = omega (arith, c.loop-i.invariant.marked.marked.len, c.requires.room, c.pin_count-pins.ensures, c.if-pins-p.false); p_bound = omega (arith, c.pin_count-pins.ensures, c.if-pins-p.false); p_bound_2 = omega (arith, c.pin_count-pins.ensures, c.if-pins-p.false, c.requires.few) }

pub bounds-marks-p : goal.bounds-marks-p
bounds-marks-p c = omega (arith, c.loop-i.invariant.marked.marked.len, c.requires.room, c.pin_count-pins.ensures, c.if-pins-p.false)

pub loop-i-smaller : goal.loop-i-smaller
loop-i-smaller c = omega (arith, c.loop-i-test.true)

pub loop-i-preserved : goal.loop-i-preserved
loop-i-preserved c = right_more _ _ _ c.requires _ _ c.loop-i.invariant c.loop-i-test.true _ c.wide-p.ensures _ c.pin_count-pins.ensures (omega (arith, c.if-pins-p.false)) (sym c.line_leaf.ensures ∙ c.if-not-line_leaf.false)

pub shape_of-marks : goal.shape_of-marks
shape_of-marks c = c.loop-i.invariant.marked.marked.len

pub returns : goal.returns
returns c = right_done _ _ _ c.requires _ _ c.loop-i.invariant c.loop-i-test.false
