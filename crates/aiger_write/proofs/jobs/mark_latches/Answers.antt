use native.Mathlib.Omega.{arith}
use Rattle.rules.specs.Graph.{graph_of}
use mathlib.Core.Path.{sym, ◌∙◌}
use Rattle.graph.proofs.Gates.{graph_length}
use Rattle.aiger_write.proofs.Laws.Marks.{leaf_inside, marking_start, marking_other, marking_twice, marking_more, marking_end}
use Rattle.aiger_write.proofs.jobs.mark_latches.Goals as goal

pub loop-l-init : goal.loop-l-init
loop-l-init c = marking_start

pub returns-then-not-is_leaf_pin : goal.returns-then-not-is_leaf_pin
returns-then-not-is_leaf_pin c = marking_other c.loop-l.invariant c.loop-l-test.true (sym c.is_leaf_pin.ensures ∙ c.if-not-is_leaf_pin.true)

pub bounds-marks-p : goal.bounds-marks-p
bounds-marks-p c = omega (arith, leaf_inside (graph_of c.args.gates.now) _ (sym c.is_leaf_pin.ensures ∙ c.if-not-is_leaf_pin.false), graph_length c.args.gates.now, c.requires, c.loop-l.invariant.long, c.index-p.ensures)

pub returns-then-marks-p-ne0 : goal.returns-then-marks-p-ne0
returns-then-marks-p-ne0 c = marking_twice c.loop-l.invariant c.loop-l-test.true (λ z. c.if-marks-p-ne0.true (rw c.index-p.ensures z))

pub bounds-marks-p-in-loop-l : goal.bounds-marks-p-in-loop-l
bounds-marks-p-in-loop-l c = omega (arith, leaf_inside (graph_of c.args.gates.now) _ (sym c.is_leaf_pin.ensures ∙ c.if-not-is_leaf_pin.false), graph_length c.args.gates.now, c.requires, c.loop-l.invariant.long, c.index-p.ensures)

pub loop-l-preserved : goal.loop-l-preserved
loop-l-preserved c = rw c.index-p.ensures (marking_more c.loop-l.invariant c.loop-l-test.true (sym c.is_leaf_pin.ensures ∙ c.if-not-is_leaf_pin.false) (rw c.index-p.ensures at c.if-marks-p-ne0.false))

pub returns : goal.returns
returns c = marking_end c.loop-l.invariant c.loop-l-test.false
