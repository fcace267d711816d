use Prim.Native.Nat.{◌+◌}
use native.Mathlib.Omega.{arith}
use Rattle.rules.specs.Graph.{graph_of}
use Rattle.coding.proofs.Laws.{Coming, coming_none, coming_long, coming_room, coming_part, coming_coded, coming_blank, coming_done}
use Rattle.coding.proofs.code_stage.Goals as goal
use Rattle.coding.proofs.code_stage.Goals.{then-not-blank, else-not-blank, Joined-not-blank}

pub loop-p-init : goal.loop-p-init
loop-p-init c = coming_none _ _ _ c.requires _ c.width-p-end.ensures

pub overflow_add-p : goal.overflow_add-p
overflow_add-p c = omega (arith, coming_room _ _ _ c.requires _ c.width-p-end.ensures _ _ c.loop-p.invariant c.loop-p-test.true, c.requires.high)

pub blank-requires : goal.blank-requires
blank-requires c = omega (arith, coming_room _ _ _ c.requires _ c.width-p-end.ensures _ _ c.loop-p.invariant c.loop-p-test.true, coming_long _ _ _ c.requires _ c.width-p-end.ensures _ _ c.loop-p.invariant, c.requires.size, c.requires.double)

pub code_part-requires : goal.code_part-requires
code_part-requires c = record { it = _; at = coming_part _ _ _ c.requires _ c.width-p-end.ensures _ _ c.loop-p.invariant c.loop-p-test.true }

-- eight more cells are coded
eight : (c : Joined-not-blank) → Coming c.args.height.0 (graph_of c.args.gates.now) c.args.cells.now c.width-p-end.result (c.loop-p.p + 8) c.if-not-blank.cells
eight c = elim c.if-not-blank.branch [
  | then-not-blank w ↦ rw w.cells-is (coming_coded _ _ _ c.requires _ c.width-p-end.ensures _ _ c.loop-p.invariant c.loop-p-test.true _ (w.code_part.ensures.all _ (coming_part _ _ _ c.requires _ c.width-p-end.ensures _ _ c.loop-p.invariant c.loop-p-test.true)))
  | else-not-blank w ↦ rw w.cells-is (coming_blank _ _ _ c.requires _ c.width-p-end.ensures _ _ c.loop-p.invariant c.loop-p-test.true _ c.blank.ensures w.if-not-blank.false)
]

pub loop-p-preserved : goal.loop-p-preserved
loop-p-preserved c = eight (goal.at.loop-p-preserved c).Joined-not-blank

pub returns-after-not-blank : goal.returns-after-not-blank
returns-after-not-blank c = coming_done _ _ _ c.requires _ c.width-p-end.ensures _ _ (eight (goal.at.returns-after-not-blank c).Joined-not-blank) (omega arith)

pub returns : goal.returns
returns c = coming_done _ _ _ c.requires _ c.width-p-end.ensures _ _ c.loop-p.invariant c.loop-p-test.false
