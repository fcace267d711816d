-- `aiger_write::lines::gate_line` meets its contract: no line for a leaf. Assumes nothing.
use Prim.Native.Nat.{◌+◌, ◌-◌, ◌*◌}
use native.Mathlib.Omega.{arith}
use Rattle.graph.proofs.Gates.{node_inside}
use Rattle.listing_lines.proofs.Laws.Laid.{laid_none, laid_as}
use Rattle.aiger_write.proofs.Laws.Lines.{gate_none, gate_some}
use mathlib.Core.Path.{refl, sym, ◌∙◌}
use Rattle.aiger_write.proofs.lines.gate_line.Goals as goal

pub returns-then-not-is_gate : goal.returns-then-not-is_gate
returns-then-not-is_gate c = laid_as laid_none (gate_none c.args.gates.now c.args.pin.0 (sym c.is_gate.ensures ∙ c.if-not-is_gate.true))

pub slice_bounds-pin_line-end : goal.slice_bounds-pin_line-end
slice_bounds-pin_line-end c = omega (arith, c.index-a.ensures, node_inside c.args.gates.now c.args.pin.0 _ _ c.index-a.ensures refl (rw c.index-a.ensures c.requires))

pub returns : goal.returns
returns c = let q = c.index-a.result in laid_as c.pin_line.ensures (gate_some c.args.gates.now c.args.pin.0 q ((2 * q + 2) - 2 * q) c.index-a.ensures (omega arith) c.requires (sym c.is_gate.ensures ∙ c.if-not-is_gate.false))
