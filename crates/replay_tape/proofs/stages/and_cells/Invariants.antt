-- `replay_tape::stages::and_cells` meets its contract. Assumes nothing.
use Prim.Native.Nat.{ℕ, ◌^◌}
use mathlib.Core.Path.{◌≡◌}
use lib.ListN.{length}
use Rattle.replay_tape.specs.Stages.{AndAt}
use Rattle.replay_tape.proofs.Laws.Stages.{Making}
use Rattle.replay_tape.proofs.stages.and_cells.Given as goal

abbrev pub invariant-loop-p : goal.invariant-loop-p
invariant-loop-p l = (length l.slots ≡ length l.initial.slots) × (length l.tape ≡ length l.initial.tape) × ((K : ℕ) → AndAt K l.pins l.entries l.cells l.initial.slots l.initial.tape → l.initial.p ≡ 2 ^ K → Making K l.pins l.cells l.entries l.initial.slots l.initial.tape l.p l.slots l.tape l.count)
