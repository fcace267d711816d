-- `replay_tape::stages::load_cells` meets its contract. Assumes nothing.
use Prim.Native.Nat.{ℕ, ◌^◌}
use mathlib.Core.Path.{◌≡◌}
use lib.ListN.{length}
use Rattle.fold_stage.specs.Bits.{UpAt}
use Rattle.replay_tape.proofs.Laws.Stages.{RowTo}
use Rattle.replay_tape.proofs.stages.load_cells.Given as goal

abbrev pub invariant-loop-q : goal.invariant-loop-q
invariant-loop-q l = (length l.slots ≡ length l.initial.slots) × ((K : ℕ) → UpAt K l.cells l.initial.slots → l.initial.q ≡ 2 ^ K → RowTo K l.cells l.looks l.initial.slots l.q l.slots)
