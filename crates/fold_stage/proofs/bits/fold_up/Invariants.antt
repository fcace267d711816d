-- `fold_stage::bits::fold_up` meets its contract: the bits from p on are there. Assumes nothing.
use mathlib.Core.Path.{◌≡◌}
use Prim.Native.Nat.{ℕ, ◌^◌, ◌≤◌}
use lib.ListN.{length}
use Rattle.fold_stage.specs.Bits.{UpAt}
use Rattle.fold_stage.proofs.Laws.Cells.{Rising}
use Rattle.fold_stage.proofs.bits.fold_up.Given as goal

abbrev pub invariant-loop-c : goal.invariant-loop-c
invariant-loop-c l = (length l.bits ≡ length l.initial.bits) × (l.c ≤ 8192) × (l.c ≤ length l.cells) × ((K : ℕ) → UpAt K l.cells l.initial.bits → l.initial.c ≡ 2 ^ K → Rising K l.cells l.initial.bits l.c l.bits)
