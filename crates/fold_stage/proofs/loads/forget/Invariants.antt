-- `fold_stage::loads::forget` meets its contract: the pins that stand from position c on have 0. Assumes nothing.
use mathlib.Core.Path.{◌≡◌}
use Prim.Native.Nat.{ℕ, ◌^◌, ◌≤◌}
use lib.ListN.{length}
use Rattle.rules.specs.Coded.{pins}
use Rattle.fold_stage.specs.Bits.{StageAt}
use Rattle.fold_stage.proofs.Laws.Loads.{SpreadFrom}
use Rattle.fold_stage.proofs.loads.forget.Given as goal

abbrev pub invariant-loop-c : goal.invariant-loop-c
invariant-loop-c l = (length l.looks ≡ length l.initial.looks) × (l.c ≤ length l.cells) × ((K : ℕ) → StageAt K l.cells → l.initial.c ≡ 2 ^ K → SpreadFrom K (pins l.cells) (λ (q : ℕ). 0) l.initial.looks l.c l.looks)
