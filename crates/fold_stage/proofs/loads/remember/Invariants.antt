-- `fold_stage::loads::remember` meets its contract: the pins that stand from position c on have their bits. Assumes nothing.
use mathlib.Core.Path.{◌≡◌}
use Prim.Native.Nat.{ℕ, ◌^◌, ◌≤◌}
use lib.ListN.{length, get_or}
use Rattle.rules.specs.Coded.{pins}
use Rattle.fold_stage.specs.Bits.{UpAt}
use Rattle.fold_stage.proofs.Laws.Loads.{SpreadFrom}
use Rattle.fold_stage.proofs.loads.remember.Given as goal

abbrev pub invariant-loop-c : goal.invariant-loop-c
invariant-loop-c l = (length l.looks ≡ length l.initial.looks) × (l.c ≤ length l.cells) × ((K : ℕ) → UpAt K l.cells l.bits → l.initial.c ≡ 2 ^ K → SpreadFrom K (pins l.cells) (λ (q : ℕ). get_or l.bits q 0) l.initial.looks l.c l.looks)
