-- `fold_stage::loads::load_first` meets its contract: the cells of level 0 below c are loaded. Assumes nothing.
use Prim.Native.Nat.{ℕ, ◌^◌}
use mathlib.Core.Path.{◌≡◌}
use lib.ListN.{length}
use Rattle.rules.specs.Graph.{own_bit}
use Rattle.fold_stage.specs.Bits.{UpAt}
use Rattle.fold_stage.proofs.Laws.Loads.{LoadsTo}
use Rattle.fold_stage.proofs.loads.load_first.Given as goal

abbrev pub invariant-loop-c : goal.invariant-loop-c
invariant-loop-c l = (length l.bits ≡ length l.initial.bits) × ((K : ℕ) → UpAt K l.cells l.initial.bits → l.initial.c ≡ 2 ^ K → LoadsTo K l.cells (own_bit l.own) l.initial.bits l.c l.bits)
