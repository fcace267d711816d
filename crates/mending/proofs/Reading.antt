-- What comes back with 0 folds to the graph's values, and its words show every endpoint's: all that holds of an accepted plan. Assumes nothing.
use Prim.Native.Nat.{ℕ, ◌+◌, ◌*◌, ◌≤◌, ◌<◌}
use mathlib.Core.Path.{◌≡◌}
use mathlib.Core.Bool.{true}
use mathlib.Core.List.{List}
use native.Mathlib.Omega.{arith}
use native.Mathlib.Nat.{div-mul-le_self, mul-le-mul_right}
use lib.ListN.{length, get_or}
use Rattle.rules.specs.Cells.{empty, filled, stage_size, rooms}
use Rattle.rules.specs.Records.{Ends}
use Rattle.rules.specs.Fold.{as_number}
use Rattle.rules.specs.Coded.{cell_pin, fold_cells}
use Rattle.coded.specs.Inputs.{Input, groups, graph_value}
use Rattle.coded.specs.Reading.{Read}
use Rattle.coded.proofs.Reading.{accepted_folds, accepted_read}
use Rattle.mending.specs.Call.{Outcome, mender}
use Rattle.mending.proofs.Answers.{zero_passes, zero_size}

module _ (I : Input) (need : ℕ) (plan words counts list work : List ℕ) (n : ℕ) (area : n ≤ rooms I.K (length plan)) where
  abbrev call : Outcome
  call = mender I.K need I.sized I.gates I.given I.records plan words counts list work n

  -- so many stages lie inside the plan
  inside : n * stage_size I.K ≤ length plan
  unfolding rooms
  inside = omega (arith, mul-le-mul_right (stage_size I.K) area, div-mul-le_self (length plan) (stage_size I.K))

  module _ (zeroed : call.reply.number ≡ 0) (bits : List ℕ) where
    still : n ≤ rooms I.K (length call.plan)
    still = rw (zero_size I.K need I.sized I.gates I.given I.records plan words counts list work n zeroed inside) area

    -- Every filled cell of every stage folds to its pin's graph value, for any leaf and given bits.
    pub mended_folds : (i p : ℕ) → i < n → 1 ≤ p → p < stage_size I.K → filled (get_or call.plan (i * stage_size I.K + p) empty) ≡ true →
        get_or (fold_cells I.K call.plan bits) (i * stage_size I.K + p) 0 ≡ as_number (graph_value I bits (cell_pin (get_or call.plan (i * stage_size I.K + p) empty)))
    mended_folds = accepted_folds I call.plan words counts n still (zero_passes I.K need I.sized I.gates I.given I.records plan words counts list work n zeroed).1 bits

    -- And reading its written words gives every endpoint's graph value.
    pub mended_read : (q : ℕ) → 0 < q → Ends q (groups I) → Read I.K n call.plan words counts (fold_cells I.K call.plan bits) q (as_number (graph_value I bits q))
    mended_read = accepted_read I call.plan words counts n still (zero_passes I.K need I.sized I.gates I.given I.records plan words counts list work n zeroed).1 bits
