-- The top theorem, in one statement: what a crew relies on. Assumes nothing.
use Prim.Native.Nat.{ℕ, ◌<◌}
use mathlib.Core.Path.{◌≡◌}
use mathlib.Core.Bool.{Bool}
use mathlib.Core.List.{List}
use lib.ListN.{length}
use Rattle.rules.specs.Graph.{graph_of, value}
use Rattle.rules.specs.Records.{groups_of, Ends}
use Rattle.rules.specs.Fold.{as_number}
use Rattle.refusals.specs.Numbers.{number_said}
use Rattle.coded.specs.Reading.{Read}
use Rattle.theorems.proofs.Calls.{Call, reply, reads}
use Rattle.theorems.proofs.Folds.{FoldCall}

-- what the chip's gates give at a pin, for some bits on leaves and given pins
abbrev pub chip_value : Call → List ℕ → ℕ → Bool
chip_value C bits q = value (length (graph_of C.gates)) (graph_of C.gates) C.given bits q

-- If the placer answers 0, and the fold of the plan that it left answers 0, then reading the written words of the folded plan gives what the
-- chip's gates give at every endpoint: for every endpoint pin above 0 there are a stage, a word written in that stage and a position of that
-- word, whose cell holds the pin and whose folded bit is the pin's value in the graph. (The fold does answer 0 where its areas are large enough:
-- `folds` in `Folds.antt`.)
pub relied_on : (C : Call) → (reply C).number ≡ 0 → (F : FoldCall C) → number_said F.answer ≡ 0 → (q : ℕ) → 0 < q → Ends q (groups_of C.records) →
    Read C.height (reply C).stages C.exit.plan C.exit.words C.exit.counts F.exit q (as_number (chip_value C F.bits q))
relied_on C z F f = reads C z F.bits F.entry F.work F.answer F.exit F.cleared F.ensures f
