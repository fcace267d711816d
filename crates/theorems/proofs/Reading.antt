-- What follows for a user: reading the written words of a folded whole plan gives every endpoint's graph value. Assumes nothing.
use Prim.Native.Nat.{ℕ, ◌<◌}
use mathlib.Core.Path.{◌≡◌}
use mathlib.Core.List.{List, ◌++◌}
use lib.ListN.{length}
use Rattle.rules.specs.Cells.{rooms}
use Rattle.rules.specs.Records.{Ends}
use Rattle.rules.specs.Build.{Stage, whole, words_of, counts_of}
use Rattle.rules.specs.Fold.{as_number}
use Rattle.rules.specs.Coded.{fold_cells}
use Rattle.coded.specs.Reading.{Read}
use Rattle.coded.proofs.Reading.{accepted_read}
use Rattle.coded.proofs.Complete.{built_accepted}
use Rattle.theorems.specs.Inputs.{Input, plain, groups, built, plan_area, graph_value}
use Rattle.theorems.proofs.Folding.{stages_there}

-- Reading the written words of a folded whole plan gives every endpoint's graph value: for each endpoint pin but the constant there is a stage, a
-- word of its list and a position of that word whose cell holds the pin and whose bit is its graph value, for any leaf and given bits. Plan,
-- words and counts stand as the placer leaves them, whatever follows them in their areas.
pub endpoints_read : (I : Input) (L : ℕ) (ss : List Stage) → built I (rooms I.K L) ≡ whole ss → (bits more more' : List ℕ) (q : ℕ) → 0 < q → Ends q (groups I) →
    Read I.K (length ss) (plan_area I L ss) (words_of ss ++ more) (counts_of ss ++ more') (fold_cells I.K (plan_area I L ss) bits) q (as_number (graph_value I bits q))
endpoints_read I L ss e bits more more' q b i =
    accepted_read (plain I) (plan_area I L ss) (words_of ss ++ more) (counts_of ss ++ more') (length ss) (stages_there I L ss e) (built_accepted I.rule (plain I) L ss e more more') bits q b i
