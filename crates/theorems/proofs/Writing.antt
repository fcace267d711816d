-- Demand 3, 5: every endpoint is written. Assumes nothing.
use Prim.Native.Nat.{ℕ, suc, ◌<◌}
use mathlib.Core.Path.{◌≡◌}
use mathlib.Core.Bool.{Bool}
use mathlib.Core.List.{List, [], ◌∷◌}
use native.Mathlib.Omega.{arith}
use Rattle.rules.specs.Graph.{Node}
use Rattle.rules.specs.Build.{Stage, whole, stage_of}
use Rattle.rules.specs.Fold.{first_load, load_from}
use Rattle.rules.proofs.Fold.Whole.{above_zero}
use Rattle.rules.proofs.Written.Writes.{Written, here, there}
use Rattle.rules.specs.Records.{Ends}
use Rattle.rules.proofs.Demand.{Right, whole_written}
use Rattle.theorems.specs.Inputs.{Input, graph, groups, built}
use Rattle.theorems.specs.Reading.{Shown}
use Rattle.theorems.proofs.Passing.{tall, small, valid, named}
use Rattle.theorems.proofs.Folding.{Loaded, right}

later_shown : {K q : ℕ} {s : Stage} {ss : List Stage} → Shown K ss q → Shown K (s ∷ ss) q
unfolding stage_of
later_shown t = record { stage = suc t.stage; built = omega (arith, t.built); cell = t.cell; written = t.written }

shown : (K : ℕ) (g : List Node) (given bits : List ℕ) (q : ℕ) (load : ℕ → Bool) (held : ℕ → Type 0) {ss : List Stage} → Right K g given bits load held ss → Written K q ss → Shown K ss q
unfolding stage_of
shown K g given bits q load held R (here {s = s} t) =
    record { stage = 0; built = omega arith; cell = record { position = t.0; low = above_zero s.plan t.0 q R.0.zeroth t.2 t.3; high = t.1; holds = t.2 }; written = t.4 }
shown K g given bits q load held R (there {s = s} w) = later_shown (shown K g given bits q (load_from K g s.plan load) _ R.1 w)

-- Every endpoint pin but the constant stands in a written word: there is a stage, a word in its list and a cell of that word that holds the pin.
pub endpoints_written : (I : Input) (rooms : ℕ) (ss : List Stage) → built I rooms ≡ whole ss → (q : ℕ) → 0 < q → Ends q (groups I) → Shown I.K ss q
endpoints_written I rooms ss e q b i =
    shown I.K (graph I) I.given [] q (first_load (graph I) I.given []) (Loaded I) (right I rooms ss e [])
    (whole_written I.rule I.K (graph I) (valid I) (tall I) (small I) I.given [] (groups I) (named I) rooms ss e q b i)
