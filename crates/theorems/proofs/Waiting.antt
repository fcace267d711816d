-- Demand 3, 1: what is left after some stages, and which stages these are. Assumes nothing.
use Prim.Native.Nat.{ℕ, ◌-◌, ◌≤◌}
use mathlib.Core.Path.{◌≡◌}
use mathlib.Core.Logic.{◌≢◌}
use mathlib.Core.List.{List, []}
use lib.ListN.{take}
use Rattle.rules.specs.Build.{Stage, whole}
use Rattle.rules.specs.States.{state, SoFar}
use Rattle.rules.specs.Depth.{deepest}
use Rattle.rules.proofs.Demand.{depth_falls}
use Rattle.rules.proofs.Stage.Refusals as refusals
use Rattle.theorems.specs.Inputs.{Input, graph, groups, D, remaining, built, after, first_stages}
use Rattle.theorems.proofs.Passing.{tall, small, valid, named}

-- If pins still wait after s completed stages, s is at most D and what remains is at most D - s gates deep.
pub waiting_falls : (I : Input) (s : ℕ) (done waiting : List ℕ) (room : ℕ) → after I s ≡ state done waiting room → waiting ≢ [] → (s ≤ D I) × (remaining I done waiting ≤ D I - s)
unfolding deepest
waiting_falls I s done waiting room e n = depth_falls I.rule I.K (graph I) (valid I) (tall I) (small I) I.given [] (groups I) (named I) s done waiting room e n

-- The s completed stages are `first_stages I s`, computed from the start by the rules. There are s of them; with s rooms or more the build is
-- these stages, and then what the rules make of the pins that still wait; and their words with those that may still be written are W - reserved.
pub so_far : (I : Input) (rooms s : ℕ) (done waiting : List ℕ) (room : ℕ) → s ≤ rooms → after I s ≡ state done waiting room → SoFar I.rule I.K (graph I) I.given (groups I) rooms s done waiting room
so_far I rooms s done waiting room h e = refusals.so_far I.rule I.K (graph I) I.given (groups I) rooms s done waiting room h e

-- Where the build is whole they are the first s stages of its plan.
pub first_stages_lem : (I : Input) (rooms s : ℕ) (ss : List Stage) → built I rooms ≡ whole ss → first_stages I s ≡ take s ss
first_stages_lem I rooms s ss e = refusals.first_stages_lem I.rule I.K (graph I) I.given (groups I) rooms s ss e
