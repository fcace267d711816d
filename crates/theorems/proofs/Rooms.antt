-- Demand 3, 2: rooms, and what each refusal says. Assumes nothing.
use Prim.Native.Nat.{ℕ, ◌<◌, ◌≤◌}
use mathlib.Core.Path.{◌≡◌}
use mathlib.Core.Logic.{◌⊎◌}
use mathlib.Core.List.{[]}
use lib.ListN.{length}
use Rattle.rules.specs.Lists.{In}
use Rattle.rules.specs.Build.{refusal}
use Rattle.rules.specs.Depth.{depth, deepest}
use Rattle.rules.proofs.Lists.Members.{in_nil}
use Rattle.rules.proofs.Demand as demand
use Rattle.theorems.specs.Inputs.{Input, graph, groups, D, built, Refused}
use Rattle.theorems.proofs.Passing.{tall, small, valid, named}

-- D is at most what it is where no pin is given, as it was counted once.
pub no_deeper : (I : Input) → D I ≤ deepest (graph I) [] (groups I)
no_deeper I = demand.deepest_sub (graph I) [] I.given (λ q i. in_nil q i) (groups I)

-- An endpoint that is itself given counts 0.
pub given_counts_none : (I : Input) (q : ℕ) → In q I.given → depth (length (graph I)) (graph I) I.given q ≡ 0
given_counts_none I q i = demand.depth_stop (graph I) I.given (length (graph I)) q i

-- With D + 1 rooms a build ends in a whole plan, or in 6, 7 or 8: never in 9.
pub rooms_enough : (I : Input) (rooms : ℕ) → D I < rooms → (n k : ℕ) → built I rooms ≡ refusal n k → (n ≡ 6) ⊎ ((n ≡ 7) ⊎ (n ≡ 8))
unfolding deepest
rooms_enough I rooms h n k e = demand.rooms_enough I.rule I.K (graph I) (valid I) (tall I) (small I) I.given [] (groups I) (named I) rooms n k h e

-- A refusal is given exactly where the rules run out of capacity, by what a person counts (`Refused` in `crates/rules/specs/Capacity.antt`).
-- 6: the reservation is over. 7 in stage s + 1: s stages are completed, pins wait, a room is left, and the words written in these stages and by
-- rule 8 of this one exceed W - reserved. 8: they don't, and the level-1 cells filled after rules 2 to 7 plus the needed pins are at least
-- 2^(K-1). 9: pins wait after as many completed stages as there are rooms.
pub refused_where : (I : Input) (rooms n k : ℕ) → built I rooms ≡ refusal n k → Refused I rooms n k
refused_where I = demand.refused_where I.rule I.K (graph I) (valid I) (tall I) (small I) I.given [] (groups I) (named I)

-- And where these counts are over, the build is refused with that number at that stage.
pub refusal_given : (I : Input) (rooms n k : ℕ) → Refused I rooms n k → built I rooms ≡ refusal n k
refusal_given I rooms n k h = demand.refusal_given I.rule I.K (graph I) (valid I) (tall I) (small I) I.given [] (groups I) (named I) rooms h
