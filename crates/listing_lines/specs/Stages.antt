-- The stages of a plan that stand in lent areas. Assumes nothing.
use Rattle.std.specs.Prelude.{List, [], ◌∷◌, ℕ, zero, suc, ◌+◌, ◌*◌, ◌^◌, ◌≤◌, ◌<◌, length, take, drop, get_or}
use Rattle.rules.specs.Lists.{sum}
use Rattle.rules.specs.Build as rules

-- n stages that stand one after the other: cells, a stage's size each, and words by their counts
unfoldable pub stages_in : ℕ → ℕ → (plan words counts : List ℕ) → List rules.Stage
stages_in size zero plan words counts = []
stages_in size (suc n) plan words counts =
    record { plan = take size plan; words = take (get_or counts 0 0) words }
    ∷ stages_in size n (drop size plan) (drop (get_or counts 0 0) words) (drop 1 counts)

-- stage k, from 0
unfoldable pub stage_in : ℕ → ℕ → (plan words counts : List ℕ) → rules.Stage
stage_in size k plan words counts = record { plan = take size (drop (k * size) plan); words = take (get_or counts k 0) (drop (sum (take k counts)) words) }

-- n stages stand there
pub record Holds (size n : ℕ) (plan words counts : List ℕ) : Type 0 where
  pub cells : n * size ≤ length plan
  pub counted : n ≤ length counts
  pub spent : sum (take n counts) ≤ length words

-- stage k does, with `count` words from `from` on
pub record HoldsOne (size k from count : ℕ) (plan words : List ℕ) : Type 0 where
  pub few : k < 2 ^ 63
  pub cells : k * size + size ≤ length plan
  pub spent : from + count ≤ length words
