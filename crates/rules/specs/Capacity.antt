-- Where the rules run out of capacity: what a person counts for the refusals 6, 7, 8 and 9. Assumes nothing.
use Rattle.std.specs.Prelude.{ℕ, suc, ◌+◌, ◌-◌, ◌*◌, ◌≤◌, ◌<◌, ◌≡◌, ◌≢◌, not, ◌||◌, List, [], length}
use Rattle.rules.specs.Lists.{mem, count}
use Rattle.rules.specs.Cells.{filled, level_one_size, word_limit, row}
use Rattle.rules.specs.Graph.{Node}
use Rattle.rules.specs.Records.{Group}
use Rattle.rules.specs.Reservation.{memories, duplicates, reserved}
use Rattle.rules.specs.Traversal.{WordRule, Setting, setting}
use Rattle.rules.specs.Placing.{tree, needed_of, filled_plan}
use Rattle.rules.specs.Ending.{written}
use Rattle.rules.specs.Build.{words_of}
use Rattle.rules.specs.States.{state, after, first_stages}

-- 6: no word would be left, or 4m + d exceeds W
pub data ReservationOver (K : ℕ) (groups : List Group) : Type 0 where
  no_word_left : word_limit K ≤ reserved groups → ReservationOver K groups
  over_limit : word_limit K < 4 * memories groups + duplicates groups → ReservationOver K groups

-- the level-1 cells filled plus the needed pins of a plan
unfoldable pub crowd : Setting → List ℕ → ℕ
crowd X pl = count filled (row X.K 1 pl) + length (needed_of X pl)

-- the same where rule 9 starts: the level-1 cells filled, and the needed pins left, which are neither realised nor in the tree. Their sum is the
-- crowd of rules 2 to 7's plan (proofs/Stage/Crowd.antt)
unfoldable pub ones_then : Setting → List ℕ → ℕ
ones_then X pl = count filled (row X.K 1 (written X pl).plan)

unfoldable pub needs_left : Setting → List ℕ → ℕ
needs_left X pl = count (λ p. not (mem p (written X pl).real || mem p (tree X.K (written X pl).plan))) (needed_of X pl)

-- a stage with the plan of rules 2 to 7, where `spent` words are written in the stages before it. 7: with what rule 8 writes they exceed the
-- limit. 8: they don't, and the level-1 cells filled plus the needed pins are at least 2^(K-1)
pub data StageOver (X : Setting) (limit spent : ℕ) (pl : List ℕ) : ℕ → Type 0 where
  seven : limit < spent + length (written X pl).words → StageOver X limit spent pl 7
  eight : spent + length (written X pl).words ≤ limit → level_one_size X.K ≤ crowd X pl → StageOver X limit spent pl 8

-- s stages of a build are completed, and pins still wait
pub record Waits (rule : WordRule) (K : ℕ) (g : List Node) (given : List ℕ) (groups : List Group) (s : ℕ) (done waiting : List ℕ) : Type 0 where
  pub room : ℕ
  pub completed : after rule K g given groups s ≡ state done waiting room
  pub wait : waiting ≢ []

-- why a build with so many rooms is refused, by number and stage. 6: the reservation is over. 7, 8: s stages are completed, pins wait, a room is
-- left, and the next stage is over. 9: pins wait after as many completed stages as there are rooms
pub data Refused (rule : WordRule) (K : ℕ) (g : List Node) (given : List ℕ) (groups : List Group) (rooms : ℕ) : ℕ → ℕ → Type 0 where
  six : ReservationOver K groups → Refused rule K g given groups rooms 6 0
  over : {n s : ℕ} {done waiting : List ℕ} → Waits rule K g given groups s done waiting → s < rooms →
      StageOver (setting rule K g done waiting) (word_limit K - reserved groups) (length (words_of (first_stages rule K g given groups s))) (filled_plan (setting rule K g done waiting)) n →
      Refused rule K g given groups rooms n (suc s)
  nine : {s : ℕ} {done waiting : List ℕ} → Waits rule K g given groups s done waiting → s ≡ rooms → Refused rule K g given groups rooms 9 (suc s)
