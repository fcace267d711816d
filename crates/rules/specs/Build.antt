-- The build: stage after stage, refusals 6 to 9, and what every lent area holds at exit. Assumes nothing.
use Rattle.std.specs.Prelude.{ℕ, zero, suc, ◌-◌, Bool, true, false, List, [], ◌∷◌, ◌++◌, length, get_or, replicate}
use Rattle.rules.specs.Lists.{count, padded, laid_over}
use Rattle.rules.specs.Cells.{empty, filled, word_limit, rooms}
use Rattle.rules.specs.Graph.{Node, graph_of}
use Rattle.rules.specs.Records.{Group, groups_of, waiting_of}
use Rattle.rules.specs.Reservation.{reserved, reservable}
use Rattle.rules.specs.Traversal.{WordRule}
use Rattle.rules.specs.Checks.{work_size, areas_sized, pin_shown, refusal_of}
use Rattle.rules.specs.Ending.{refused, stage, one_stage}
use Rattle.rules.specs.Coded.{coded}

-- a stage: its cells and its words
pub record Stage : Type 0 where
  pub plan : List ℕ
  pub words : List ℕ

-- a refusal's number and stage, or a whole plan
pub data Answer : Type 0 where
  refusal : (number at : ℕ) → Answer
  whole : List Stage → Answer

unfoldable pub more : Stage → Answer → Answer
more s (refusal n k) = refusal n k
more s (whole ss) = whole (s ∷ ss)

-- some stages in front of an answer
unfoldable pub before : List Stage → Answer → Answer
before [] a = a
before (s ∷ ss) a = more s (before ss a)

-- stage k and what follows it, with r rooms left and `room` words that may still be written
unfoldable pub stages : WordRule → ℕ → List Node → ℕ → ℕ → List ℕ → List ℕ → ℕ → Answer
stages rule K g zero k done [] room = whole []
stages rule K g zero k done (w ∷ ws) room = refusal 9 k
stages rule K g (suc r) k done [] room = whole []
stages rule K g (suc r) k done (w ∷ ws) room =
    elim (one_stage rule K g done (w ∷ ws) room) [
      | refused n ↦ refusal n k
      | stage plan words realised waiting ↦
          more (record { plan = plan; words = words }) (stages rule K g r (suc k) (realised ++ done) waiting (room - length words))
    ]

-- the reservation, then the stages until no pin waits
unfoldable pub build : WordRule → ℕ → List Node → List ℕ → List Group → ℕ → Answer
build rule K g given groups rooms =
    elim (reservable K groups) [
      | true ↦ stages rule K g rooms 1 given (waiting_of groups []) (word_limit K - reserved groups)
      | false ↦ refusal 6 0
    ]

-- stage i of a plan, from 0; past its end a stage of nothing
unfoldable pub stage_of : List Stage → ℕ → Stage
stage_of ss i = get_or ss i (record { plan = []; words = [] })

-- the cells, the words and the counts of words, stage after stage
unfoldable pub cells_of : List Stage → List ℕ
cells_of [] = []
cells_of (s ∷ ss) = s.plan ++ cells_of ss

unfoldable pub words_of : List Stage → List ℕ
words_of [] = []
words_of (s ∷ ss) = s.words ++ words_of ss

unfoldable pub counts_of : List Stage → List ℕ
counts_of [] = []
counts_of (s ∷ ss) = length s.words ∷ counts_of ss

-- the answer: number, stages and words (both 0 on refusal), the refused stage from 1 (0 unless 7, 8, 9), the pin shown (0 unless 23), and the
-- cells that the pins kept fill in all stages (0 on refusal): so many are filled (proofs/Build/Costs.antt)
pub record Reply : Type 0 where
  pub number : ℕ
  pub stages : ℕ
  pub words : ℕ
  pub stage : ℕ
  pub pin : ℕ
  pub cells : ℕ

unfoldable pub refuse : ℕ → ℕ → Reply
refuse n k = record { number = n; stages = 0; words = 0; stage = k; pin = 0; cells = 0 }

-- what the checks refuse
unfoldable pub refuse_checked : ℕ → List ℕ → Reply
refuse_checked n gates = record { number = n; stages = 0; words = 0; stage = 0; pin = pin_shown n gates; cells = 0 }

unfoldable pub reply : Answer → Reply
reply (refusal n k) = refuse n k
reply (whole ss) = record { number = 0; stages = length ss; words = length (words_of ss); stage = 0; pin = 0; cells = count filled (cells_of ss) }

-- the lent areas
pub record Areas : Type 0 where
  pub plan : List ℕ
  pub words : List ℕ
  pub counts : List ℕ
  pub work : List ℕ

-- what they hold after some stages: unused plan and word numbers the empty mark, unused counts 0, the work area 0 as far as it counts;
-- numbers past an area's size as they were
unfoldable pub areas_after : ℕ → ℕ → List Stage → Areas → Areas
areas_after K need ss a = record {
  plan = padded (length a.plan) empty (cells_of ss);
  words = laid_over (padded (word_limit K) empty (words_of ss)) a.words;
  counts = laid_over (padded (rooms K (length a.plan)) 0 (counts_of ss)) a.counts;
  work = laid_over (replicate need 0) a.work;
}

-- the stages of a whole plan; a refused build leaves none
unfoldable pub stages_of : Answer → List Stage
stages_of (refusal n k) = []
stages_of (whole ss) = ss

-- what a user is handed: the same stages, their pins as cells with their inversions
unfoldable pub coded_stages : ℕ → List Node → List Stage → List Stage
coded_stages K g [] = []
coded_stages K g (s ∷ ss) = record { plan = coded K g s.plan; words = s.words } ∷ coded_stages K g ss

-- answer and areas together
pub record Outcome : Type 0 where
  pub reply : Reply
  pub areas : Areas

-- the build of records that passed the checks
unfoldable pub answer_of : WordRule → ℕ → (gates given records : List ℕ) → ℕ → Answer
answer_of rule K gates given records size = build rule K (graph_of gates) given (groups_of records) (rooms K size)

unfoldable pub sizes_right : ℕ → (gates records : List ℕ) → Areas → Bool
sizes_right K gates records a = areas_sized K (work_size gates records) (length a.plan) (length a.words) (length a.counts) (length a.work)

-- the whole call: after 1 to 5 and 23 nothing is changed
unfoldable pub placer : WordRule → ℕ → (gates given records : List ℕ) → Areas → Outcome
placer rule K gates given records a =
    elim (refusal_of K (sizes_right K gates records a) gates given records) [
      | zero ↦
          let b = answer_of rule K gates given records (length a.plan) in
          record { reply = reply b; areas = areas_after K (work_size gates records) (coded_stages K (graph_of gates) (stages_of b)) a }
      | suc n ↦ record { reply = refuse_checked (suc n) gates; areas = a }
    ]
