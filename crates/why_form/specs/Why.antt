-- Why a job was refused. The pins taken back stage after stage, then the line of a refusal with 6, 7 or 8. A stage that is refused with 7 or 8
-- had its rules 2 to 7, so its pins stand before that line. An accepted job and one refused with 9 have no line but those of pins: the answer
-- says the rest. Assumes nothing.
use Rattle.std.specs.Prelude.{ℕ, zero, suc, ◌+◌, ◌-◌, ◌*◌, true, false, List, [], ◌∷◌, ◌++◌, leb, ltb, length}
use Rattle.rules.specs.Lists.{laid_over}
use Rattle.rules.specs.Cells.{level_one_size, word_limit, rooms}
use Rattle.rules.specs.Graph.{Node, graph_of}
use Rattle.rules.specs.Records.{Group, groups_of, waiting_of}
use Rattle.rules.specs.Reservation.{memories, duplicates, reserved, reservable}
use Rattle.rules.specs.Checks.{work_size, refusal_of}
use Rattle.rules.specs.Traversal.{WordRule, Setting, setting}
use Rattle.rules.specs.Placing.{filled_plan}
use Rattle.rules.specs.Ending.{written, refused, stage, one_stage}
use Rattle.rules.specs.Capacity.{ones_then, needs_left}
use Rattle.rules.specs.Build.{Areas, Reply, refuse, refuse_checked, reply, areas_after, stages_of, coded_stages, answer_of, sizes_right}
use Rattle.stage_notes.specs.Taken.{Taken, taken_back}

-- ---- lines

-- a pin taken back; or a refusal's number, its stage (0 for 6), the limit, the count over it, and what the count is made of
pub data Line : Type 0 where
  back : (at pin needed ones pins : ℕ) → Line
  over : (number at limit count first second : ℕ) → Line

-- as six numbers: the first is 1 for a pin taken back, else 6, 7 or 8
unfoldable pub numbers : Line → List ℕ
numbers (back k p n o d) = 1 ∷ k ∷ p ∷ n ∷ o ∷ d ∷ []
numbers (over n k l c a b) = n ∷ k ∷ l ∷ c ∷ a ∷ b ∷ []

unfoldable pub numbers_of : List Line → List ℕ
numbers_of [] = []
numbers_of (x ∷ xs) = numbers x ++ numbers_of xs

-- 6, by the first of its two tests that fails: reserved against W - 1, 4m + d against W; of m memories and d duplicates
unfoldable pub sixth : ℕ → List Group → Line
sixth K groups = elim (ltb (reserved groups) (word_limit K)) [
  | true ↦ over 6 0 (word_limit K) (4 * memories groups + duplicates groups) (memories groups) (duplicates groups)
  | false ↦ over 6 0 (word_limit K - 1) (reserved groups) (memories groups) (duplicates groups)
]

-- 7: the words left, the words wanted
unfoldable pub seventh : Setting → ℕ → ℕ → List ℕ → Line
seventh X k room pl = over 7 k room (length (written X pl).words) 0 0

-- 8: 2^(K-1) - 1, and level-1 cells filled plus needed pins left, with both
unfoldable pub eighth : Setting → ℕ → List ℕ → Line
eighth X k pl = over 8 k (level_one_size X.K - 1) (ones_then X pl + needs_left X pl) (ones_then X pl) (needs_left X pl)

-- a stage that is over
unfoldable pub over_line : Setting → ℕ → ℕ → List ℕ → Line
over_line X k room pl = elim (ltb room (length (written X pl).words)) [ true ↦ seventh X k room pl | false ↦ eighth X k pl ]

unfoldable pub back_lines : ℕ → List Taken → List Line
back_lines k [] = []
back_lines k (t ∷ ts) = back k t.pin t.needed t.ones t.pins ∷ back_lines k ts

-- ---- the whole build

-- stage k and what follows it, as in `stages`
unfoldable pub why_from : WordRule → ℕ → List Node → ℕ → ℕ → List ℕ → List ℕ → ℕ → List Line
why_from rule K g zero k done waiting room = []
why_from rule K g (suc r) k done [] room = []
why_from rule K g (suc r) k done (w ∷ ws) room =
    let X = setting rule K g done (w ∷ ws) in
    back_lines k (taken_back X) ++ elim (one_stage rule K g done (w ∷ ws) room) [
      | refused n ↦ over_line X k room (filled_plan X) ∷ []
      | stage plan words realised waiting ↦ why_from rule K g r (suc k) (realised ++ done) waiting (room - length words)
    ]

unfoldable pub why : WordRule → ℕ → List Node → List ℕ → List Group → ℕ → List Line
why rule K g given groups rooms =
    elim (reservable K groups) [
      | true ↦ why_from rule K g rooms 1 given (waiting_of groups []) (word_limit K - reserved groups)
      | false ↦ sixth K groups ∷ []
    ]

-- ---- the call

-- the build's answer, how many lines, the caller's list, the areas
pub record Explained : Type 0 where
  pub reply : Reply
  pub lines : ℕ
  pub list : List ℕ
  pub areas : Areas

-- the lines of records that passed the checks
unfoldable pub why_of : WordRule → ℕ → (gates given records : List ℕ) → ℕ → List Line
why_of rule K gates given records size = why rule K (graph_of gates) given (groups_of records) (rooms K size)

-- after 1 to 5 and 23 nothing is changed; 21 where the list is too short: it is unchanged, the areas are as after 6
unfoldable pub explainer : WordRule → ℕ → (gates given records : List ℕ) → (list : List ℕ) → Areas → Explained
explainer rule K gates given records list a =
    elim (refusal_of K (sizes_right K gates records a) gates given records) [
      | zero ↦
          let b = answer_of rule K gates given records (length a.plan) in
          let ls = why_of rule K gates given records (length a.plan) in
          elim (leb (6 * length ls) (length list)) [
            | true ↦ record { reply = reply b; lines = length ls; list = laid_over (numbers_of ls) list; areas = areas_after K (work_size gates records) (coded_stages K (graph_of gates) (stages_of b)) a }
            | false ↦ record { reply = refuse 21 0; lines = 0; list = list; areas = areas_after K (work_size gates records) [] a }
          ]
      | suc n ↦ record { reply = refuse_checked (suc n) gates; lines = 0; list = list; areas = a }
    ]
