-- Where the two word rules part: the first stage that they finish differently, and the idle runs that tell it. Assumes nothing.
use Rattle.std.specs.Prelude.{ℕ, zero, suc, ◌-◌, Bool, true, false, ◌&&◌, List, [], ◌∷◌, ◌++◌, eqb, length}
use Rattle.rules.specs.Lists.{Found, nothing, found, is_nil, same_list}
use Rattle.rules.specs.Cells.{word_limit}
use Rattle.rules.specs.Graph.{Node}
use Rattle.rules.specs.Records.{Group, waiting_of}
use Rattle.rules.specs.Reservation.{reserved, reservable}
use Rattle.rules.specs.Traversal.{every_run, needed_runs, Setting, setting}
use Rattle.rules.specs.Placing.{filled_plan}
use Rattle.rules.specs.Ending.{Sparse, sparse_runs, Put, put_run, goes_on, Stage?, refused, stage, in_need, last_stage, one_stage}

-- two outcomes of one stage: the same words, and the same endpoints left waiting in the same order; or refused by the same number
unfoldable pub alike : Stage? → Stage? → Bool
alike (refused m) (refused n) = eqb m n
alike (refused m) (stage plan words realised waiting) = false
alike (stage plan words realised waiting) (refused n) = false
alike (stage plan words realised waiting) (stage plan2 words2 realised2 waiting2) = same_list words words2 && same_list waiting waiting2

-- from stage k on, with r rooms left: the first stage whose outcomes under the two rules, from one state, are not alike. While they are alike the
-- state behind the stage is the same, so that the next one starts from one state too
unfoldable pub parts_from : ℕ → List Node → ℕ → ℕ → List ℕ → List ℕ → ℕ → Found
parts_from K g zero k done waiting room = nothing
parts_from K g (suc r) k done [] room = nothing
parts_from K g (suc r) k done (w ∷ ws) room =
    elim (alike (one_stage every_run K g done (w ∷ ws) room) (one_stage needed_runs K g done (w ∷ ws) room)) [
      | false ↦ found k
      | true ↦ elim (one_stage needed_runs K g done (w ∷ ws) room) [
        | refused n ↦ nothing
        | stage plan words realised waiting ↦ parts_from K g r (suc k) (realised ++ done) waiting (room - length words)
      ]
    ]

-- of a build: the number, from 1, of the first stage that the two rules finish differently; nothing if there is none within the rooms
unfoldable pub parts : ℕ → List Node → (given : List ℕ) → List Group → (rooms : ℕ) → Found
parts K g given groups rooms =
    elim (reservable K groups) [
      | true ↦ parts_from K g rooms 1 given (waiting_of groups []) (word_limit K - reserved groups)
      | false ↦ nothing
    ]

-- does the old rule write an idle run, one that starts with no needed waiting pin left
unfoldable pub idle_from : Setting → Bool → List Sparse → Put → Bool
idle_from X last [] s = false
idle_from X last (r ∷ rs) s =
    elim (goes_on every_run last r.filled (length s.left)) [
      | true ↦ elim (is_nil s.left) [ true ↦ true | false ↦ idle_from X last rs (put_run X r s) ]
      | false ↦ false
    ]

-- in a stage, given the plan of rules 2 to 7
unfoldable pub idle : Setting → List ℕ → Bool
idle X pl = idle_from X (last_stage X pl) (sparse_runs X.K pl) (record { plan = pl; left = in_need X pl; real = []; words = [] })

unfoldable pub idle_stage : ℕ → List Node → (done waiting : List ℕ) → Bool
idle_stage K g done waiting = let X = setting every_run K g done waiting in idle X (filled_plan X)
