-- The stages of a build, and what the lent areas hold between two of them. Assumes nothing.
use Rattle.std.specs.Prelude.{◌≡◌, Result, IfOk, IfErr, List, ℕ, suc, ◌+◌, ◌-◌, ◌*◌, ◌^◌, ◌<◌, ◌≤◌, length, get_or}
use Rattle.rules.specs.Lists.{count, padded}
use Rattle.rules.specs.Cells.{empty, filled, word_limit, row_at, stage_size}
use Rattle.rules.specs.Graph.{Node, graph_of}
use Rattle.rules.specs.Traversal.{WordRule, Setting, setting, needed_runs}
use Rattle.rules.specs.Placing.{filled_plan}
use Rattle.rules.specs.Ending.{one_stage}
use Rattle.rules.specs.States.{state, after_from}
use Rattle.rules.specs.Build as rules
use Rattle.rules.specs.Inside.Walks.{rank, Ready}
use Rattle.rules.specs.Loops.{Valid}
use Rattle.columns.specs.Fields.{DONE, WAITING, CELLS, PLACE, MARK}
use Rattle.columns.specs.Area.{Room}
use Rattle.columns.specs.Lists.{Marks, Clear, Placed}
use Rattle.stage_walk.specs.Stands.{Fresh}
use Rattle.stage_notes.specs.Notes.{notes, stage_notes}
use Rattle.refusals.specs.Numbers.{number_of}
use Rattle.stage.specs.declared.finish.Outcome.{Outcome}
use Rattle.stage.specs.declared.finish.Stopped.{Stopped}
use Rattle.stage.specs.Stopped.{refusal_of}
use Rattle.stage.specs.Finish.{Refuses}
use Rattle.placer.specs.declared.Built.{Built}
use Rattle.placer.specs.declared.Refused.{Refused}
use Rattle.placer.specs.Answers.{told}

-- what the stages start from: no value of the program
pub record Course : Type 0 where
  pub rule : WordRule
  pub K : ℕ
  pub g : List Node
  pub given : List ℕ
  pub waiting : List ℕ
  pub rooms : ℕ
  pub room : ℕ
  pub low : 6 ≤ K
  pub high : K ≤ 13
  pub valid : Valid g
  pub small : length g ≤ 65536
  pub ready : Ready g (rank g) waiting
  pub limit : room ≤ word_limit K

-- the answer that the stages give
unfoldable pub answer : Course → rules.Answer
answer C = rules.stages C.rule C.K C.g C.rooms 1 C.given C.waiting C.room

-- the work area between two stages: the pins done are marked, n pins wait, and what a stage finds empty is empty
pub record Between (m n : ℕ) (ds ps w : List ℕ) : Type 0 where
  pub area : Room m w
  pub done : Marks DONE m ds w
  pub waiting : Placed WAITING PLACE m n ps w
  pub fresh : Fresh m w
  pub cells : Clear CELLS m w
  pub marks : Clear MARK m w
  pub tail : (j : ℕ) → j < 259 → get_or w (16 * m + j) 0 ≡ 0

-- what the program has of the course
pub record Known (C : Course) (m K half : ℕ) (gates : List ℕ) : Type 0 where
  pub ruled : C.rule ≡ needed_runs
  pub height : K ≡ C.K
  pub row : half ≡ row_at K 1
  pub graph : C.g ≡ graph_of gates
  pub size : length C.g ≡ m
  pub pair : length gates ≡ 2 * m

-- k stages are complete, `at` words written, n pins wait
pub record Underway (C : Course) (m k at n : ℕ) (pl ws cs w : List ℕ) : Type 0 where
  pub ss : List rules.Stage
  pub done : List ℕ
  pub waiting : List ℕ
  pub reached : after_from C.rule C.K C.g k C.given C.waiting C.room ≡ state done waiting (C.room - at)
  pub same : answer C ≡ rules.before ss (rules.stages C.rule C.K C.g (C.rooms - k) (suc k) done waiting (C.room - at))
  pub ready : Ready C.g (rank C.g) waiting
  pub count : length ss ≡ k
  pub few : k ≤ C.rooms
  pub cells : length (rules.cells_of ss) ≡ k * stage_size C.K
  pub counted : length (rules.counts_of ss) ≡ k
  pub spent : length (rules.words_of ss) ≡ at
  pub fits : at ≤ C.room
  pub plan : pl ≡ padded (C.rooms * stage_size C.K) empty (rules.cells_of ss)
  pub words : ws ≡ padded (word_limit C.K) empty (rules.words_of ss)
  pub counts : cs ≡ padded C.rooms 0 (rules.counts_of ss)
  pub work : Between m n done waiting w

-- the lengths stay
pub record Kept (pl ws cs w pl' ws' cs' w' : List ℕ) : Type 0 where
  pub plan : length pl' ≡ length pl
  pub words : length ws' ≡ length ws
  pub counts : length cs' ≡ length cs
  pub work : length w' ≡ length w

-- ---- one stage: the next one, for which there is room

pub record OneAt (C : Course) (m K half : ℕ) (k n at room : ℕ) (gates pl ws cs w : List ℕ) : Type 0 where
  pub known : Known C m K half gates
  pub now : Underway C m k at n pl ws cs w
  pub left : room ≡ C.room - at
  pub waits : 0 < n
  pub more : k < C.rooms

-- what a stage tells: the pins taken back are noted in the tail; or what stops it
pub record StageTold (X : Setting) (m room : ℕ) (w : List ℕ) (r : Result Outcome Stopped) (w' : List ℕ) : Type 0 where
  pub noted : notes m w' ≡ stage_notes X (notes m w)
  pub refuses : IfErr r (Refuses X (filled_plan X) (one_stage X.rule X.K X.g X.done X.waiting room))

pub record One (C : Course) (m k at : ℕ) (pl ws cs w : List ℕ) (r : Result Outcome Stopped) (pl' ws' cs' w' : List ℕ) : Type 0 where
  pub kept : Kept pl ws cs w pl' ws' cs' w'
  pub refused : IfErr r (λ e. answer C ≡ rules.refusal (number_of (refusal_of e)) (suc k))
  pub on : IfOk r (λ o. Underway C m (suc k) (at + o.words) o.waiting pl' ws' cs' w')
  pub more : IfOk r (λ o. count filled pl' ≡ count filled pl + o.cells)
  pub told : (done waiting : List ℕ) (room : ℕ) → after_from C.rule C.K C.g k C.given C.waiting C.room ≡ state done waiting room →
      StageTold (setting C.rule C.K C.g done waiting) m room w r w'

-- ---- from stage k + 1 on

pub record StagesAt (C : Course) (m K half : ℕ) (rooms k at n room : ℕ) (gates pl ws cs w : List ℕ) : Type 0 where
  pub known : Known C m K half gates
  pub now : Underway C m k at n pl ws cs w
  pub all : rooms ≡ C.rooms
  pub short : rooms < 2 ^ 63
  pub left : room ≡ C.room

-- a whole plan stands in the areas
pub record Whole (C : Course) (ss : List rules.Stage) (pl ws cs : List ℕ) : Type 0 where
  pub plan : pl ≡ padded (C.rooms * stage_size C.K) empty (rules.cells_of ss)
  pub words : ws ≡ padded (word_limit C.K) empty (rules.words_of ss)
  pub counts : cs ≡ padded C.rooms 0 (rules.counts_of ss)

pub record Ran (C : Course) (pl ws cs w : List ℕ) (a : Result Built Refused) (pl' ws' cs' w' : List ℕ) : Type 0 where
  pub kept : Kept pl ws cs w pl' ws' cs' w'
  pub reply : told a ≡ rules.reply (answer C)
  pub whole : IfOk a (λ _. Whole C (rules.stages_of (answer C)) pl' ws' cs')
