-- Rules 8 to 11 after the loop: what they find and leave. pl is the stage, w the work area. Assumes nothing.
use Rattle.std.specs.Prelude.{Result, IfOk, IfErr, ◌≡◌, List, [], ◌∷◌, ◌++◌, ℕ, ◌+◌, ◌*◌, ◌^◌, ◌<◌, ◌≤◌, length, get_or}
use Rattle.rules.specs.Lists.{found, count, laid_at, In}
use Rattle.rules.specs.Cells.{filled, row_at, row, first_empty}
use Rattle.rules.specs.Traversal.{Setting, level_at, needed_runs}
use Rattle.rules.specs.Placing.{tree, needed_of}
use Rattle.rules.specs.Ending.{plan, Stage?, refused, stage, close, in_need, last_stage, written, rest, finish}
use Rattle.rules.specs.Capacity.{crowd}
use Rattle.rules.specs.Inside.Plans.{Fair}
use Rattle.columns.specs.Fields.{ORDER, DONE, LEVEL, WAITING, CELLS, REVERSE, NEEDED, LISTED, STACK, PHASE, PLACE, MARK, SPARE, TAIL}
use Rattle.columns.specs.Area.{Room, Frame}
use Rattle.columns.specs.Lists.{Holds, Marks, Clear, Marked, Placed}
use Rattle.stage_walk.specs.Stands.{Context, Set, Tally}
use Rattle.stage_tree.specs.Bits.{Standing}
use Rattle.stage_runs.specs.declared.Spent.{Spent}
use Rattle.stage_ending.specs.declared.last.Kept.{Kept}
use Rattle.stage_ending.specs.Close.{Gone}
use Rattle.refusals.specs.Numbers.{number_of}
use Rattle.stage.specs.declared.finish.Outcome.{Outcome}
use Rattle.stage.specs.declared.finish.Stopped.{Stopped}
use Rattle.stage.specs.Stopped.{refusal_of, Tells}

-- the plan of rules 2 to 7 stands; o pins are listed, n wait, q are needed
pub record FinishAt (C : Context) (m K half o n q : ℕ) (at room : ℕ) (gates pl w words : List ℕ) : Type 0 where
  pub stands : Standing C m 1 gates pl w
  pub set : Set C m n o gates w
  pub needed : Holds NEEDED m q (needed_of C.X pl) w
  pub ruled : C.X.rule ≡ needed_runs
  pub marks : Clear MARK m w
  pub spare : Clear SPARE m w
  pub tail : (j : ℕ) → j < 256 → get_or w (16 * m + j) 0 ≡ 0
  pub height : K ≡ C.X.K
  pub row : half ≡ row_at K 1
  pub fits : at + room ≤ length words
  pub small : length words < 2 ^ 63

-- only the columns fs, the tail's numbers before `to`, the stage and `room` words behind `at` changed
pub record Changed (fs : List ℕ) (to m at room : ℕ) (pl w words pl' w' words' : List ℕ) : Type 0 where
  pub frame : Frame fs m w w'
  pub past : (j : ℕ) → to ≤ j → get_or w' (16 * m + j) 0 ≡ get_or w (16 * m + j) 0
  pub size : length pl' ≡ length pl
  pub len : length words' ≡ length words
  pub before : (i : ℕ) → i < at → get_or words' i 0 ≡ get_or words i 0
  pub behind : (i : ℕ) → at + room ≤ i → get_or words' i 0 ≡ get_or words i 0

-- a stage s with words ws and the pins `left` waiting: its filled cells are told, the words stand behind `at`, realised pins are marked, counts and marks are gone
pub record Whole (C : Context) (m at room : ℕ) (s : Stage?) (words : List ℕ) (e : Outcome) (pl' w' words' : List ℕ) : Type 0 where
  pub ws : List ℕ
  pub left : List ℕ
  pub is : s ≡ stage pl' ws (tree C.X.K pl') left
  pub total : e.cells ≡ count filled pl'
  pub count : e.words ≡ length ws
  pub fit : length ws ≤ room
  pub wrote : words' ≡ laid_at at ws words
  pub done : Marks DONE m (tree C.X.K pl' ++ C.X.done) w'
  pub waiting : Placed WAITING PLACE m e.waiting left w'
  pub cells : Clear CELLS m w'
  pub marks : Clear MARK m w'
  pub spare : Clear SPARE m w'
  pub tail : (j : ℕ) → j < 259 → get_or w' (16 * m + j) 0 ≡ 0

abbrev pub touched : List ℕ
touched = DONE ∷ LEVEL ∷ WAITING ∷ CELLS ∷ REVERSE ∷ LISTED ∷ STACK ∷ PHASE ∷ PLACE ∷ MARK ∷ SPARE ∷ TAIL ∷ []

-- what refuses the stage s, pl being the plan of rules 2 to 7
pub record Refuses (X : Setting) (pl : List ℕ) (s : Stage?) (e : Stopped) : Type 0 where
  pub is : s ≡ refused (number_of (refusal_of e))
  pub tells : Tells X pl e

-- the stage of rules 2 to 7's plan pl₀, and what the walks wrote at its pins is gone; or what refuses it
pub record Finished (C : Context) (m at room : ℕ) (pl₀ pl w words : List ℕ) (e : Result Outcome Stopped) (pl' w' words' : List ℕ) : Type 0 where
  pub changed : Changed touched 259 m at room pl w words pl' w' words'
  pub refuses : IfErr e (Refuses C.X pl₀ (finish C.X room pl₀))
  pub whole : IfOk e (λ o. Whole C m at room (finish C.X room pl₀) words o pl' w' words')
  pub gone : IfOk e (λ o. Gone m C.X.order w w')

-- ---- between the rules: pl is the plan before rule 8, pl' the one that stands

-- rule 8 left s, and test 7 is passed
pub record Midway (C : Context) (pl : List ℕ) (m K half o n at room : ℕ) (s : Spent) (pl' w words : List ℕ) : Type 0 where
  pub area : Room m w
  pub graph : length C.X.g ≡ m
  pub tally : Tally C m pl' w
  pub fair : Fair C.X 1 pl'
  pub done : Marks DONE m C.X.done w
  pub waiting : Placed WAITING PLACE m n C.X.waiting w
  pub order : Holds ORDER m o C.X.order w
  pub is_last : s.last ≡ last_stage C.X pl
  pub needed : Marks SPARE m (in_need C.X pl) w
  pub realised : Marked STACK MARK m s.real (written C.X pl).real w
  pub waits : (x : ℕ) → In x (written C.X pl).real → In x C.X.waiting
  pub count : s.words ≡ length (written C.X pl).words
  pub fit : s.words ≤ room
  pub wrote : words ≡ laid_at at (written C.X pl).words words
  pub tail : (j : ℕ) → j < 256 → get_or w (16 * m + j) 0 ≡ 0
  pub height : K ≡ C.X.K
  pub row : half ≡ row_at K 1
  pub fits : at + room ≤ length words
  pub small : length words < 2 ^ 63

-- before rule 9; `many` is the crowd of the plan before rule 8
pub record RestingAt (C : Context) (pl : List ℕ) (m K half o n q many at room : ℕ) (s : Spent) (gates pl' w words : List ℕ) : Type 0 where
  pub mid : Midway C pl m K half o n at room s pl' w words
  pub stands : Standing C m 1 gates pl' w
  pub is_plan : pl' ≡ (written C.X pl).plan
  pub list : Holds NEEDED m q (needed_of C.X pl) w
  pub pins : (x : ℕ) → In x (needed_of C.X pl) → In x C.X.seen × (level_at C.X x ≤ 1)
  pub crowded : many ≡ crowd C.X pl
  pub long : 2 ^ C.X.K ≤ length pl
  pub few : many ≤ 131072

-- before rule 10: test 8 is passed
pub record LastingAt (C : Context) (pl : List ℕ) (m K half o n at room : ℕ) (s : Spent) (pl' w words : List ℕ) : Type 0 where
  pub mid : Midway C pl m K half o n at room s pl' w words
  pub rested : rest C.X pl ≡ plan pl'
  pub free : (c : ℕ) × (first_empty 0 (row C.X.K 1 pl') ≡ found c)

-- before rule 11: the stage's words ws, and the endpoints `real` that leave
pub record Lasting (C : Context) (pl : List ℕ) (m at room : ℕ) (s : Spent) (pl' w words : List ℕ) (k : Kept) (w' words' : List ℕ) : Type 0 where
  pub ws : List ℕ
  pub real : List ℕ
  pub is : finish C.X room pl ≡ close C.X pl' ws real
  pub longer : s.words ≤ k.words
  pub count : k.words ≡ length ws
  pub fit : length ws ≤ room
  pub wrote : words' ≡ laid_at at ws words
  pub realised : Marked STACK MARK m k.real real w'
  pub waits : (x : ℕ) → In x real → In x C.X.waiting
  pub frame : Frame (STACK ∷ MARK ∷ TAIL ∷ []) m w w'
  pub past : (j : ℕ) → 256 ≤ j → get_or w' (16 * m + j) 0 ≡ get_or w (16 * m + j) 0

-- after rule 11, or a refusal
pub record Ends (C : Context) (pl : List ℕ) (m at room : ℕ) (s : Spent) (pl' w words : List ℕ) (e : Result Outcome Stopped) (pl'' w' words' : List ℕ) : Type 0 where
  pub finished : Finished C m at room pl pl' w words e pl'' w' words'
  pub longer : IfOk e (λ o. s.words ≤ o.words)
