-- One stage, rules 1 to 11: what it finds and leaves. pl is the stage, w the work area. Assumes nothing.
use Rattle.std.specs.Prelude.{Result, IfOk, IfErr, ◌≡◌, List, [], ◌∷◌, ℕ, ◌+◌, ◌*◌, ◌^◌, ◌<◌, ◌≤◌, length, get_or}
use Rattle.rules.specs.Cells.{row_at}
use Rattle.rules.specs.Placing.{filled_plan}
use Rattle.rules.specs.Inside.Lean as lean
use Rattle.rules.specs.Ending.{Stage?, one_stage}
use Rattle.rules.specs.Traversal.{needed_runs}
use Rattle.columns.specs.Fields.{ORDER, DONE, LEVEL, WAITING, CELLS, RANKED, STARTS, ENDS, REVERSE, NEEDED, LISTED, STACK, PHASE, PLACE, MARK, SPARE, TAIL}
use Rattle.columns.specs.Lists.{Clear}
use Rattle.stage_walk.specs.Stands.{Context, Begun, Fresh}
use Rattle.stage_notes.specs.Notes.{NOTES, NOTED, notes, stage_notes}
use Rattle.stage.specs.declared.finish.Outcome.{Outcome}
use Rattle.stage.specs.declared.finish.Stopped.{Stopped}
use Rattle.stage.specs.Finish.{Changed, Refuses, Whole}

-- n pins wait; the stage is empty, and so is every column but those of given and realised pins and of the waiting list
pub record StageAt (C : Context) (m K half n : ℕ) (at room : ℕ) (gates pl w words : List ℕ) : Type 0 where
  pub begun : Begun C m n gates w
  pub fresh : Fresh m w
  pub cells : Clear CELLS m w
  pub marks : Clear MARK m w
  pub tail : (j : ℕ) → j < 259 → get_or w (16 * m + j) 0 ≡ 0
  pub ruled : C.X.rule ≡ needed_runs
  pub height : K ≡ C.X.K
  pub row : half ≡ row_at K 1
  pub blank : pl ≡ lean.blank C.X
  pub fits : at + room ≤ length words
  pub small : length words < 2 ^ 63

abbrev pub columns : List ℕ
columns = ORDER ∷ DONE ∷ LEVEL ∷ WAITING ∷ CELLS ∷ RANKED ∷ STARTS ∷ ENDS ∷ REVERSE ∷ NEEDED ∷ LISTED ∷ STACK ∷ PHASE ∷ PLACE ∷ MARK ∷ SPARE ∷ TAIL ∷ []

-- the stage that rules 1 to 11 build for a context, or what refuses it
unfoldable pub built : Context → ℕ → Stage?
built C room = one_stage C.X.rule C.X.K C.X.g C.X.done C.X.waiting room

-- after a whole stage the next one finds what this one found; the pins taken back are noted in the tail
pub record Staged (C : Context) (m at room : ℕ) (pl w words : List ℕ) (e : Result Outcome Stopped) (pl' w' words' : List ℕ) : Type 0 where
  pub changed : Changed columns (NOTES + NOTED) m at room pl w words pl' w' words'
  pub told : notes m w' ≡ stage_notes C.X (notes m w)
  pub refuses : IfErr e (Refuses C.X (filled_plan C.X) (built C room))
  pub whole : IfOk e (λ o. Whole C m at room (built C room) words o pl' w' words')
  pub fresh : IfOk e (λ o. Fresh m w')
