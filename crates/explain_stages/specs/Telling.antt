-- The stages of a build with their lines. Assumes nothing.
use Rattle.std.specs.Prelude.{◌≡◌, IfOk, IfErr, OnOk, OnErr, List, [], ℕ, suc, ◌+◌, ◌-◌, ◌*◌, ◌≤◌, length}
use Rattle.rules.specs.Lists.{count}
use Rattle.rules.specs.Cells.{filled}
use Rattle.rules.specs.States.{State, none, state, after_from}
use Rattle.rules.specs.Build as rules
use Rattle.stage_notes.specs.Notes.{notes, Bare}
use Rattle.refusals.specs.Numbers.{number_of}
use Rattle.stage.specs.Stopped.{refusal_of}
use Rattle.placer.specs.Answers.{told}
use Rattle.placer.specs.Stages.{Course, answer, Underway, Kept, OneAt, StagesAt, Whole}
use Rattle.why_form.specs.Why.{Line, why_from}
use Rattle.explain_lines.specs.Lines.{put_lines}
use Rattle.explain_stages.specs.declared.Step.{Step}
use Rattle.explain_stages.specs.declared.Explanation.{Explanation}

-- the lines from stage k + 1 on, by the state behind k stages
unfoldable pub lines_at : Course → ℕ → State → List Line
lines_at C k none = []
lines_at C k (state done waiting room) = why_from C.rule C.K C.g (C.rooms - k) (suc k) done waiting room

unfoldable pub lines_after : Course → ℕ → List Line
lines_after C k = lines_at C k (after_from C.rule C.K C.g k C.given C.waiting C.room)

-- ---- one stage, behind `lines` lines

pub record TellAt (C : Course) (m K half : ℕ) (k n at room lines : ℕ) (gates pl ws cs w : List ℕ) : Type 0 where
  pub one : OneAt C m K half k n at room gates pl ws cs w
  pub bare : Bare 13 (notes m w)
  pub few : lines ≤ 12 * k

-- refused, the stage's lines are the last; else the next stage goes on
pub record Tells (C : Course) (m k at lines : ℕ) (pl ws cs w list : List ℕ) (s : Step) (pl' ws' cs' w' list' : List ℕ) : Type 0 where
  pub kept : Kept pl ws cs w pl' ws' cs' w'
  pub size : length list' ≡ length list
  pub refused : IfErr s.outcome (λ e. answer C ≡ rules.refusal (number_of (refusal_of e)) (suc k))
  pub last : OnErr s.outcome (list' ≡ put_lines lines (lines_after C k) list)
  pub last_count : OnErr s.outcome (s.lines ≡ lines + length (lines_after C k))
  pub on : IfOk s.outcome (λ o. Underway C m (suc k) (at + o.words) o.waiting pl' ws' cs' w')
  pub more : IfOk s.outcome (λ o. count filled pl' ≡ count filled pl + o.cells)
  pub bare : OnOk s.outcome (Bare 13 (notes m w'))
  pub few : OnOk s.outcome (s.lines ≤ 12 * suc k)
  pub next : OnOk s.outcome (put_lines lines (lines_after C k) list ≡ put_lines s.lines (lines_after C (suc k)) list')
  pub next_count : OnOk s.outcome (lines + length (lines_after C k) ≡ s.lines + length (lines_after C (suc k)))

-- ---- all stages

-- before stage k + 1: `lines` lines are told, list₀ was the list before the first
pub record AllAt (C : Course) (m K half : ℕ) (rooms k at n room lines : ℕ) (list₀ gates pl ws cs w list : List ℕ) : Type 0 where
  pub stands : StagesAt C m K half rooms k at n room gates pl ws cs w
  pub bare : Bare 13 (notes m w)
  pub few : lines ≤ 12 * k
  pub same : put_lines 0 (lines_after C 0) list₀ ≡ put_lines lines (lines_after C k) list
  pub count : length (lines_after C 0) ≡ lines + length (lines_after C k)

pub record AllTold (C : Course) (pl ws cs w list : List ℕ) (e : Explanation) (pl' ws' cs' w' list' : List ℕ) : Type 0 where
  pub kept : Kept pl ws cs w pl' ws' cs' w'
  pub reply : told e.answer ≡ rules.reply (answer C)
  pub whole : IfOk e.answer (λ _. Whole C (rules.stages_of (answer C)) pl' ws' cs')
  pub lines : list' ≡ put_lines 0 (lines_after C 0) list
  pub count : e.lines ≡ length (lines_after C 0)
