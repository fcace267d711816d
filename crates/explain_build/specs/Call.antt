-- The build of an explanation, of records that passed the checks 1 to 5 and 23, in areas of exactly their counted sizes. Assumes nothing.
use Rattle.std.specs.Prelude.{◌≡◌, List, ℕ, length}
use Rattle.rules.specs.Build as rules
use Rattle.placer.specs.Build.{Tried, Laid}
use Rattle.why_form.specs.Why.{Line}
use Rattle.explain_lines.specs.Lines.{put_lines}
use Rattle.explain_stages.specs.declared.Explanation.{Explanation}

-- the answer b and the lines ls
pub record Attempted (b : rules.Answer) (ls : List Line) (pl ws cs w list : List ℕ) (e : Explanation) (pl' ws' cs' w' list' : List ℕ) : Type 0 where
  pub tried : Tried b pl ws cs w e.answer pl' ws' cs' w'
  pub lines : list' ≡ put_lines 0 ls list
  pub count : e.lines ≡ length ls

pub record Explained (b : rules.Answer) (ls : List Line) (pl ws cs w list : List ℕ) (e : Explanation) (pl' ws' cs' w' list' : List ℕ) : Type 0 where
  pub laid : Laid b pl ws cs w e.answer pl' ws' cs' w'
  pub lines : list' ≡ put_lines 0 ls list
  pub count : e.lines ≡ length ls
