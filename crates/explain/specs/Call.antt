-- An explanation of records that passed the checks 1 to 5 and 23, in areas of exactly their counted sizes. Assumes nothing.
use Rattle.std.specs.Prelude.{◌≡◌, Bool, List, [], ℕ, ◌*◌, ◌≤◌, ◌<◌, ltb, length, replicate}
use Rattle.rules.specs.Lists.{laid_over}
use Rattle.rules.specs.Graph.{Node}
use Rattle.rules.specs.Build as rules
use Rattle.placer.specs.Answers.{told}
use Rattle.placer.specs.Stages.{Kept}
use Rattle.placer.specs.Build.{Filled, Placed}
use Rattle.why_form.specs.Why.{Line, numbers_of}
use Rattle.explain_stages.specs.declared.Explanation.{Explanation}

-- is the list too short for the lines
pub record Measured (ls : List Line) (pl ws cs w list : List ℕ) (r : Bool) (pl' ws' cs' w' list' : List ℕ) : Type 0 where
  pub is : r ≡ ltb (length list) (6 * length ls)
  pub same : list' ≡ list
  pub kept : Kept pl ws cs w pl' ws' cs' w'

-- 21 and empty areas where it is, else the plan coded and the lines
pub record Ends (g : List Node) (b : rules.Answer) (ls : List Line) (K : ℕ) (pl ws cs w list : List ℕ) (e : Explanation) (pl' ws' cs' w' list' : List ℕ) : Type 0 where
  pub short : length list < 6 * length ls → told e.answer ≡ rules.refuse 21 0
  pub short_lines : length list < 6 * length ls → e.lines ≡ 0
  pub short_list : length list < 6 * length ls → list' ≡ list
  pub short_areas : length list < 6 * length ls → Filled (length pl) (length ws) (length cs) [] pl' ws' cs'
  pub placed : 6 * length ls ≤ length list → Placed g b K pl ws cs w e.answer pl' ws' cs' w'
  pub lines : 6 * length ls ≤ length list → e.lines ≡ length ls
  pub told_list : 6 * length ls ≤ length list → list' ≡ laid_over (numbers_of ls) list
  pub work : w' ≡ replicate (length w) 0
