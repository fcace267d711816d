-- Rule 4's cell: the lowest empty one from one position to another. Assumes nothing.
use Rattle.std.specs.Prelude.{◌≡◌, List, ℕ, ◌-◌, ◌*◌, ◌<◌, ◌≤◌, length, take, drop}
use Rattle.rules.specs.Lists.{nothing, found}
use Rattle.rules.specs.Cells.{row_at, first_empty}
use Rattle.rules.specs.Traversal.{Setting}
use Rattle.rules.specs.Inside.Plans.{Behind}

unfoldable pub part : List ℕ → ℕ → ℕ → List ℕ
part pl a e = take (e - a) (drop a pl)

pub record SearchAt (pl : List ℕ) (a e : ℕ) : Type 0 where
  pub upto : a ≤ e
  pub inside : e ≤ length pl

-- p is the cell, e if there is none
pub record First (pl : List ℕ) (a e p : ℕ) : Type 0 where
  pub from : a ≤ p
  pub to : p ≤ e
  pub at : p < e → first_empty a (part pl a e) ≡ found p
  pub none : e ≤ p → first_empty a (part pl a e) ≡ nothing

-- a search of level h's row, w cells from w on, may start at `from`
pub record Cursor (X : Setting) (h w from : ℕ) (pl : List ℕ) : Type 0 where
  pub row : w ≡ row_at X.K h
  pub low : w ≤ from
  pub high : from ≤ 2 * w
  pub inside : 2 * w ≤ length pl
  pub behind : Behind X h from pl
