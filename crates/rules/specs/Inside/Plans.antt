-- What holds of a plan while rules 2 to 7 fill it. Assumes nothing.
use Rattle.std.specs.Prelude.{ℕ, suc, ◌+◌, ◌*◌, ◌^◌, ◌≤◌, ◌<◌, ◌≡◌, true, false, List, ◌++◌, length, get_or}
use Rattle.rules.specs.Lists.{In, Out, Sub}
use Rattle.rules.specs.Cells.{filled, empty, row_at}
use Rattle.rules.specs.Graph.{leaf, gate, pin_of}
use Rattle.rules.specs.Traversal.{Setting, level_at}
use Rattle.rules.specs.Placing.{tree_of}
use Rattle.rules.specs.Inside.Lean.{candidates, wanted}

-- what the cell at q does, w being its row's size
pub data Step (X : Setting) (pl : List ℕ) (w q : ℕ) : Type 0 where
  copies : get_or pl (q + w) empty ≡ get_or pl q empty → Step X pl w q
  splits : {a b : ℕ} → Out (get_or pl q empty) X.done → get_or X.g (get_or pl q empty) leaf ≡ gate a b → get_or pl (q + w) empty ≡ pin_of a → get_or pl (q + 2 * w) empty ≡ pin_of b → Step X pl w q

-- every filled cell above level 0 but those exempt
abbrev pub Sane : Setting → (ℕ → Type 0) → List ℕ → Type 0
Sane X E pl = (h w q : ℕ) → w * 2 ^ suc h ≡ 2 ^ X.K → w ≤ q → q < w + w → (E q → ⊥) → filled (get_or pl q empty) ≡ true → Step X pl w q

-- a cell of level h holds a listed pin of level h or lower
abbrev pub Tall : Setting → List ℕ → Type 0
Tall X pl = (h w q : ℕ) → w * 2 ^ h ≡ 2 ^ X.K → w ≤ q → q < w + w → filled (get_or pl q empty) ≡ true → In (get_or pl q empty) X.seen × (level_at X (get_or pl q empty) ≤ h)

-- the cell p of the row w, and all under it, are empty
abbrev pub Under : ℕ → ℕ → List ℕ → Type 0
Under w p pl = (i : ℕ) → filled (get_or pl (p + i * w) empty) ≡ false

-- under an empty cell of level j everything is empty
abbrev pub TidyAt : Setting → ℕ → List ℕ → Type 0
TidyAt X j pl = (v q : ℕ) → v * 2 ^ j ≡ 2 ^ X.K → v ≤ q → q < v + v → filled (get_or pl q empty) ≡ false → Under v q pl

-- and so at all levels up to h
abbrev pub Tidy : Setting → ℕ → List ℕ → Type 0
Tidy X h pl = (j : ℕ) → j ≤ h → TidyAt X j pl

-- what holds of a plan while level h is filled
pub record Fair (X : Setting) (h : ℕ) (pl : List ℕ) : Type 0 where
  pub len : length pl ≡ 2 ^ (X.K + 1)
  pub sane : Sane X (λ q. ⊥) pl
  pub tall : Tall X pl
  pub zeroth : filled (get_or pl 0 empty) ≡ false
  pub tidy : Tidy X h pl

-- pin n may be placed at the empty cell p of level h
pub record Placeable (X : Setting) (pl : List ℕ) (h p n : ℕ) : Type 0 where
  pub low : 1 ≤ h
  pub high : h ≤ X.K
  pub row : row_at X.K h ≤ p
  pub end : p < row_at X.K h + row_at X.K h
  pub free : filled (get_or pl p empty) ≡ false
  pub listed : In n X.seen
  pub level : level_at X n ≤ h

-- the row's cells before c are filled
abbrev pub Behind : Setting → ℕ → ℕ → List ℕ → Type 0
Behind X h c pl = (q : ℕ) → row_at X.K h ≤ q → q < c → filled (get_or pl q empty) ≡ true

-- what holds while a level's candidates are gone through: those before ns are placed, and b bounds the needed pins
pub record Going (X : Setting) (h : ℕ) (ns : List ℕ) (b : ℕ) (pl : List ℕ) : Type 0 where
  pub fair : Fair X h pl
  pub before : List ℕ
  pub whole : candidates X h ≡ before ++ ns
  pub gone : Sub before (tree_of X pl)
  pub enough : length (wanted X pl) ≤ b
