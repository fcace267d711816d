-- The areas that a sheet is read into. Assumes nothing.
use Rattle.std.specs.Prelude.{◌≡◌, Bool, true, ◌&&◌, List, ℕ, ◌≤◌, leb, length}
use Rattle.rules.specs.Lists.{padded, laid_over}
use Rattle.rules.specs.Cells.{word_limit, rooms}
use Rattle.sheet_form.specs.Calls.{areas, areas_with}
use Rattle.sheet_read.specs.Walk.{sheet_with, Known}

-- by the lengths of the areas
unfoldable pub room_for : (K n total plan words counts : ℕ) → Bool
room_for K n total plan words counts = leb n (rooms K plan) && leb (rooms K plan) counts && leb (word_limit K) words && leb total words

-- what is filled up lies in the area
pub record PadAt (room : ℕ) (xs : List ℕ) : Type 0 where
  pub inside : room ≤ length xs

-- what is laid over the front is filled up
pub record Padded (used room x : ℕ) (xs xs' : List ℕ) : Type 0 where
  pub len : length xs' ≡ length xs
  pub is : (ys zs : List ℕ) → length ys ≡ used → length ys ≤ length zs → xs ≡ laid_over ys zs → xs' ≡ laid_over (padded room x ys) zs

-- a sheet, and areas with room for it
pub record FillAt (number : ℕ) (gates xs : List ℕ) (K n total : ℕ) (p w c : List ℕ) : Type 0 where
  pub known : Known number gates xs K n total
  pub room : room_for K n total (length p) (length w) (length c) ≡ true

-- the areas as reading leaves them
pub record Filled (number : ℕ) (gates xs : List ℕ) (K n total : ℕ) (p w c p' w' c' : List ℕ) : Type 0 where
  pub plan : length p' ≡ length p
  pub words : length w' ≡ length w
  pub counts : length c' ≡ length c
  pub is : (k : Known number gates xs K n total) → areas p' w' c' ≡ areas_with (sheet_with K k.ss) (areas p w c)
