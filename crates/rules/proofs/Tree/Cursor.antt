-- The first empty cell of a row by a cursor that only moves on. Assumes nothing.
use Prim.Native.Nat.{ℕ, zero, suc, ◌+◌, ◌-◌, ◌^◌, ◌≤◌, ◌<◌}
use mathlib.Core.Path.{◌≡◌, refl, ◌∙◌, ap}
use mathlib.Core.Logic.{◌≢◌}
use mathlib.Core.Bool.{true, false}
use mathlib.Core.List.{List, [], ◌∷◌}
use native.Mathlib.Omega.{arith}
use lib.Dec.{eqb}
use lib.ListN.{length, get_or}
use Rattle.rules.specs.Lists.{nothing, found}
use Rattle.rules.specs.Cells.{empty, filled, row, row_at, first_empty}
use Rattle.rules.specs.Traversal.{Setting}
use Rattle.rules.specs.Placing.{cell_at, placed}
use Rattle.rules.proofs.Lists.Members.{split, eqb_true, eqb_false}
use Rattle.rules.specs.Inside.Walks.{Sound, Marked, Work}
use Rattle.rules.proofs.Tree.Sane.{head}
use Rattle.rules.specs.Inside.Plans.{Placeable, Fair, Behind}
use Rattle.rules.proofs.Stage.Fuel.{row_length, row_at_lem}
use Rattle.rules.proofs.Tree.Fair.{stays, listed_filled}

first_at : (i k : ℕ) (cs : List ℕ) → k < length cs → ((j : ℕ) → j < k → filled (get_or cs j empty) ≡ true) → filled (get_or cs k empty) ≡ false → first_empty i cs ≡ found (i + k)
unfolding first_empty
first_at i k [] b h e = absurd (omega arith)
first_at i zero (c ∷ cs) b h e = let z : i + 0 ≡ i = omega arith in rw (e, first_empty, z)
first_at i (suc k) (c ∷ cs) b h e = let z : i + suc k ≡ suc i + k = omega arith in rw (h 0 (omega arith), first_empty, z) (first_at (suc i) k cs (omega arith) (λ j d. h (suc j) (omega arith)) e)

first_none : (i : ℕ) (cs : List ℕ) → ((j : ℕ) → j < length cs → filled (get_or cs j empty) ≡ true) → first_empty i cs ≡ nothing
unfolding first_empty
first_none i [] h = refl
first_none i (c ∷ cs) h = rw (h 0 (omega arith), first_empty) (first_none (suc i) cs (λ j d. h (suc j) (omega arith)))

-- at the start of a row there is no cell behind the cursor
pub behind_first : (X : Setting) (h : ℕ) (pl : List ℕ) → Behind X h (row_at X.K h) pl
behind_first X h pl q a b = absurd (omega arith)

-- past a filled cell
pub behind_step : (X : Setting) (h c : ℕ) (pl : List ℕ) → Behind X h c pl → filled (get_or pl c empty) ≡ true → Behind X h (suc c) pl
behind_step X h c pl k e q a b = split (eqb q c) (λ d. rw (eqb_true q c d) e) (λ d. let n : q ≢ c = eqb_false q c d in k q a (omega arith))

module _ (W : Work) (h : ℕ) (high : h ≤ W.X.K) where
  abbrev X : Setting
  X = W.X

  abbrev r : ℕ → ℕ
  r = W.r

  abbrev f : ℕ
  f = W.f

  abbrev S : Sound X r f
  S = W.S

  abbrev M : Marked X
  M = W.M

  abbrev small : length X.g ≤ empty
  small = W.small

  at : (pl : List ℕ) (j : ℕ) → j < row_at X.K h → get_or (row X.K h pl) j empty ≡ get_or pl (row_at X.K h + j) empty
  at pl j b = row_at_lem X r f S small h pl j b

  -- the cursor stands at an empty cell
  pub cell_found : (pl : List ℕ) (c : ℕ) → length pl ≡ 2 ^ (X.K + 1) → Behind X h c pl → row_at X.K h ≤ c → c < row_at X.K h + row_at X.K h → filled (get_or pl c empty) ≡ false → cell_at X h pl ≡ found c
  unfolding cell_at
  cell_found pl c l k a b e =
      let w : ℕ = row_at X.K h in
      let z : w + (c - w) ≡ c = omega arith in
      let n : length (row X.K h pl) ≡ w = row_length X r f S small h pl high l in
      first_at w (c - w) (row X.K h pl) (omega arith) (λ j d. rw (at pl j (omega arith)) (k (w + j) (omega arith) (omega arith))) (rw (at pl (c - w) (omega arith), z) e) ∙ ap found z

  -- or past the row
  pub cell_none : (pl : List ℕ) → length pl ≡ 2 ^ (X.K + 1) → Behind X h (row_at X.K h + row_at X.K h) pl → cell_at X h pl ≡ nothing
  unfolding cell_at
  cell_none pl l k =
      let n : length (row X.K h pl) ≡ row_at X.K h = row_length X r f S small h pl high l in
      first_none (row_at X.K h) (row X.K h pl) (λ j d. rw (at pl j (omega arith)) (k (row_at X.K h + j) (omega arith) (omega arith)))

  -- past the cell that is filled
  pub behind_placed : (pl : List ℕ) (c n : ℕ) → Fair X h pl → Placeable X pl h c n → Behind X h c pl → c < length pl → Behind X h (suc c) (placed X h c n pl)
  unfolding placed
  behind_placed pl c n F a k b = behind_step X h c (placed X h c n pl) (λ q x y. rw (stays W h c n F a q (k q x y)) (k q x y))
      (rw (head X h (row_at X.K h) c n pl (omega (arith, a.row, a.end)) b) (listed_filled W n a.listed))
