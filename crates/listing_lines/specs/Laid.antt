-- Text laid into a lent area byte after byte, behind a cursor that stops at a limit. Assumes nothing.
use Rattle.std.specs.Prelude.{◌≡◌, true, false, List, [], ◌∷◌, ℕ, suc, ltb, set}

-- the cursor behind one byte more: at the limit it stays, so that no text is too long to be measured
unfoldable pub step : ℕ → ℕ → ℕ
step limit at = elim (ltb at limit) [ true ↦ suc at | false ↦ at ]

-- the cursor behind a text
unfoldable pub along : ℕ → ℕ → List ℕ → ℕ
along limit at [] = at
along limit at (b ∷ bs) = along limit (step limit at) bs

-- the area with a text laid into it from the cursor on; past its end nothing is changed
unfoldable pub over : ℕ → ℕ → (text area : List ℕ) → List ℕ
over limit at [] o = o
over limit at (b ∷ bs) o = over limit (step limit at) bs (set o at b)

-- a text was laid from `at` on, and `now` is the cursor behind it
pub record Laid (limit at : ℕ) (text o : List ℕ) (now : ℕ) (o' : List ℕ) : Type 0 where
  pub cursor : now ≡ along limit at text
  pub area : o' ≡ over limit at text o
