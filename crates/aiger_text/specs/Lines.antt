-- One line after the other. Assumes nothing.
use Rattle.std.specs.Prelude.{ℕ, suc, ◌+◌, ◌≤◌, ◌<◌, ◌≡◌, Bool, true, false, not, ◌||◌, List, [], ◌∷◌, ltb, length}
use Rattle.aiger_form.specs.Text.{Line, ended}
use Rattle.aiger_form.specs.Aag.{Header, Item, body_size}
use Rattle.aiger_text.specs.declared.lines.Step.{Step}
use Rattle.aiger_text.specs.declared.lines.Step.TheVariants as step
use Rattle.aiger_rows.specs.Rows.{said, stops_at}
use Rattle.aiger_text.specs.Passes.{spots_at, lines_from}

-- the lines from the i-th on: do they end too early, or e not, and no comment?
unfoldable pub cut_from : Header → ℕ → (e : Bool) → List Line → Bool
cut_from h i e [] = ltb i (body_size h) || not e
cut_from h i e (l ∷ ls) = elim (stops_at h i l.text) [ true ↦ false | false ↦ cut_from h (suc i) e ls ]

-- the i-th line would start at a place: there is no whole one
pub record NoLine (H : Header) (i at : ℕ) (bytes : List ℕ) : Type 0 where
  pub spots : spots_at H i (lines_from bytes at) ≡ []
  pub cut : (b : Bool) → cut_from H i b (lines_from bytes at) ≡ ltb i (body_size H) || not b

-- it ends all
pub record EndLine (H : Header) (i at : ℕ) (bytes : List ℕ) : Type 0 where
  pub spots : spots_at H i (lines_from bytes at) ≡ []
  pub cut : (b : Bool) → cut_from H i b (lines_from bytes at) ≡ false

-- it says x, and ends at e
pub record NextLine (H : Header) (i at : ℕ) (bytes : List ℕ) (x : Item) (e : ℕ) : Type 0 where
  pub from : at ≤ e
  pub inside : e < length bytes
  pub spots : spots_at H i (lines_from bytes at) ≡ record { at = at; item = x } ∷ spots_at H (i + 1) (lines_from bytes (e + 1))
  pub cut : (b : Bool) → cut_from H i b (lines_from bytes at) ≡ cut_from H (i + 1) b (lines_from bytes (e + 1))

-- which of them a step tells
abbrev pub Stepped : (H : Header) (i at : ℕ) → List ℕ → Step → Type 0
Stepped H i at bytes step.Last = NoLine H i at bytes
Stepped H i at bytes step.Stop = EndLine H i at bytes
Stepped H i at bytes (step.Line x e) = NextLine H i at bytes (said x) e

-- a file that ends behind i lines without a comment is cut
pub record Short (H : Header) (i : ℕ) (bytes : List ℕ) (r : Bool) : Type 0 where
  pub is : r ≡ ltb i (body_size H) || not (ended bytes)
