-- Lines in the caller's list, one behind the other: one that does not fit is left out. Assumes nothing.
use Rattle.std.specs.Prelude.{ℕ, ◌+◌, ◌*◌, true, false, List, [], ◌∷◌, leb, length}
use Rattle.rules.specs.Lists.{laid_at}
use Rattle.why_form.specs.Why as why
use Rattle.explain_lines.specs.declared.Line.{Line}

-- the six numbers of a line
unfoldable pub six : Line → List ℕ
six l = l.0 ∷ l.1 ∷ l.2 ∷ l.3 ∷ l.4 ∷ l.5 ∷ []

-- six numbers as line n, from 0
unfoldable pub put_six : ℕ → List ℕ → List ℕ → List ℕ
put_six n xs list = elim (leb (6 * n + 6) (length list)) [ true ↦ laid_at (6 * n) xs list | false ↦ list ]

-- lines from line n on
unfoldable pub put_lines : ℕ → List why.Line → List ℕ → List ℕ
put_lines n [] list = list
put_lines n (x ∷ xs) list = put_lines (n + 1) xs (put_six n (why.numbers x) list)
