-- Where a row stands in a plan. Assumes nothing.
use Rattle.std.specs.Prelude.{ℕ, ◌+◌, ◌-◌, ◌*◌, true, false}
use Rattle.rules.specs.Cells.{stage_size, row_at, has_row}
use Rattle.rows.specs.declared.Span.{Span}

-- where a row begins in a plan
unfoldable pub row_from : ℕ → ℕ → ℕ → ℕ
row_from K s h = (s - 1) * stage_size K + row_at K h

-- where a row stands in a plan of so many numbers
unfoldable pub span_of : (K s h size : ℕ) → Span
span_of K s h size = elim (has_row K s h size) [
  | true ↦ record { start = row_from K s h; end = row_from K s h + row_at K h }
  | false ↦ record { start = 0; end = 0 }
]
