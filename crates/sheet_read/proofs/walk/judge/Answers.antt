-- `sheet_read::walk::judge` meets its contract. Assumes nothing.
use native.Mathlib.Omega.{arith}
use mathlib.Core.Path.{sym, ◌∙◌}
use Rattle.sheet_read.proofs.Laws.Walk.{too_long, walk_no, padding_no, known}
use Rattle.sheet_read.proofs.walk.judge.Goals as goal

pub returns-then-bytes-gt1099511627776 : goal.returns-then-bytes-gt1099511627776
returns-then-bytes-gt1099511627776 c = too_long c.requires (record { at = λ i. omega (arith, c.type_inv.bytes i) }) c.if-bytes-gt1099511627776.true

pub returns-in_err-m : goal.returns-in_err-m
returns-in_err-m c = rw c.from_residual.ensures (walk_no c.requires c.in_err-m.ensures.measured (omega arith))

pub returns-then-not-is_padding : goal.returns-then-not-is_padding
returns-then-not-is_padding c = padding_no c.requires c.in_ok-m.ensures.0.measured c.in_ok-m.ensures.1 (sym c.is_padding.ensures ∙ c.if-not-is_padding.true)

pub returns : goal.returns
returns c = known c.requires c.in_ok-m.ensures.0.measured c.if-bytes-gt1099511627776.false c.in_ok-m.ensures.1 (sym c.is_padding.ensures ∙ c.if-not-is_padding.false)
