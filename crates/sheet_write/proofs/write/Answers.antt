-- `sheet_write::write` meets its contract. Assumes nothing.
use native.Mathlib.Omega.{arith}
use Rattle.sheet_write.proofs.Laws.Answers.{refuses_plan, refuses_room, writes}
use Rattle.sheet_write.proofs.write.Goals as goal

pub returns-in_default : goal.returns-in_default
returns-in_default c = refuses_plan _ _ _ c.in_default.ensures _

pub returns-then-bytes-length : goal.returns-then-bytes-length
returns-then-bytes-length c = refuses_room c.in-Some.ensures c.if-bytes-length.true

pub returns : goal.returns
returns c = writes c.in-Some.ensures c.if-bytes-length.false c.put_sheet.ensures (record { at = λ i. omega (arith, c.slice_known-1.given i) }) (record { at = λ i. omega (arith, c.slice_known-2-1.given i) })
