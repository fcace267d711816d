-- `sheet_write::sections::put_sheet` meets its contract. Assumes nothing.
use native.Mathlib.Omega.{arith}
use Rattle.rules.proofs.Job.Bits.{width}
use Rattle.sheet_write.proofs.Laws.Sections.{sheet_put}
use Rattle.sheet_write.proofs.sections.put_sheet.Goals as goal

pub put-q-requires : goal.put-q-requires
put-q-requires c = record { near = omega (arith, c.put-p.ensures.behind, width 8 c.number.result); short = omega arith }

pub put-requires : goal.put-requires
put-requires c = record { near = omega (arith, c.put-p.ensures.behind, width 8 c.number.result, c.put-q.ensures.behind, width 4 c.args.height); short = omega arith }

pub returns : goal.returns
returns c = sheet_put c.requires (rw c.number.ensures at c.put-p.ensures) c.put-q.ensures c.put.ensures c.put_stages-r.ensures c.put-2.ensures
