-- `aiger_write::lay` meets its contract: measured first, then laid. Assumes nothing.
use mathlib.Core.Path.{refl}
use native.Mathlib.Omega.{arith}
use Rattle.aiger_write.specs.Lines.{file_text}
use Rattle.aiger_write.proofs.Laws.Answers.{export_short, export_all}
use Rattle.aiger_write.proofs.lay.Goals as goal

pub returns-then-length-bytes : goal.returns-then-length-bytes
returns-then-length-bytes c = let a = c.args in export_short (file_text a.gates.now a.records.now a.latches.now a.marks.now) a.bytes.now refl c.whole-length.ensures (omega (arith, c.if-length-bytes.true))

pub returns : goal.returns
returns c = let a = c.args in export_all (file_text a.gates.now a.records.now a.latches.now a.marks.now) a.bytes.now refl c.whole-length.ensures (omega (arith, c.if-length-bytes.false)) c.whole.ensures
