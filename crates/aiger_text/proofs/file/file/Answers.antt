-- `aiger_text::file::file` meets its contract. Assumes nothing.
use native.Mathlib.Omega.{arith}
use Rattle.aiger_text.proofs.Laws.Verdict.{file_none, file_header, file_judged}
use Rattle.aiger_text.proofs.file.file.Goals as goal

pub returns-then-bytes-e : goal.returns-then-bytes-e
returns-then-bytes-e c = file_none _ _ c.until-e.ensures c.if-bytes-e.true

pub returns : goal.returns
returns c = file_judged c.args.bytes.now _ c.until-e.ensures c.if-bytes-e.false (omega arith) _ c.in-Some.ensures c.judge.ensures

pub returns-in_default : goal.returns-in_default
returns-in_default c = file_header _ _ c.until-e.ensures c.if-bytes-e.false c.in_default.ensures
