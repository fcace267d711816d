-- `aiger_text::file::judge` meets its contract. Assumes nothing.
use Rattle.aiger_text.proofs.Laws.Verdict.{body_cut, body_bad, body_reset, body_good}
use Rattle.aiger_text.proofs.file.judge.Goals.{then-s-via-then-s, then-s-via-else-s+then-s-bytes}
use Rattle.aiger_text.proofs.file.judge.Goals as goal

pub returns-then-s : goal.returns-then-s
returns-then-s c = elim c.then-s.branch [
  | then-s-via-then-s w ↦ body_cut c.args.h c.first_place-s.ensures w.if-s.true
  | then-s-via-else-s+then-s-bytes w ↦ body_bad c.args.h c.first_place-s.ensures w.if-s.false w.if-s-bytes.true
]

pub returns-in-Some : goal.returns-in-Some
returns-in-Some c = body_reset c.args.h c.first_place-s.ensures c.if-s.false c.requires.behind.inside c.if-s-bytes.false _ c.in-Some.ensures

pub returns : goal.returns
returns c = body_good c.args.h c.first_place-s.ensures c.if-s.false c.requires.behind.inside c.if-s-bytes.false c.in_default.ensures c.requires.behind
