-- `aiger_write::write` meets its contract: judged first, then laid. Assumes nothing.
use mathlib.Core.Path.{refl, ◌∙◌}
use Rattle.aiger_write.specs.Answers.{netlist_of}
use Rattle.aiger_write.proofs.Laws.Named.{named_sized}
use Rattle.aiger_write.proofs.Laws.Answers.{export_no, export_yes}
use Rattle.aiger_write.proofs.write.Goals as goal

pub returns-then-not-judge : goal.returns-then-not-judge
returns-then-not-judge c = let a = c.args in export_no a.given.now (netlist_of a.gates.now a.records.now a.latches.now) a.bytes.now (c.judge.ensures.no c.if-not-judge.true)

pub lay-requires : goal.lay-requires
lay-requires c = let J = c.judge.ensures in let t = c.if-not-judge.false in named_sized (J.yes t) refl (J.marks t)

pub returns : goal.returns
returns c = let a = c.args in let J = c.judge.ensures in let t = c.if-not-judge.false in c.lay.ensures ∙ export_yes a.gates.now a.given.now a.records.now a.latches.now _ _ (J.yes t) refl (J.marks t) a.bytes.now
