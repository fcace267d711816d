-- `aiger_write::jobs::judge` meets its contract: four tests in order. Assumes nothing.
use mathlib.Core.Path.{sym, ◌∙◌}
use Rattle.aiger_write.proofs.Laws.Named.{judged_given, judged_checks, judged_shape, marks_long, judged_marks}
use Rattle.aiger_write.proofs.jobs.judge.Goals.{then-given-ne0-via-then-given-ne0, then-given-ne0-via-else-given-ne0+then-is_err}
use Rattle.aiger_write.proofs.jobs.judge.Goals as goal

pub returns-then-given-ne0 : goal.returns-then-given-ne0
returns-then-given-ne0 c = let a = c.args in elim c.then-given-ne0.branch [
  | then-given-ne0-via-then-given-ne0 w ↦ judged_given a.gates.now a.given.now a.records.now a.latches.now a.marks.now a.marks.now w.if-given-ne0.true
  | then-given-ne0-via-else-given-ne0+then-is_err w ↦ judged_checks a.gates.now a.given.now a.records.now a.latches.now a.marks.now a.marks.now w.refusal.ensures (sym w.is_err.ensures.value ∙ w.if-is_err.true)
]

pub mark_latches-requires : goal.mark_latches-requires
mark_latches-requires c = let a = c.args in marks_long a.gates.now a.given.now a.records.now a.latches.now a.marks.now a.marks.now c.if-given-ne0.false c.refusal.ensures (sym c.is_err.ensures.value ∙ c.if-is_err.false) c.requires

pub returns-then-shaped : goal.returns-then-shaped
returns-then-shaped c = let a = c.args in judged_marks a.gates.now a.given.now a.records.now a.latches.now a.marks.now _ c.if-given-ne0.false c.refusal.ensures (sym c.is_err.ensures.value ∙ c.if-is_err.false) c.requires (sym c.shaped.ensures ∙ c.if-shaped.true) c.mark_latches.ensures

pub returns-else-shaped : goal.returns-else-shaped
returns-else-shaped c = let a = c.args in rw c.if-shaped.false (judged_shape a.gates.now a.given.now a.records.now a.latches.now a.marks.now a.marks.now (sym c.shaped.ensures ∙ c.if-shaped.false))
