-- `job_write::fits::judge` meets its contract. Assumes nothing.
use mathlib.Core.Path.{sym, ◌∙◌}
use Rattle.job_write.proofs.Laws.Fits.{all_every, high, many_pins, many_numbers, many_given, bad_gates, bad_given, judged}
use Rattle.job_write.proofs.fits.judge.Goals as goal
use Rattle.job_write.proofs.fits.judge.Goals.{then-height-gt10-via-then-height-gt10, then-height-gt10-via-else-height-gt10+then-gates-gt501}
use Rattle.job_write.proofs.fits.judge.Goals.{then-height-gt10-via-else-height-gt10+else-gates-gt501+then-records-gt512}
use Rattle.job_write.proofs.fits.judge.Goals.{then-height-gt10-via-else-height-gt10+else-gates-gt501+else-records-gt512+then-given-ge65536}
use Rattle.job_write.proofs.fits.judge.Goals.{then-not-gates_fit-via-then-not-gates_fit, then-not-gates_fit-via-else-not-gates_fit+then-not-numbers_fit}

pub returns-then-height-gt10 : goal.returns-then-height-gt10
returns-then-height-gt10 c = elim c.then-height-gt10.branch [
  | then-height-gt10-via-then-height-gt10 w ↦ high _ w.if-height-gt10.true
  | then-height-gt10-via-else-height-gt10+then-gates-gt501 w ↦ many_pins _ w.if-gates-gt501.true
  | then-height-gt10-via-else-height-gt10+else-gates-gt501+then-records-gt512 w ↦ many_numbers _ w.if-records-gt512.true
  | then-height-gt10-via-else-height-gt10+else-gates-gt501+else-records-gt512+then-given-ge65536 w ↦ many_given _ w.if-given-ge65536.true
]

pub returns-then-not-gates_fit : goal.returns-then-not-gates_fit
returns-then-not-gates_fit c = elim c.then-not-gates_fit.branch [
  | then-not-gates_fit-via-then-not-gates_fit w ↦ bad_gates _ (sym c.gates_fit.ensures ∙ w.if-not-gates_fit.true)
  | then-not-gates_fit-via-else-not-gates_fit+then-not-numbers_fit w ↦ bad_given _ (sym (w.numbers_fit.ensures ∙ all_every _ _) ∙ w.if-not-numbers_fit.true)
]

pub returns : goal.returns
returns c = judged _ c.if-height-gt10.false c.if-gates-gt501.false c.if-records-gt512.false c.if-given-ge65536.false (sym c.gates_fit.ensures ∙ c.if-not-gates_fit.false) (sym (c.numbers_fit.ensures ∙ all_every _ _) ∙ c.if-not-numbers_fit.false) c.count_groups.ensures
