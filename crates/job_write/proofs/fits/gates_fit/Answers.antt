-- `job_write::fits::gates_fit` meets its contract: two marks, and every pin fits. Assumes nothing.
use mathlib.Core.Path.{◌∙◌}
use Rattle.job_write.proofs.Laws.Fits.{gates_odd, gates_few, gates_first, gates_second, gates_rest}
use Rattle.job_write.proofs.fits.gates_fit.Goals as goal
use Rattle.job_write.proofs.fits.gates_fit.Goals.{then-gates-eq1-via-then-gates-eq1, then-gates-eq1-via-else-gates-eq1+then-gates-lt2, then-gates-via-then-gates, then-gates-via-else-gates+then-gates-2}

pub returns-then-gates-eq1 : goal.returns-then-gates-eq1
returns-then-gates-eq1 c = elim c.then-gates-eq1.branch [
  | then-gates-eq1-via-then-gates-eq1 w ↦ gates_odd c.args.gates.now w.if-gates-eq1.true
  | then-gates-eq1-via-else-gates-eq1+then-gates-lt2 w ↦ gates_few c.args.gates.now w.if-gates-lt2.true
]

pub returns-then-gates : goal.returns-then-gates
returns-then-gates c = elim c.then-gates.branch [
  | then-gates-via-then-gates w ↦ gates_first c.args.gates.now c.if-gates-lt2.false w.if-gates.true
  | then-gates-via-else-gates+then-gates-2 w ↦ gates_second c.args.gates.now c.if-gates-lt2.false w.if-gates-2.true
]

pub returns : goal.returns
returns c = c.nodes_fit.ensures ∙ gates_rest c.args.gates.now c.if-gates-eq1.false c.if-gates-lt2.false c.if-gates.false c.if-gates-2.false
