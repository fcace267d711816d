-- `bits::number_width` meets its contract. Assumes nothing.
use Rattle.rules.specs.Job.{number_width}
use borrow.Author.Tests.{eq-eqb, ne_eqb}
use Rattle.bits.proofs.number_width.Goals as goal

pub returns-then-kind-eq4 : goal.returns-then-kind-eq4
unfolding number_width
returns-then-kind-eq4 c = rw (eq-eqb c.args.kind 4 c.if-kind-eq4.true, number_width)

pub returns-else-kind-eq4 : goal.returns-else-kind-eq4
unfolding number_width
returns-else-kind-eq4 c = rw (ne_eqb c.args.kind 4 c.if-kind-eq4.false, number_width)
