-- `graph_loops::rises_to` meets its contract. Assumes nothing.
use mathlib.Core.Path.{refl, ◌∙◌}
use Rattle.rules.proofs.Lists.Members.{true_false}
use Rattle.graph_loops.proofs.Laws.Marking.{rises_told}
use Rattle.graph_loops.proofs.rises_to.Goals as goal

pub returns-then-q-gt65535 : goal.returns-then-q-gt65535
returns-then-q-gt65535 c = λ e. true_false e refl

pub returns : goal.returns
returns c = λ e. rises_told c.args.low.now _ _ _ _ _ _ (c.index-q.ensures ∙ c.pin_of.ensures) c.wide.ensures c.wide-2.ensures e
