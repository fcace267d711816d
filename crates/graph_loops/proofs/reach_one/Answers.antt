-- `graph_loops::reach_one` meets its contract. Assumes nothing.
use mathlib.Core.Path.{◌∙◌}
use Rattle.graph_loops.proofs.Laws.Reaching.{reach_past, reach_held, reach_new}
use Rattle.graph_loops.proofs.reach_one.Goals as goal

pub returns-then-seen-q : goal.returns-then-seen-q
returns-then-seen-q c = reach_past _ _ _ (c.index-q.ensures ∙ c.pin_of.ensures) c.if-seen-q.true

pub returns-then-seen-q-ne0 : goal.returns-then-seen-q-ne0
returns-then-seen-q-ne0 c = reach_held _ _ _ (c.index-q.ensures ∙ c.pin_of.ensures) c.if-seen-q-ne0.true

pub returns : goal.returns
returns c = reach_new _ _ _ (c.index-q.ensures ∙ c.pin_of.ensures) c.if-seen-q.false c.if-seen-q-ne0.false
