-- `stage_walk::traversal::visit` meets its contract: a listed pin has been visited, a stack of one pin is its visit. Assumes nothing.
use mathlib.Core.Path.{sym, ◌∙◌}
use Rattle.stage_walk.proofs.traversal.Loops.{visited_before, visit_going, visited}
use Rattle.stage_walk.proofs.traversal.visit.Goals as goal

pub returns-then-is_in : goal.returns-then-is_in
returns-then-is_in c = record { all = λ C A. visited_before A (sym c.is_in.ensures ∙ c.if-is_in.true) }

pub run-requires : goal.run-requires
run-requires c = let s = c.requires in record { it = s.it; at = visit_going s.at (sym c.is_in.ensures ∙ c.if-is_in.false) _ c.enter.ensures }

pub returns : goal.returns
returns c = record { all = λ C A. let t = sym c.is_in.ensures ∙ c.if-is_in.false in visited A t _ c.enter.ensures (c.run.ensures.all C (visit_going A t _ c.enter.ensures)) }
