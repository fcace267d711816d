-- `graph_loops::is_looped` meets its contract. Assumes nothing.
use Rattle.graph_loops.proofs.Laws.Searching.{no_mark_no_loop}
use Rattle.graph_loops.proofs.is_looped.Goals as goal

pub returns-then-marks-index-eq0 : goal.returns-then-marks-index-eq0
returns-then-marks-index-eq0 c = no_mark_no_loop _ _ _ _ c.requires.kept c.index.ensures c.if-marks-index-eq0.true
