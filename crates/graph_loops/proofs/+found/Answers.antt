use mathlib.Core.Path.{refl, sym, ◌∙◌, ap}
use Rattle.graph_loops.specs.Answers.{loop_for}
use Rattle.graph_loops.proofs.Laws.Marking.{all_kept}
use Rattle.graph_loops.proofs.Laws.Searching.{found_past}
use Rattle.graph_loops.proofs.+found.Goals as goal

pub search-requires-clause-kept : goal.search-requires-clause-kept
search-requires-clause-kept t c = all_kept _ _ c.requires refl

pub unmark-requires-clause-by_index : goal.unmark-requires-clause-by_index
unmark-requires-clause-by_index t c = c.all_rise.ensures c.if-all_rise.true

pub unmark-requires-clause-kept : goal.unmark-requires-clause-kept
unmark-requires-clause-kept t c = all_kept _ _ c.requires refl

pub returns-then-index-pin_count : goal.returns-then-index-pin_count
returns-then-index-pin_count t c = ap loop_for (sym c.in_ok-p.was) ∙ c.found.ensures

pub returns-else-index-pin_count : goal.returns-else-index-pin_count
returns-else-index-pin_count t c = absurd (found_past _ c.requires _ c.found.ensures _ c.in_ok-p.was _ _ c.index.ensures c.pin_count.ensures c.if-index-pin_count.false)
