-- `graph_loops::found` meets its contract: it calls itself once, with no hint. Assumes nothing.
use Rattle.graph_loops.proofs.+found.Given as goal

abbrev pub decreases-found : goal.decreases-found
decreases-found l = l.hints
