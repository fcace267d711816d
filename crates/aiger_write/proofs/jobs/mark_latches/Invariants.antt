-- `aiger_write::jobs::mark_latches` meets its contract: after i turns i latches are marked. Assumes nothing.
use Rattle.rules.specs.Graph.{graph_of}
use Rattle.aiger_write.proofs.Laws.Marks.{Marking}
use Rattle.aiger_write.proofs.jobs.mark_latches.Given as goal

abbrev pub invariant-loop-l : goal.invariant-loop-l
invariant-loop-l l = Marking (graph_of l.gates) l.latches l.initial.marks l.l-index l.marks
