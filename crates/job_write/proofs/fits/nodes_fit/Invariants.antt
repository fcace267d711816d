-- `job_write::fits::nodes_fit` meets its contract: the first i pins fit. Assumes nothing.
use mathlib.Core.Path.{◌≡◌}
use Prim.Native.Nat.{◌*◌}
use lib.ListN.{drop}
use Rattle.rules.specs.Graph.{graph_of}
use Rattle.rules.specs.Job.{nodes_fit}
use Rattle.job_write.proofs.fits.nodes_fit.Given as goal

abbrev pub invariant-loop-i : goal.invariant-loop-i
invariant-loop-i l = nodes_fit (graph_of l.gates) ≡ nodes_fit (graph_of (drop (2 * l.i) l.gates))
