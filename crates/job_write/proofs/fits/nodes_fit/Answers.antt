use mathlib.Core.Path.{refl, sym, ◌∙◌}
use Rattle.job_write.proofs.Laws.Fits.{nodes_none, nodes_more, nodes_end}
use Rattle.job_write.proofs.fits.nodes_fit.Goals as goal

pub loop-i-init : goal.loop-i-init
loop-i-init c = refl

pub returns-then-not-node_fits : goal.returns-then-not-node_fits
returns-then-not-node_fits c = nodes_none _ _ c.loop-i.invariant c.loop-i-test.true (sym c.node_fits.ensures ∙ c.if-not-node_fits.true)

pub loop-i-preserved : goal.loop-i-preserved
loop-i-preserved c = nodes_more _ _ c.loop-i.invariant c.loop-i-test.true (sym c.node_fits.ensures ∙ c.if-not-node_fits.false)

pub returns : goal.returns
returns c = nodes_end _ _ c.loop-i.invariant c.loop-i-test.false
