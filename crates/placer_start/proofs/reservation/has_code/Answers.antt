use mathlib.Core.Path.{sym, ◌∙◌}
use Rattle.placer_start.proofs.Laws.Chains.{walking_none, walking_found, walking_more, walking_done}
use Rattle.placer_start.proofs.reservation.has_code.Goals as goal

pub loop-h-init : goal.loop-h-init
loop-h-init c = walking_none c.requires

pub returns-then-tail_get-code : goal.returns-then-tail_get-code
returns-then-tail_get-code c = walking_found c.loop-h.invariant c.loop-h-test.true (sym c.tail_get.ensures ∙ c.if-tail_get-code.true)

pub loop-h-preserved : goal.loop-h-preserved
loop-h-preserved c = walking_more c.loop-h.invariant c.loop-h-test.true (λ e. c.if-tail_get-code.false (c.tail_get.ensures ∙ e)) _ c.tail_get-h.ensures

pub returns : goal.returns
returns c = walking_done c.loop-h.invariant c.loop-h-test.false
