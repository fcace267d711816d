use mathlib.Core.Path.{sym, ◌∙◌}
use Rattle.aiger_text.proofs.Laws.Resets.{resetting_start, resetting_over, resetting_found, resetting_more, resetting_behind}
use Rattle.aiger_text.proofs.file.reset_line.Goals as goal

pub loop-h-init : goal.loop-h-init
loop-h-init c = resetting_start _ c.requires

pub returns-in-Last : goal.returns-in-Last
returns-in-Last c = resetting_over c.loop-h.invariant c.in-Last.ensures.spots

pub returns-in-Stop : goal.returns-in-Stop
returns-in-Stop c = resetting_over c.loop-h.invariant c.in-Stop.ensures.spots

pub returns-then-is_reset : goal.returns-then-is_reset
returns-then-is_reset c = resetting_found c.loop-h.invariant c.in-Line.ensures (sym c.is_reset.ensures ∙ c.if-is_reset.true)

pub loop-h-preserved : goal.loop-h-preserved
loop-h-preserved c = resetting_more c.loop-h.invariant c.in-Line.ensures (sym c.is_reset.ensures ∙ c.if-is_reset.false)

pub returns : goal.returns
returns c = resetting_behind c.loop-h.invariant (sym c.in_front.ensures ∙ c.loop-h-test.false)
