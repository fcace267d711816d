use Rattle.aiger_text.proofs.Laws.Passes.{look_start, look_over, look_found, look_more}
use Rattle.aiger_text.proofs.passes.use_lines.Goals as goal

pub loop-x-init : goal.loop-x-init
loop-x-init c = look_start _ _ _ _ _ c.requires

pub returns-in-Last : goal.returns-in-Last
returns-in-Last c = look_over c.loop-x.invariant c.in-Last.ensures.spots

pub returns-in-Stop : goal.returns-in-Stop
returns-in-Stop c = look_over c.loop-x.invariant c.in-Stop.ensures.spots

pub returns-then-not-known_row : goal.returns-then-not-known_row
returns-then-not-known_row c = look_found c.loop-x.invariant c.in-Line.ensures _ c.known_row.ensures c.if-not-known_row.true

pub loop-x-preserved : goal.loop-x-preserved
loop-x-preserved c = look_more c.loop-x.invariant c.in-Line.ensures _ c.known_row.ensures c.if-not-known_row.false
