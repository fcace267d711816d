use mathlib.Core.Path.{sym, ◌∙◌}
use Rattle.aiger_read.proofs.Laws.Ends.{filling_start, filling_over, filling_behind, filling_more, record_room, latch_room}
use Rattle.aiger_read.proofs.ends.fill_ends.Goals as goal

pub loop-h-init : goal.loop-h-init
loop-h-init c = filling_start c.requires

pub returns-in-Last : goal.returns-in-Last
returns-in-Last c = filling_over c.loop-h.invariant c.in-Last.ensures.spots

pub returns-in-Stop : goal.returns-in-Stop
returns-in-Stop c = filling_over c.loop-h.invariant c.in-Stop.ensures.spots

pub put_record-r-requires : goal.put_record-r-requires
put_record-r-requires c = record_room c.loop-h.invariant c.in-Line.ensures

pub put_latch-l-requires : goal.put_latch-l-requires
put_latch-l-requires c = latch_room c.loop-h.invariant c.in-Line.ensures

pub loop-h-preserved : goal.loop-h-preserved
loop-h-preserved c = filling_more c.loop-h.invariant c.in-Line.ensures c.put_record-r.ensures.place c.put_record-r.ensures.area c.put_latch-l.ensures.place c.put_latch-l.ensures.area

pub returns : goal.returns
returns c = filling_behind c.loop-h.invariant (sym c.in_ends.ensures ∙ c.loop-h-test.false)
