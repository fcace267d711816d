-- `replay::finish::finish` meets its contract. Assumes nothing.
use Rattle.replay.proofs.Laws.Finish.{finished_refused, finished_run_lem}
use Rattle.replay.proofs.finish.finish.Goals as goal

pub returns-then-not-whole : goal.returns-then-not-whole
returns-then-not-whole c = let k = c.clear_lists.ensures in finished_refused _ _ _ _ _ _ _ _ _ _ _ _ _ c.if-not-whole.true (c.requires.clear c.if-not-whole.true) _ _ _ k.tape k.slots k.bits

pub run_plan-requires : goal.run_plan-requires
run_plan-requires c = c.requires.run c.if-not-whole.false

pub returns : goal.returns
returns c = let k = c.clear_lists-2.ensures in finished_run_lem _ _ _ _ _ _ _ _ _ _ _ _ _ c.if-not-whole.false _ _ _ _ _ _ c.run_plan.ensures _ _ _ _ (c.fill.ensures.after (λ y e. e)) k.tape k.slots k.bits
