use Rattle.stage_runs.proofs.Laws.Classes.{splitting_none, class_at, splitting_more}
use Rattle.stage_runs.proofs.classes.split_waiting.Goals as goal

pub loop-i-init : goal.loop-i-init
loop-i-init c = splitting_none c.requires

pub class-s-requires : goal.class-s-requires
class-s-requires c = class_at c.requires c.loop-i.invariant c.loop-i-test.true _ c.pin_at-p.ensures

pub loop-i-preserved : goal.loop-i-preserved
loop-i-preserved c = splitting_more c.requires c.loop-i.invariant c.loop-i-test.true _ c.pin_at-p.ensures c.class-s.ensures
