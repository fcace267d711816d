use mathlib.Core.Path.{◌∙◌}
use Prim.Native.Nat.{◌-◌}
use Rattle.merge_rounds.proofs.Laws.Into.{sizes_none}
use Rattle.merge_rounds.proofs.Laws.Slots.{slotting_none, slotting_at, slotting_more, slotting_done}
use Rattle.merge_rounds.proofs.merge_slots.Goals as goal

pub loop-i-init : goal.loop-i-init
loop-i-init c = (slotting_none c.requires, sizes_none)

pub merge_slot-left-requires : goal.merge_slot-left-requires
merge_slot-left-requires c = slotting_at c.requires c.loop-i.invariant.0 c.loop-i-test.true

pub loop-i-preserved : goal.loop-i-preserved
loop-i-preserved c = (slotting_more c.requires c.loop-i.invariant.0 c.loop-i-test.true c.merge_slot-left.ensures, record { indices = c.merge_slot-left.auto.indices ∙ c.loop-i.invariant.1.indices; lengths = c.merge_slot-left.auto.lengths ∙ c.loop-i.invariant.1.lengths; plan = c.merge_slot-left.auto.plan ∙ c.loop-i.invariant.1.plan; words = c.merge_slot-left.auto.words ∙ c.loop-i.invariant.1.words; counts = c.merge_slot-left.auto.counts ∙ c.loop-i.invariant.1.counts; work = c.merge_slot-left.auto.work ∙ c.loop-i.invariant.1.work })

pub returns : goal.returns
returns c = slotting_done c.requires c.loop-i.invariant.0 c.loop-i-test.false
