use mathlib.Core.Path.{refl}
use native.Mathlib.Omega.{arith}
use Rattle.stage_levels.proofs.Laws.Rising.{risen_none, level_at_lem, level_few, risen_more, levelled}
use borrow.Author.Rules.{rules}
use Rattle.stage_levels.proofs.levels.Goals as goal

pub loop-i-init : goal.loop-i-init
loop-i-init c = (record { all = λ C A. risen_none A }, omega arith, refl)

pub level_of-v-requires : goal.level_of-v-requires
level_of-v-requires c = let s = c.requires in record { it = s.it; at = level_at_lem s.at (c.loop-i.invariant.0.all s.it s.at) c.loop-i-test.true _ c.pin_at-p.ensures }

pub set_field-requires : goal.set_field-requires
set_field-requires c =
    let s = c.requires in
    let U = c.loop-i.invariant.0.all s.it s.at in
    let L = level_at_lem s.at U c.loop-i-test.true _ c.pin_at-p.ensures in
    let v = level_few s.at U c.loop-i-test.true _ c.pin_at-p.ensures _ (c.level_of-v.ensures.all s.it L) in
    record { p_bound = omega (arith, L.pin, s.at.along.reads.base.area.room, c.loop-i.invariant.2); v_bound = omega (arith, s.at.along.reads.base.area.small) }

pub loop-i-preserved : goal.loop-i-preserved
loop-i-preserved c = (
  record {
    all = λ C A. let U = c.loop-i.invariant.0.all C A in risen_more A U c.loop-i-test.true _ c.pin_at-p.ensures _
        (c.level_of-v.ensures.all C (level_at_lem A U c.loop-i-test.true _ c.pin_at-p.ensures)) _ _ c.set_field.ensures c.max-top.ensures;
  },
  omega arith,
  search rules,
)

pub returns : goal.returns
returns c = record { all = λ C A. levelled A (c.loop-i.invariant.0.all C A) (omega arith) }
