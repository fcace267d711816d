-- `stage_levels::level_of` meets its contract: two pins are followed, or none. Assumes nothing.
use native.Mathlib.Omega.{arith}
use Rattle.stage_levels.proofs.Laws.Rising.{level_none, level_low, level_both}
use Rattle.stage_levels.proofs.level_of.Goals as goal

pub get-x-requires : goal.get-x-requires
get-x-requires c =
    let s = c.requires in
    omega (arith, (level_low s.at _ _ (c.in-Some.ensures.all s.it s.at.reads)).0, s.at.reads.base.area.room)

pub get-y-requires : goal.get-y-requires
get-y-requires c =
    let s = c.requires in
    omega (arith, (level_low s.at _ _ (c.in-Some.ensures.all s.it s.at.reads)).1, s.at.reads.base.area.room)

pub returns-in-None : goal.returns-in-None
returns-in-None c = record { all = λ C A. level_none A (c.in-None.ensures.all C A.reads) }

pub returns-in-Some : goal.returns-in-Some
returns-in-Some c = record { all = λ C A. level_both A _ _ (c.in-Some.ensures.all C A.reads) _ (omega (arith, c.get-x.ensures, c.get-y.ensures, c.max.ensures)) }
