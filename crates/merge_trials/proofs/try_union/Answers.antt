-- `merge_trials::try_union` meets its contract: the build decides. Assumes nothing.
use native.Mathlib.Omega.{arith}
use Rattle.merge_trials.proofs.Laws.Trials.{try_build, try_join, tried_yes, try_place, tried_no}
use Rattle.merge_trials.proofs.try_union.Goals as goal

pub build_pair-built-requires : goal.build_pair-built-requires
build_pair-built-requires c = try_build c.requires

pub join-requires : goal.join-requires
join-requires c = try_join c.requires c.build_pair-built.ensures c.accepted.ensures c.in-Some.is

pub returns-in-Some : goal.returns-in-Some
returns-in-Some c = tried_yes c.requires c.build_pair-built.ensures c.accepted.ensures c.in-Some.is c.join.ensures

pub overflow_mul-work : goal.overflow_mul-work
overflow_mul-work c = omega (arith, c.requires.at.few, c.requires.second)

pub overflow_add-work : goal.overflow_add-work
overflow_add-work c = omega (arith, c.requires.at.few, c.requires.second)

pub overflow_add-work-2 : goal.overflow_add-work-2
overflow_add-work-2 c = omega (arith, try_place c.requires c.build_pair-built.ensures c.accepted.ensures c.in_default.is, c.build_pair-built.ensures.leaves.len, c.well_formed.1.1.1.1.1.1.1.1.1.0.1)

pub offset_bounds-work-base : goal.offset_bounds-work-base
offset_bounds-work-base c = omega (arith, try_place c.requires c.build_pair-built.ensures c.accepted.ensures c.in_default.is, c.build_pair-built.ensures.leaves.len, c.well_formed.1.1.1.1.1.1.1.1.1.0.1)

pub bounds-work-base : goal.bounds-work-base
bounds-work-base c = omega (arith, try_place c.requires c.build_pair-built.ensures c.accepted.ensures c.in_default.is, c.build_pair-built.ensures.leaves.len, c.well_formed.1.1.1.1.1.1.1.1.1.0.1)

pub returns : goal.returns
returns c = tried_no c.requires c.build_pair-built.ensures c.accepted.ensures c.in_default.is
