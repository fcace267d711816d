-- `try_trees::there_and_back` meets its contract: taking back undoes placing. Assumes nothing.
use native.Mathlib.Omega.{arith}
use Rattle.try_trees.proofs.Trials.{end_small, may_search, trial_place, placed_room, trial_purge, purged_room, trial_same}
use Rattle.try_trees.proofs.there_and_back.Goals as goal

pub overflow_mul-end : goal.overflow_mul-end
overflow_mul-end g c = omega (arith, end_small c.requires.at)

pub first_empty-c-requires : goal.first_empty-c-requires
first_empty-c-requires g c = may_search c.requires.at

pub place_pin-requires : goal.place_pin-requires
place_pin-requires g c =
    let s = c.requires in
    record { it = s.it; at = trial_place s.at c.first_empty-c.ensures c.if-c-end.false }

pub list-listed-requires : goal.list-listed-requires
list-listed-requires g c =
    let s = c.requires in
    let F = c.first_empty-c.ensures in
    placed_room s.at F c.if-c-end.false (c.place_pin.ensures.all s.it (trial_place s.at F c.if-c-end.false))

pub take_back-requires : goal.take_back-requires
take_back-requires g c =
    let s = c.requires in
    let F = c.first_empty-c.ensures in
    record { it = s.it; at = trial_purge s.at F c.if-c-end.false (c.place_pin.ensures.all s.it (trial_place s.at F c.if-c-end.false)) }

pub list-requires : goal.list-requires
list-requires g c =
    let s = c.requires in
    let F = c.first_empty-c.ensures in
    let B = c.place_pin.ensures.all s.it (trial_place s.at F c.if-c-end.false) in
    purged_room s.at F c.if-c-end.false B (c.take_back.ensures.all s.it (trial_purge s.at F c.if-c-end.false B))

pub returns-in_err-listed : goal.returns-in_err-listed
returns-in_err-listed g c =
    let s = c.requires in
    let F = c.first_empty-c.ensures in
    let B = c.place_pin.ensures.all s.it (trial_place s.at F c.if-c-end.false) in
    trial_same s.at F c.if-c-end.false B (c.take_back.ensures.all s.it (trial_purge s.at F c.if-c-end.false B))

pub returns : goal.returns
returns g c =
    let s = c.requires in
    let F = c.first_empty-c.ensures in
    let B = c.place_pin.ensures.all s.it (trial_place s.at F c.if-c-end.false) in
    trial_same s.at F c.if-c-end.false B (c.take_back.ensures.all s.it (trial_purge s.at F c.if-c-end.false B))
