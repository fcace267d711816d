-- `sheet_read::areas::fill` meets its contract. Assumes nothing.
use native.Mathlib.Omega.{arith}
use Rattle.sheet_form.specs.Kinds.{number_for}
use Rattle.sheet_read.proofs.Laws.Areas.{rooms_there, limit_there, counts_there, filled, again}
use Rattle.sheet_read.proofs.areas.fill.Goals as goal

pub overflow_mul-sheet : goal.overflow_mul-sheet
overflow_mul-sheet c = let a = c.args in omega (arith, (rooms_there c.requires (again (number_for a.kind) a.gates.now a.bytes.now a.plan.now a.words.now a.counts.now _ _ _ _ c.walk.ensures).is c.rooms-rooms.ensures c.stage_size-size.ensures).1)

pub overflow_mul-rooms : goal.overflow_mul-rooms
overflow_mul-rooms c = let a = c.args in omega (arith, (rooms_there c.requires (again (number_for a.kind) a.gates.now a.bytes.now a.plan.now a.words.now a.counts.now _ _ _ _ c.walk.ensures).is c.rooms-rooms.ensures c.stage_size-size.ensures).0)

pub pad-requires : goal.pad-requires
pad-requires c = let a = c.args in record { inside = (rooms_there c.requires (again (number_for a.kind) a.gates.now a.bytes.now a.plan.now a.words.now a.counts.now _ _ _ _ c.walk.ensures).is c.rooms-rooms.ensures c.stage_size-size.ensures).0 }

pub pad-requires-2 : goal.pad-requires-2
pad-requires-2 c = let a = c.args in record { inside = limit_there c.requires (again (number_for a.kind) a.gates.now a.bytes.now a.plan.now a.words.now a.counts.now _ _ _ _ c.walk.ensures).is c.rooms-rooms.ensures c.stage_size-size.ensures c.word_limit.ensures }

pub pad-requires-3 : goal.pad-requires-3
pad-requires-3 c = let a = c.args in record { inside = counts_there c.requires (again (number_for a.kind) a.gates.now a.bytes.now a.plan.now a.words.now a.counts.now _ _ _ _ c.walk.ensures).is c.rooms-rooms.ensures c.stage_size-size.ensures }

pub shape_of-plan : goal.shape_of-plan
shape_of-plan c = let a = c.args in (filled c.requires (again (number_for a.kind) a.gates.now a.bytes.now a.plan.now a.words.now a.counts.now _ _ _ _ c.walk.ensures).is c.rooms-rooms.ensures c.stage_size-size.ensures c.word_limit.ensures c.pad.ensures c.pad-2.ensures c.pad-3.ensures).plan

pub shape_of-words : goal.shape_of-words
shape_of-words c = let a = c.args in (filled c.requires (again (number_for a.kind) a.gates.now a.bytes.now a.plan.now a.words.now a.counts.now _ _ _ _ c.walk.ensures).is c.rooms-rooms.ensures c.stage_size-size.ensures c.word_limit.ensures c.pad.ensures c.pad-2.ensures c.pad-3.ensures).words

pub shape_of-counts : goal.shape_of-counts
shape_of-counts c = let a = c.args in (filled c.requires (again (number_for a.kind) a.gates.now a.bytes.now a.plan.now a.words.now a.counts.now _ _ _ _ c.walk.ensures).is c.rooms-rooms.ensures c.stage_size-size.ensures c.word_limit.ensures c.pad.ensures c.pad-2.ensures c.pad-3.ensures).counts

pub returns : goal.returns
returns c = let a = c.args in filled c.requires (again (number_for a.kind) a.gates.now a.bytes.now a.plan.now a.words.now a.counts.now _ _ _ _ c.walk.ensures).is c.rooms-rooms.ensures c.stage_size-size.ensures c.word_limit.ensures c.pad.ensures c.pad-2.ensures c.pad-3.ensures
