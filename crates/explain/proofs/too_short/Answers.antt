-- `explain::too_short` meets its contract: a list with room for all that there may be is long enough, else the lines are counted. Assumes nothing.
use native.Mathlib.Omega.{arith}
use Rattle.explain.proofs.Laws.Place.{tall, rooms_few, levels_few, measured_none, lines_few, measured}
use Rattle.explain.proofs.too_short.Goals as goal

pub overflow_sub-levels : goal.overflow_sub-levels
overflow_sub-levels c = omega (arith, tall c.requires c.wide-levels.ensures)

pub overflow_mul-rooms : goal.overflow_mul-rooms
overflow_mul-rooms c = record { fits = omega (arith, levels_few c.requires c.wide-levels.ensures, rooms_few c.requires, c.well_formed.1.1.1.1.0.1) }

pub overflow_add-rooms : goal.overflow_add-rooms
overflow_add-rooms c = record { fits = omega (arith, levels_few c.requires c.wide-levels.ensures, rooms_few c.requires, c.well_formed.1.1.1.1.0.1) }

pub overflow_mul-rooms-2 : goal.overflow_mul-rooms-2
overflow_mul-rooms-2 c = record { fits = omega (arith, levels_few c.requires c.wide-levels.ensures, rooms_few c.requires, c.well_formed.1.1.1.1.0.1) }

pub returns-then-rooms-levels : goal.returns-then-rooms-levels
returns-then-rooms-levels c = measured_none c.requires _ c.wide-levels.ensures c.if-rooms-levels.true

pub lay-e-requires : goal.lay-e-requires
lay-e-requires c = c.requires

pub overflow_mul-result : goal.overflow_mul-result
overflow_mul-result c = record { fits = omega (arith, lines_few c.requires c.lay-e.ensures, rooms_few c.requires, c.well_formed.1.1.1.1.0.1) }

pub returns : goal.returns
returns c = measured c.requires c.lay-e.ensures _ c.lay-e.auto.list c.plan-1.given c.words-1.given c.counts-1.given c.work-1.given
