-- `try_walks::start` meets its contract: it makes a context from what the checks say. Assumes nothing.
use native.Mathlib.Omega.{arith}
use Rattle.try_walks.proofs.Starts.{small_pins, give_at, list_at, started}
use Rattle.try_walks.proofs.start.Goals as goal

pub overflow_mul-m : goal.overflow_mul-m
overflow_mul-m c = omega (arith, small_pins c.requires)

pub clear-requires : goal.clear-requires
clear-requires c = omega (arith, small_pins c.requires)

pub give-requires : goal.give-requires
give-requires c = give_at c.requires _ c.clear.ensures

pub list-requires : goal.list-requires
list-requires c = list_at c.requires _ c.clear.ensures _ c.give.ensures

pub returns : goal.returns
returns c = started c.requires _ c.clear.ensures _ c.give.ensures _ _ c.list.ensures
