-- `records::endpoint` meets its contract. Assumes nothing.
use Prim.Native.Nat.{◌+◌, ◌<◌}
use native.Mathlib.Omega.{arith}
use lib.ListN.{length}
use Rattle.records.proofs.Reading.{stands, endpoint_none, endpoint_there}
use Rattle.records.proofs.endpoint.Goals as goal
use Rattle.records.proofs.endpoint.Goals.{Else-size_at-i}

here : (c : Else-size_at-i) → let a = c.args in a.at + 1 + a.i < length a.records.now
here c = let a = c.args in omega (arith, stands a.records.now a.at (omega arith))

pub returns-then-size_at-i : goal.returns-then-size_at-i
returns-then-size_at-i c = endpoint_none _ _ _ (omega arith)

pub offset_bounds-records-at : goal.offset_bounds-records-at
offset_bounds-records-at c = omega (arith, here c)

pub bounds-records-at : goal.bounds-records-at
bounds-records-at c = omega (arith, here (goal.at.bounds-records-at c).Else-size_at-i)

pub overflow_add-at : goal.overflow_add-at
overflow_add-at c = omega (arith, here (goal.at.overflow_add-at c).Else-size_at-i)

pub overflow_add-at-2 : goal.overflow_add-at-2
overflow_add-at-2 c = omega (arith, here (goal.at.overflow_add-at-2 c).Else-size_at-i)

pub offset_bounds-records-at-2 : goal.offset_bounds-records-at-2
offset_bounds-records-at-2 c = omega (arith, here (goal.at.offset_bounds-records-at-2 c).Else-size_at-i)

pub bounds-records-at-2 : goal.bounds-records-at-2
bounds-records-at-2 c = omega (arith, here (goal.at.bounds-records-at-2 c).Else-size_at-i)

pub returns : goal.returns
returns c = endpoint_there _ _ _ (omega arith) c.kind_of.ensures c.named.ensures
