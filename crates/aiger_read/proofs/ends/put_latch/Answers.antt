-- `aiger_read::ends::put_latch` meets its contract. Assumes nothing.
use mathlib.Core.Path.{refl, ap}
use native.Mathlib.Omega.{arith}
use lib.ListN.{set}
use Rattle.aiger_rows.specs.Rows.{said, row_item}
use Rattle.aiger_form.specs.Aag.{latch_of}
use Rattle.aiger_read.proofs.Laws.Ends.{latch_other}
use Rattle.aiger_read.proofs.ends.put_latch.Goals as goal

pub returns-in_default : goal.returns-in_default
unfolding said latch_of
returns-in_default c = rw c.in_default.is (record { place = omega arith; area = refl })

pub bounds-latches-at : goal.bounds-latches-at
unfolding said row_item latch_of
bounds-latches-at c = let h = rw (c.in-Some.is, c.in-Latch.is) at c.requires in omega arith

pub returns-in-Latch : goal.returns-in-Latch
unfolding said row_item latch_of
returns-in-Latch c = rw (c.in-Some.is, c.in-Latch.is) (record { place = omega arith; area = ap (set c.args.latches.now c.args.at) c.pin_of.ensures })

pub returns-in_default-row : goal.returns-in_default-row
unfolding said
returns-in_default-row c = rw (c.in-Some.is, latch_other _ c.in_default-row.not-Latch) (record { place = omega arith; area = refl })
