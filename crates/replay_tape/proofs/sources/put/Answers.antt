-- `replay_tape::sources::put` meets its contract. Assumes nothing.
use mathlib.Core.Path.{refl}
use native.Mathlib.Omega.{arith}
use lib.ListN.{length-set}
use Rattle.replay_tape.specs.Sources.{source_for, put_slot, put_tape, put_count}
use Rattle.replay_tape.proofs.sources.put.Goals as goal

pub bounds-tape-entries-in-New : goal.bounds-tape-entries-in-New
bounds-tape-entries-in-New c = simp length-set (omega (arith, c.requires.room))

pub returns-in-Old : goal.returns-in-Old
unfolding source_for put_slot put_tape put_count
returns-in-Old c = rw c.in-Old.is (record { slot = refl; entry = refl; count = refl })

pub returns-in-New : goal.returns-in-New
unfolding source_for put_slot put_tape put_count
returns-in-New c = rw c.in-New.is (record { slot = refl; entry = refl; count = refl })
