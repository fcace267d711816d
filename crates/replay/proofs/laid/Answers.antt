-- `replay::laid` meets its contract. Assumes nothing.
use mathlib.Core.Path.{refl}
use Rattle.placer.specs.Answers.{told}
use Rattle.replay.proofs.laid.Goals as goal

pub returns-in-Ok : goal.returns-in-Ok
unfolding told
returns-in-Ok c = rw c.in-Ok.is (record { stages = refl; words = refl })

pub returns-in-Err : goal.returns-in-Err
unfolding told
returns-in-Err c = rw c.in-Err.is (record { stages = refl; words = refl })
