-- `merge_trials::rank_later` meets its contract: the slots passed have their keys, and the cone stands. Assumes nothing.
use Prim.Native.Nat.{◌-◌}
use mathlib.Core.Path.{◌≡◌}
use lib.ListN.{length}
use Rattle.rules.specs.Inside.Some.{Every}
use Rattle.merge_trials.specs.Ranks.{LaterAt}
use Rattle.merge_trials.proofs.Laws.Keys.{Keying}
use Rattle.merge_trials.proofs.rank_later.Given as goal

abbrev pub invariant-loop-s : goal.invariant-loop-s
invariant-loop-s l = Every (λ given. LaterAt given l.m l.table l.base l.i l.from l.cone.waiting l.cone.listed l.gates l.records l.indices l.lengths l.initial.work) (λ given. Keying given l.m l.table l.base l.i l.at l.s l.cone.waiting l.cone.listed l.gates l.records l.indices l.lengths l.initial.work l.work) × (length l.work ≡ length l.initial.work)
