-- `reservation_count::chains::chain_all` meets its contract. Assumes nothing.
use mathlib.Core.Path.{◌≡◌}
use Rattle.reservation_count.proofs.Laws.Chains.{Chaining}
use Rattle.reservation_count.proofs.chains.chain_all.Given as goal

abbrev pub invariant-loop-at : goal.invariant-loop-at
invariant-loop-at l = (l.at-iterator.records.now ≡ l.records) × Chaining l.records l.initial.heads l.initial.links l.at-iterator.at l.memories l.heads l.links
