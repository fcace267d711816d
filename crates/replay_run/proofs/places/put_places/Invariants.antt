-- `replay_run::places::put_places` meets its contract: the records before `at` have theirs. Assumes nothing.
use mathlib.Core.Path.{◌≡◌}
use Rattle.replay_run.proofs.Laws.Places.{PlacesTo}
use Rattle.replay_run.proofs.places.put_places.Given as goal

abbrev pub invariant-loop-at : goal.invariant-loop-at
invariant-loop-at l = (l.at-iterator.records.now ≡ l.records) × PlacesTo l.records l.reads l.initial.places l.at-iterator.at l.j l.places
