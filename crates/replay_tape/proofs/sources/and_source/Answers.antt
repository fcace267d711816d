-- `replay_tape::sources::and_source` meets its contract. Assumes nothing.
use native.Mathlib.Omega.{arith}
use Rattle.rules.specs.Graph.{literal_of}
use Rattle.replay_form.specs.Tape.{and_source}
use Rattle.replay_tape.specs.Sources.{source_for}
use Rattle.replay_tape.proofs.Laws.Sources.{first_fits, second_fits}
use Rattle.replay_tape.proofs.sources.and_source.Goals as goal

pub overflow_add-result : goal.overflow_add-result
overflow_add-result c = omega (arith, first_fits _ _ _ c.requires.first_bound c.first_inversion-i.ensures)

pub overflow_add-result-2 : goal.overflow_add-result-2
overflow_add-result-2 c = omega (arith, second_fits _ _ _ c.requires.second_bound c.second_inversion-j.ensures)

pub returns : goal.returns
unfolding and_source source_for literal_of
returns c = rw (← c.first_inversion-i.ensures, ← c.second_inversion-j.ensures)
