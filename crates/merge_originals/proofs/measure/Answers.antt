-- `merge_originals::measure` meets its contract: a refusal, or the numbers noted. Assumes nothing.
use Rattle.refusals.proofs.Numbers.{handed_on}
use Rattle.merge_originals.proofs.Laws.Measuring.{measure_try, measure_note, measure_refused, measure_whole}
use Rattle.merge_originals.proofs.measure.Goals as goal

pub build_union-requires : goal.build_union-requires
build_union-requires c = measure_try c.requires

pub returns-in_err-built : goal.returns-in_err-built
returns-in_err-built c = let q = handed_on c.from_residual.result _ c.from_residual.ensures.1 in rw q (measure_refused c.requires c.in_err-built.ensures)

pub note-requires : goal.note-requires
note-requires c = measure_note c.requires c.in_ok-built.ensures

pub returns : goal.returns
returns c = measure_whole c.requires c.in_ok-built.ensures c.note.ensures
