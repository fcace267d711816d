use native.Mathlib.Omega.{arith}
use Rattle.aiger_text.proofs.Laws.Whole.{sofar_start, sofar_step, sofar_end}
use Rattle.aiger_text.proofs.passes.first_place.Goals as goal

pub loop-w-init : goal.loop-w-init
loop-w-init c = sofar_start c.requires.wide c.requires.room c.place_in-s.ensures

pub loop-w-preserved : goal.loop-w-preserved
loop-w-preserved c = sofar_step c.loop-w.invariant (omega (arith, c.loop-w-test.true)) c.place_in-a.ensures c.min-first.ensures (omega arith)

pub returns : goal.returns
returns c = sofar_end c.loop-w.invariant c.place_in-s.ensures c.requires.wide c.requires.room (omega (arith, c.loop-w-test.false)) c.requires.behind.inside
