-- `stage_ending::close::realise_all` meets its contract: in list order. Assumes nothing.
use Rattle.stage_ending.specs.Close.{Realising}
use Rattle.stage_ending.proofs.close.realise_all.Given as goal

abbrev pub invariant-loop-i : goal.invariant-loop-i
invariant-loop-i l = Realising l.m l.n l.r l.i l.initial.work l.work l.real
