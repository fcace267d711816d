-- `placer_start::reservation::has_code` meets its contract: what it has not walked of the chain decides. Assumes nothing.
use Rattle.placer_start.proofs.Laws.Chains.{Walking}
use Rattle.placer_start.proofs.reservation.has_code.Given as goal

abbrev pub invariant-loop-h : goal.invariant-loop-h
invariant-loop-h l = Walking l.m l.head l.code l.work l.h

abbrev pub decreases-loop-h : goal.decreases-loop-h
decreases-loop-h l = l.h
