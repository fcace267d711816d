-- `stage_ending::words::write` meets its contract: word after word; each knows its place. Assumes nothing.
use Rattle.rules.specs.Inside.Some.{Every}
use Rattle.stage_ending.specs.Words.{WriteAt, Writing}
use Rattle.stage_ending.proofs.words.write.Given as goal

abbrev pub invariant-loop-j : goal.invariant-loop-j
invariant-loop-j l = Every (λ ws. WriteAt l.m l.at l.n ws l.initial.words l.initial.work) (λ ws. Writing l.m l.at l.j ws l.initial.words l.initial.work l.words l.work)
