use Rattle.stage_ending.proofs.Laws.Writing.{write_at, writing_more, writing_done}
use Rattle.stage_ending.proofs.words.write.Goals as goal

pub write_one-requires : goal.write_one-requires
write_one-requires c = write_at c.requires.at (c.loop-j.invariant.all _ c.requires.at) c.loop-j-test.true

pub loop-j-preserved : goal.loop-j-preserved
loop-j-preserved c = record { all = λ ws W. writing_more W (c.loop-j.invariant.all ws W) c.loop-j-test.true c.write_one.ensures }

pub returns : goal.returns
returns c = record { all = λ ws W. writing_done W (c.loop-j.invariant.all ws W) c.loop-j-test.false }
