-- `explain_build::six::tell_six` meets its contract: memories and duplicates are counted whole, and their line is the only one. Assumes nothing.
use Rattle.explain_build.proofs.Laws.Six.{six_at, six_told}
use Rattle.explain_build.proofs.six.tell_six.Goals as goal

pub counted-c-requires : goal.counted-c-requires
counted-c-requires c = c.requires.room

pub six_line-requires : goal.six_line-requires
six_line-requires c = six_at c.requires c.counted-c.ensures

pub returns : goal.returns
returns c = six_told c.counted-c.ensures c.six_line.ensures c.put_line.ensures
