use Rattle.stage_runs.proofs.Laws.Written.{writing_none, writing_end, writing_stop, writing_record, writing_more}
use Rattle.stage_runs.proofs.puts.put_runs.Goals as goal

pub loop-j-init : goal.loop-j-init
loop-j-init c = record { all = λ C A. writing_none A _ }

pub put_record-puts-requires : goal.put_record-puts-requires
put_record-puts-requires c = record { it = _; at = writing_record c.requires.at _ (c.loop-j.invariant.all _ c.requires.at) c.loop-j-test.true _ c.wide-start.ensures }

pub loop-j-preserved : goal.loop-j-preserved
loop-j-preserved c = record {
  all = λ C A. writing_more A _ (c.loop-j.invariant.all C A) c.loop-j-test.true _ c.wide-start.ensures
      (c.put_record-puts.ensures.all C (writing_record A _ (c.loop-j.invariant.all C A) c.loop-j-test.true _ c.wide-start.ensures)) c.goes_on.ensures c.if-not-goes_on.false;
}

pub returns-then-not-goes_on : goal.returns-then-not-goes_on
returns-then-not-goes_on c = record { all = λ C A. writing_stop A _ (c.loop-j.invariant.all C A) c.loop-j-test.true _ c.goes_on.ensures c.if-not-goes_on.true }

pub returns : goal.returns
returns c = record { all = λ C A. writing_end A _ (c.loop-j.invariant.all C A) c.loop-j-test.false }
