use Rattle.reservation_count.proofs.Laws.Walks.{walking_none, walk_whole, walk_falls, walk_stamp, walking_pass, walking_more, walking_done}
use Rattle.reservation_count.proofs.walks.walk.Goals as goal

pub loop-h-init : goal.loop-h-init
loop-h-init c = λ cs A. walking_none _ _ _ _ _ _ cs A

pub code_at-code-requires : goal.code_at-code-requires
code_at-code-requires c = walk_whole _ _ _ _ _ _ _ c.requires.at _ _ _ (c.loop-h.invariant _ c.requires.at) c.loop-h-test.true

pub stamp-n-requires : goal.stamp-n-requires
stamp-n-requires c = walk_stamp _ _ _ _ _ _ _ c.requires.at _ _ _ (c.loop-h.invariant _ c.requires.at) c.loop-h-test.true _ _ c.code_at-code.ensures c.wide-h.ensures c.if-code-r.true

pub loop-h-smaller-then-code-r : goal.loop-h-smaller-then-code-r
loop-h-smaller-then-code-r c = walk_falls _ _ _ _ _ _ _ c.requires.at _ _ _ (c.loop-h.invariant _ c.requires.at) c.loop-h-test.true _ c.wide-h.ensures

pub loop-h-preserved-then-code-r : goal.loop-h-preserved-then-code-r
loop-h-preserved-then-code-r c = λ cs A. walking_more _ _ _ _ _ _ cs A _ _ _ (c.loop-h.invariant cs A) c.loop-h-test.true _ _ c.code_at-code.ensures c.wide-h.ensures c.if-code-r.true _ _ c.stamp-n.ensures

pub loop-h-smaller : goal.loop-h-smaller
loop-h-smaller c = walk_falls _ _ _ _ _ _ _ c.requires.at _ _ _ (c.loop-h.invariant _ c.requires.at) c.loop-h-test.true _ c.wide-h.ensures

pub loop-h-preserved : goal.loop-h-preserved
loop-h-preserved c = λ cs A. walking_pass _ _ _ _ _ _ cs A _ _ _ (c.loop-h.invariant cs A) c.loop-h-test.true _ _ c.code_at-code.ensures c.wide-h.ensures c.if-code-r.false

pub returns : goal.returns
returns c = record { all = λ cs A. walking_done _ _ _ _ _ _ cs A _ _ _ (c.loop-h.invariant cs A) c.loop-h-test.false }
