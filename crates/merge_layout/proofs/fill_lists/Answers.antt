use native.Mathlib.Omega.{arith}
use lib.ListN.{length-set}
use Rattle.merge_layout.proofs.Laws.Tables.{tabling_slot, tabling_more}
use Rattle.merge_layout.proofs.fill_lists.Goals as goal

pub bounds-lengths-s : goal.bounds-lengths-s
bounds-lengths-s c = omega (arith, tabling_slot c.requires c.loop-i.invariant c.loop-i-test.true c.wide-s.ensures)

pub bounds-own-n-in-loop-i-2 : goal.bounds-own-n-in-loop-i-2
bounds-own-n-in-loop-i-2 c = simp length-set (omega (arith, tabling_slot c.requires c.loop-i.invariant c.loop-i-test.true c.wide-s.ensures, c.requires.table.room, c.loop-i.invariant.size))

pub loop-i-preserved : goal.loop-i-preserved
loop-i-preserved c = tabling_more c.requires c.loop-i.invariant c.loop-i-test.true c.wide-s.ensures
