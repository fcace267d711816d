use mathlib.Core.Path.{refl}
use native.Mathlib.Omega.{arith}
use Rattle.replay_run.proofs.Laws.Slots.{words_none, words_more, words_done}
use Rattle.replay_run.proofs.slots.read_words.Goals as goal

pub loop-i-init : goal.loop-i-init
loop-i-init c = words_none _ _ _ _

pub offset_bounds-words-i : goal.offset_bounds-words-i
offset_bounds-words-i c = omega (arith, c.loop-i.invariant.upto)

pub bounds-words-i : goal.bounds-words-i
bounds-words-i c = omega (arith, c.loop-i.invariant.upto)

pub loop-i-smaller : goal.loop-i-smaller
loop-i-smaller c = omega arith

pub loop-i-preserved : goal.loop-i-preserved
loop-i-preserved c = words_more _ _ _ _ _ _ c.loop-i.invariant c.loop-i-test.true _ refl _ c.read_word.ensures

pub shape_of-reads : goal.shape_of-reads
shape_of-reads c = omega (arith, c.loop-i.invariant.slotted.len)

pub returns : goal.returns
returns c = words_done _ _ _ _ _ _ c.loop-i.invariant c.loop-i-test.false
