-- `explain_lines::put_line` meets its contract: six stores, or none where they do not fit. Assumes nothing.
use mathlib.Core.Path.{refl}
use native.Mathlib.Omega.{arith}
use lib.ListN.{length-set}
use Rattle.explain_lines.specs.Lines.{six}
use Rattle.explain_lines.proofs.Lines.{six_stores, six_none}
use Rattle.explain_lines.proofs.put_line.Goals as goal

pub returns-then-list-at : goal.returns-then-list-at
returns-then-list-at c = six_none _ _ _ c.if-list-at.true

pub bounds-list-at-2 : goal.bounds-list-at-2
bounds-list-at-2 c = simp length-set (omega arith)

pub bounds-list-at-3 : goal.bounds-list-at-3
bounds-list-at-3 c = simp length-set (omega arith)

pub bounds-list-at-4 : goal.bounds-list-at-4
bounds-list-at-4 c = simp length-set (omega arith)

pub bounds-list-at-5 : goal.bounds-list-at-5
bounds-list-at-5 c = simp length-set (omega arith)

pub bounds-list-at-6 : goal.bounds-list-at-6
bounds-list-at-6 c = simp length-set (omega arith)

pub returns : goal.returns
unfolding six
returns c = six_stores _ _ _ _ _ _ _ _ c.if-list-at.false refl refl refl refl refl refl
