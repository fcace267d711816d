-- `records::Walk::next` meets its contract. Assumes nothing.
use native.Mathlib.Omega.{arith}
use mathlib.Core.Path.{refl, sym, ◌∙◌}
use borrow.Author.Rules.{rules}
use Rattle.records.specs.Walk.{Steps}
use Rattle.records.proofs.Reading.{Stands, stands}
use Rattle.records.proofs.WalkIterator.next.Goals as goal
use Rattle.records.proofs.WalkIterator.next.Goals.{Else-size-eq0}

there : (c : Else-size-eq0) → let s = c.args.self.now in Stands s.records.now s.at
there c = let s = c.args.self.now in stands s.records.now s.at (omega (arith, c.size_at-size.ensures, c.if-size-eq0.false))

pub returns-then-size-eq0-clause-steps : goal.returns-then-size-eq0-clause-steps
unfolding Steps
returns-then-size-eq0-clause-steps c = record { none = sym c.size_at-size.ensures ∙ c.if-size-eq0.true; records = refl; at = refl }

pub overflow_add-self : goal.overflow_add-self
overflow_add-self c = omega (arith, (there c).inside)

pub overflow_add-self-2 : goal.overflow_add-self-2
overflow_add-self-2 c = omega (arith, c.size_at-size.ensures, (there c).inside)

pub returns-clause-steps : goal.returns-clause-steps
unfolding Steps
returns-clause-steps c = record {
  start = refl;
  there = (there (goal.at.returns-clause-steps c).Else-size-eq0).some;
  records = refl;
  next = rw c.size_at-size.ensures refl;
}

pub returns-clause-goes : goal.returns-clause-goes
returns-clause-goes c = let w = there (goal.at.returns-clause-goes c).Else-size-eq0 in search (rules, w.inside)
