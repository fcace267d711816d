-- `explain_lines::copy_notes` meets its contract: level after level, from the highest down. Assumes nothing.
use lib.ListN.{length}
use mathlib.Core.Path.{◌≡◌}
use Rattle.explain_lines.specs.Copies.{Copying}
use Rattle.explain_lines.proofs.copy_notes.Given as goal

abbrev pub invariant-loop-h : goal.invariant-loop-h
invariant-loop-h l = Copying l.m l.stage l.n l.initial.work l.initial.list l.h l.lines l.work l.list × (length l.work ≡ length l.initial.work) × (length l.list ≡ length l.initial.list)
