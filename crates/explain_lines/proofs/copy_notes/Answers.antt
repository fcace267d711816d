use mathlib.Core.Path.{refl}
use native.Mathlib.Omega.{arith}
use Rattle.explain_lines.proofs.Copies.{copying_none, copying_next, copying_more, all_copied}
use borrow.Author.Rules.{rules}
use Rattle.explain_lines.proofs.copy_notes.Goals as goal

pub loop-h-init : goal.loop-h-init
loop-h-init c = (copying_none, refl, refl)

pub copy_note-lines-requires : goal.copy_note-lines-requires
copy_note-lines-requires c = copying_next c.loop-h.invariant.0 c.requires

pub loop-h-preserved : goal.loop-h-preserved
loop-h-preserved c = (copying_more c.loop-h.invariant.0 c.loop-h-test.true c.copy_note-lines.ensures, search rules, search rules)

pub returns : goal.returns
returns c = all_copied c.loop-h.invariant.0 (omega (arith, c.loop-h-test.false))
