-- `aiger_rows::header::header` meets its contract. Assumes nothing.
use mathlib.Core.Path.{refl, sym, ◌∙◌}
use Rattle.rules.proofs.Bools.{and_none}
use borrow.Author.Tests.{ne_eqb}
use Rattle.aiger_rows.specs.Rows.{no}
use Rattle.aiger_rows.proofs.Laws.Header.{magic_not, magic_is, header_words, header_not, header_is}
use Rattle.aiger_rows.proofs.header.header.Goals.{else-n-eq5-via-then-n-eq5+else-fits, else-n-eq5-via-else-n-eq5}
use Rattle.aiger_rows.proofs.header.header.Goals as goal

pub returns-in_err-strip_prefix : goal.returns-in_err-strip_prefix
returns-in_err-strip_prefix c = rw (c.from_residual.ensures, magic_not _ c.in_err-strip_prefix.ensures.cases) no

pub returns-in_err-n : goal.returns-in_err-n
returns-in_err-n c = let h = c.in_ok-strip_prefix.ensures.cases in rw (c.from_residual-in_err-n.ensures, magic_is _ _ h.0 h.1) (header_words c.in_err-n.ensures)

pub returns-then-fits : goal.returns-then-fits
returns-then-fits c = let h = c.in_ok-strip_prefix.ensures.cases in rw (magic_is _ _ h.0 h.1) (header_is c.in_ok-n.ensures c.if-n-eq5.true (sym c.fits.ensures ∙ c.if-fits.true) _ refl refl refl refl refl)

pub returns-else-n-eq5 : goal.returns-else-n-eq5
returns-else-n-eq5 c = let h = c.in_ok-strip_prefix.ensures.cases in rw (magic_is _ _ h.0 h.1) (header_not c.in_ok-n.ensures (elim c.else-n-eq5.branch [
  | else-n-eq5-via-then-n-eq5+else-fits w ↦ rw (sym w.fits.ensures ∙ w.if-fits.false) (and_none _)
  | else-n-eq5-via-else-n-eq5 w ↦ rw (ne_eqb _ 5 w.if-n-eq5.false)
]))
