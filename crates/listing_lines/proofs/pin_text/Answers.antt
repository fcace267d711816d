-- `listing_lines::pin_text` meets its contract. Assumes nothing.
use Prim.Native.Nat.{ℕ}
use mathlib.Core.Path.{sym, ◌∙◌, ap}
use Rattle.rules.specs.Listing.{text, pin_text}
use Rattle.listing_lines.proofs.Laws.Laid.{laid_none, laid_as, laid_more}
use Rattle.listing_lines.proofs.Laws.Lines.{pin_none_lem, pin_some}
use Rattle.listing_lines.proofs.pin_text.Goals as goal

pub returns-then-p-eq0 : goal.returns-then-p-eq0
returns-then-p-eq0 c = laid_as laid_none (pin_none_lem _ (sym c.index-p.ensures ∙ c.if-p-eq0.true))

pub returns : goal.returns
unfolding text
returns c = laid_as (laid_more c.put_text-a.ensures c.put_decimal.ensures) (pin_some _ c.if-p-eq0.false ∙ ap (λ (i : ℕ). pin_text i) c.index-p.ensures)
