-- `listing_lines::words_text` meets its contract: no words print a dash. Assumes nothing.
use mathlib.Core.Path.{sym, ◌∙◌}
use Rattle.rules.proofs.Lists.Members.{eqb_true, eqb_false}
use Rattle.rules.specs.Listing.{text}
use Rattle.listing_lines.proofs.Laws.Laid.{laid_as}
use Rattle.listing_lines.proofs.Laws.Lines.{words_none, words_some}
use Rattle.listing_lines.proofs.words_text.Goals as goal

pub returns-then-is_empty : goal.returns-then-is_empty
unfolding text
returns-then-is_empty c = laid_as c.put_text.ensures (words_none c.args.words.now (eqb_true _ _ (sym c.is_empty.ensures ∙ c.if-is_empty.true)))

pub returns-else-is_empty : goal.returns-else-is_empty
returns-else-is_empty c = laid_as c.spaced.ensures (words_some c.args.words.now (eqb_false _ _ (sym c.is_empty.ensures ∙ c.if-is_empty.false)))
