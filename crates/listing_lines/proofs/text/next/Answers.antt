-- `listing_lines::text::next` meets its contract: it stops at the limit. Assumes nothing.
use native.Mathlib.Omega.{arith}
use mathlib.Core.Path.{sym, ◌∙◌}
use native.Mathlib.Numerals.{add-one}
use Rattle.listing_lines.proofs.Laws.Laid.{step_in, step_out}
use Rattle.listing_lines.proofs.text.next.Goals as goal

pub returns-then-at-limit : goal.returns-then-at-limit
returns-then-at-limit c = add-one _ ∙ sym (step_in c.args.limit c.args.at c.if-at-limit.true)

pub returns-else-at-limit : goal.returns-else-at-limit
returns-else-at-limit c = sym (step_out c.args.limit c.args.at (omega (arith, c.if-at-limit.false)))
