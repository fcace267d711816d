use native.Mathlib.Omega.{arith}
use mathlib.Core.Path.{sym}
use Rattle.listing_lines.proofs.Laws.Laid.{laid_as, laid_more}
use Rattle.listing_lines.proofs.Laws.Decimal.{decimal_one, decimal_more}
use Rattle.listing_lines.proofs.text.+put_decimal.Goals as goal

pub returns-then-n-lt10 : goal.returns-then-n-lt10
returns-then-n-lt10 t c = laid_as c.put.ensures (rw c.digit.ensures (sym (decimal_one c.args.n c.if-n-lt10.true)))

pub returns : goal.returns
returns t c = laid_as (laid_more c.put_decimal-behind.ensures c.put-2.ensures) (rw c.digit-2.ensures (sym (decimal_more c.args.n (omega (arith, c.if-n-lt10.false)))))
