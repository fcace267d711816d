-- `listing_lines::text::put_decimal` meets its contract. The number falls. Assumes nothing.
use Rattle.listing_lines.proofs.text.+put_decimal.Given as goal

abbrev pub decreases-put_decimal : goal.decreases-put_decimal
decreases-put_decimal l = l.n
