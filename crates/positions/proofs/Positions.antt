-- Positions by leading zeros, against powers of two. Assumes nothing.
use Prim.Native.Nat.{ℕ, zero, suc, ◌+◌, ◌-◌, ◌*◌, ◌%◌, ◌^◌, ◌≤◌, ◌<◌}
use mathlib.Core.Path.{◌≡◌, refl}
use native.Mathlib.Omega.{arith}
use lib.Count.{count_leading_zeros, leading_top}
use lib.Pow.{pow_mono}
use lib.Dec.{ltb}
use borrow.Author.Tests.{ltb-true, ltb-false}
use Rattle.rules.specs.Cells.{log_from, log2, row_start, level_of, cell_of, position}
use Rattle.rules.proofs.Lists.Members.{split}
use Rattle.rules.proofs.Cells.Positions.{log_good, log_one, position_placed}
use Rattle.cells.proofs.Heights.{shifted}

-- position 0 has logarithm 0
pub log_zero : (p : ℕ) → p ≡ 0 → 0 ≡ log2 p
unfolding log2 log_from
log_zero p e = rw e

module _ (p : ℕ) (pos : 0 < p) (fits : p < 2 ^ 32) where
  -- a position above 0 has a bit set, so at most 31 leading zeros
  pub few_zeros : count_leading_zeros 32 p ≤ 31
  few_zeros = omega (arith, (leading_top 32 p pos fits).1)

  -- 31 less the leading zeros is the position's logarithm
  pub zeros_log : 31 - count_leading_zeros 32 p ≡ log2 p
  zeros_log =
      let t = leading_top 32 p pos fits in
      let e : 31 - count_leading_zeros 32 p ≡ t.0 = omega (arith, t.1) in
      log_one (31 - count_leading_zeros 32 p) (log2 p) p (rw e (record { low = t.2; high = omega (arith, t.3) })) (log_good p pos)

-- a row begins at or before each of its positions
pub start_low : (p : ℕ) → 0 < p → row_start p ≤ p
unfolding row_start
start_low p pos = (log_good p pos).low

-- a number of w bits has a logarithm below w
pub log_few : (p w : ℕ) → 0 < w → p < 2 ^ w → log2 p < w
log_few zero w a h = omega (arith, log_zero 0 refl)
log_few (suc p) w a h = split (ltb (log2 (suc p)) w) (λ t. ltb-true (log2 (suc p)) w t)
    (λ t. absurd (omega (arith, (log_good (suc p) (omega arith)).low, pow_mono {i = w} {j = log2 (suc p)} (ltb-false (log2 (suc p)) w t))))

-- a 1 shifted by the logarithm is where the row begins
pub start_shifted : (p w r : ℕ) → 0 < w → p < 2 ^ w → r ≡ log2 p → 1 * 2 ^ r % 2 ^ w ≡ row_start p
unfolding row_start
start_shifted p w r a h e = rw e (shifted w (log2 p) (log_few p w a h))

-- a position is that of its level and cell
pub position_of : (K p : ℕ) → 1 ≤ p → p < 2 ^ (K + 1) → position K (level_of K p) (cell_of p) ≡ p
unfolding position cell_of
position_of K p low high = let t = position_placed K p low high in omega (arith, t.starts, t.row)
