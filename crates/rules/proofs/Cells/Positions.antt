-- The row and the level of a position, for any height. Assumes nothing.
use Prim.Native.Nat.{ℕ, zero, suc, ◌+◌, ◌-◌, ◌*◌, ◌^◌, ◌≤◌, ◌<◌}
use mathlib.Core.Path.{◌≡◌, sym, ap}
use native.Mathlib.Omega.{arith}
use lib.Dec.{ltb}
use lib.Pow.{pow_mono, pow_pos}
use borrow.Author.Tests.{ltb-true, ltb-false}
use Rattle.rules.specs.Cells.{log_from, log2, row_start, level_of, row_at, position, cell_of}
use Rattle.rules.proofs.Lists.Members.{split}
use Rattle.rules.proofs.Tree.Loads.{rows}

-- 2 ^ j is the greatest power of two not above p
pub record Log (j p : ℕ) : Type 0 where
  pub low : 2 ^ j ≤ p
  pub high : p < 2 * 2 ^ j

below_power : (n : ℕ) → n < 2 ^ n
below_power zero = omega arith
below_power (suc n) = omega (arith, below_power n)

log_from_good : (f j p : ℕ) → 2 ^ j ≤ p → p < 2 ^ (j + f) → Log (log_from f j p) p
unfolding log_from
log_from_good zero j p a b = let e : j + 0 ≡ j = omega arith in absurd (omega (arith, rw e at b))
log_from_good (suc f) j p a b = split (ltb p (2 ^ suc j))
    (λ t. rw (t, log_from) (record { low = a; high = omega (arith, ltb-true p (2 ^ suc j) t) }))
    (λ t. rw (t, log_from) (log_from_good f (suc j) p (ltb-false p (2 ^ suc j) t) (let e : suc j + f ≡ j + suc f = omega arith in rw e b)))

-- every position has such a j: its logarithm
pub log_good : (p : ℕ) → 1 ≤ p → Log (log2 p) p
unfolding log2
log_good p a = log_from_good p 0 p (omega arith) (let e : 0 + p ≡ p = omega arith in rw e (below_power p))

-- there is one such power only
below : (i j p : ℕ) → Log i p → Log j p → i < j → ⊥
below i j p a b h = omega (arith, a.high, b.low, pow_mono h)

-- a position has only one such j
pub log_one : (i j p : ℕ) → Log i p → Log j p → i ≡ j
log_one i j p a b = split (ltb i j) (λ t. absurd (below i j p a b (ltb-true i j t)))
    (λ t. split (ltb j i) (λ u. absurd (below j i p b a (ltb-true j i u))) (λ u. omega (arith, ltb-false i j t, ltb-false j i u)))

-- a position of a stage of height K: its row, and how many rows are below
pub record Placed (K h w p : ℕ) : Type 0 where
  pub upto : h ≤ K
  pub starts : w ≡ row_at K h
  pub rows : w * 2 ^ h ≡ 2 ^ K
  pub row : w ≤ p
  pub end : p < w + w

module _ (K p : ℕ) (low : 1 ≤ p) (high : p < 2 ^ (K + 1)) where
  log_upto : log2 p ≤ K
  log_upto = split (ltb K (log2 p)) (λ t. absurd (omega (arith, (log_good p low).low, pow_mono {i = K + 1} {j = log2 p} (omega (arith, ltb-true K (log2 p) t))))) (λ t. ltb-false K (log2 p) t)

  -- the level and the row start of a position
  pub position_placed : Placed K (level_of K p) (row_start p) p
  unfolding level_of row_start row_at
  position_placed =
      let l = log_upto in
      let g = log_good p low in
      let e : K - (K - log2 p) ≡ log2 p = omega arith in
      let s : 2 ^ log2 p ≡ row_at K (K - log2 p) = ap (λ (n : ℕ). 2 ^ n) (sym e) in
      record { upto = omega arith; starts = s; rows = rw s (rows K (K - log2 p) (omega arith)); row = g.low; end = omega (arith, g.high) }

  -- and no other row holds it
  pub level_one : (h : ℕ) → h ≤ K → row_at K h ≤ p → p < row_at K h + row_at K h → (level_of K p ≡ h) × (row_start p ≡ row_at K h)
  unfolding level_of row_start row_at
  level_one h b a c =
      let e : log2 p ≡ K - h = log_one (log2 p) (K - h) p (log_good p low) (record { low = a; high = omega arith }) in
      (omega (arith, e), ap (λ (n : ℕ). 2 ^ n) e)

-- cell and level to position and back
pub position_back : (K h j : ℕ) → h ≤ K → j < row_at K h → (level_of K (position K h j) ≡ h) × (cell_of (position K h j) ≡ j)
unfolding position cell_of row_at
position_back K h j b a =
    let k : 2 ^ (K - h) ≤ 2 ^ K = pow_mono (omega arith) in
    let t = level_one K (j + row_at K h) (omega (arith, pow_pos (K - h))) (let e : K + 1 ≡ suc K = omega arith in rw e (omega arith)) h b (omega arith) (omega arith) in
    (t.0, omega (arith, t.1))
