-- Heights, and the powers of two that they carry. Assumes nothing.
use Prim.Native.Nat.{ℕ, ◌+◌, ◌-◌, ◌*◌, ◌/◌, ◌%◌, ◌^◌, ◌≤◌, ◌<◌}
use mathlib.Core.Bool.{Bool, true, false}
use mathlib.Core.Path.{◌≡◌, refl, sym, ◌∙◌}
use native.Mathlib.Omega.{arith}
use native.Mathlib.Nat.{one-mul, mod-eq_of_lt}
use lib.Dec.{leb}
use lib.Pow.{pow-lt, pow_pos, pow_mono}
use borrow.Author.Tests.{leb-true, le-leb, lt-leb, lt-ltb, le-ltb}
use Rattle.rules.specs.Cells.{is_height, stage_size, row_at, position, rooms}
use Rattle.rules.proofs.Lists.Members.{and_true, split}
use Rattle.cells.specs.Answers.{or_zero, has_level, has_cell}

-- the number itself where the test holds
pub or_zero_true : (x : ℕ) → or_zero true x ≡ x
unfolding or_zero
or_zero_true x = refl

-- 0 where the test does not hold
pub or_zero_false : (x : ℕ) → or_zero false x ≡ 0
unfolding or_zero
or_zero_false x = refl

-- below 6 there is no height
pub not_low : (K : ℕ) → K < 6 → is_height K ≡ false
unfolding is_height
not_low K h = simp (lt-leb 6 K h)

-- from 6 on the test is that of the upper bound
pub not_above : (K : ℕ) → 6 ≤ K → is_height K ≡ leb K 13
unfolding is_height
not_above K h = simp (le-leb 6 K h)

-- what a number answers that is a height
pub tall_answer : (K : ℕ) {x r : ℕ} → 6 ≤ K → K ≤ 13 → r ≡ or_zero (is_height K) x → r ≡ x
tall_answer K {x} a b e = e ∙ rw (not_above K a, le-leb K 13 b) (or_zero_true x)

-- a height is from 6 to 13
pub record Tall (K : ℕ) : Type 0 where
  pub low : 6 ≤ K
  pub high : K ≤ 13

-- a height lies between the least and the greatest
pub tall_height : (K : ℕ) → is_height K ≡ true → Tall K
unfolding is_height
tall_height K e = let h = and_true (leb 6 K) (leb K 13) e in record { low = leb-true 6 K h.0; high = leb-true K 13 h.1 }

-- a test that tells heights gives the bounds
pub tall : {t : Bool} (K : ℕ) → t ≡ is_height K → t ≡ true → Tall K
tall K q e = tall_height K (sym q ∙ e)

-- a level of a height
pub record Level (K h : ℕ) : Type 0 where
  pub height : is_height K ≡ true
  pub low : 6 ≤ K
  pub high : K ≤ 13
  pub upto : h ≤ K

-- what the test of a level establishes
pub has_level_lem : (K h : ℕ) → has_level K h ≡ true → Level K h
unfolding has_level
has_level_lem K h e =
    let d = and_true (is_height K) (leb h K) e in
    let t = tall_height K d.0 in
    record { height = d.0; low = t.low; high = t.high; upto = leb-true h K d.1 }

-- at a right height a level is one up to it
pub level_tested : (K h : ℕ) → is_height K ≡ true → has_level K h ≡ leb h K
unfolding has_level
level_tested K h e = rw e

-- a bad height has no level
pub level_none : (K h : ℕ) → is_height K ≡ false → has_level K h ≡ false
unfolding has_level
level_none K h e = rw e

-- what a shift computes, at any width
pub shifted : (w e : ℕ) → e < w → 1 * 2 ^ e % 2 ^ w ≡ 2 ^ e
shifted w e h = rw (one-mul (2 ^ e)) (mod-eq_of_lt (pow-lt h))

-- a power of two where the test t held, and 0 where it did not
pub shifted_there : {t b : Bool} (e : ℕ) → t ≡ b → t ≡ true → e < 64 → 1 * 2 ^ e % 2 ^ 64 ≡ or_zero b (2 ^ e)
shifted_there e q t h = rw (← q, t, or_zero_true (2 ^ e)) (shifted 64 e h)

-- 0 is the answer where the test failed
pub none_there : {t b : Bool} (x : ℕ) → t ≡ b → t ≡ false → 0 ≡ or_zero b x
none_there x q t = rw (← q, t, or_zero_false x)

-- the position of a cell, from what its row answers
module _ (K h r : ℕ) (e : r ≡ or_zero (has_level K h) (row_at K h)) where
  -- a row has at most 8,192 cells, also where there is none
  pub row_small : r ≤ 8192
  unfolding row_at
  row_small = split (has_level K h)
      (λ t. let l = has_level_lem K h t in omega (arith, (rw (t, or_zero_true (2 ^ (K - h))) at e), pow_mono {i = K - h} {j = 13} (omega arith)))
      (λ t. omega (arith, (rw (t, or_zero_false (row_at K h)) at e)))

  -- past the row there is no cell, and the answer is 0
  pub cell_none : (j : ℕ) → r ≤ j → 0 ≡ or_zero (has_cell K h j) (position K h j)
  unfolding has_cell
  cell_none j a = split (has_level K h)
      (λ t. simp (t, le-ltb j (row_at K h) (omega (arith, (rw (t, or_zero_true (row_at K h)) at e))), or_zero_false))
      (λ t. simp (t, or_zero_false))

  -- within the row the position is the cell behind the row's start
  pub cell_there : (j : ℕ) → j < r → j + r ≡ or_zero (has_cell K h j) (position K h j)
  unfolding has_cell position
  cell_there j a = split (has_level K h)
      (λ t. let d = rw (t, or_zero_true (row_at K h)) at e in simp (t, lt-ltb j (row_at K h) (omega arith), or_zero_true, d))
      (λ t. absurd (omega (arith, (rw (t, or_zero_false (row_at K h)) at e))))

-- the rooms of an area, from what the size of a stage answers
module _ (K n t : ℕ) (e : t ≡ or_zero (is_height K) (stage_size K)) where
  -- a bad height has no room
  pub rooms_none : t ≡ 0 → 0 ≡ or_zero (is_height K) (rooms K n)
  rooms_none z = split (is_height K)
      (λ h. absurd (omega (arith, (rw (h, or_zero_true (2 ^ (K + 1))) at e), pow_pos (K + 1))))
      (λ h. rw (h, or_zero_false (rooms K n)))

  -- a right height has as many rooms as whole stages fit
  pub rooms_there : (t ≡ 0 → ⊥) → n / t ≡ or_zero (is_height K) (rooms K n)
  unfolding rooms
  rooms_there z = split (is_height K)
      (λ h. let d : t ≡ stage_size K = rw (h, or_zero_true (stage_size K)) at e in rw (d, h, or_zero_true (n / stage_size K)))
      (λ h. absurd (z (rw (h, or_zero_false (stage_size K)) at e)))
