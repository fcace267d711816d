-- A list put into a column. Assumes nothing.
use mathlib.Core.Path.{◌≡◌, refl}
use mathlib.Core.List.{List, [], ◌∷◌}
use Prim.Native.Nat.{ℕ, zero, suc, ◌+◌, ◌-◌, ◌*◌, ◌<◌, ◌≤◌}
use native.Mathlib.Omega.{arith}
use native.Mathlib.Nat.{not-suc-le-zero, le_of_suc-le-suc, add-zero, add-suc, suc-add}
use lib.ListN.{length, get_or, length-set}
use lib.Seq.{get_or-set_same, get_or-set_other}
use Rattle.columns.specs.Area.{put_from, put}
use Rattle.columns.proofs.Area.Columns.{apart}

length_from : (a : ℕ) (w c : List ℕ) → length (put_from a w c) ≡ length w
length_from a w [] = refl
length_from a w (x ∷ c) = simp length-set (length_from (suc a) w c)

-- an index that is before the list or past it
get_or_from_other : (a : ℕ) (w c : List ℕ) (j : ℕ) → (a ≤ j → j < a + length c → ⊥) → get_or (put_from a w c) j 0 ≡ get_or w j 0
get_or_from_other a w [] j ne = refl
get_or_from_other a w (x ∷ c) j ne = rw (get_or-set_other (put_from (suc a) w c) a j x 0 (λ e. ne (omega arith) (omega arith))) (get_or_from_other (suc a) w c j (λ h k. ne (omega arith) (omega arith)))

get_or_from_same : (a : ℕ) (w c : List ℕ) (p : ℕ) → p < length c → a + p < length w → get_or (put_from a w c) (a + p) 0 ≡ get_or c p 0
get_or_from_same a w [] p h hw = absurd (not-suc-le-zero h)
get_or_from_same a w (x ∷ c) zero h hw = rw (add-zero, get_or-set_same (put_from (suc a) w c) a x 0 (rw length_from (omega arith)))
get_or_from_same a w (x ∷ c) (suc p) h hw = rw (get_or-set_other (put_from (suc a) w c) a (a + suc p) x 0 (λ e. omega arith), add-suc, ← suc-add) (get_or_from_same (suc a) w c p (le_of_suc-le-suc h) (omega arith))

module _ (f m : ℕ) (w c : List ℕ) where
  -- putting a list into a column keeps the area's length
  pub length_put : length (put f m w c) ≡ length w
  unfolding put
  length_put = length_from (f * m) w c

  away : (g p : ℕ) → length c ≤ m → p < m → (g ≡ f → ⊥) → f * m ≤ g * m + p → g * m + p < f * m + length c → ⊥
  away g p hc hp ne a b = ne (apart g f m p (g * m + p - f * m) hp (omega arith) (omega arith))

  -- a load from the list, from past it, and from another column
  pub at_put : (p : ℕ) → p < length c → f * m + p < length w → get_or (put f m w c) (f * m + p) 0 ≡ get_or c p 0
  unfolding put
  at_put p h hw = get_or_from_same (f * m) w c p h hw

  -- past the list the column is as it was
  pub at_put_past : (p : ℕ) → length c ≤ p → get_or (put f m w c) (f * m + p) 0 ≡ get_or w (f * m + p) 0
  unfolding put
  at_put_past p h = get_or_from_other (f * m) w c (f * m + p) (λ a b. omega arith)

  -- a cell of another column is as it was
  pub at_put_other : (g p : ℕ) → length c ≤ m → p < m → (g ≡ f → ⊥) → get_or (put f m w c) (g * m + p) 0 ≡ get_or w (g * m + p) 0
  unfolding put
  at_put_other g p hc hp ne = get_or_from_other (f * m) w c (g * m + p) (away g p hc hp ne)

  -- past the columns nothing changes
  pub past_put : (j : ℕ) → f * m + m ≤ 16 * m → length c ≤ m → 16 * m ≤ j → get_or (put f m w c) j 0 ≡ get_or w j 0
  unfolding put
  past_put j hf hc hj = get_or_from_other (f * m) w c j (λ a b. omega arith)
