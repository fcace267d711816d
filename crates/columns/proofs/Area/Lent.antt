-- A column's front or a part of the tail that was lent, and comes back: `ys` in the place of the part. Assumes nothing.
use mathlib.Core.Path.{◌≡◌, refl, sym, ap, ◌∙◌}
use mathlib.Core.List.{List, [], ◌∷◌, ◌++◌}
use Prim.Native.Nat.{ℕ, zero, suc, ◌+◌, ◌-◌, ◌*◌, ◌<◌, ◌≤◌}
use native.Mathlib.Omega.{arith}
use lib.ListN.{length, get_or, take, drop, replicate, length-append, length-drop, length-replicate, get_or-replicate, get_or-append}
use lib.Seq.{length-take-le, get_or-drop, get_or-append-add}
use Rattle.rules.specs.Lists.{laid_over}
use Rattle.columns.specs.Area.{put_from, put, tail, put_tail}

from_cons : (a y : ℕ) (w c : List ℕ) → put_from (suc a) (y ∷ w) c ≡ y ∷ put_from a w c
from_cons a y w [] = refl
from_cons a y w (x ∷ c) = rw (from_cons (suc a) y w c)

back_from : (a : ℕ) (w c : List ℕ) → a + length c ≤ length w → take a w ++ (c ++ drop (length c) (drop a w)) ≡ put_from a w c
back_from zero w [] h = refl
back_from zero [] (x ∷ c) h = absurd (omega arith)
back_from zero (y ∷ w) (x ∷ c) h = rw (from_cons 0 y w c) (ap (λ (l : List ℕ). x ∷ l) (back_from zero w c (omega arith)))
back_from (suc a) [] c h = absurd (omega arith)
back_from (suc a) (y ∷ w) c h = rw (from_cons a y w c) (ap (λ (l : List ℕ). y ∷ l) (back_from a w c (omega arith)))

-- the first n numbers of column f, lent as work[a..e], with a = f * m and e = a + n
pub lent_front : (f m n v : ℕ) (w ys : List ℕ) → f * m + n ≤ length w → ys ≡ replicate (length (take (f * m + n - f * m) (drop (f * m) w))) v
    → take (f * m) w ++ (ys ++ drop (f * m + n - f * m) (drop (f * m) w)) ≡ put f m w (replicate n v)
unfolding put
lent_front f m n v w ys h e =
    let k : f * m + n - f * m ≡ n = omega arith in
    let long : length (take n (drop (f * m) w)) ≡ n = length-take-le n (drop (f * m) w) (rw length-drop (omega arith)) in
    let y : ys ≡ replicate n v = (rw (k, long) at e) in
    rw (y, k) (rw (length-replicate n v) at (back_from (f * m) w (replicate n v) (omega (arith, length-replicate n v))))

-- a list whose first n numbers were lent, and came back as v
pub lent_fill : (k n v : ℕ) (l ys : List ℕ) → k ≡ n → n ≤ length l → ys ≡ replicate (length (take k l)) v → ys ++ drop k l ≡ laid_over (replicate n v) l
unfolding laid_over
lent_fill k n v l ys ek h ey = rw (ey, ek, length-take-le n l h, length-replicate)

-- the tail's, lent as work[a..e], with a = 16 * m and e = a + n
pub lent_tail : (m n v : ℕ) (w ys : List ℕ) → 16 * m + n ≤ length w → ys ≡ replicate (length (take (16 * m + n - 16 * m) (drop (16 * m) w))) v
    → take (16 * m) w ++ (ys ++ drop (16 * m + n - 16 * m) (drop (16 * m) w)) ≡ put_tail m w (laid_over (replicate n v) (tail m w))
unfolding put_tail tail
lent_tail m n v w ys h e = ap (λ (l : List ℕ). take (16 * m) w ++ l) (lent_fill (16 * m + n - 16 * m) n v (drop (16 * m) w) ys (omega arith) (rw length-drop (omega arith)) e)

-- what a list laid over another leaves
module _ (n v : ℕ) (l : List ℕ) where
  -- a fill laid over a list that is long enough keeps its length
  pub length_laid : n ≤ length l → length (laid_over (replicate n v) l) ≡ length l
  unfolding laid_over
  length_laid h = rw (length-append, length-replicate, length-drop) (omega arith)

  -- the first n numbers are the fill's
  pub at_laid : (j : ℕ) → j < n → get_or (laid_over (replicate n v) l) j 0 ≡ v
  unfolding laid_over
  at_laid j h = rw (get_or-append (replicate n v) (drop (length (replicate n v)) l) 0 j (omega (arith, length-replicate n v)), get_or-replicate n j v 0 h)

  -- the numbers behind them are the list's own
  pub past_laid : (j : ℕ) → n ≤ j → get_or (laid_over (replicate n v) l) j 0 ≡ get_or l j 0
  unfolding laid_over
  past_laid j h =
      let k : j ≡ length (replicate n v) + (j - n) = omega (arith, length-replicate n v) in
      ap (λ (i : ℕ). get_or (laid_over (replicate n v) l) i 0) k ∙ get_or-append-add (replicate n v) (drop (length (replicate n v)) l) (j - n) 0
      ∙ get_or-drop (length (replicate n v)) l (j - n) 0 ∙ ap (λ (i : ℕ). get_or l i 0) (sym k)
