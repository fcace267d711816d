-- The tail, and another in its place. Assumes nothing.
use mathlib.Core.Path.{◌≡◌, ◌∙◌}
use mathlib.Core.List.{List}
use Prim.Native.Nat.{ℕ, ◌+◌, ◌-◌, ◌*◌, ◌<◌, ◌≤◌}
use native.Mathlib.Omega.{arith}
use lib.ListN.{length, get_or, take, length-drop, length-append, get_or-append}
use lib.Seq.{get_or-take, get_or-drop, drop_at, length-take-le}
use Rattle.columns.specs.Area.{tail, put_tail}

-- number j of the tail stands j behind the columns
pub get_d_tail : (m : ℕ) (w : List ℕ) (j : ℕ) → get_or (tail m w) j 0 ≡ get_or w (16 * m + j) 0
unfolding tail
get_d_tail m w j = get_or-drop (16 * m) w j 0

-- the tail is what is left behind sixteen columns
pub length_tail : (m : ℕ) (w : List ℕ) → length (tail m w) ≡ length w - 16 * m
unfolding tail
length_tail m w = length-drop (16 * m) w

module _ (m : ℕ) (w t : List ℕ) (room : 16 * m ≤ length w) where
  -- the new tail is the tail
  pub tail_put_tail : tail m (put_tail m w t) ≡ t
  unfolding tail put_tail
  tail_put_tail = drop_at (take (16 * m) w) t (16 * m) (length-take-le (16 * m) w room)

  -- a tail of the same length keeps the area's length
  pub length-put_tail : length t ≡ length (tail m w) → length (put_tail m w t) ≡ length w
  unfolding put_tail
  length-put_tail e = simp length-append (omega (arith, e ∙ length_tail m w, length-take-le (16 * m) w room))

  -- before the tail every number is as it was
  pub at_put_tail : (j : ℕ) → j < 16 * m → get_or (put_tail m w t) j 0 ≡ get_or w j 0
  unfolding put_tail
  at_put_tail j h = rw (get_or-append (take (16 * m) w) t 0 j (omega (arith, length-take-le (16 * m) w room)), get_or-take (16 * m) w j 0 h)
