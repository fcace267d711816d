-- What the tally's test says of the room that it leaves. Assumes nothing.
use mathlib.Core.Bool.{Bool, true, false, not}
use mathlib.Core.Path.{◌≡◌, refl, sym, ◌∙◌, subst}
use Prim.Native.Nat.{ℕ, ◌+◌, ◌<◌, ◌≤◌}
use native.Mathlib.Omega.{arith}
use lib.Dec.{T, ltb, ltb→lt, nltb→le}
use Rattle.stage_tally.specs.declared.Tally.{Tally}
use Rattle.stage_tally.specs.Spending.{spending, bound, room, Counted}

module _ {t u : Tally} (A : Counted t) (n : ℕ) (e : u ≡ spending t n) where
  -- n words more are over exactly where the room is less than n
  pub over_room : {b : Bool} → b ≡ ltb (bound u) u.spent → b ≡ true → room t < n
  over_room f g = let h = ltb→lt (bound t) (t.spent + n) (subst T (sym (rw e at (sym f ∙ g))) tt) in omega (arith, A.spent, h)

  -- n words more that are not over fit the room
  pub fits_room : {b : Bool} → b ≡ ltb (bound u) u.spent → b ≡ false → n ≤ room t
  fits_room f g = let h = nltb→le (bound t) (t.spent + n) (subst (λ (b : Bool). T (not b)) (sym (rw e at (sym f ∙ g))) tt) in omega (arith, A.spent, h)

  -- so many words may be spent
  pub counted_more : n ≤ room t → Counted u
  counted_more h = rw e (record { within = A.within; spent = omega (arith, A.spent); small = A.small })

  -- adding words leaves how many may be written in all
  pub bound_same : bound u ≡ bound t
  bound_same = rw e refl

  -- adding words adds to those spent
  pub spent_more : u.spent ≡ t.spent + n
  spent_more = rw e refl
