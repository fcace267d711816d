-- How long plain lists and their parts are. Assumes nothing.
use Prim.Native.Nat.{ℕ, zero, suc, ◌-◌, ◌≤◌}
use mathlib.Core.List.{List, ◌∷◌}
use mathlib.Core.Path.{◌≡◌, refl, ap}
use native.Mathlib.Omega.{arith}
use lib.ListN.{length, take, drop, replicate}
use Rattle.rules.specs.Lists.{up_to}

-- the n numbers from i on are n
pub length-up_to : (n i : ℕ) → length (up_to n i) ≡ n
unfolding up_to
length-up_to zero i = refl
length-up_to (suc n) i = ap suc (length-up_to n (suc i))

-- n copies without the first k are n - k
pub drop-replicate : (k n x : ℕ) → drop k (replicate n x) ≡ replicate (n - k) x
drop-replicate zero n x = let e : n - 0 ≡ n = omega arith in rw e
drop-replicate (suc k) zero x = let e : 0 - suc k ≡ 0 = omega arith in rw e
drop-replicate (suc k) (suc n) x = let e : suc n - suc k ≡ n - k = omega arith in rw e (drop-replicate k n x)

-- the first k of n copies are k
pub take-replicate : (k n x : ℕ) → k ≤ n → take k (replicate n x) ≡ replicate k x
take-replicate zero n x h = refl
take-replicate (suc k) zero x h = absurd (omega arith)
take-replicate (suc k) (suc n) x h = ap (λ (r : List ℕ). x ∷ r) (take-replicate k n x (omega arith))
