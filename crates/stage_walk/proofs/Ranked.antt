-- Down a ranked list, entry by entry. Assumes nothing.
use mathlib.Core.Path.{◌≡◌, refl}
use mathlib.Core.List.{List, [], ◌∷◌}
use Prim.Native.Nat.{ℕ, suc, ◌+◌, ◌-◌, ◌*◌, ◌<◌, ◌≤◌}
use native.Mathlib.Omega.{arith}
use lib.ListN.{length, get_or}
use lib.Seq.{drop-cons}
use Rattle.columns.specs.Fields.{RANKED}
use Rattle.stage_walk.specs.Stands.{ranked}

-- the next entry of a ranked list, and what is left behind it
pub ranked_cons : (m : ℕ) (w : List ℕ) (i e : ℕ) → i < e → e ≤ m → 16 * m ≤ length w → ranked m w i e ≡ get_or w (RANKED * m + i) 0 ∷ ranked m w (i + 1) e
unfolding ranked
ranked_cons m w i e a b l =
    let z : e - i ≡ suc (e - (i + 1)) = omega arith in
    let y : RANKED * m + (i + 1) ≡ suc (RANKED * m + i) = omega arith in
    rw (z, y, drop-cons w (RANKED * m + i) 0 (omega arith)) refl

-- at its end nothing is left
pub ranked_end : (m : ℕ) (w : List ℕ) (i e : ℕ) → e ≤ i → ranked m w i e ≡ []
unfolding ranked
ranked_end m w i e a = let z : e - i ≡ 0 = omega arith in rw z
