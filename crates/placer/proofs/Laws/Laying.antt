-- Areas filled from the front: what is written stands first, and behind it a mark throughout. Assumes nothing.
use Prim.Native.Nat.{ℕ, zero, suc, ◌+◌, ◌-◌, ◌*◌, ◌≤◌, ◌<◌}
use mathlib.Core.List.{List, [], ◌++◌, append_assoc}
use mathlib.Core.Path.{◌≡◌, sym, ap, ◌∙◌}
use native.Mathlib.Nat.{suc-mul}
use native.Mathlib.Omega.{arith}
use lib.ListN.{length, take, drop, replicate, length-append}
use lib.Seq.{take-append_seam, drop-append_seam, drop-append-add}
use Rattle.rules.specs.Lists.{padded, laid_at}
use Rattle.rules.proofs.Lists.Lengths.{drop-replicate, take-replicate}

module _ (n x : ℕ) where
  -- with nothing written the area is marks throughout
  pub padded_none : padded n x [] ≡ replicate n x
  unfolding padded
  padded_none = let e : n - 0 ≡ n = omega arith in rw e

  -- more is written behind what stands there
  pub laid_next : (k : ℕ) (xs ys : List ℕ) → length xs ≡ k → k + length ys ≤ n → laid_at k ys (padded n x xs) ≡ padded n x (xs ++ ys)
  unfolding laid_at padded
  laid_next k xs ys e h =
      let r : List ℕ = replicate (n - length xs) x in
      let m : n - length xs - length ys ≡ n - length (xs ++ ys) = omega (arith, length-append xs ys) in
      let d : drop (length xs + length ys) (xs ++ r) ≡ replicate (n - length (xs ++ ys)) x = drop-append-add xs r (length ys) ∙ drop-replicate (length ys) (n - length xs) x ∙ ap (λ (i : ℕ). replicate i x) m in
      rw (← e, take-append_seam xs r, d) (sym (append_assoc xs ys (replicate (n - length (xs ++ ys)) x)))

  -- a part behind what stands there
  pub blank_part : (k s : ℕ) (xs : List ℕ) → length xs ≡ k → k + s ≤ n → take s (drop k (padded n x xs)) ≡ replicate s x
  unfolding padded
  blank_part k s xs e h = rw (← e, drop-append_seam xs (replicate (n - length xs) x)) (take-replicate s (n - length xs) x (omega arith))

-- the k-th of n parts ends within them
pub part_inside : (k n s : ℕ) → k < n → k * s + s ≤ n * s
part_inside k zero s h = absurd (omega arith)
part_inside zero (suc n) s h = omega (arith, suc-mul n s)
part_inside (suc k) (suc n) s h = omega (arith, suc-mul n s, suc-mul k s, part_inside k n s (omega arith))
