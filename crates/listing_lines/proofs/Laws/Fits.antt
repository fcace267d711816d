-- A laid text that fits its area, and one that does not. Assumes nothing.
use mathlib.Core.Path.{◌≡◌, refl, ◌∙◌}
use mathlib.Core.List.{List, [], ◌∷◌, ◌++◌}
use Prim.Native.Nat.{ℕ, suc, ◌+◌, ◌≤◌, ◌<◌}
use native.Mathlib.Omega.{arith}
use lib.Dec.{leb, ltb}
use lib.ListN.{length, drop, set}
use lib.Seq.{sets, sets-eq}
use borrow.Author.Tests.{ltb-true, ltb-false, leb-true, leb-false}
use Rattle.rules.specs.Lists.{laid_over}
use Rattle.rules.proofs.Lists.Members.{split}
use Rattle.listing_lines.specs.Laid.{along, over, Laid}
use Rattle.listing_lines.proofs.Laws.Laid.{step_in, step_out}

along_in : (limit at : ℕ) (xs : List ℕ) → at + length xs ≤ limit → along limit at xs ≡ at + length xs
unfolding along
along_in limit at [] h = omega arith
along_in limit at (x ∷ xs) h = rw (step_in limit at (omega arith)) (along_in limit (suc at) xs (omega arith) ∙ omega arith)

over_in : (limit at : ℕ) (xs o : List ℕ) → at + length xs ≤ limit → over limit at xs o ≡ sets o at xs
unfolding over
over_in limit at [] o h = refl
over_in limit at (x ∷ xs) o h = rw (step_in limit at (omega arith)) (over_in limit (suc at) xs (set o at x) (omega arith))

along_end : (limit : ℕ) (xs : List ℕ) → along limit limit xs ≡ limit
unfolding along
along_end limit [] = refl
along_end limit (x ∷ xs) = rw (step_out limit limit (omega arith)) (along_end limit xs)

-- a cursor that did not reach its limit tells the length
along_short : (limit at : ℕ) (xs : List ℕ) → at ≤ limit → limit < at + length xs → along limit at xs ≡ limit
unfolding along
along_short limit at [] h k = absurd (omega arith)
along_short limit at (x ∷ xs) h k = split (ltb at limit)
    (λ t. let i = ltb-true at limit t in rw (step_in limit at i) (along_short limit (suc at) xs i (omega arith)))
    (λ f. let e : at ≡ limit = omega (arith, ltb-false at limit f) in rw (e, step_out limit limit (omega arith)) (along_end limit xs))

-- a text measured in another area
module _ (text o : List ℕ) {o1 o2 : List ℕ} {limit r : ℕ} (l : limit ≡ length o + 1) (m : Laid limit 0 text o1 r o2) where
  -- it is longer than the area
  pub laid_past : length o < r → length o < length text
  laid_past h = split (leb (length text) (length o))
      (λ t. absurd (omega (arith, leb-true (length text) (length o) t, m.cursor, along_in limit 0 text (omega (arith, leb-true (length text) (length o) t)))))
      (λ f. leb-false (length text) (length o) f)

  -- or not
  pub laid_fits : r ≤ length o → length text ≤ length o
  laid_fits h = split (leb (length text) (length o)) (λ t. leb-true (length text) (length o) t)
      (λ f. split (ltb limit (length text))
      (λ t. absurd (omega (arith, l, m.cursor, along_short limit 0 text (omega arith) (omega (arith, ltb-true limit (length text) t)))))
      (λ t. absurd (omega (arith, leb-false (length text) (length o) f, m.cursor, along_in limit 0 text (omega (arith, ltb-false limit (length text) t))))))

  -- then it was measured right
  pub laid_length : r ≤ length o → r ≡ length text
  laid_length h = let k = laid_fits h in omega (arith, m.cursor, along_in limit 0 text (omega arith))

  -- and stands over the area's front once it is laid there
  pub laid_whole : r ≤ length o → {r2 : ℕ} {o3 : List ℕ} → Laid limit 0 text o r2 o3 → o3 ≡ laid_over text o
  unfolding laid_over
  laid_whole h b = let k = laid_fits h in b.area ∙ over_in limit 0 text o (omega arith) ∙ (let z : 0 + length text ≡ length text = omega arith in rw z at (sets-eq text o 0 (omega arith)))
