-- Parts of plain lists: fronts and middles that agree, what a part that was lent comes back as, mapping. Assumes nothing.
use Prim.Native.Nat.{ℕ, zero, suc, ◌+◌, ◌*◌, ◌/◌, ◌%◌, ◌≤◌, ◌<◌}
use mathlib.Core.List.{List, [], ◌∷◌, ◌++◌, map}
use mathlib.Core.Path.{◌≡◌, refl, sym, ◌∙◌, ap}
use native.Mathlib.Omega.{arith}
use native.Mathlib.Nat.{div-add-mod', add-zero}
use lib.ListN.{length, get_or, set, take, drop, length-take, length-drop}
use lib.Seq.{ext_get_or, get_or-take, get_or-drop, length-take-le, sets}
use Rattle.rules.specs.Lists.{laid_over}

-- ---- lists that agree

-- two lists agree in front
pub take_same : (n : ℕ) (u v : List ℕ) → length u ≡ length v → ((i : ℕ) → i < n → get_or u i 0 ≡ get_or v i 0) → take n u ≡ take n v
take_same n u v e s = ext_get_or 0 (take n u) (take n v) (length-take n u ∙ rw e (sym (length-take n v)))
    (λ i h. let b : i < n = omega (arith, length-take n u) in get_or-take n u i 0 b ∙ s i b ∙ sym (get_or-take n v i 0 b))

-- behind a place
pub drop_same : (a : ℕ) (u v : List ℕ) → length u ≡ length v → ((i : ℕ) → a ≤ i → get_or u i 0 ≡ get_or v i 0) → drop a u ≡ drop a v
drop_same a u v e s = ext_get_or 0 (drop a u) (drop a v) (length-drop a u ∙ rw e (sym (length-drop a v)))
    (λ i h. get_or-drop a u i 0 ∙ s (a + i) (omega arith) ∙ sym (get_or-drop a v i 0))

-- in a part
pub part_same : (n a : ℕ) (u v : List ℕ) → length u ≡ length v → ((i : ℕ) → a ≤ i → i < a + n → get_or u i 0 ≡ get_or v i 0) → take n (drop a u) ≡ take n (drop a v)
part_same n a u v e s = take_same n (drop a u) (drop a v) (length-drop a u ∙ rw e (sym (length-drop a v)))
    (λ i h. get_or-drop a u i 0 ∙ s (a + i) (omega arith) (omega arith) ∙ sym (get_or-drop a v i 0))

-- ---- parts that are lent

-- what was lent of an area's front stands over the rest
pub part_laid : (n : ℕ) (xs ys : List ℕ) → n ≤ length xs → length ys ≡ length (take n xs) → ys ++ drop n xs ≡ laid_over ys xs
unfolding laid_over
part_laid n xs ys h e = let d : length ys ≡ n = e ∙ length-take-le n xs h in rw d refl

-- numbers stored one behind the other, and more right behind them, are one longer list stored
pub sets_append : (a : List ℕ) (s : ℕ) (xs ys : List ℕ) → sets (sets a s xs) (s + length xs) ys ≡ sets a s (xs ++ ys)
sets_append a s [] ys = rw (add-zero s)
sets_append a s (x ∷ xs) ys = let e : s + suc (length xs) ≡ suc s + length xs = omega arith in rw e (sets_append (set a s x) (suc s) xs ys)

-- a whole multiple
pub divides : (n s : ℕ) → n % s ≡ 0 → n ≡ n / s * s
divides n s e = omega (arith, div-add-mod' n s)

-- ---- mapping

-- an entry of a mapped list
pub get_d_map : (f : ℕ → ℕ) (xs : List ℕ) (i : ℕ) → i < length xs → get_or (map f xs) i 0 ≡ f (get_or xs i 0)
get_d_map f [] i h = absurd (omega arith)
get_d_map f (x ∷ xs) zero h = refl
get_d_map f (x ∷ xs) (suc i) h = get_d_map f xs i (omega arith)

module _ {A B : Type 0} (f : A → B) where
  -- mapping goes into a front
  pub map-take : (n : ℕ) (xs : List A) → map f (take n xs) ≡ take n (map f xs)
  map-take zero xs = refl
  map-take (suc n) [] = refl
  map-take (suc n) (x ∷ xs) = ap (λ (l : List B). f x ∷ l) (map-take n xs)

  -- and into what stands behind it
  pub map-drop : (n : ℕ) (xs : List A) → map f (drop n xs) ≡ drop n (map f xs)
  map-drop zero xs = refl
  map-drop (suc n) [] = refl
  map-drop (suc n) (x ∷ xs) = map-drop n xs

  -- and past a store
  pub map-set : (hs : List A) (i : ℕ) (h : A) → map f (set hs i h) ≡ set (map f hs) i (f h)
  map-set [] i h = refl
  map-set (g ∷ hs) zero h = refl
  map-set (g ∷ hs) (suc i) h = ap (λ (l : List B). f g ∷ l) (map-set hs i h)
