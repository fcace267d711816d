-- Lists of numbers: membership, one entry each, keeping, counting, the swap with the last. Assumes nothing.
use Rattle.std.specs.Prelude.{ℕ, zero, suc, ◌+◌, ◌-◌, ◌≡◌, Bool, true, false, List, [], ◌∷◌, ◌++◌, map, eqb, length, take, drop, replicate}

-- an answer that may be missing
pub data Found : Type 0 where
  nothing : Found
  found : ℕ → Found

unfoldable pub mem : ℕ → List ℕ → Bool
mem p [] = false
mem p (x ∷ xs) = elim (eqb p x) [ true ↦ true | false ↦ mem p xs ]

-- the entries that pass a test, in order
unfoldable pub keep : (ℕ → Bool) → List ℕ → List ℕ
keep f [] = []
keep f (x ∷ xs) = elim (f x) [ true ↦ x ∷ keep f xs | false ↦ keep f xs ]

-- do all entries pass
unfoldable pub every : (ℕ → Bool) → List ℕ → Bool
every f [] = true
every f (x ∷ xs) = elim (f x) [ true ↦ every f xs | false ↦ false ]

-- p behind the list, unless it is there
unfoldable pub insert : ℕ → List ℕ → List ℕ
insert p xs = elim (mem p xs) [ true ↦ xs | false ↦ xs ++ (p ∷ []) ]

unfoldable pub insert_all : List ℕ → List ℕ → List ℕ
insert_all [] ys = ys
insert_all (x ∷ xs) ys = insert_all xs (insert x ys)

-- each number once, where it stands first
unfoldable pub distinct : List ℕ → List ℕ
distinct xs = insert_all xs []

unfoldable pub count : (ℕ → Bool) → List ℕ → ℕ
count f [] = 0
count f (x ∷ xs) = elim (f x) [ true ↦ suc (count f xs) | false ↦ count f xs ]

unfoldable pub is_nil : List ℕ → Bool
is_nil [] = true
is_nil (x ∷ xs) = false

-- the n numbers from i on
unfoldable pub up_to : ℕ → ℕ → List ℕ
up_to zero i = []
up_to (suc n) i = i ∷ up_to n (suc i)

unfoldable pub sum : List ℕ → ℕ
sum [] = 0
sum (x ∷ xs) = x + sum xs

-- the last of x and what follows it
unfoldable pub last_of : ℕ → List ℕ → ℕ
last_of x [] = x
last_of x (y ∷ ys) = last_of y ys

-- all but the last
unfoldable pub init : List ℕ → List ℕ
init [] = []
init (x ∷ []) = []
init (x ∷ y ∷ ys) = x ∷ init (y ∷ ys)

-- p, which the list holds once, leaves it, and the last entry takes its place
unfoldable pub swap_out : ℕ → List ℕ → List ℕ
swap_out p xs = map (λ x. elim (eqb x p) [ true ↦ last_of x xs | false ↦ x ]) (init xs)

unfoldable pub swap_out_all : List ℕ → List ℕ → List ℕ
swap_out_all [] xs = xs
swap_out_all (p ∷ ps) xs = swap_out_all ps (swap_out p xs)

unfoldable pub same_list : List ℕ → List ℕ → Bool
same_list [] [] = true
same_list [] (y ∷ ys) = false
same_list (x ∷ xs) [] = false
same_list (x ∷ xs) (y ∷ ys) = elim (eqb x y) [ true ↦ same_list xs ys | false ↦ false ]

-- what each entry gives, one after the other
unfoldable pub gather : (ℕ → List ℕ) → List ℕ → List ℕ
gather f [] = []
gather f (x ∷ xs) = f x ++ gather f xs

-- a list filled up to n entries
unfoldable pub padded : ℕ → ℕ → List ℕ → List ℕ
padded n x xs = xs ++ replicate (n - length xs) x

-- a list laid over the first entries of another
unfoldable pub laid_over : List ℕ → List ℕ → List ℕ
laid_over xs ys = xs ++ drop (length xs) ys

-- and over those from place `at` on
unfoldable pub laid_at : ℕ → List ℕ → List ℕ → List ℕ
laid_at at xs ys = take at ys ++ (xs ++ drop (at + length xs) ys)

-- p is in the list, or is not
abbrev pub In : ℕ → List ℕ → Type 0
In p xs = mem p xs ≡ true

abbrev pub Out : ℕ → List ℕ → Type 0
Out p xs = mem p xs ≡ false

-- every entry of the first list is in the second
abbrev pub Sub : List ℕ → List ℕ → Type 0
Sub xs ys = (q : ℕ) → In q xs → In q ys

-- no number twice
pub data Once : List ℕ → Type 0 where
  nobody : Once []
  one : {x : ℕ} {xs : List ℕ} → Out x xs → Once xs → Once (x ∷ xs)
