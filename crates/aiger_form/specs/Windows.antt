-- The first bad line, window by window: what a program finds that can remember only some variables at a time. Assumes nothing.
use Rattle.std.specs.Prelude.{ℕ, Bool, true, false, not, ◌&&◌, List, [], ◌∷◌, ◌++◌, leb, ltb}
use Rattle.rules.specs.Lists.{Found, nothing, found, mem, every, keep}
use Rattle.aiger_form.specs.Aag.{Item, Spot, is_text, defines, uses}

-- as `stands` and `first_bad`, for the variables that f keeps
unfoldable pub stands_in : (ℕ → Bool) → (all seen : List ℕ) → Item → Bool
stands_in f all seen x = is_text x && (every (λ v. not (mem v seen)) (keep f (defines x)) && every (λ v. mem v all) (keep f (uses x)))

unfoldable pub first_bad_in : (ℕ → Bool) → (all seen : List ℕ) → List Spot → Found
first_bad_in f all seen [] = nothing
first_bad_in f all seen (s ∷ ss) = elim (stands_in f all seen s.item) [ true ↦ first_bad_in f all (defines s.item ++ seen) ss | false ↦ found s.at ]

-- the earlier of two places
unfoldable pub earlier : Found → Found → Found
earlier nothing r = r
earlier (found a) nothing = found a
earlier (found a) (found b) = elim (leb a b) [ true ↦ found a | false ↦ found b ]

unfoldable pub under : ℕ → ℕ → Bool
under hi v = ltb v hi

unfoldable pub window : ℕ → ℕ → ℕ → Bool
window lo hi v = leb lo v && ltb v hi
