-- The kinds of endpoint records, and a whole record at the front of a list. Assumes nothing.
use Prim.Native.Nat.{ℕ, ◌<◌}
use mathlib.Core.List.{List, ◌∷◌}
use mathlib.Core.Path.{◌≡◌, refl}
use mathlib.Core.Bool.{true}
use native.Mathlib.Omega.{arith}
use lib.Dec.{ltb, eqb}
use lib.ListN.{length, get_or}
use borrow.Author.Tests.{ltb-true, ne_eqb}
use Rattle.rules.specs.Records.{Group, Groups?, unreadable, groups, size_of, whole_at, and_then}
use Rattle.rules.proofs.Lists.Members.{split, and_true, eqb_true, eqb_false}

-- a kind other than 1 to 4 is unknown
pub unknown : (k : ℕ) → (k ≡ 1 → ⊥) → (k ≡ 2 → ⊥) → (k ≡ 3 → ⊥) → (k ≡ 4 → ⊥) → size_of k ≡ 0
unfolding size_of
unknown k a b c d = rw (ne_eqb k 1 a, size_of, ne_eqb k 2 b, ne_eqb k 3 c, ne_eqb k 4 d)

-- a kind is 1, 2, 3, 4 or unknown
pub kinds : {P : Type 0} (k : ℕ) → (k ≡ 1 → P) → (k ≡ 2 → P) → (k ≡ 3 → P) → (k ≡ 4 → P) → (size_of k ≡ 0 → P) → P
kinds k a b c d e = split (eqb k 1) (λ t. a (eqb_true k 1 t)) (λ t. split (eqb k 2) (λ u. b (eqb_true k 2 u)) (λ u. split (eqb k 3) (λ v. c (eqb_true k 3 v)) (λ v. split (eqb k 4) (λ w. d (eqb_true k 4 w))
    (λ w. e (unknown k (eqb_false k 1 t) (eqb_false k 2 u) (eqb_false k 3 v) (eqb_false k 4 w))))))

-- a known kind stands in front, with all its numbers behind it
pub record Whole (xs : List ℕ) : Type 0 where
  pub some : 0 < size_of (get_or xs 0 0)
  pub inside : size_of (get_or xs 0 0) < length xs

-- a list that passes the test is such a one
pub whole : (xs : List ℕ) → whole_at xs ≡ true → Whole xs
unfolding whole_at
whole xs e = let h = and_true (ltb 0 (size_of (get_or xs 0 0))) (ltb (size_of (get_or xs 0 0)) (length xs)) e in record { some = ltb-true _ _ h.0; inside = ltb-true _ _ h.1 }

-- what was read is a record and what stands behind it
pub not_groups : {P : Type 0} {gs : List Group} → unreadable ≡ groups gs → P
not_groups e = absurd (let z : ◌≡◌ {A = ℕ} 0 1 = cc in omega arith)

-- the groups are one record, and those read behind it
pub record Then (g : Group) (r : Groups?) (gs : List Group) : Type 0 where
  pub rest : List Group
  pub read : r ≡ groups rest
  pub all : gs ≡ g ∷ rest

-- groups that are read with a record in front are that record and the rest
pub and_then_lem : (g : Group) (r : Groups?) {gs : List Group} → and_then g r ≡ groups gs → Then g r gs
unfolding and_then
and_then_lem g unreadable e = not_groups e
and_then_lem g (groups rest) e = record { rest = rest; read = refl; all = cc }
