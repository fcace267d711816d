-- What the loops of a merge's checks keep. Assumes nothing.
use Prim.Native.Nat.{ℕ, ◌+◌, ◌-◌, ◌<◌, ◌≤◌}
use mathlib.Core.Bool.{false}
use mathlib.Core.List.{List, [], ◌∷◌}
use mathlib.Core.Path.{◌≡◌, refl, sym, ap, ◌∙◌}
use native.Mathlib.Numerals.{add-one}
use native.Mathlib.Omega.{arith}
use lib.Dec.{eqb}
use lib.ListN.{length, get_or, drop, drop_of_length-le}
use lib.Seq.{drop-cons}
use borrow.Author.Tests.{eq-eqb, ne_eqb, eqb-true, eqb-false}
use Rattle.rules.specs.Lists.{sum}
use Rattle.rules.specs.Records.{Group, groups, size_of, read}
use Rattle.rules.proofs.Lists.Members.{split}
use Rattle.std.specs.Prelude.{None}
use Rattle.std.specs.Iterator.{Yields}
use Rattle.records.specs.declared.Walk.{Walk}
use Rattle.records.specs.Walk.{Steps}
use Rattle.records.proofs.Walks.{stepped, walked}
use Rattle.checks.proofs.Laws.Passed.{read_next, read_last, read_stands}

-- `left` is what the first i lengths leave of the total
pub record Taking (ls : List ℕ) (total left i : ℕ) : Type 0 where
  pub upto : i ≤ length ls
  pub less : left ≤ total
  pub is : sum ls + left ≡ sum (drop i ls) + total

-- before the first length nothing is taken
pub taking_none : {ls : List ℕ} {total : ℕ} → Taking ls total total 0
taking_none = record { upto = omega arith; less = omega arith; is = refl }

sum_rest : (ls : List ℕ) (i : ℕ) → i < length ls → sum (drop i ls) ≡ get_or ls i 0 + sum (drop (i + 1) ls)
unfolding sum
sum_rest ls i h = rw (drop-cons ls i 0 h, add-one i) refl

module _ {ls : List ℕ} {total left i : ℕ} (N : Taking ls total left i) where
  module _ {l : ℕ} (e : l ≡ get_or ls i 0) (h : i < length ls) where
    -- a length above what is left: the sum is too great
    pub taking_short : left < l → false ≡ eqb (sum ls) total
    taking_short k = sym (ne_eqb (sum ls) total (λ z. omega (arith, N.is, sum_rest ls i h)))

    -- a length within what is left is taken
    pub taking_more : l ≤ left → Taking ls total (left - l) (i + 1)
    taking_more k = record { upto = omega arith; less = omega (arith, N.less); is = omega (arith, N.is, sum_rest ls i h) }

  -- all taken: the sum is right where nothing is left
  pub taking_done : length ls ≤ i → eqb left 0 ≡ eqb (sum ls) total
  unfolding sum
  taking_done h =
      let z : sum (drop i ls) ≡ 0 = ap sum (drop_of_length-le ls h) in
      split (eqb left 0)
      (λ t. let d = eqb-true left 0 t in rw t (sym (eq-eqb (sum ls) total (omega (arith, N.is)))))
      (λ t. let d = eqb-false left 0 t in rw t (sym (ne_eqb (sum ls) total (λ y. d (omega (arith, N.is))))))

-- a walk over readable records stops as often as there are groups
module _ {xs : List ℕ} where
  pub starts_counted : (ns : List ℕ) (s t u : Walk) (gs : List Group) → s.records.now ≡ xs → read (drop s.at xs) ≡ groups gs → Yields Steps s ns t → Steps t None u → length ns ≡ length gs
  starts_counted [] s t u gs o R y p = sym (ap length (read_last xs s.at gs R (walked s u o (rw (← y) at p) (read_stands xs s.at gs R))))
  starts_counted (n ∷ ns) s t u gs o R y p =
      let S = stepped s y.0 o y.1 in
      let N = read_next xs s.at gs R (omega (arith, S.here.inside)) in
      let d : y.0.at ≡ s.at + (1 + size_of (get_or xs s.at 0)) = omega (arith, S.next, S.here.size) in
      let e = starts_counted ns y.0 t u N.rest S.same (ap (λ (i : ℕ). read (drop i xs)) d ∙ N.others) y.2 p in
      omega (arith, ap length N.these)
