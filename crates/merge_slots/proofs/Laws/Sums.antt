-- Where a slot starts; a copy; the begun blocks: what their loops keep. Assumes nothing.
use Prim.Native.Nat.{ℕ, zero, suc, ◌+◌, ◌-◌, ◌*◌, ◌/◌, ◌<◌, ◌≤◌, max}
use mathlib.Core.List.{List, [], ◌∷◌, ◌++◌, append-nil}
use mathlib.Core.Path.{◌≡◌, refl, sym, ap, ◌∙◌}
use native.Mathlib.Numerals.{add-one}
use native.Mathlib.Omega.{arith}
use lib.ListN.{length, get_or, set, take, drop, length-set, take-append-drop}
use lib.Seq.{take-suc, paste-suc, take-length, drop-length}
use borrow.Author.Tests.{le-leb, lt-leb}
use Rattle.rules.specs.Lists.{sum}
use Rattle.rules.specs.Merge.{begun}
use Rattle.merge_slots.specs.Moves.{StartAt, Begins}

-- the sum of two lists is that of both
pub sum-append : (xs ys : List ℕ) → sum (xs ++ ys) ≡ sum xs + sum ys
unfolding sum
sum-append [] ys = omega arith
sum-append (x ∷ xs) ys = omega (arith, sum-append xs ys)

-- the sum of one number more
pub sum_next : (xs : List ℕ) (i : ℕ) → i < length xs → sum (take (i + 1) xs) ≡ sum (take i xs) + get_or xs i 0
unfolding sum
sum_next xs i h = rw (add-one i, take-suc xs i 0 h, sum-append (take i xs) (get_or xs i 0 ∷ [])) (omega arith)

-- the sum of a front is no greater than that of all
pub sum_part : (xs : List ℕ) (i : ℕ) → sum (take i xs) ≤ sum xs
sum_part xs i = let e : sum xs ≡ sum (take i xs ++ drop i xs) = ap sum (sym (take-append-drop i xs)) in omega (arith, sum-append (take i xs) (drop i xs))

-- the first i lengths are added up
pub record Summing (ls : List ℕ) (s at i : ℕ) : Type 0 where
  pub upto : i ≤ s
  pub is : at ≡ sum (take i ls)

-- before the first the sum is 0
pub summing_none : {ls : List ℕ} {s : ℕ} → Summing ls s 0 0
unfolding sum
summing_none = record { upto = omega arith; is = refl }

module _ {ls : List ℕ} {s at i : ℕ} (A : StartAt ls s) (N : Summing ls s at i) (h : i < s) where
  -- the next sum fits a number
  pub summing_fits : at + get_or ls i 0 < 4294967296
  summing_fits = omega (arith, A.inside, A.few, N.is, sum_next ls i (omega (arith, A.inside)), sum_part ls (i + 1))

  -- one more length is added
  pub summing_more : {l : ℕ} → l ≡ get_or ls i 0 → Summing ls s (at + l) (i + 1)
  summing_more e = record { upto = omega arith; is = omega (arith, e, N.is, sum_next ls i (omega (arith, A.inside))) }

-- the lengths before slot s added up are where it starts
pub summing_done : {ls : List ℕ} {s at i : ℕ} → Summing ls s at i → s ≤ i → at ≡ sum (take s ls)
summing_done {s = s} {i = i} N h = let e : i ≡ s = omega (arith, N.upto) in rw e at N.is

-- ---- the first i numbers are copied

-- the front of one list over another
pub record Copying (to from now : List ℕ) (i : ℕ) : Type 0 where
  pub upto : i ≤ length from
  pub same : length now ≡ length to
  pub is : now ≡ take i from ++ drop i to

-- before the first number nothing is copied
pub copying_none : {to from : List ℕ} → Copying to from to 0
copying_none = record { upto = omega arith; same = refl; is = refl }

module _ {to from now : List ℕ} {i : ℕ} (e : length to ≡ length from) (N : Copying to from now i) where
  -- one more number is copied
  pub copying_more : i < length now → Copying to from (set now i (get_or from i 0)) (i + 1)
  copying_more h =
      let l : i < length from = omega (arith, N.same) in
      let z : 0 + i ≡ i = omega arith in
      let y : 0 + suc i ≡ suc i = omega arith in
      let p : set (take i from ++ drop i to) i (get_or from i 0) ≡ take (suc i) from ++ drop (suc i) to = rw (z, y) at (paste-suc to 0 from i 0 (omega arith) l) in
      record { upto = omega arith; same = length-set now i (get_or from i 0) ∙ N.same; is = rw (add-one i) (ap (λ (x : List ℕ). set x i (get_or from i 0)) N.is ∙ p) }

  -- all numbers are copied
  pub copying_done : length now ≤ i → now ≡ from
  copying_done h =
      let l : i ≡ length from = omega (arith, N.upto, N.same) in
      let m : length from ≡ length to = sym e in
      N.is ∙ rw (l, take-length from, m, drop-length to) (append-nil from)

-- ---- the blocks up to `start` are begun

-- the blocks begun so far, and what is left to begin
pub record Starting (n last start size left : ℕ) : Type 0 where
  pub limit : last ≤ 128
  pub double : size ≡ start + 4
  pub few : start ≤ 260
  pub is : begun n last 0 4 ≡ begun left last start size

-- before the first block none is begun
pub starting_none : {n last : ℕ} → last ≡ max (n / 8) 20 → n ≤ 1024 → Starting n last 0 4 n
starting_none e h = record { limit = omega arith; double = omega arith; few = omega arith; is = refl }

begun_more : (left last start size : ℕ) → start ≤ last → begun (suc left) last start size ≡ begun left last (start + size) (2 * size)
unfolding begun
begun_more left last start size h = rw (le-leb start last h, begun) refl

begun_last : (left last start size : ℕ) → last < start → begun left last start size ≡ start
unfolding begun
begun_last zero last start size h = refl
begun_last (suc left) last start size h = rw (lt-leb start last h, begun) refl

begun_none : (last start size : ℕ) → begun 0 last start size ≡ start
unfolding begun
begun_none last start size = refl

module _ {n last start size left : ℕ} (N : Starting n last start size left) where
  -- one more block is begun
  pub starting_more : 0 < left → start ≤ last → Starting n last (start + size) (2 * size) (left - 1)
  starting_more h g =
      let e : left ≡ suc (left - 1) = omega arith in
      let f : begun left last start size ≡ begun (suc (left - 1)) last start size = ap (λ (x : ℕ). begun x last start size) e in
      record { limit = N.limit; double = omega (arith, N.double); few = omega (arith, N.double, N.limit); is = N.is ∙ f ∙ begun_more (left - 1) last start size g }

  -- a start above the limit isn't begun
  pub starting_last : last ≡ max (n / 8) 20 → last < start → Begins n start
  starting_last e h = record { is = sym (rw e at (N.is ∙ begun_last left last start size h)); few = N.few }

  -- nor is any once there are as many blocks as partitions
  pub starting_done : last ≡ max (n / 8) 20 → left ≤ 0 → Begins n start
  starting_done e h = let z : left ≡ 0 = omega arith in record { is = sym (rw e at (N.is ∙ ap (λ (x : ℕ). begun x last start size) z ∙ begun_none last start size)); few = N.few }
