-- What any entry returns and leaves, by its slice for the answer; the numbers written there. Assumes nothing.
use Prim.Native.Nat.{ℕ, zero, suc, ◌+◌, ◌≤◌, ◌<◌}
use mathlib.Core.List.{List, ◌∷◌, ◌++◌}
use mathlib.Core.Path.{◌≡◌, refl, ap, ◌∙◌}
use mathlib.Core.Logic.{◌≢◌}
use native.Mathlib.Numerals.{add-one}
use native.Mathlib.Omega.{arith}
use lib.ListN.{length, take, drop, get_or, set, length-set}
use lib.Seq.{paste-suc, take-length}
use borrow.Author.Tests.{lt-ltb, le-ltb}
use Rattle.rules.specs.Lists.{laid_over}
use Rattle.entries.specs.Entry.{Entry, entry, written, entered, turned_away}
use Rattle.entries.specs.Rule.{ruled}

-- ---- the numbers written

-- the first i numbers stand over the slice
pub record Telling (ns xs now : List ℕ) (i : ℕ) : Type 0 where
  pub upto : i ≤ length ns
  pub same : length now ≡ length xs
  pub is : now ≡ take i ns ++ drop i xs

-- before the first number the slice is as it was
pub telling_none : {ns xs : List ℕ} → Telling ns xs xs 0
telling_none = record { upto = omega arith; same = refl; is = refl }

-- a slice that is too short stays
pub told_short : (ns xs : List ℕ) → length xs < length ns → xs ≡ written ns xs
unfolding written
told_short ns xs h = rw (lt-ltb (length xs) (length ns) h, written)

module _ {ns xs now : List ℕ} {i : ℕ} (room : length ns ≤ length xs) (T : Telling ns xs now i) where
  -- one more number is written
  pub telling_more : i < length ns → Telling ns xs (set now i (get_or ns i 0)) (i + 1)
  telling_more h =
      let z : 0 + i ≡ i = omega arith in
      let y : 0 + suc i ≡ suc i = omega arith in
      let p : set (take i ns ++ drop i xs) i (get_or ns i 0) ≡ take (suc i) ns ++ drop (suc i) xs = rw (z, y) at (paste-suc xs 0 ns i 0 (omega arith) h) in
      record { upto = omega arith; same = length-set now i (get_or ns i 0) ∙ T.same; is = rw (add-one i) (ap (λ (l : List ℕ). set l i (get_or ns i 0)) T.is ∙ p) }

  -- all are written
  pub telling_done : length ns ≤ i → now ≡ written ns xs
  unfolding written laid_over
  telling_done h =
      let l : i ≡ length ns = omega (arith, T.upto) in
      T.is ∙ rw (l, take-length ns, le-ltb (length xs) (length ns) room, written)

-- ---- an entry

module _ {A : Type 0} (a b : A) (n : ℕ) (ns xs : List ℕ) where
  -- a slice shorter than the reply gives 2, and nothing is changed
  pub entry_short : length xs < suc (length ns) → entry 2 a xs ≡ entered a b n ns xs
  unfolding entered
  entry_short h = rw (lt-ltb (length xs) (suc (length ns)) h, entered)

  -- in a slice that is long enough the reply is written
  pub entry_told : suc (length ns) ≤ length xs → {ys : List ℕ} → ys ≡ written (n ∷ ns) xs → entry n b ys ≡ entered a b n ns xs
  unfolding entered
  entry_told h d = rw (d, le-ltb (length xs) (suc (length ns)) h, entered)

-- ---- the rule that is asked for

module _ {A : Type 0} (a : A) (ns xs : List ℕ) (go : Entry A) where
  -- a rule that is refused turns the call away
  pub ruled_away : (n : ℕ) → n ≢ 0 → {ys : List ℕ} → ys ≡ written (n ∷ ns) xs → entry n a ys ≡ ruled n a ns xs go
  unfolding ruled turned_away
  ruled_away zero h d = absurd (h refl)
  ruled_away (suc n) h d = rw d

  -- else the call goes on
  pub ruled_on : (n : ℕ) → n ≡ 0 → go ≡ ruled n a ns xs go
  unfolding ruled
  ruled_on n e = rw e
