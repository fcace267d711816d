-- A stage is refused exactly where a test fails: the tests by their branches. `Crowd` has them as counts. Assumes nothing.
use Prim.Native.Nat.{ℕ, ◌+◌, ◌≤◌, ◌<◌}
use mathlib.Core.Path.{◌≡◌, refl}
use mathlib.Core.Logic.{◌⊎◌, inl, inr}
use mathlib.Core.Bool.{false, ◌&&◌}
use mathlib.Core.List.{List}
use native.Mathlib.Omega.{arith}
use lib.Dec.{ltb, leb}
use lib.ListN.{length}
use Rattle.rules.specs.Lists.{nothing}
use Rattle.rules.specs.Cells.{row, first_empty}
use Rattle.rules.specs.Traversal.{Setting}
use Rattle.rules.specs.Ending.{full, plan, written, rest, ending, close, last_stage, more_words, refused, finish}
use Rattle.rules.proofs.Lists.Members.{split}
use borrow.Author.Tests.{ltb-true, ltb-false}
use Rattle.rules.proofs.Stage.Puts.{cell}
use Rattle.rules.proofs.Stage.Staged.{rest_cases}

-- level 1 has no cell for a needed pin, or none stays empty
pub data LevelOneFull (X : Setting) (pl : List ℕ) : Type 0 where
  no_cell : rest X pl ≡ full → LevelOneFull X pl
  none_empty : (pl2 : List ℕ) → rest X pl ≡ plan pl2 → first_empty 0 (row X.K 1 pl2) ≡ nothing → LevelOneFull X pl

-- the test that fails, with so many words left and the plan of rules 2 to 7
pub data Fails (X : Setting) (room : ℕ) (pl : List ℕ) : ℕ → Type 0 where
  test_seven : room < length (written X pl).words → Fails X room pl 7
  test_eight : length (written X pl).words ≤ room → LevelOneFull X pl → Fails X room pl 8

module _ (X : Setting) (room : ℕ) (pl : List ℕ) where
  same_number : {n m : ℕ} → refused n ≡ refused m → n ≡ m
  same_number e = cc

  ending_never : (pl2 : List ℕ) (n : ℕ) {P : Type 0} → ending X room pl pl2 ≡ refused n → P
  unfolding ending close
  ending_never pl2 n e = split (last_stage X pl && leb (length (written X pl).words + length (more_words X pl pl2)) room)
      (λ a. absurd (let z = rw (a, ending) at e in let y : ◌≡◌ {A = ℕ} 0 1 = cc z in omega arith))
      (λ a. absurd (let z = rw (a, ending) at e in let y : ◌≡◌ {A = ℕ} 0 1 = cc z in omega arith))

  -- a refused stage fails a test
  pub refused_fails : (n : ℕ) → finish X room pl ≡ refused n → Fails X room pl n
  unfolding finish
  refused_fails n e = split (ltb room (length (written X pl).words))
      (λ b. rw (← same_number (rw (b, finish) at e)) (test_seven (ltb-true room (length (written X pl).words) b)))
      (λ b. let l = ltb-false room (length (written X pl).words) b in rest_cases (rest X pl)
      (λ r. rw (← same_number (rw (b, r, finish) at e)) (test_eight l (no_cell r)))
      (λ pl2 r. cell (first_empty 0 (row X.K 1 pl2))
      (λ c. rw (← same_number (rw (b, r, c, finish) at e)) (test_eight l (none_empty pl2 r c)))
      (λ k c. ending_never pl2 n (rw (b, r, c, finish) at e))))

  fits : length (written X pl).words ≤ room → ltb room (length (written X pl).words) ≡ false
  fits h = split (ltb room (length (written X pl).words)) (λ b. absurd (omega (arith, ltb-true room (length (written X pl).words) b))) (λ b. b)

  -- a stage that fails a test is refused
  pub fails_refused : {n : ℕ} → Fails X room pl n → finish X room pl ≡ refused n
  unfolding finish
  fails_refused (test_seven h) = split (ltb room (length (written X pl).words)) (λ b. rw (b, finish)) (λ b. absurd (omega (arith, ltb-false room (length (written X pl).words) b)))
  fails_refused (test_eight l (no_cell r)) = rw (fits l, r, finish)
  fails_refused (test_eight l (none_empty pl2 r c)) = rw (fits l, r, c, finish)

  either : {n : ℕ} → Fails X room pl n → (n ≡ 7) ⊎ (n ≡ 8)
  either (test_seven h) = inl refl
  either (test_eight h f) = inr refl

  -- a stage is refused with 7 or with 8
  pub seven_or_eight : (n : ℕ) → finish X room pl ≡ refused n → (n ≡ 7) ⊎ (n ≡ 8)
  seven_or_eight n e = either (refused_fails n e)
