-- Rule 10's words, written one by one. Assumes nothing.
use mathlib.Core.Path.{◌≡◌, refl, ◌∙◌}
use mathlib.Core.Logic.{◌⊎◌, inl, inr}
use mathlib.Core.List.{List}
use Prim.Native.Nat.{ℕ, zero, suc, ◌+◌, ◌-◌, ◌*◌, ◌<◌, ◌≤◌}
use native.Mathlib.Omega.{arith}
use native.Mathlib.Decide.{ℕ_discrete}
use lib.ListN.{length, get_or, set, length-set}
use lib.Seq.{get_or-set_same, get_or-set_other}
use Rattle.rules.specs.Lists.{mem}
use Rattle.rules.proofs.Lists.Members.{split, in_get_or, get_or_in}
use Rattle.columns.proofs.Area.Frames.{frame_room}
use Rattle.stage_runs.proofs.Laws.Laid.{laid_is}
use Rattle.stage_ending.specs.Words.{OneAt, One, WriteAt, Writing, Written}
use Rattle.stage_ending.proofs.Laws.Words.{kept_none, kept_then, kept_set}

-- ---- one word

module _ {m at j : ℕ} {words w : List ℕ} (a : OneAt m at j words w) where
  -- a word that was collected is written at its place, and its number goes
  pub one_some : (k : ℕ) → k ≡ get_or w (16 * m + j) 0 → (k ≡ 0 → ⊥) → (words' w' : List ℕ) → words' ≡ set words (at + k - 1) j → w' ≡ set w (16 * m + j) 0 → One m at j words w words' w'
  one_some k e ne words' w' f g =
      let pos : 0 < k = pos_of k ne in
      rw (f, g) (record {
        kept = kept_set j 0 a.word;
        gone = get_or-set_same w (16 * m + j) 0 0 (omega (arith, a.area.room, a.word));
        other = λ i d. get_or-set_other w (16 * m + j) (16 * m + i) 0 0 (λ r. d (omega arith));
        len = length-set words (at + k - 1) j;
        here = λ h. rw (← e) (get_or-set_same words (at + k - 1) j 0 (omega (arith, a.fits)));
        there = λ i h. get_or-set_other words (at + k - 1) i j 0 (λ r. h (omega arith) (omega arith));
      })
    where
      pos_of : (k : ℕ) → (k ≡ 0 → ⊥) → 0 < k
      pos_of zero n = absurd (n refl)
      pos_of (suc k) n = omega arith

-- ---- all of them

module _ {m at n : ℕ} {ws words w : List ℕ} (W : WriteAt m at n ws words w) where
  abbrev spot : ℕ → ℕ
  spot j = get_or w (16 * m + j) 0

  -- a word's number is one more than its place
  place : (j : ℕ) → j < 256 → (spot j ≡ 0) ⊎ ((i : ℕ) × (i < n) × (get_or ws i 0 ≡ j) × (spot j ≡ i + 1))
  place j h = split (mem j ws)
      (λ i. let t = get_or_in ws 0 j i in let b : t.0 < n = omega (arith, t.1, W.spots.count) in inr (t.0, b, t.2, rw t.2 at (W.spots.spot t.0 b)))
      (λ o. inl (W.spots.none j h o))

  spot_few : (j : ℕ) → j < 256 → spot j ≤ n
  spot_few j h = elim (place j h) [ inl z ↦ omega arith | inr t ↦ omega (arith, t.1, t.3) ]

  -- before word 0 nothing is written
  pub writing_none : Writing m at 0 ws words w words w
  writing_none = record { upto = omega arith; kept = kept_none; gone = λ i h. absurd (omega arith); left = λ i h. refl; len = refl; here = λ i h k. absurd (omega arith); there = λ i h. refl }

  module _ {j : ℕ} {words₁ w₁ : List ℕ} (Y : Writing m at j ws words w words₁ w₁) (h : j < 256) where
    here_is : get_or w₁ (16 * m + j) 0 ≡ spot j
    here_is = Y.left j (omega arith)

    -- the next word may be written
    pub write_at : OneAt m at j words₁ w₁
    write_at = record { area = frame_room Y.kept.frame W.spots.area; word = h; fits = rw here_is (omega (arith, spot_few j h, W.fits, Y.len)); small = rw Y.len W.small }

    module _ {words₂ w₂ : List ℕ} (O : One m at j words₁ w₁ words₂ w₂) where
      -- another place keeps its word
      there_is : (i : ℕ) → (0 < spot j → i ≡ at + spot j - 1 → ⊥) → get_or words₂ i 0 ≡ get_or words₁ i 0
      there_is i ne = O.there i (rw here_is ne)

      here_more : (i : ℕ) → i < length ws → get_or ws i 0 < j + 1 → get_or words₂ (at + i) 0 ≡ get_or ws i 0
      here_more i b k = elim (ℕ_discrete (get_or ws i 0) j) [
        | yes e ↦
            let s : spot j ≡ i + 1 = rw e at (W.spots.spot i (omega (arith, W.spots.count))) in
            let z : at + spot j - 1 ≡ at + i = omega arith in
            rw (e, ← z, ← here_is) (O.here (rw here_is (omega arith)))
        | no e ↦
            there_is (at + i) (λ p q. elim (place j h) [ inl z ↦ omega arith | inr t ↦ let y : t.0 ≡ i = omega (arith, t.3) in e (rw y at t.2) ])
            ∙ Y.here i b (omega arith)
      ]

      -- one number more is gone through
      pub writing_more : Writing m at (j + 1) ws words w words₂ w₂
      writing_more = record {
        upto = omega arith;
        kept = kept_then Y.kept O.kept;
        gone = λ i b. elim (ℕ_discrete i j) [ yes e ↦ rw e O.gone | no e ↦ O.other i e ∙ Y.gone i (omega arith) ];
        left = λ i b. O.other i (λ e. omega arith) ∙ Y.left i (omega arith);
        len = O.len ∙ Y.len;
        here = here_more;
        there = λ i d. there_is i (λ p q. elim d [ inl b ↦ omega arith | inr b ↦ omega (arith, spot_few j h, W.spots.count) ]) ∙ Y.there i d;
      }

  module _ {j : ℕ} {words₁ w₁ : List ℕ} (Y : Writing m at j ws words w words₁ w₁) (h : 256 ≤ j) where
    fits : at + length ws ≤ length words
    fits = omega (arith, W.fits, W.spots.count)

    -- all collected words stand in the area, in the order they were found
    pub writing_done : Written m at ws words w words₁ w₁
    writing_done = record {
      kept = Y.kept;
      clear = λ i b. Y.gone i (omega arith);
      stands = laid_is at words ws fits words₁ Y.len (λ i b. Y.there i (inl b)) (λ k b. Y.here k b (omega (arith, W.spots.low (get_or ws k 0) (in_get_or ws k 0 b)))) (λ i b. Y.there i (inr b));
    }
