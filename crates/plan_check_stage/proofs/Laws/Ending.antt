-- The end of a stage by what the code tests, and the pins that its words hold. Assumes nothing.
use Prim.Native.Nat.{ℕ, zero, suc, ◌+◌, ◌-◌, ◌*◌, ◌^◌, ◌≤◌, ◌<◌}
use mathlib.Core.Path.{◌≡◌, refl, sym, ◌∙◌, ap}
use mathlib.Core.Bool.{Bool, true, false, not, ◌&&◌, ◌||◌}
use mathlib.Core.List.{List, [], ◌∷◌}
use native.Mathlib.Omega.{arith}
use lib.Dec.{ltb}
use lib.ListN.{length, get_or, take, drop, length-map, get_or-eq_default}
use lib.Seq.{drop-cons, length-take-le}
use borrow.Author.Tests.{ltb-true, ltb-false, le-ltb, le-leb, lt-leb}
use Rattle.std.specs.List.{list_any, list_all}
use Rattle.std.proofs.lemmas.List.{get_or-take}
use Rattle.std.proofs.lemmas.List.Folds.{list_all_at}
use Rattle.rules.specs.Lists.{mem, every, up_to}
use Rattle.rules.specs.Cells.{is_height, empty, filled, word_limit, word_fits, level_one_size, row_at, row, first_empty}
use Rattle.rules.specs.Coded.{pins}
use Rattle.rules.specs.Faults.{is_found, end_right, holds_in}
use Rattle.rules.proofs.Bools.{and_none}
use Rattle.rules.proofs.Lists.Members.{split, true_false}
use Rattle.rules.proofs.Lists.Lengths.{length-up_to}
use Rattle.rules.proofs.Lists.Parts.{map-take, map-drop}
use Rattle.cells.specs.Answers.{or_zero}
use Rattle.cells.proofs.Heights.{or_zero_true}
use Rattle.plan_check_stage.specs.Marks.{marked, Marks}
use Rattle.plan_check_stage.specs.Cells.{High, StageHere}
use Rattle.plan_check_stage.specs.Ending.{words_from, HasFree, WordsRight, EndRight, WordsAt, WordsMark}
use Rattle.plan_check_stage.proofs.Laws.Marks.{get_or_inside, mark_in, mark_out}

-- ---- an empty cell

-- a list has a first empty cell where any of its cells is empty
empty_any : (i : ℕ) (cells : List ℕ) → list_any (λ (c : ℕ). not (filled c)) cells ≡ is_found (first_empty i cells)
unfolding first_empty is_found
empty_any i [] = refl
empty_any i (c ∷ cells) = split (filled c) (λ t. rw (t, first_empty) (empty_any (suc i) cells)) (λ t. rw (t, first_empty))

module _ (K : ℕ) (cells : List ℕ) (S : StageHere K cells) (a : ℕ) (ea : a ≡ or_zero (is_height K) (level_one_size K)) where
  -- the cells of level 1
  pub level_one : a ≡ 2 ^ (K - 1)
  level_one = rw (S.tall.height, or_zero_true (2 ^ (K - 1))) at ea

  -- the row of level 1 is the part that was lent
  pub free_row : (b : ℕ) → b ≡ 2 * a → (r : Bool) → r ≡ list_any (λ (c : ℕ). not (filled c)) (take (b - a) (drop a cells)) → HasFree K cells r
  unfolding row row_at
  free_row b eb r er =
      let z : b - a ≡ a = omega arith in
      record { is = er ∙ empty_any 0 (take (b - a) (drop a cells)) ∙ rw (z, level_one) }

-- ---- words

-- one word more
words_step : (n i : ℕ) (words : List ℕ) → words_from (suc n) i words ≡ get_or words i empty ∷ words_from n (suc i) words
unfolding words_from up_to
words_step n i words = refl

-- none
words_none : (i : ℕ) (words : List ℕ) → words_from 0 i words ≡ []
unfolding words_from up_to
words_none i words = refl

pub words_count : (n i : ℕ) (words : List ℕ) → length (words_from n i words) ≡ n
unfolding words_from
words_count n i words = length-map (up_to n i) (λ k. get_or words k empty) ∙ length-up_to n i

next_word : (n i : ℕ) (words : List ℕ) → i < n → words_from (n - i) i words ≡ get_or words i empty ∷ words_from (n - (i + 1)) (i + 1) words
next_word n i words h =
    let e : n - i ≡ suc (n - (i + 1)) = omega arith in
    let s : suc i ≡ i + 1 = omega arith in
    rw e (words_step (n - (i + 1)) i words ∙ rw s)

module _ (K : ℕ) (words : List ℕ) where
  -- a word that isn't there
  past : High K → (n i : ℕ) → i ≤ length words → length words < i + n → every (word_fits K) (words_from n i words) ≡ false
  unfolding every word_fits empty
  past H zero i b h = absurd (omega arith)
  past H (suc n) i b h = rw (words_step n i words) (split (ltb i (length words))
      (λ t.
      let u = ltb-true _ _ t in
      split (word_fits K (get_or words i empty)) (λ y. rw (y, every) (past H n (suc i) (omega arith) (omega arith))) (λ y. rw (y, every)))
      (λ t. rw (get_or-eq_default words empty {n = i} (ltb-false _ _ t), le-ltb 4294967295 (word_limit K) (omega (arith, H.words, H.high)), every)))

  -- those that are there
  all_words : (n i : ℕ) → i + n ≤ length words → list_all (word_fits K) (take n (drop i words)) ≡ every (word_fits K) (words_from n i words)
  unfolding every
  all_words zero i h = rw (words_none i words)
  all_words (suc n) i h =
      rw (drop-cons words i empty (omega arith), words_step n i words)
      (split (word_fits K (get_or words i empty)) (λ t. rw (t, every) (all_words n (suc i) (omega arith))) (λ t. rw (t, every)))

module _ (K : ℕ) (H : High K) (words : List ℕ) (n : ℕ) where
  -- too few words
  pub words_few : length words < n → WordsRight K words n false
  words_few h = record { is = sym (past K words H n 0 (omega arith) (omega arith)); there = λ t. true_false refl (sym t); below = λ t. true_false refl (sym t) }

  -- the words decide
  pub words_all : n ≤ length words → (limit : ℕ) → limit ≡ or_zero (is_height K) (word_limit K) → (r : Bool) → r ≡ list_all (λ (x : ℕ). ltb x limit) (take n words) → WordsRight K words n r
  unfolding word_fits
  words_all h limit el r er =
      let bound : limit ≡ word_limit K = rw (H.height, or_zero_true (word_limit K)) at el in
      let all : r ≡ list_all (λ (x : ℕ). ltb x (word_limit K)) (take n words) = rw bound at er in
      record {
        is = all ∙ all_words K words n 0 (omega arith);
        there = λ t. h;
        below = λ t i l. split (ltb (get_or words i 0) (word_limit K)) (λ y. ltb-true _ _ y)
            (λ y. true_false (sym all ∙ t) (list_all_at (λ (x : ℕ). ltb x (word_limit K)) (take n words) i 0 (omega (arith, length-take-le n words h)) (rw (get_or-take n words i 0 l) y)));
      }

-- ---- the end of a stage

module _ (K : ℕ) (cells words : List ℕ) (n room : ℕ) (S : StageHere K cells) where
  first_cell : get_or cells 0 0 ≡ get_or cells 0 empty
  first_cell = get_or_inside cells 0 0 empty (omega (arith, S.size, S.tall.double, S.tall.low))

  refused : end_right K room (record { plan = cells; words = words_from n 0 words }) ≡ false → EndRight K cells words n room false
  refused e = record { is = sym e; few = λ t. true_false refl (sym t); at = λ t. true_false refl (sym t) }

  -- position 0 is filled
  pub end_filled : filled (get_or cells 0 0) ≡ true → EndRight K cells words n room false
  unfolding end_right
  end_filled e = let d : filled (get_or cells 0 empty) ≡ true = ap filled (sym first_cell) ∙ e in refused (rw d)

  module _ (none : filled (get_or cells 0 0) ≡ false) (t : Bool) (F : HasFree K cells t) where
    none_here : filled (get_or cells 0 empty) ≡ false
    none_here = ap filled (sym first_cell) ∙ none

    -- level 1 is full
    pub end_full : t ≡ false → EndRight K cells words n room false
    unfolding end_right
    end_full e = let d : is_found (first_empty 0 (row K 1 cells)) ≡ false = sym F.is ∙ e in refused (rw (none_here, d))

    module _ (free : t ≡ true) where
      free_here : is_found (first_empty 0 (row K 1 cells)) ≡ true
      free_here = sym F.is ∙ free

      -- too many words
      pub end_many : room < n → EndRight K cells words n room false
      unfolding end_right
      end_many h = refused (rw (none_here, free_here, words_count n 0 words, lt-leb n room h) (and_none (every (word_fits K) (words_from n 0 words))))

      -- the words decide
      pub end_words_lem : n ≤ room → (r : Bool) → WordsRight K words n r → EndRight K cells words n room r
      unfolding end_right
      end_words_lem h r W = record {
        is = W.is ∙ sym (rw (none_here, free_here, words_count n 0 words, le-leb n room h) (and_yes (every (word_fits K) (words_from n 0 words))));
        few = λ e. h;
        at = λ e. record { there = W.there e; inside = λ i b. omega (arith, W.below e i b, S.tall.words, S.tall.double, S.size) };
      }
        where
          and_yes : (b : Bool) → (b && true) ≡ b
          and_yes true = refl
          and_yes false = refl

-- ---- the pins that words hold

-- those of the first i words have marks
pub record HeldTo (cells words : List ℕ) (n : ℕ) (l : List ℕ) (i : ℕ) (now : List ℕ) : Type 0 where
  pub len : length now ≡ length l
  pub upto : i ≤ n
  pub each : (q : ℕ) → q < length l → (marked now q || holds_in q cells (words_from (n - i) i words)) ≡ (marked l q || holds_in q cells (words_from n 0 words))

or_none : (b : Bool) → (b || false) ≡ b
or_none true = refl
or_none false = refl

or_one : (b : Bool) → (b || true) ≡ true
or_one true = refl
or_one false = refl

module _ (cells words : List ℕ) (n : ℕ) (A : WordsAt cells words n) (l : List ℕ) where
  -- none at the beginning
  pub held_none : HeldTo cells words n l 0 l
  held_none = let z : n - 0 ≡ n = omega arith in record { len = refl; upto = omega arith; each = λ q h. rw z }

  module _ (i : ℕ) (now : List ℕ) (R : HeldTo cells words n l i now) (h : i < n) (w : ℕ) (ew : w ≡ get_or (take n words) i 0) where
    read : w ≡ get_or words i 0
    read = ew ∙ get_or-take n words i 0 h

    held_word : get_or words i empty ≡ w
    held_word = get_or_inside words i empty 0 (omega (arith, A.there)) ∙ sym read

    -- the word's cells stand in the stage
    pub held_inside : 32 * w + 32 ≤ length cells
    held_inside = rw read (A.inside i h)

    -- one more word
    module _ (a e : ℕ) (ea : a ≡ 32 * w) (ee : e ≡ a + 32) (now' : List ℕ) (M : Marks (pins (take (e - a) (drop a cells))) 1 now now') where
      part : pins (take (e - a) (drop a cells)) ≡ take 32 (drop (32 * w) (pins cells))
      unfolding pins
      part = let z : e - a ≡ 32 = omega arith in rw (z, ea, map-take, map-drop)

      step : (q : ℕ) → q < length l → (marked now' q || holds_in q cells (words_from (n - (i + 1)) (i + 1) words)) ≡ (marked now q || holds_in q cells (words_from (n - i) i words))
      unfolding holds_in
      step q k = split (mem q (take 32 (drop (32 * w) (pins cells))))
          (λ t. rw (next_word n i words h, held_word, t, mark_in _ 1 now now' M q (omega (arith, R.len)) (rw part t)) (sym (or_one (marked now q))))
          (λ t. rw (next_word n i words h, held_word, t, mark_out _ 1 now now' M q (omega (arith, R.len)) (rw part t)))

      pub held_more : HeldTo cells words n l (i + 1) now'
      held_more = record { len = M.len ∙ R.len; upto = omega arith; each = λ q k. step q k ∙ R.each q k }

  -- all at the end
  pub held_done : (i : ℕ) (now : List ℕ) → HeldTo cells words n l i now → n ≤ i → WordsMark cells words n l now
  unfolding holds_in
  held_done i now R h =
      let e : n - i ≡ 0 = omega arith in
      record { len = R.len; each = λ q k. sym (or_none (marked now q)) ∙ rw (e, words_none i words) at (R.each q k) }
