-- The stages that are cut from lent areas, laid out again: their cells, words and counts are the areas' fronts. Assumes nothing.
use Prim.Native.Nat.{ℕ, zero, suc, ◌+◌, ◌-◌, ◌*◌, ◌^◌, ◌≤◌, ◌<◌}
use mathlib.Core.Path.{◌≡◌, refl, sym, ◌∙◌, ap, ap₂}
use mathlib.Core.Bool.{Bool, true, not, ◌&&◌}
use mathlib.Core.List.{List, [], ◌∷◌, ◌++◌, map}
use native.Mathlib.Omega.{arith}
use native.Mathlib.Nat.{suc-mul}
use lib.Dec.{leb}
use lib.ListN.{length, get_or, take, drop, length-append, length-drop, length-map, get_or-map, get_or-eq_default}
use lib.Seq.{ext_get_or, get_or-take, length-take-le, take-add}
use borrow.Author.Tests.{leb-true, leb-false}
use Rattle.rules.specs.Lists.{sum, every, up_to, In}
use Rattle.rules.specs.Cells.{empty, filled, word_limit, word_fits, row, first_empty}
use Rattle.rules.specs.Graph.{Node}
use Rattle.rules.specs.Build.{Stage, cells_of, words_of, counts_of}
use Rattle.rules.specs.Faults.{faultless, is_found, end_right, held_in, fault_from, cut}
use Rattle.rules.proofs.Lists.Members.{split, and_true, in_get_or}
use Rattle.rules.proofs.Lists.Lengths.{length-up_to}
use Rattle.rules.proofs.Fold.Bits.{get_or-up_to}
use Rattle.coded.proofs.InPlace.{default_same}
use Rattle.coded.proofs.Stages.{passed, end_says}

-- ---- no more words than may be written

words_fit : (K room : ℕ) (s : Stage) → end_right K room s ≡ true → length s.words ≤ room
unfolding end_right
words_fit K room s e =
    let a = and_true (not (filled (get_or s.plan 0 empty))) (is_found (first_empty 0 (row K 1 s.plan)) && (every (word_fits K) s.words && leb (length s.words) room)) e in
    let b = and_true (is_found (first_empty 0 (row K 1 s.plan))) (every (word_fits K) s.words && leb (length s.words) room) a.1 in
    leb-true (length s.words) room (and_true (every (word_fits K) s.words) (leb (length s.words) room) b.1).1

-- the words of all stages without a fault
pub words_few : (K : ℕ) (g : List Node) (given : List ℕ) (may : ℕ → Bool) (room k : ℕ) (ss : List Stage) → fault_from K g given may room k ss ≡ faultless → length (words_of ss) ≤ room
unfolding words_of
words_few K g given may room k [] e = omega arith
words_few K g given may room k (s ∷ ss) e =
    let t = passed K g given may room k s ss e in
    omega (arith, length-append s.words (words_of ss), words_fit K room s t.0.end, words_few K g given (held_in K s.plan) (room - length s.words) (suc k) ss t.1)

-- ---- the areas' fronts

module _ (words : List ℕ) (c : ℕ) where
  abbrev looked : List ℕ
  looked = map (λ i. get_or words i empty) (up_to c 0)

  looked_many : length looked ≡ c
  looked_many = length-map (up_to c 0) (λ i. get_or words i empty) ∙ length-up_to c 0

  looked_at : (i : ℕ) → i < c → get_or looked i empty ≡ get_or words i empty
  looked_at i k =
      let z : 0 + i ≡ i = omega arith in
      default_same looked i empty (get_or words 0 empty) (omega (arith, looked_many)) ∙ get_or-map (λ (j : ℕ). get_or words j empty) (up_to c 0) i 0 ∙ ap (λ (j : ℕ). get_or words j empty) (get_or-up_to c 0 i 0 k ∙ z)

  looked_front : c ≤ length words → looked ≡ take c words
  looked_front h =
      let l : length (take c words) ≡ c = length-take-le c words h in
      ext_get_or empty looked (take c words) (looked_many ∙ sym l)
      (λ i b. let k : i < c = omega (arith, looked_many) in looked_at i k ∙ sym (get_or-take c words i empty k))

  -- a word that isn't there is no word
  looked_there : (limit : ℕ) → limit ≤ empty → ((w : ℕ) → In w looked → w < limit) → c ≤ length words
  looked_there limit h f = split (leb c (length words)) (λ t. leb-true c (length words) t)
      (λ t.
      let k : length words < c = leb-false c (length words) t in
      let e : get_or looked (length words) empty ≡ empty = looked_at (length words) k ∙ get_or-eq_default words empty (omega arith) in
      absurd (omega (arith, f (get_or looked (length words) empty) (in_get_or looked (length words) empty (omega (arith, looked_many))))))

module _ (K : ℕ) where
  -- the cells of n stages are the plan's front
  pub cut_cells : (n : ℕ) (plan words counts : List ℕ) → cells_of (cut n K plan words counts) ≡ take (n * 2 ^ (K + 1)) plan
  unfolding cut cells_of
  cut_cells zero plan words counts = let z : 0 * 2 ^ (K + 1) ≡ 0 = omega arith in rw z
  cut_cells (suc n) plan words counts =
      let z : suc n * 2 ^ (K + 1) ≡ 2 ^ (K + 1) + n * 2 ^ (K + 1) = omega (arith, suc-mul n (2 ^ (K + 1))) in
      ap (λ (xs : List ℕ). take (2 ^ (K + 1)) plan ++ xs) (cut_cells n (drop (2 ^ (K + 1)) plan) (drop (get_or counts 0 0) words) (drop 1 counts)) ∙ sym (take-add (2 ^ (K + 1)) (n * 2 ^ (K + 1)) plan) ∙ ap (λ (i : ℕ). take i plan) (sym z)

  -- their counts those of the counts
  pub cut_counts : (n : ℕ) (plan words counts : List ℕ) → n ≤ length counts → counts_of (cut n K plan words counts) ≡ take n counts
  unfolding cut counts_of
  cut_counts zero plan words counts h = refl
  cut_counts (suc n) plan words [] h = absurd (omega arith)
  cut_counts (suc n) plan words (c ∷ counts) h =
      ap₂ (λ (x : ℕ) (xs : List ℕ). x ∷ xs) (looked_many words c) (cut_counts n (drop (2 ^ (K + 1)) plan) (drop c words) counts (omega arith))

  -- as many words as they say
  pub cut_many : (n : ℕ) (plan words counts : List ℕ) → n ≤ length counts → length (words_of (cut n K plan words counts)) ≡ sum (take n counts)
  unfolding cut words_of sum
  cut_many zero plan words counts h = refl
  cut_many (suc n) plan words [] h = absurd (omega arith)
  cut_many (suc n) plan words (c ∷ counts) h =
      length-append (looked words c) (words_of (cut n K (drop (2 ^ (K + 1)) plan) (drop c words) counts)) ∙ omega (arith, looked_many words c, cut_many n (drop (2 ^ (K + 1)) plan) (drop c words) counts (omega arith))

  -- and their words the word area's front, where it has so many
  pub cut_words : (n : ℕ) (plan words counts : List ℕ) → n ≤ length counts → sum (take n counts) ≤ length words → words_of (cut n K plan words counts) ≡ take (sum (take n counts)) words
  unfolding cut words_of sum
  cut_words zero plan words counts h l = refl
  cut_words (suc n) plan words [] h l = absurd (omega arith)
  cut_words (suc n) plan words (c ∷ counts) h l =
      ap₂ (λ (xs ys : List ℕ). xs ++ ys) (looked_front words c (omega arith)) (cut_words n (drop (2 ^ (K + 1)) plan) (drop c words) counts (omega arith) (rw length-drop (omega arith)))
      ∙ sym (take-add c (sum (take n counts)) words)

  -- which it has where there is no fault
  pub words_there : word_limit K ≤ empty → (g : List Node) (given : List ℕ) (may : ℕ → Bool) (room k n : ℕ) (plan words counts : List ℕ) → n ≤ length counts →
      fault_from K g given may room k (cut n K plan words counts) ≡ faultless → sum (take n counts) ≤ length words
  unfolding cut sum
  words_there b g given may room k zero plan words counts h e = omega arith
  words_there b g given may room k (suc n) plan words [] h e = absurd (omega arith)
  words_there b g given may room k (suc n) plan words (c ∷ counts) h e =
      let t = passed K g given may room k _ _ e in
      let l : c ≤ length words = looked_there words c (word_limit K) b (end_says K room _ t.0.end).words in
      let d = words_there b g given (held_in K (take (2 ^ (K + 1)) plan)) (room - length (looked words c)) (suc k) n (drop (2 ^ (K + 1)) plan) (drop c words) counts (omega arith) t.1 in
      omega (arith, length-drop c words, d)
