-- The lines of a listing, one entry after the other. Assumes nothing.
use mathlib.Core.Path.{◌≡◌, refl, sym, ◌∙◌, ap}
use mathlib.Core.Bool.{Bool, true, false, not}
use mathlib.Core.List.{List, [], ◌∷◌, ◌++◌, append_assoc, append-nil}
use Prim.Native.Nat.{ℕ, zero, suc, ◌+◌, ◌*◌, ◌^◌, ◌≤◌, ◌<◌}
use native.Mathlib.Nat.{suc-mul, zero-mul, mul-le-mul_right}
use native.Mathlib.Numerals.{add-one}
use native.Mathlib.Omega.{arith}
use lib.ListN.{length, take, drop, get_or}
use lib.Seq.{take-suc, take_all, take-nil, drop-drop, length-take-le}
use borrow.Author.Tests.{eq-eqb, ne_eqb, not-true, not-false}
use Rattle.rules.specs.Lists.{count, sum}
use Rattle.rules.specs.Cells.{empty, filled}
use Rattle.rules.specs.Build as rules
use Rattle.rules.specs.Coded.{cell_pin}
use Rattle.rules.specs.Listing.{text, decimal, spaced, words_text, cell_lines, stage_lines, stages_lines, listing, pin_text}
use Rattle.rules.proofs.Lists.Members.{split, count-append}
use Rattle.listing_lines.specs.Laid.{Laid}
use Rattle.listing_lines.specs.Stages.{stages_in, stage_in, Holds, HoldsOne}
use Rattle.listing_lines.proofs.Laws.Laid.{laid_none, laid_as, laid_more}

filled_yes : (c : ℕ) → (c ≡ 4294967295 → ⊥) → filled c ≡ true
unfolding filled empty
filled_yes c h = rw (ne_eqb c 4294967295 h)

filled_no : (c : ℕ) → c ≡ 4294967295 → filled c ≡ false
unfolding filled empty
filled_no c h = rw (eq-eqb c 4294967295 h)

-- ---- how many are filled

count_next : (cs : List ℕ) (i : ℕ) → i < length cs → count filled (take (i + 1) cs) ≡ count filled (take i cs) + count filled (get_or cs i 0 ∷ [])
count_next cs i h = rw (add-one i, take-suc cs i 0 h) (count-append filled (take i cs) (get_or cs i 0 ∷ []))

-- before the first cell none is counted
pub count_start : (cs : List ℕ) → 0 ≡ count filled (take 0 cs)
unfolding count
count_start cs = refl

-- a filled cell counts one more
pub count_in : (cs : List ℕ) (i n : ℕ) → i < length cs → n ≡ count filled (take i cs) → (get_or cs i 0 ≡ 4294967295 → ⊥) → n + 1 ≡ count filled (take (i + 1) cs)
unfolding count
count_in cs i n h e k = rw e (sym (count_next cs i h ∙ ap (λ (x : ℕ). count filled (take i cs) + x) (rw (filled_yes (get_or cs i 0) k, count))))

-- an empty cell counts nothing
pub count_out : (cs : List ℕ) (i n : ℕ) → i < length cs → n ≡ count filled (take i cs) → get_or cs i 0 ≡ 4294967295 → n ≡ count filled (take (i + 1) cs)
unfolding count
count_out cs i n h e k = let z : count filled (get_or cs i 0 ∷ []) ≡ 0 = rw (filled_no (get_or cs i 0) k, count) in omega (arith, e, count_next cs i h)

-- past the last cell all filled ones are counted
pub count_all : (cs : List ℕ) (i n : ℕ) → length cs ≤ i → n ≡ count filled (take i cs) → n ≡ count filled cs
count_all cs i n h e = rw (take_all i cs h) at e

-- ---- cells

-- an empty cell has no line
pub cell_none : (p c : ℕ) {t : Bool} → t ≡ not (filled c) → t ≡ true → [] ≡ cell_lines p (c ∷ [])
unfolding cell_lines
cell_none p c e h = rw (not-true (filled c) (sym e ∙ h), cell_lines)

-- a filled cell's line: its position and its pin
pub cell_one : (p c : ℕ) {t : Bool} → t ≡ not (filled c) → t ≡ false → decimal p ++ text " " ++ decimal (cell_pin c) ++ text "\n" ≡ cell_lines p (c ∷ [])
unfolding cell_lines text
cell_one p c e h = rw (not-false (filled c) (sym e ∙ h), cell_lines, append-nil)

cells_append : (p : ℕ) (xs ys : List ℕ) → cell_lines p (xs ++ ys) ≡ cell_lines p xs ++ cell_lines (p + length xs) ys
unfolding cell_lines
cells_append p [] ys = let z : p + 0 ≡ p = omega arith in rw z
cells_append p (x ∷ xs) ys =
    let z : suc p + length xs ≡ p + suc (length xs) = omega arith in
    let e : cell_lines (suc p) (xs ++ ys) ≡ cell_lines (suc p) xs ++ cell_lines (p + suc (length xs)) ys = rw z at (cells_append (suc p) xs ys) in
    split (filled x)
    (λ t. rw (t, cell_lines, e) (simp append_assoc))
    (λ t. rw (t, cell_lines) e)

-- ---- words

-- a word is written behind a space
pub spaced_one : (w : ℕ) → text " " ++ decimal w ≡ spaced (w ∷ [])
unfolding spaced
spaced_one w = rw append-nil

spaced_append : (xs ys : List ℕ) → spaced (xs ++ ys) ≡ spaced xs ++ spaced ys
unfolding spaced
spaced_append [] ys = refl
spaced_append (x ∷ xs) ys = rw (spaced_append xs ys) (simp append_assoc)

-- no words print a dash
pub words_none : (ws : List ℕ) → length ws ≡ 0 → text " -" ≡ words_text ws
unfolding words_text
words_none [] h = refl
words_none (w ∷ ws) h = absurd (omega arith)

-- words print one behind the other
pub words_some : (ws : List ℕ) → (length ws ≡ 0 → ⊥) → spaced ws ≡ words_text ws
unfolding words_text
words_some [] h = absurd (h refl)
words_some (w ∷ ws) h = refl

-- pin 0 is not shown
pub pin_none_lem : (p : ℕ) → p ≡ 0 → [] ≡ pin_text p
unfolding pin_text
pin_none_lem p z = rw z

-- any other pin is shown behind its word
pub pin_some : (p : ℕ) → (p ≡ 0 → ⊥) → text " pin " ++ decimal p ≡ pin_text p
unfolding pin_text
pin_some zero z = absurd (z refl)
pin_some (suc p) z = refl

-- ---- stages

stages_length : (size n : ℕ) (plan words counts : List ℕ) → length (stages_in size n plan words counts) ≡ n
unfolding stages_in
stages_length size zero plan words counts = refl
stages_length size (suc n) plan words counts = ap suc (stages_length size n (drop size plan) (drop (get_or counts 0 0) words) (drop 1 counts))

shift : (k : ℕ) (counts : List ℕ) → get_or counts 0 0 + sum (take k (drop 1 counts)) ≡ sum (take (suc k) counts)
unfolding sum
shift k [] = rw take-nil
shift k (c ∷ cs) = refl

get_shift : (k : ℕ) (counts : List ℕ) → get_or (drop 1 counts) k 0 ≡ get_or counts (suc k) 0
get_shift k [] = refl
get_shift k (c ∷ cs) = refl

stage_shift : (size k : ℕ) (plan words counts : List ℕ) → stage_in size k (drop size plan) (drop (get_or counts 0 0) words) (drop 1 counts) ≡ stage_in size (suc k) plan words counts
unfolding stage_in
stage_shift size k plan words counts =
    let z : size + k * size ≡ suc k * size = omega (arith, suc-mul k size) in
    rw (drop-drop (k * size) size plan, drop-drop (sum (take k (drop 1 counts))) (get_or counts 0 0) words, get_shift k counts, shift k counts, z)

first : (size : ℕ) (plan words counts : List ℕ) → stages_in size 1 plan words counts ≡ (stage_in size 0 plan words counts ∷ [])
unfolding stages_in stage_in sum
first size plan words counts = rw (zero-mul size)

stages_snoc : (size k : ℕ) (plan words counts : List ℕ) → stages_in size (suc k) plan words counts ≡ stages_in size k plan words counts ++ (stage_in size k plan words counts ∷ [])
unfolding stages_in
stages_snoc size zero plan words counts = first size plan words counts
stages_snoc size (suc k) plan words counts =
    rw (stages_snoc size k (drop size plan) (drop (get_or counts 0 0) words) (drop 1 counts), stage_shift size k plan words counts)

lines_snoc : (k : ℕ) (ss : List rules.Stage) (s : rules.Stage) → stages_lines k (ss ++ (s ∷ [])) ≡ stages_lines k ss ++ stage_lines (k + length ss) s
unfolding stages_lines
lines_snoc k [] s = let z : k + 0 ≡ k = omega arith in rw (z, append-nil)
lines_snoc k (x ∷ ss) s = let z : suc k + length ss ≡ k + suc (length ss) = omega arith in rw (lines_snoc (suc k) ss s, z, append_assoc)

module _ {limit at : ℕ} {o : List ℕ} where
  -- before the first cell no line is laid
  pub cells_start : Laid limit at (cell_lines 0 []) o at o
  unfolding cell_lines
  cells_start = laid_none

  -- the line of one cell more
  pub cells_next : (cs : List ℕ) (i : ℕ) {r r2 : ℕ} {o' o2 : List ℕ} → i < length cs → Laid limit at (cell_lines 0 (take i cs)) o r o' → Laid limit r (cell_lines i (get_or cs i 0 ∷ [])) o' r2 o2 → Laid limit at (cell_lines 0 (take (i + 1) cs)) o r2 o2
  cells_next cs i h a b =
      let z : 0 + length (take i cs) ≡ i = omega (arith, length-take-le i cs (omega arith)) in
      laid_as (laid_more a b) (sym (rw (add-one i, take-suc cs i 0 h) (rw z at (cells_append 0 (take i cs) (get_or cs i 0 ∷ [])))))

  -- past the last cell all lines are laid
  pub cells_all : (cs : List ℕ) (i : ℕ) {r : ℕ} {o' : List ℕ} → length cs ≤ i → Laid limit at (cell_lines 0 (take i cs)) o r o' → Laid limit at (cell_lines 0 cs) o r o'
  cells_all cs i h a = laid_as a (rw (take_all i cs h))

  -- before the first word nothing is laid
  pub spaced_start : Laid limit at (spaced []) o at o
  unfolding spaced
  spaced_start = laid_none

  -- one word more is laid
  pub spaced_next : (ws : List ℕ) (i : ℕ) {r r2 : ℕ} {o' o2 : List ℕ} → i < length ws → Laid limit at (spaced (take i ws)) o r o' → Laid limit r (spaced (get_or ws i 0 ∷ [])) o' r2 o2 → Laid limit at (spaced (take (i + 1) ws)) o r2 o2
  spaced_next ws i h a b = laid_as (laid_more a b) (sym (rw (add-one i, take-suc ws i 0 h) (spaced_append (take i ws) (get_or ws i 0 ∷ []))))

  -- past the last word all are laid
  pub spaced_all : (ws : List ℕ) (i : ℕ) {r : ℕ} {o' : List ℕ} → length ws ≤ i → Laid limit at (spaced (take i ws)) o r o' → Laid limit at (spaced ws) o r o'
  spaced_all ws i h a = laid_as a (rw (take_all i ws h))

  -- before the first stage no line is laid
  pub stages_start : (size : ℕ) (plan words counts : List ℕ) → Laid limit at (stages_lines 1 (stages_in size 0 plan words counts)) o at o
  unfolding stages_lines stages_in
  stages_start size plan words counts = laid_none

  -- the lines of one stage more
  pub stages_next : (size k : ℕ) (plan words counts : List ℕ) {r r2 : ℕ} {o' o2 : List ℕ} → Laid limit at (stages_lines 1 (stages_in size k plan words counts)) o r o' → Laid limit r (stage_lines (k + 1) (stage_in size k plan words counts)) o' r2 o2 →
      Laid limit at (stages_lines 1 (stages_in size (k + 1) plan words counts)) o r2 o2
  stages_next size k plan words counts a b =
      let z : 1 + length (stages_in size k plan words counts) ≡ k + 1 = omega (arith, stages_length size k plan words counts) in
      laid_as (laid_more a b) (sym (rw (add-one k, stages_snoc size k plan words counts) (rw (z, add-one k) at (lines_snoc 1 (stages_in size k plan words counts) (stage_in size k plan words counts)))))

-- ---- what the areas hold

-- the sum of one count more
pub sum_next : (cs : List ℕ) (i : ℕ) → i < length cs → sum (take (suc i) cs) ≡ sum (take i cs) + get_or cs i 0
unfolding sum
sum_next [] i h = absurd (omega arith)
sum_next (c ∷ cs) zero h = omega arith
sum_next (c ∷ cs) (suc i) h = omega (arith, sum_next cs i (omega arith))

-- the sum of fewer counts is no greater
pub sum_less : (cs : List ℕ) (i j : ℕ) → i ≤ j → sum (take i cs) ≤ sum (take j cs)
unfolding sum
sum_less cs zero j h = omega arith
sum_less cs (suc i) zero h = absurd (omega arith)
sum_less [] (suc i) (suc j) h = omega arith
sum_less (c ∷ cs) (suc i) (suc j) h = omega (arith, sum_less cs i j (omega arith))

-- the sum of no counts is 0
pub sum_start : (cs : List ℕ) → 0 ≡ sum (take 0 cs)
unfolding sum
sum_start cs = refl

-- the sum as the code adds it up
pub sum_add : (cs : List ℕ) (i s : ℕ) → i < length cs → s ≡ sum (take i cs) → s + get_or cs i 0 ≡ sum (take (i + 1) cs)
sum_add cs i s h e = rw (add-one i, sum_next cs i h, e)

module _ {size n : ℕ} {plan words counts : List ℕ} (H : Holds size n plan words counts) (k : ℕ) (h : k < n) where
  -- areas that hold n stages hold each of them
  pub holds_one : (from count : ℕ) → length counts < 2 ^ 63 → from ≡ sum (take k counts) → count ≡ get_or counts k 0 → HoldsOne size k from count plan words
  holds_one from count l f g = record {
    few = omega (arith, H.counted);
    cells = omega (arith, H.cells, suc-mul k size, mul-le-mul_right {m = suc k} {n = n} size h);
    spent = omega (arith, H.spent, H.counted, sum_next counts k (omega (arith, H.counted)), sum_less counts (suc k) n h);
  }

-- stage k by where its words start and how many there are
pub stage_as : (size k from count : ℕ) (plan words counts : List ℕ) → from ≡ sum (take k counts) → count ≡ get_or counts k 0 → stage_in size k plan words counts ≡ record { plan = take size (drop (k * size) plan); words = take count (drop from words) }
unfolding stage_in
stage_as size k from count plan words counts f g = rw (f, g)

-- a listing: its first line, the stages' lines, its last line
pub listing_as : (K size n : ℕ) (plan words counts : List ℕ) → listing K (stages_in size n plan words counts) ≡ text "plan height " ++ decimal K ++ text " stages " ++ decimal n ++ text "\n" ++ stages_lines 1 (stages_in size n plan words counts) ++ text "end\n"
unfolding listing
listing_as K size n plan words counts = rw (stages_length size n plan words counts)
