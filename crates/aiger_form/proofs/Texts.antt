-- Lines and numbers that are written are read back. Assumes nothing.
use Prim.Native.Nat.{ℕ, zero, suc, ◌+◌, ◌-◌, ◌*◌, ◌/◌, ◌%◌, ◌<◌}
use mathlib.Core.Path.{◌≡◌, refl, sym, ap, ◌∙◌}
use mathlib.Core.Bool.{Bool, true, false}
use mathlib.Core.List.{List, [], ◌∷◌, ◌++◌, map, append_assoc, append-nil}
use native.Mathlib.Omega.{arith}
use lib.Dec.{ltb, eqb}
use borrow.Author.Tests.{ltb-true, ltb-false, le-leb, eqb-true, ne_eqb}
use Rattle.rules.specs.Lists.{nothing, found, mem, every, Out}
use Rattle.rules.specs.Listing.{text, digits, decimal, spaced}
use Rattle.rules.proofs.Lists.Members.{split, true_false, eqb_same, out_head, out_tail, out_append, every_in}
use Rattle.aiger_form.specs.Text.{space, line_feed, grow, parts, ended, words, is_digit, more_digits, number, numbers, before, numbers_of, numbers_line, unlines}

-- ---- parts

-- a part that e ends
pub parts_one : (e : ℕ) (xs rest : List ℕ) → Out e xs → parts e (xs ++ (e ∷ rest)) ≡ xs ∷ parts e rest
unfolding parts grow
parts_one e [] rest o = rw (eqb_same e, parts)
parts_one e (x ∷ xs) rest o =
    let n = out_head e x xs o in
    rw (ne_eqb x e (λ d. n (sym d)), parts, parts_one e xs rest (out_tail e x xs o))

-- and behind the last e there is no part: with the law above, a cursor's two steps
pub parts_none : (e : ℕ) (xs : List ℕ) → Out e xs → parts e xs ≡ []
unfolding parts grow
parts_none e [] o = refl
parts_none e (x ∷ xs) o =
    let n = out_head e x xs o in
    rw (ne_eqb x e (λ d. n (sym d)), parts, parts_none e xs (out_tail e x xs o))

-- lines without a line feed
pub data Single : List (List ℕ) → Type 0 where
  none : Single []
  more : {l : List ℕ} {ls : List (List ℕ)} → Out line_feed l → Single ls → Single (l ∷ ls)

-- the lines of a file of lines
pub parts_lines : {ls : List (List ℕ)} → Single ls → parts line_feed (unlines ls) ≡ ls
unfolding unlines parts
parts_lines none = refl
parts_lines (more {l} {ls} o s) = parts_one line_feed l (unlines ls) o ∙ ap (λ (r : List (List ℕ)). l ∷ r) (parts_lines s)

ended_after : (xs ys : List ℕ) → ended ys ≡ true → ended (xs ++ (line_feed ∷ ys)) ≡ true
unfolding ended
ended_after [] [] e = refl
ended_after [] (y ∷ ys) e = e
ended_after (x ∷ []) ys e = ended_after [] ys e
ended_after (x ∷ z ∷ xs) ys e = ended_after (z ∷ xs) ys e

-- it ends in a line feed
pub ended_lines : (ls : List (List ℕ)) → ended (unlines ls) ≡ true
unfolding unlines ended
ended_lines [] = refl
ended_lines (l ∷ ls) = ended_after l (unlines ls) (ended_lines ls)

-- ---- digits

digit : (n : ℕ) → n < 10 → is_digit (48 + n) ≡ true
unfolding is_digit
digit n h = rw (le-leb 48 (48 + n) (omega arith), le-leb (48 + n) 57 (omega arith))

-- two lists that pass a test, joined
pub every_append : (f : ℕ → Bool) (xs ys : List ℕ) → every f xs ≡ true → every f ys ≡ true → every f (xs ++ ys) ≡ true
unfolding every
every_append f [] ys a b = b
every_append f (x ∷ xs) ys a b = split (f x) (λ t. rw (t, every) (every_append f xs ys (rw (t, every) at a) b)) (λ t. true_false a (rw (t, every)))

digits_digits : (f n : ℕ) → every is_digit (digits f n) ≡ true
unfolding digits every
digits_digits zero n = refl
digits_digits (suc f) n = split (ltb n 10)
    (λ t. rw (t, digits, digit n (ltb-true n 10 t), every))
    (λ t. rw (t, digits) (every_append is_digit (digits f (n / 10)) ((48 + n % 10) ∷ []) (digits_digits f (n / 10)) (rw (digit (n % 10) (omega arith), every))))

-- a byte that is no digit is not among digits
pub out_digits : (e : ℕ) (xs : List ℕ) → is_digit e ≡ false → every is_digit xs ≡ true → Out e xs
out_digits e xs d h = split (mem e xs) (λ t. true_false (every_in is_digit e xs h t) d) (λ t. t)

out_decimal : (e n : ℕ) → is_digit e ≡ false → Out e (decimal n)
unfolding decimal
out_decimal e n d = out_digits e (digits (suc n) n) d (digits_digits (suc n) n)

-- one digit more
pub more_snoc : (xs : List ℕ) (n m d : ℕ) → more_digits n xs ≡ found m → is_digit d ≡ true → more_digits n (xs ++ (d ∷ [])) ≡ found (10 * m + (d - 48))
unfolding more_digits
more_snoc [] n m d e h = let z : n ≡ m = cc in rw (h, more_digits, z)
more_snoc (x ∷ xs) n m d e h = split (is_digit x) (λ t. rw (t, more_digits) (more_snoc xs (10 * n + (x - 48)) m d (rw (t, more_digits) at e) h))
    (λ t. absurd (let q : nothing ≡ found m = rw (t, more_digits) at e in let z : ◌≡◌ {A = ℕ} 0 1 = cc in omega arith))

number_snoc : (xs : List ℕ) (m d : ℕ) → number xs ≡ found m → 0 < m → is_digit d ≡ true → number (xs ++ (d ∷ [])) ≡ found (10 * m + (d - 48))
unfolding number
number_snoc [] m d e p h = absurd (let z : ◌≡◌ {A = ℕ} 0 1 = cc in omega arith)
number_snoc (c ∷ []) m d e p h = split (eqb c 48)
    (λ t. absurd (
    let k : more_digits 0 (c ∷ []) ≡ found 0 = rw (eqb-true c 48 t) zero_digit in
    let q : found 0 ≡ found m = sym k ∙ e in
    let z : ◌≡◌ {A = ℕ} 0 m = cc in omega arith))
    (λ t. rw (t, number) (more_snoc (c ∷ []) 0 m d e h))
  where
    zero_digit : more_digits 0 (48 ∷ []) ≡ found 0
    zero_digit = unfold more_digits is_digit in refl
number_snoc (c ∷ x ∷ xs) m d e p h = split (eqb c 48)
    (λ t. absurd (let q : nothing ≡ found m = rw (t, number) at e in let z : ◌≡◌ {A = ℕ} 0 1 = cc in omega arith))
    (λ t. rw (t, number) (more_snoc (c ∷ x ∷ xs) 0 m d (rw (t, number) at e) h))

number_digits : (f n : ℕ) → n < f → number (digits f n) ≡ found n
unfolding digits number more_digits
number_digits zero n h = absurd (omega arith)
number_digits (suc f) n h = split (ltb n 10)
    (λ t. rw (t, digits, digit n (ltb-true n 10 t), more_digits) (ap found (omega arith)))
    (λ t.
    let k = ltb-false n 10 t in
    rw (t, digits) (number_snoc (digits f (n / 10)) (n / 10) (48 + n % 10) (number_digits f (n / 10) (omega arith)) (omega arith) (digit (n % 10) (omega arith)) ∙ ap found (omega arith)))

number_decimal : (n : ℕ) → number (decimal n) ≡ found n
unfolding decimal
number_decimal n = number_digits (suc n) n (omega arith)

numbers_decimal : (ns : List ℕ) → numbers_of (map decimal ns) ≡ numbers ns
unfolding numbers_of before
numbers_decimal [] = refl
numbers_decimal (n ∷ ns) = rw (number_decimal n, numbers_of, numbers_decimal ns)

-- ---- words

-- a space is no digit
pub space_digit : is_digit space ≡ false
unfolding is_digit
space_digit = refl

-- and a line feed is none
pub feed_digit : is_digit line_feed ≡ false
unfolding is_digit
feed_digit = refl

spaced_words : (w ns : List ℕ) → Out space w → parts space ((w ++ spaced ns) ++ (space ∷ [])) ≡ w ∷ map decimal ns
unfolding spaced parts text
spaced_words w [] o = rw (append-nil w) (parts_one space w [] o)
spaced_words w (n ∷ ns) o =
    rw (append_assoc w (space ∷ (decimal n ++ spaced ns)) (space ∷ []))
    (parts_one space w ((decimal n ++ spaced ns) ++ (space ∷ [])) o ∙ ap (λ (r : List (List ℕ)). w ∷ r) (spaced_words (decimal n) ns (out_decimal space n space_digit)))

-- the words of a line of numbers
pub words_spaced : (w ns : List ℕ) → Out space w → words (w ++ spaced ns) ≡ w ∷ map decimal ns
unfolding words
words_spaced w ns o = spaced_words w ns o

-- decimal numbers are read back
pub numbers_read : (ns : List ℕ) → numbers_of (map decimal ns) ≡ numbers ns
numbers_read ns = numbers_decimal ns

-- so is a line of them
pub line_numbers : (n : ℕ) (ns : List ℕ) → numbers_of (words (numbers_line (n ∷ ns))) ≡ numbers (n ∷ ns)
unfolding numbers_line
line_numbers n ns = rw (words_spaced (decimal n) ns (out_decimal space n space_digit)) (numbers_decimal (n ∷ ns))

-- numbers hold no line feed
pub out_spaced : (ns : List ℕ) → Out line_feed (spaced ns)
unfolding spaced text mem
out_spaced [] = refl
out_spaced (n ∷ ns) = out_append line_feed (decimal n) (spaced ns) (out_decimal line_feed n feed_digit) (out_spaced ns)

-- nor does their line
pub out_line : (ns : List ℕ) → Out line_feed (numbers_line ns)
unfolding numbers_line mem
out_line [] = refl
out_line (n ∷ ns) = out_append line_feed (decimal n) (spaced ns) (out_decimal line_feed n feed_digit) (out_spaced ns)
