-- Laws of the cursor. Assumes nothing.
use Prim.Native.Nat.{ℕ, zero, suc, max, ◌+◌, ◌-◌, ◌*◌, ◌<◌, ◌≤◌}
use mathlib.Core.Path.{◌≡◌, refl, sym, ap, ◌∙◌}
use mathlib.Core.Logic.{◌⊎◌, inl, inr}
use mathlib.Core.Bool.{true, false}
use Rattle.std.specs.Prelude.{Some, None}
use mathlib.Core.List.{List, [], ◌∷◌, ◌++◌}
use native.Mathlib.Omega.{arith}
use native.Mathlib.Numerals.{add-one}
use lib.Dec.{eqb, ltb}
use lib.ListN.{length, get_or, take, drop, set, length-append, length-drop, length-set, drop_of_length-le, get_or-append, get_or-eq_default}
use lib.Seq.{drop-cons, drop-append-le, take-append-le, drop-drop, get_or-set_same, get_or-set_other, get_or_at}
use borrow.Author.Tests.{eqb-true, eqb-false, ltb-true, ltb-false, ne_eqb, eq-eqb}
use Rattle.rules.specs.Lists.{Found, nothing, found}
use Rattle.rules.proofs.Lists.Members.{split}
use Rattle.aiger_form.specs.Text.{grow, parts, space, words, is_digit, more_digits, number, Numbers?, no_numbers, numbers, before, numbers_of}
use Rattle.aiger_rows.specs.Cursor.{until, cap, capped, capped_found, numeral, Got}

-- ---- until

-- another byte
pub until_more : (e : ℕ) (xs : List ℕ) (i : ℕ) → i < length xs → (get_or xs i 0 ≡ e → ⊥) → i + until e (drop i xs) ≡ (i + 1) + until e (drop (i + 1) xs)
unfolding until
until_more e xs i h n = rw (add-one i, drop-cons xs i 0 h, ne_eqb (get_or xs i 0) e n, until) (omega arith)

-- the byte itself
pub until_here : (e : ℕ) (xs : List ℕ) (i : ℕ) → i < length xs → get_or xs i 0 ≡ e → i ≡ i + until e (drop i xs)
unfolding until
until_here e xs i h n = rw (drop-cons xs i 0 h, eq-eqb (get_or xs i 0) e n, until) (omega arith)

-- it lies in the list
pub until_length : (e : ℕ) (xs : List ℕ) → until e xs ≤ length xs
unfolding until
until_length e [] = omega arith
until_length e (x ∷ xs) = split (eqb x e) (λ t. rw (t, until) (omega arith)) (λ t. rw (t, until) (let h = until_length e xs in omega arith))

-- no byte
pub until_end : (e : ℕ) (xs : List ℕ) (at i : ℕ) → length xs ≤ i → i + until e (drop i xs) ≡ at + until e (drop at xs) → max at (length xs) ≡ at + until e (drop at xs)
until_end e xs at i h q = omega (arith, until_length e (drop i xs), until_length e (drop at xs), length-drop i xs, length-drop at xs)

-- a part ends there
pub parts_until : (e : ℕ) (xs : List ℕ) → until e xs < length xs → parts e xs ≡ take (until e xs) xs ∷ parts e (drop (suc (until e xs)) xs)
unfolding until parts grow
parts_until e [] h = absurd (omega arith)
parts_until e (x ∷ xs) h = split (eqb x e)
    (λ t. rw (t, until, parts))
    (λ t. let k : until e xs < length xs = let q : suc (until e xs) < suc (length xs) = rw (t, until) at h in omega arith in rw (t, until, parts, parts_until e xs k, grow))

-- no part ends
pub parts_rest : (e : ℕ) (xs : List ℕ) → length xs ≤ until e xs → parts e xs ≡ []
unfolding until parts grow
parts_rest e [] h = refl
parts_rest e (x ∷ xs) h = split (eqb x e)
    (λ t. absurd (let q : suc (length xs) ≤ 0 = rw (t, until) at h in omega arith))
    (λ t. let k : length xs ≤ until e xs = let q : suc (length xs) ≤ suc (until e xs) = rw (t, until) at h in omega arith in rw (t, parts, parts_rest e xs k, grow))

-- with one more e behind
until_behind : (e : ℕ) (xs : List ℕ) → until e (xs ++ (e ∷ [])) ≡ until e xs
unfolding until
until_behind e [] = rw (eq-eqb e e refl, until)
until_behind e (x ∷ xs) = split (eqb x e) (λ t. rw (t, until)) (λ t. rw (t, until) (ap suc (until_behind e xs)))

-- ---- digits

more_capped : (n : ℕ) (cs : List ℕ) → capped_found (more_digits (capped n) cs) ≡ capped_found (more_digits n cs)
unfolding capped_found more_digits
more_capped n [] = ap found (omega arith)
more_capped n (c ∷ cs) = split (is_digit c)
    (λ t. rw (t, more_digits) (sym (more_capped (10 * capped n + (c - 48)) cs) ∙ ap (λ (k : ℕ). capped_found (more_digits k cs)) (step n (c - 48)) ∙ more_capped (10 * n + (c - 48)) cs))
    (λ t. rw (t, more_digits))
  where
    step : (k d : ℕ) → capped (10 * capped k + d) ≡ capped (10 * k + d)
    step k d = omega arith

-- one digit more
pub digits_more : (xs : List ℕ) (i v r d : ℕ) → i < length xs → is_digit (get_or xs i 0) ≡ true → d ≡ get_or xs i 0 - 48 → r ≡ capped (10 * v + d) → capped_found (more_digits r (drop (i + 1) xs)) ≡ capped_found (more_digits v (drop i xs))
unfolding more_digits
digits_more xs i v r d h t q e = rw (add-one i, drop-cons xs i 0 h, t, more_digits, e, q) (more_capped (10 * v + (get_or xs i 0 - 48)) (drop (suc i) xs))

-- no digit
pub digits_none : (xs : List ℕ) (i v : ℕ) → i < length xs → is_digit (get_or xs i 0) ≡ false → capped_found (more_digits v (drop i xs)) ≡ nothing
unfolding more_digits capped_found
digits_none xs i v h t = rw (drop-cons xs i 0 h, t, more_digits)

-- no byte is left
pub digits_end : (xs : List ℕ) (i v : ℕ) → length xs ≤ i → capped_found (more_digits v (drop i xs)) ≡ found (capped v)
unfolding more_digits capped_found
digits_end xs i v h = rw (drop_of_length-le xs h)

-- no byte is no number
pub number_none : (xs : List ℕ) → length xs ≡ 0 → number xs ≡ nothing
unfolding number
number_none [] h = refl
number_none (x ∷ xs) h = absurd (omega arith)

-- a leading 0 is none
pub number_zero : (xs : List ℕ) → 1 < length xs → get_or xs 0 0 ≡ 48 → number xs ≡ nothing
unfolding number
number_zero [] h d = absurd (omega arith)
number_zero (x ∷ []) h d = absurd (omega arith)
number_zero (x ∷ y ∷ xs) h d = rw (eq-eqb x 48 d, number)

-- other digits are
pub number_digits : (xs : List ℕ) → (length xs ≡ 0 → ⊥) → (1 < length xs → get_or xs 0 0 ≡ 48 → ⊥) → number xs ≡ more_digits 0 xs
unfolding number
number_digits [] h n = absurd (h refl)
number_digits (x ∷ []) h n = refl
number_digits (x ∷ y ∷ xs) h n = rw (ne_eqb x 48 (λ d. n (omega arith) d), number)

-- a number
pub numeral_end : (xs : List ℕ) (i v : ℕ) → length xs ≤ i → v ≤ cap → capped_found (more_digits v (drop i xs)) ≡ capped_found (more_digits 0 xs) → numeral (Some v) ≡ capped_found (more_digits 0 xs)
unfolding numeral
numeral_end xs i v h k e = let q : capped v ≡ v = omega arith in ap found (sym q) ∙ sym (digits_end xs i v h) ∙ e

-- a byte that is no digit
pub numeral_none : (xs : List ℕ) (i v : ℕ) → i < length xs → is_digit (get_or xs i 0) ≡ false → capped_found (more_digits v (drop i xs)) ≡ capped_found (more_digits 0 xs) → numeral None ≡ capped_found (more_digits 0 xs)
unfolding numeral
numeral_none xs i v h t e = sym (digits_none xs i v h t) ∙ e

-- none
pub numeral_nothing : (xs : List ℕ) → number xs ≡ nothing → numeral None ≡ capped_found (number xs)
unfolding numeral capped_found
numeral_nothing xs e = rw e

-- ---- the numbers of a line

-- the words that stand from a place on, and the word there
abbrev pub words_from : List ℕ → ℕ → List (List ℕ)
words_from line at = parts space (drop at (line ++ (space ∷ [])))

-- one word more
pub words_step : (line : List ℕ) (at e : ℕ) → at ≤ length line → e ≡ at + until 32 (drop at line) → (e ≤ length line) × (words_from line at ≡ take (e - at) (drop at line) ∷ words_from line (e + 1))
words_step line at e h d =
    let u = until_length 32 (drop at line) in
    let l = length-drop at line in
    let q : e - at ≡ until 32 (drop at line) = omega arith in
    let p : drop at (line ++ (32 ∷ [])) ≡ drop at line ++ (32 ∷ []) = drop-append-le at line (32 ∷ []) h in
    let w : until 32 (drop at line ++ (32 ∷ [])) ≡ until 32 (drop at line) = until_behind 32 (drop at line) in
    let k : until 32 (drop at line ++ (32 ∷ [])) < length (drop at line ++ (32 ∷ [])) = rw (w, length-append (drop at line) (32 ∷ [])) (omega arith) in
    let s = parts_until 32 (drop at line ++ (32 ∷ [])) k in
    let b : drop (suc (until 32 (drop at line))) (drop at (line ++ (32 ∷ []))) ≡ drop (e + 1) (line ++ (32 ∷ [])) = drop-drop (suc (until 32 (drop at line))) at (line ++ (32 ∷ [])) ∙ (let y : at + suc (until 32 (drop at line)) ≡ e + 1 = omega arith in rw y) in
    let t : take (until 32 (drop at line)) (drop at line ++ (32 ∷ [])) ≡ take (until 32 (drop at line)) (drop at line) = take-append-le (until 32 (drop at line)) (drop at line) (32 ∷ []) u in
    (omega arith, rw (p, s, w, t, q, ← p, b) refl)

-- no word is left
pub words_end : (line : List ℕ) (e : ℕ) → e ≡ length line → words_from line (e + 1) ≡ []
unfolding parts
words_end line e d = rw (drop_of_length-le (line ++ (space ∷ [])) {i = e + 1} (rw (length-append line (space ∷ [])) (omega arith)))

-- numbers before others
unfoldable pub before_all : List ℕ → Numbers? → Numbers?
before_all [] r = r
before_all (n ∷ ns) r = before n (before_all ns r)

before_snoc : (ns : List ℕ) (n : ℕ) (r : Numbers?) → before_all ns (before n r) ≡ before_all (ns ++ (n ∷ [])) r
unfolding before_all
before_snoc [] n r = refl
before_snoc (m ∷ ns) n r = ap (before m) (before_snoc ns n r)

before_none : (ns : List ℕ) → before_all ns no_numbers ≡ no_numbers
unfolding before_all before
before_none [] = refl
before_none (m ∷ ns) = rw (before_none ns)

before_end : (ns : List ℕ) → before_all ns (numbers []) ≡ numbers ns
unfolding before_all before
before_end [] = refl
before_end (m ∷ ns) = rw (before_end ns)

-- the words before `at` are read
pub record Going (line : List ℕ) (at count : ℕ) (values : List ℕ) : Type 0 where
  pub seen : List ℕ
  pub is : numbers_of (words line) ≡ before_all seen (numbers_of (words_from line at))
  pub counted : count ≡ length seen
  pub five : length values ≡ 5
  pub held : (i : ℕ) → i < 5 → get_or values i 0 ≡ capped (get_or seen i 0)
  pub inside : at ≤ length line
  pub few : count ≤ at

-- before the first word
pub going_start : (line : List ℕ) → Going line 0 0 (0 ∷ 0 ∷ 0 ∷ 0 ∷ 0 ∷ [])
unfolding words before_all
going_start line = record { seen = []; is = refl; counted = refl; five = refl; held = λ i h. zeros i; inside = omega arith; few = omega arith }
  where
    zeros : (i : ℕ) → get_or (0 ∷ 0 ∷ 0 ∷ 0 ∷ 0 ∷ []) i 0 ≡ capped (get_or [] i 0)
    zeros zero = refl
    zeros (suc zero) = refl
    zeros (suc (suc zero)) = refl
    zeros (suc (suc (suc zero))) = refl
    zeros (suc (suc (suc (suc zero)))) = refl
    zeros (suc (suc (suc (suc (suc i))))) = refl

-- what a word's number says
capped_found_lem : (r : Found) (v : ℕ) → numeral (Some v) ≡ capped_found r → (n : ℕ) × (r ≡ found n) × (v ≡ capped n)
unfolding numeral capped_found
capped_found_lem nothing v e = absurd (cc)
capped_found_lem (found n) v e = (n, refl, (cc))

capped_none : (r : Found) → numeral None ≡ capped_found r → r ≡ nothing
unfolding numeral capped_found
capped_none nothing e = refl
capped_none (found n) e = absurd (cc)

module _ {line : List ℕ} {at count : ℕ} {values : List ℕ} (G : Going line at count values) (e : ℕ) (d : e ≡ at + until 32 (drop at line)) where
  next_word : (r : Found) → number (take (e - at) (drop at line)) ≡ r → numbers_of (words_from line at) ≡ elim r [ nothing ↦ no_numbers | found n ↦ before n (numbers_of (words_from line (e + 1))) ]
  unfolding numbers_of
  next_word r h = rw ((words_step line at e G.inside d).1, numbers_of, h)

  -- a word lies in its line
  pub word_inside : (at ≤ e) × (e ≤ length line)
  word_inside = (omega arith, (words_step line at e G.inside d).0)

  -- a word that is no number
  pub going_none : numeral None ≡ capped_found (number (take (e - at) (drop at line))) → numbers_of (words line) ≡ no_numbers
  going_none h = G.is ∙ ap (before_all G.seen) (next_word nothing (capped_none _ h)) ∙ before_none G.seen

  record More (v : ℕ) : Type 0 where
    more : List ℕ
    is : numbers_of (words line) ≡ before_all more (numbers_of (words_from line (e + 1)))
    counted : count + 1 ≡ length more
    five : length (set values count v) ≡ 5
    held : (i : ℕ) → i < 5 → get_or (set values count v) i 0 ≡ capped (get_or more i 0)

  going_on : (v : ℕ) → numeral (Some v) ≡ capped_found (number (take (e - at) (drop at line))) → More v
  going_on v h =
      let w = capped_found_lem _ v h in
      let n = w.0 in
      record {
        more = G.seen ++ (n ∷ []);
        is = G.is ∙ ap (before_all G.seen) (next_word (found n) w.1) ∙ before_snoc G.seen n _;
        counted = rw (length-append G.seen (n ∷ [])) (omega (arith, G.counted));
        five = rw (length-set values count v) G.five;
        held = λ i k. at_one n v w.2 i k (split (ltb i count) (λ t. inl (ltb-true i count t)) (λ t. split (eqb i count) (λ u. inr (inl (eqb-true i count u))) (λ u. inr (inr (let q = eqb-false i count u in let l = ltb-false i count t in ne_lt i count l q)))));
      }
    where
      ne_lt : (i k : ℕ) → k ≤ i → (i ≡ k → ⊥) → k < i
      ne_lt i k l q = split (ltb k i) (λ t. ltb-true k i t) (λ t. absurd (q (omega (arith, ltb-false k i t))))

      at_one : (n v : ℕ) → v ≡ capped n → (i : ℕ) → i < 5 → (i < count) ⊎ ((i ≡ count) ⊎ (count < i)) → get_or (set values count v) i 0 ≡ capped (get_or (G.seen ++ (n ∷ [])) i 0)
      at_one n v q i k (inl l) = get_or-set_other values count i v 0 (λ z. omega arith) ∙ G.held i k ∙ ap capped (sym (get_or-append G.seen (n ∷ []) 0 i (omega (arith, G.counted))))
      at_one n v q i k (inr (inl l)) = rw l (get_or-set_same values count v 0 (omega (arith, G.five)) ∙ q ∙ ap capped (sym (get_or_at G.seen n [] 0 count (sym G.counted))))
      at_one n v q i k (inr (inr l)) =
          get_or-set_other values count i v 0 (λ z. omega arith) ∙ G.held i k ∙ ap capped (get_or-eq_default G.seen 0 (omega (arith, G.counted)) ∙ sym (get_or-eq_default (G.seen ++ (n ∷ [])) 0 (rw (length-append G.seen (n ∷ [])) (omega (arith, G.counted)))))

  -- a word more
  pub going_more : (v : ℕ) → numeral (Some v) ≡ capped_found (number (take (e - at) (drop at line))) → (e ≡ length line → ⊥) → {vs : List ℕ} → vs ≡ set values count v → Going line (e + 1) (count + 1) vs
  going_more v h n {vs} q =
      let M = going_on v h in
      let i = word_inside in
      let l : e < length line = split (ltb e (length line)) (λ t. ltb-true e (length line) t) (λ t. absurd (n (omega (arith, ltb-false e (length line) t)))) in
      record { seen = M.more; is = M.is; counted = M.counted; five = rw q M.five; held = λ j k. rw q (M.held j k); inside = omega arith; few = omega (arith, G.few) }

  -- the last word
  pub going_done : (v : ℕ) → numeral (Some v) ≡ capped_found (number (take (e - at) (drop at line))) → e ≡ length line → {vs : List ℕ} → vs ≡ set values count v → Got (numbers_of (words line)) (count + 1) vs
  unfolding numbers_of
  going_done v h n {vs} q =
      let M = going_on v h in
      record {
        ns = M.more;
        is = M.is ∙ ap (λ (r : List (List ℕ)). before_all M.more (numbers_of r)) (words_end line e n) ∙ before_end M.more;
        counted = M.counted;
        held = λ j k. rw q (M.held j k);
      }
