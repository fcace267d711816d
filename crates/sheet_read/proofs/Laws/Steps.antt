-- One word, and many of them. Assumes nothing.
use mathlib.Core.Path.{◌≡◌, refl, sym, ap, ◌∙◌}
use mathlib.Core.Bool.{Bool, true, false}
use mathlib.Core.List.{List, [], ◌∷◌, ◌++◌}
use Prim.Native.Nat.{ℕ, zero, suc, ◌+◌, ◌-◌, ◌*◌, ◌<◌, ◌≤◌}
use native.Mathlib.Omega.{arith}
use lib.ListN.{length, set, drop, length-set, length-append}
use borrow.Author.Tests.{le-ltb, lt-ltb}
use Rattle.rules.specs.Lists.{every}
use Rattle.rules.specs.Cells.{is_height, word_limit, word_fits}
use Rattle.rules.specs.Job.{Read, cut, got, next, field, fields}
use Rattle.rules.proofs.Lists.Members.{split}
use Rattle.rules.proofs.Job.Fields.{through, no_cut, same_got}
use Rattle.cells.specs.Answers.{or_zero}
use Rattle.bits.specs.Fields.{bits_in, FieldIs}
use Rattle.bits.proofs.Laws.Fields.{field_there, field_lost}
use Rattle.job.specs.Steps.{Took}
use Rattle.job.proofs.Laws.Many.{Reader, many, Going, took_lost}
use Rattle.sheet_read.specs.Steps.{one_word, words_read, WordsAt}

-- ---- a word

module _ {K at s : ℕ} {xs : List ℕ} (A : WordsAt K at s xs) where
  -- too few bits left for a word: cut
  pub word_lost : 8 * length xs - at < 8 → {a : List ℕ} → Took (one_word K) xs at s a a (8 * length xs + 1) 0
  unfolding one_word next
  word_lost h = took_lost refl (rw (field_lost at 8 xs h))

  module _ (h : 8 ≤ 8 * length xs - at) {n : ℕ} (F : FieldIs at 8 xs n) {limit w : ℕ} (l : limit ≡ or_zero (is_height K) (word_limit K)) (q : w ≡ n) where
    is_limit : limit ≡ word_limit K
    unfolding or_zero
    is_limit = l ∙ rw A.height

    word_there : field 8 (drop at (bits_in xs)) ≡ got n (drop (at + 8) (bits_in xs))
    word_there = let i = A.inside in field_there at 8 xs n F (omega arith)

    -- a word at W or above is refused as a cut is
    pub word_great : limit ≤ w → {a : List ℕ} → Took (one_word K) xs at s a a (8 * length xs + 1) 0
    unfolding one_word next word_fits
    word_great k = took_lost refl (rw (word_there, next, le-ltb n (word_limit K) (omega (arith, is_limit))))

    -- one below it is stored
    pub word_took : w < limit → {a a' : List ℕ} → a' ≡ set a s n → Took (one_word K) xs at s a a' (at + 8) (s + 1)
    unfolding one_word next word_fits
    word_took k {a} e =
        let i = A.inside in
        record {
          len = ap length e ∙ length-set a s n;
          lost = λ k _. absurd (omega arith);
          read = λ _. record { from = i; these = n ∷ []; is = rw (word_there, next, lt-ltb n (word_limit K) (omega (arith, is_limit))); area = e; count = refl; few = omega arith };
        }

-- ---- many

abbrev judged : ℕ → List ℕ → List ℕ → Read (List ℕ)
judged K ws ds = elim (every (word_fits K) ws) [ true ↦ got ws ds | false ↦ cut ]

abbrev given : Bool → Read (List ℕ) → Read (List ℕ)
given a r = elim a [ true ↦ r | false ↦ cut ]

abbrev also : Bool → Bool → Bool
also a b = elim a [ true ↦ b | false ↦ false ]

cut_both : (a : Bool) → ◌≡◌ {A = Read (List ℕ)} cut (given a cut)
cut_both true = refl
cut_both false = refl

judged_both : (a b : Bool) (x : ℕ) (xs ds : List ℕ) → given (also a b) (got (x ∷ xs) ds) ≡ given a (next (given b (got xs ds)) (λ ys es. got (x ∷ ys) es))
unfolding next
judged_both true true x xs ds = refl
judged_both true false x xs ds = refl
judged_both false b x xs ds = refl

chosen_both : (a : Bool) (x : ℕ) (cs : List ℕ) (g : List ℕ → Read (List ℕ)) → given a (next (g cs) (λ xs ds. got (x ∷ xs) ds)) ≡ next (given a (got (x ∷ []) cs)) (λ y es. next (g es) (λ xs ds. got (y ++ xs) ds))
unfolding next
chosen_both true x cs g = refl
chosen_both false x cs g = refl

word_behind : (K x : ℕ) (r : Read (List ℕ)) → next (next r (λ xs ds. got (x ∷ xs) ds)) (judged K) ≡ elim (word_fits K x) [ true ↦ next (next r (judged K)) (λ xs ds. got (x ∷ xs) ds) | false ↦ cut ]
unfolding next every
word_behind K x cut = cut_both (word_fits K x)
word_behind K x (got xs ds) = judged_both (word_fits K x) (every (word_fits K) xs) x xs ds

word_first : (K n : ℕ) (r : Read ℕ) → ((bs : List ℕ) → next (fields n 8 bs) (judged K) ≡ many (one_word K) n bs) →
    next (next r (λ x cs. next (fields n 8 cs) (λ xs ds. got (x ∷ xs) ds))) (judged K)
    ≡ next (next r (λ w cs. elim (word_fits K w) [ true ↦ got (w ∷ []) cs | false ↦ cut ])) (λ x cs. next (many (one_word K) n cs) (λ xs ds. got (x ++ xs) ds))
unfolding next
word_first K n cut e = refl
word_first K n (got x cs) e = word_behind K x (fields n 8 cs) ∙ ap (λ (r : Read (List ℕ)). given (word_fits K x) (next r (λ xs ds. got (x ∷ xs) ds))) (e cs) ∙ chosen_both (word_fits K x) x cs (many (one_word K) n)

-- words that are judged together are words judged one by one
pub words_many : (K n : ℕ) (bs : List ℕ) → words_read K n bs ≡ many (one_word K) n bs
unfolding words_read fields many one_word next every
words_many K zero bs = refl
words_many K (suc n) bs = word_first K n (field 8 bs) (words_many K n)

many_length : (one : Reader) → ((bs ys ds : List ℕ) → one bs ≡ got ys ds → length ys ≡ 1) → (n : ℕ) (bs ys ds : List ℕ) → many one n bs ≡ got ys ds → length ys ≡ n
unfolding many
many_length one h zero bs ys ds e = same_got (λ (x y : List ℕ). length x ≡ 0) e refl
many_length one h (suc n) bs ys ds e =
    let t = through (one bs) (λ x cs. next (many one n cs) (λ xs ds. got (x ++ xs) ds)) e in
    let u = through (many one n t.b) (λ xs ds. got (t.a ++ xs) ds) t.second in
    same_got (λ (x y : List ℕ). length x ≡ suc n) u.second (omega (arith, length-append t.a u.a, h bs t.a t.b t.first, many_length one h n t.b u.a u.b u.first))

word_one : (K : ℕ) (bs ys ds : List ℕ) → one_word K bs ≡ got ys ds → length ys ≡ 1
unfolding one_word
word_one K bs ys ds e =
    let t = through (field 8 bs) (λ w cs. elim (word_fits K w) [ true ↦ got (w ∷ []) cs | false ↦ cut ]) e in
    split (word_fits K t.a) (λ v. same_got (λ (x y : List ℕ). length x ≡ 1) (rw v at t.second) refl) (λ v. no_cut (rw v at t.second))

-- so many words are read
pub words_length : (K n : ℕ) (bs ys ds : List ℕ) → words_read K n bs ≡ got ys ds → length ys ≡ n
words_length K n bs ys ds e = many_length (one_word K) (word_one K) n bs ys ds (sym (words_many K n bs) ∙ e)

-- the next word may be read
pub words_at_lem : {one : Reader} {xs : List ℕ} {K n i from s : ℕ} {a a₁ : List ℕ} {at count : ℕ} → Going one xs n i from s a a₁ at count → WordsAt K from s xs → WordsAt K at count xs
words_at_lem G A = record { height = A.height; small = A.small; inside = G.inside; room = omega (arith, G.few, A.room) }
