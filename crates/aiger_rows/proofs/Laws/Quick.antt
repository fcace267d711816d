-- A line of three numbers, read in one go: laws. Assumes nothing.
use Prim.Native.Nat.{ℕ, suc, ◌+◌, ◌-◌, ◌*◌, ◌≤◌, ◌<◌}
use mathlib.Core.Path.{◌≡◌, refl, sym, ap, ◌∙◌}
use mathlib.Core.Bool.{true}
use mathlib.Core.List.{List, [], ◌∷◌, ◌++◌, append_assoc}
use native.Mathlib.Omega.{arith}
use lib.ListN.{length, get_or, take, drop, length-append, length-drop}
use lib.Seq.{take-suc, split_at, take_at, get_or-take, get_or-drop, drop-drop, length-take-le}
use borrow.Author.Tests.{ne_eqb}
use Rattle.rules.specs.Lists.{found, every, Out}
use Rattle.rules.proofs.Lists.Members.{out_head, out_tail}
use Rattle.aiger_form.specs.Text.{parts, words, is_digit, more_digits, number, numbers, before, numbers_of}
use Rattle.aiger_form.proofs.Texts.{parts_one, every_append, out_digits, more_snoc, space_digit, feed_digit}
use Rattle.aiger_rows.specs.Cursor.{until, Figured, Worded, Tripled}
use Rattle.aiger_rows.proofs.Laws.Cursor.{number_digits}

module _ (bytes : List ℕ) (at : ℕ) where
  -- no digit yet
  pub figured_start : at ≤ length bytes → Figured bytes at at 0
  unfolding more_digits every
  figured_start h = let z : at - at ≡ 0 = omega arith in record { from = omega arith; inside = h; is = rw z; digits = rw z }

  module _ {i v : ℕ} (F : Figured bytes at i v) where
    -- the digits up to i, and the byte there
    one_more : i < length bytes → take (i + 1 - at) (drop at bytes) ≡ take (i - at) (drop at bytes) ++ (get_or bytes i 0 ∷ [])
    one_more h =
        let l = length-drop at bytes in
        let f = F.from in
        let s : i + 1 - at ≡ suc (i - at) = omega arith in
        let j : at + (i - at) ≡ i = omega arith in
        let g : get_or (drop at bytes) (i - at) 0 ≡ get_or bytes i 0 = get_or-drop at bytes (i - at) 0 ∙ ap (λ (k : ℕ). get_or bytes k 0) j in
        rw (s, take-suc (drop at bytes) (i - at) 0 (omega arith), g)

    -- one digit more
    pub figured_more : i < length bytes → is_digit (get_or bytes i 0) ≡ true → (d : ℕ) → d ≡ get_or bytes i 0 - 48 → Figured bytes at (i + 1) (10 * v + d)
    unfolding every
    figured_more h t d q =
        let c = get_or bytes i 0 in
        let o = one_more h in
        record {
          from = omega (arith, F.from);
          inside = omega arith;
          is = rw (o, q) (more_snoc (take (i - at) (drop at bytes)) 0 v c F.is t);
          digits = rw o (every_append is_digit (take (i - at) (drop at bytes)) (c ∷ []) F.digits (rw (t, every)));
        }

    -- digits that a byte ends are a number, where the first is no 0
    pub worded : i < length bytes → (b : ℕ) → get_or bytes i 0 ≡ b → (i ≡ at → ⊥) → (get_or bytes at 0 ≡ 48 → ⊥) → Worded bytes at b i v
    worded h b e n z =
        let l = length-drop at bytes in
        let f = F.from in
        let t : length (take (i - at) (drop at bytes)) ≡ i - at = length-take-le (i - at) (drop at bytes) (omega arith) in
        let g : (0 < i - at) → get_or (take (i - at) (drop at bytes)) 0 0 ≡ get_or bytes at 0 = λ k. get_or-take (i - at) (drop at bytes) 0 0 k ∙ get_or-drop at bytes 0 0 ∙ ap (λ (k : ℕ). get_or bytes k 0) (omega arith) in
        record {
          from = F.from;
          inside = h;
          ends = e;
          is = number_digits (take (i - at) (drop at bytes)) (λ q. n (omega arith)) (λ k q. z (sym (g (omega arith)) ∙ q)) ∙ F.is;
          digits = F.digits;
        }

-- ---- three of them

until_out : (e : ℕ) (xs ys : List ℕ) → Out e xs → until e (xs ++ ys) ≡ length xs + until e ys
unfolding until
until_out e [] ys o = omega arith
until_out e (x ∷ xs) ys o = let n = out_head e x xs o in rw (ne_eqb x e (λ d. n (sym d)), until) (omega (arith, until_out e xs ys (out_tail e x xs o)))

module _ {bytes : List ℕ} {at b e v : ℕ} (W : Worded bytes at b e v) where
  bits : List ℕ
  bits = take (e - at) (drop at bytes)

  bits_length : length bits ≡ e - at
  unfolding bits
  bits_length = let l = length-drop at bytes in let i = W.inside in length-take-le (e - at) (drop at bytes) (omega arith)

  word_split : drop at bytes ≡ bits ++ (b ∷ drop (e + 1) bytes)
  unfolding bits
  word_split =
      let l = length-drop at bytes in
      let f = W.from in
      let i = W.inside in
      let j : at + (e - at) ≡ e = omega arith in
      let k : at + suc (e - at) ≡ e + 1 = omega arith in
      let g : get_or (drop at bytes) (e - at) 0 ≡ b = get_or-drop at bytes (e - at) 0 ∙ ap (λ (k : ℕ). get_or bytes k 0) j ∙ W.ends in
      let d : drop (suc (e - at)) (drop at bytes) ≡ drop (e + 1) bytes = drop-drop (suc (e - at)) at bytes ∙ ap (λ (k : ℕ). drop k bytes) k in
      split_at (drop at bytes) (e - at) 0 (omega arith) ∙ rw (g, d) refl

  no_space : Out 32 bits
  unfolding bits
  no_space = out_digits 32 (take (e - at) (drop at bytes)) space_digit W.digits

  no_feed : Out 10 bits
  unfolding bits
  no_feed = out_digits 10 (take (e - at) (drop at bytes)) feed_digit W.digits

  bits_number : number bits ≡ found v
  unfolding bits
  bits_number = W.is

-- three words, the first two ended by spaces
three_words : (A B C : List ℕ) → Out 32 A → Out 32 B → Out 32 C → words (A ++ (32 ∷ (B ++ (32 ∷ C)))) ≡ A ∷ B ∷ C ∷ []
unfolding words parts
three_words A B C a b c =
    rw (append_assoc A (32 ∷ (B ++ (32 ∷ C))) (32 ∷ []), append_assoc B (32 ∷ C) (32 ∷ []))
    (parts_one 32 A ((B ++ (32 ∷ (C ++ (32 ∷ []))))) a ∙ ap (λ (r : List (List ℕ)). A ∷ r) (parts_one 32 B (C ++ (32 ∷ [])) b ∙ ap (λ (r : List (List ℕ)). B ∷ r) (parts_one 32 C [] c)))

three_numbers : (A B C : List ℕ) (a b c : ℕ) → number A ≡ found a → number B ≡ found b → number C ≡ found c → numbers_of (A ∷ B ∷ C ∷ []) ≡ numbers (a ∷ b ∷ c ∷ [])
unfolding numbers_of before
three_numbers A B C a b c p q r = rw (p, numbers_of, q, r)

until_three : (A B C R : List ℕ) → Out 10 A → Out 10 B → Out 10 C → until 10 (A ++ (32 ∷ (B ++ (32 ∷ (C ++ (10 ∷ R)))))) ≡ length A + suc (length B + suc (length C))
unfolding until
until_three A B C R a b c =
    until_out 10 A _ a ∙ ap (λ (n : ℕ). length A + suc n) (until_out 10 B _ b ∙ ap (λ (n : ℕ). length B + suc n) (until_out 10 C (10 ∷ R) c ∙ omega arith))

-- a line of three numbers
pub tripled : {bytes : List ℕ} {at a d b f c g : ℕ} → Worded bytes at 32 d a → Worded bytes (d + 1) 32 f b → Worded bytes (f + 1) 10 g c → Tripled bytes at g a b c
unfolding bits
tripled {bytes} {at} {a} {d} {b} {f} {c} {g} X Y Z =
    let A = bits X in
    let B = bits Y in
    let C = bits Z in
    let R = drop (g + 1) bytes in
    let s : drop at bytes ≡ A ++ (32 ∷ (B ++ (32 ∷ (C ++ (10 ∷ R))))) = word_split X ∙ ap (λ (r : List ℕ). A ++ (32 ∷ r)) (word_split Y ∙ ap (λ (r : List ℕ). B ++ (32 ∷ r)) (word_split Z)) in
    let p = bits_length X in
    let q = bits_length Y in
    let r = bits_length Z in
    let xf = X.from in
    let yf = Y.from in
    let zf = Z.from in
    let u : until 10 (drop at bytes) ≡ length A + suc (length B + suc (length C)) = ap (until 10) s ∙ until_three A B C R (no_feed X) (no_feed Y) (no_feed Z) in
    let W = A ++ (32 ∷ (B ++ (32 ∷ C))) in
    let w : drop at bytes ≡ W ++ (10 ∷ R) = s ∙ sym (append_assoc A (32 ∷ (B ++ (32 ∷ C))) (10 ∷ R) ∙ ap (λ (r : List ℕ). A ++ (32 ∷ r)) (append_assoc B (32 ∷ C) (10 ∷ R))) in
    let n : length W ≡ g - at = length-append A (32 ∷ (B ++ (32 ∷ C))) ∙ ap (λ (n : ℕ). length A + suc n) (length-append B (32 ∷ C)) ∙ omega arith in
    let t : take (g - at) (drop at bytes) ≡ W = ap (take (g - at)) w ∙ take_at W (10 ∷ R) (g - at) n in
    record {
      line = omega arith;
      inside = Z.inside;
      is = ap (λ (l : List ℕ). numbers_of (words l)) t ∙ ap numbers_of (three_words A B C (no_space X) (no_space Y) (no_space Z)) ∙ three_numbers A B C a b c (bits_number X) (bits_number Y) (bits_number Z);
    }
