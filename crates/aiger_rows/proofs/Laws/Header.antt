-- Laws of the header's line. Assumes nothing.
use Prim.Native.Nat.{ℕ, suc, ◌+◌, ◌-◌, ◌≤◌, ◌<◌}
use mathlib.Core.Path.{◌≡◌, refl, sym, ap, ◌∙◌}
use mathlib.Core.Bool.{true, false, ◌&&◌}
use mathlib.Core.List.{List, [], ◌∷◌, ◌++◌}
use native.Mathlib.Omega.{arith}
use lib.Dec.{eqb, leb, ltb}
use lib.ListN.{length, get_or, take, drop}
use lib.Pointwise.{pointwise, bytes_decides}
use Rattle.std.proofs.lemmas.List.{take-append-drop}
use lib.Seq.{length-take-le, take-suc}
use borrow.Author.Tests.{eq-eqb, eqb-true, ltb-true, ltb-false, leb-true, leb-false, le-leb, lt-leb}
use Rattle.rules.proofs.Bools.{and_none}
use Rattle.rules.specs.Lists.{same_list}
use Rattle.rules.specs.Listing.{text}
use Rattle.rules.proofs.Lists.Members.{split, and_true, true_false}
use Rattle.aiger_form.specs.Text.{grow, parts, words, Numbers?, no_numbers, numbers_of}
use Rattle.aiger_form.specs.Aag.{no_header, header_right, most_variables, header_from, after_magic, header_of}
use Rattle.aiger_rows.specs.Cursor.{until, capped, Got}
use Rattle.std.specs.Prelude.{Some, None}
use Rattle.aiger_rows.specs.declared.head.Head.{Head}
use Rattle.aiger_rows.specs.Rows.{HeadIs, no, yes}
use Rattle.aiger_rows.proofs.Laws.Cursor.{words_step, words_from, words_end}

-- ---- the first word

abbrev aag : List ℕ
aag = 97 ∷ 97 ∷ 103 ∷ []

same_list_is : (xs ys : List ℕ) → same_list xs ys ≡ true → xs ≡ ys
unfolding same_list
same_list_is [] [] e = refl
same_list_is [] (y ∷ ys) e = absurd (cc)
same_list_is (x ∷ xs) [] e = absurd (cc)
same_list_is (x ∷ xs) (y ∷ ys) e = split (eqb x y)
    (λ t. let k = eqb-true x y t in let r = same_list_is xs ys (rw (t, same_list) at e) in (cc))
    (λ t. true_false e (rw (t, same_list)))

-- the byte that ends a word
until_byte : (e : ℕ) (xs : List ℕ) → until e xs < length xs → get_or xs (until e xs) 0 ≡ e
unfolding until
until_byte e [] h = absurd (omega arith)
until_byte e (x ∷ xs) h = split (eqb x e) (λ t. rw (t, until) (eqb-true x e t)) (λ t. rw (t, until) (until_byte e xs (let q : suc (until e xs) < suc (length xs) = rw (t, until) at h in omega arith)))

first_word : (line : List ℕ) → (until 32 line ≤ length line) × (words line ≡ take (until 32 line) line ∷ words_from line (until 32 line + 1))
unfolding words
first_word line = let w = words_step line 0 (until 32 line) (omega arith) (omega arith) in let z : until 32 line - 0 ≡ until 32 line = omega arith in (w.0, rw z at w.1)

-- the first word is another, or no word is behind it
pub magic_not : (line : List ℕ) → pointwise eqb (take 4 line) (97 ∷ 97 ∷ 103 ∷ 32 ∷ []) ≡ false → header_of line ≡ no_header
unfolding header_of after_magic header_from numbers_of text
magic_not line n =
    let e = until 32 line in
    let w = first_word line in
    split (same_list (take e line) aag)
    (λ t.
    let k : take e line ≡ aag = same_list_is (take e line) aag t in
    let l : e ≡ 3 = sym (length-take-le e line w.0) ∙ ap length k in
    split (ltb e (length line))
    (λ u.
    let h : e < length line = ltb-true e (length line) u in
    let b : get_or line 3 0 ≡ 32 = rw l at (until_byte 32 line h) in
    let a : take 3 line ≡ aag = rw l at k in
    true_false ((bytes_decides (take 4 line) (97 ∷ 97 ∷ 103 ∷ 32 ∷ [])).1 (take-suc line 3 0 (omega arith) ∙ rw (a, b))) n)
    (λ u.
    let h : length line ≤ e = ltb-false e (length line) u in
    rw (w.1, t, after_magic, words_end line e (omega (arith, w.0)))))
    (λ t. rw (w.1, t, after_magic))

-- `aag` and a word behind it
pub magic_is : (line rest : List ℕ) → pointwise eqb (take 4 line) (97 ∷ 97 ∷ 103 ∷ 32 ∷ []) ≡ true → rest ≡ drop 4 line → header_of line ≡ header_from (numbers_of (words rest))
unfolding header_of after_magic words parts grow same_list text
magic_is line rest t e =
    let h = (bytes_decides (take 4 line) (97 ∷ 97 ∷ 103 ∷ 32 ∷ [])).0 t in
    rw e (ap (λ (l : List ℕ). after_magic (words l)) (sym (take-append-drop 4 line) ∙ ap (λ (l : List ℕ). l ++ drop 4 line) h))

-- ---- its numbers

test_same : (M I L A : ℕ) → leb (capped I + capped L + capped A) (capped M) && leb (capped M) most_variables ≡ leb (I + L + A) M && leb M most_variables
test_same M I L A = split (leb M most_variables)
    (λ t.
    let h = leb-true M most_variables t in
    let e : capped M ≡ M = omega arith in
    rw (e, t) (split (leb (I + L + A) M)
    (λ u. rw (u, le-leb (capped I + capped L + capped A) M (omega (arith, leb-true (I + L + A) M u))))
    (λ u. rw (u, lt-leb (capped I + capped L + capped A) M (omega (arith, leb-false (I + L + A) M u))))))
    (λ t.
    let h = leb-false M most_variables t in
    rw (t, lt-leb (capped M) most_variables (omega arith)) (and_none (leb (capped I + capped L + capped A) (capped M)) ∙ sym (and_none (leb (I + L + A) M))))

-- no numbers
pub header_words : {r : Numbers?} → r ≡ no_numbers → HeadIs (header_from r) None
unfolding header_from
header_words e = rw e no

module _ {r : Numbers?} {count : ℕ} {values : List ℕ} (G : Got r count values) where
  fits_is : leb (get_or values 1 0 + get_or values 2 0 + get_or values 4 0) (get_or values 0 0) && leb (get_or values 0 0) most_variables ≡ leb (get_or G.ns 1 0 + get_or G.ns 2 0 + get_or G.ns 4 0) (get_or G.ns 0 0) && leb (get_or G.ns 0 0) most_variables
  fits_is = rw (G.held 0 (omega arith), G.held 1 (omega arith), G.held 2 (omega arith), G.held 4 (omega arith)) (test_same (get_or G.ns 0 0) (get_or G.ns 1 0) (get_or G.ns 2 0) (get_or G.ns 4 0))

  -- not five, or too many lines
  pub header_not : eqb count 5 && (leb (get_or values 1 0 + get_or values 2 0 + get_or values 4 0) (get_or values 0 0) && leb (get_or values 0 0) most_variables) ≡ false → HeadIs (header_from r) None
  unfolding header_from header_right
  header_not t = rw (G.is, header_from, ← G.counted, ← fits_is, t) no

  -- a header
  pub header_is : count ≡ 5 → leb (get_or values 1 0 + get_or values 2 0 + get_or values 4 0) (get_or values 0 0) && leb (get_or values 0 0) most_variables ≡ true → (h : Head) → h.variables ≡ get_or values 0 0 → h.inputs ≡ get_or values 1 0 → h.latches ≡ get_or values 2 0 → h.outputs ≡ get_or values 3 0 → h.gates ≡ get_or values 4 0 → HeadIs (header_from r) (Some h)
  unfolding header_from header_right
  header_is five t h a b c d e =
      let ns = G.ns in
      let u = sym fits_is ∙ t in
      let w = and_true (leb (get_or ns 1 0 + get_or ns 2 0 + get_or ns 4 0) (get_or ns 0 0)) (leb (get_or ns 0 0) most_variables) u in
      let p = leb-true (get_or ns 1 0 + get_or ns 2 0 + get_or ns 4 0) (get_or ns 0 0) w.0 in
      let k = leb-true (get_or ns 0 0) most_variables w.1 in
      let v0 = G.held 0 (omega arith) in
      let v1 = G.held 1 (omega arith) in
      let v2 = G.held 2 (omega arith) in
      let v4 = G.held 4 (omega arith) in
      rw (G.is, header_from, ← G.counted, eq-eqb count 5 five, u)
      (yes (record { variables = get_or ns 0 0; inputs = get_or ns 1 0; latches = get_or ns 2 0; outputs = get_or ns 3 0; gates = get_or ns 4 0 }) h (omega arith) (omega arith) (omega arith) (d ∙ G.held 3 (omega arith)) (omega arith))
