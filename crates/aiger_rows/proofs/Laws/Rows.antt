-- Laws of a line's items. Assumes nothing.
use Prim.Native.Nat.{ℕ, ◌+◌, ◌-◌, ◌*◌, ◌<◌, ◌≤◌}
use mathlib.Core.Path.{◌≡◌, refl, sym, ◌∙◌}
use mathlib.Core.Logic.{◌⊎◌, inl, inr}
use mathlib.Core.Bool.{Bool, true, false, ◌&&◌, ◌||◌}
use mathlib.Core.List.{List, [], ◌∷◌}
use native.Mathlib.Omega.{arith}
use lib.Dec.{eqb, leb, ltb}
use lib.ListN.{length, get_or, take, drop, get_or-eq_default}
use borrow.Author.Tests.{eqb-true, ltb-true, ltb-false, leb-true, lt-leb, ne_eqb, lt-ltb, le-ltb}
use Rattle.rules.specs.Lists.{Found, nothing, found, same_list}
use Rattle.rules.specs.Listing.{text}
use Rattle.rules.specs.Graph.{inversion_of}
use Rattle.rules.proofs.Lists.Members.{split}
use Rattle.rules.proofs.Bools.{and_none}
use Rattle.aiger_form.specs.Text.{Numbers?, no_numbers, numbers_of, words, number}
use Rattle.aiger_rows.proofs.Laws.Cursor.{parts_until, parts_rest}
use Rattle.aiger_form.specs.Aag.{Header, symbol_count, symbol_item, symbol_word, symbol_number, Item, bad_text, skipped, input_line, latch_line, output_line, gate_line, or_bad, is_literal, is_variable, input_item, reset_right, latch_item, output_item, gate_item, numbers_item, line_item}
use Rattle.aiger_rows.specs.Cursor.{until, cap, capped, capped_found, numeral, Got}
use Rattle.aiger_rows.specs.Rows.{said, reset_in, In, item_at, stops_at}
use Rattle.std.specs.Prelude.{Some, None}
use Rattle.aiger_rows.specs.declared.header.Section.{Section}
use Rattle.aiger_rows.specs.declared.header.Section.TheVariants.{Inputs, Latches, Outputs, Gates, Symbols}

-- a number in range is exact, and one that is not stays out of range
data Exact (m l : ℕ) : Type 0 where
  same : capped l ≡ l → Exact m l
  past : cap ≤ l → is_literal m l ≡ false → is_literal m (capped l) ≡ false → Exact m l

module _ (m : ℕ) (h : m ≤ 2147483647) where
  exact : (l : ℕ) → Exact m l
  unfolding is_literal
  exact l = split (ltb l cap)
      (λ t. let q = ltb-true l cap t in same (omega arith))
      (λ t. let q = ltb-false l cap t in past q (lt-leb l (2 * m + 1) (omega arith)) (lt-leb (capped l) (2 * m + 1) (omega arith)))

  no_variable : (l : ℕ) → is_literal m l ≡ false → is_variable m l ≡ false
  unfolding is_variable
  no_variable l e = rw e (and_none (eqb (inversion_of l) 0 && ltb 0 l))

  variable_same : (l : ℕ) → is_variable m (capped l) ≡ is_variable m l
  variable_same l = elim (exact l) [
    | same e ↦ rw e
    | past k a b ↦ no_variable (capped l) b ∙ sym (no_variable l a)
  ]

  literal_same : (l : ℕ) → is_literal m (capped l) ≡ is_literal m l
  literal_same l = elim (exact l) [ same e ↦ rw e | past k a b ↦ b ∙ sym a ]

  -- what is kept only where a test holds is the same for two values that are equal then
  or_bad_same : (t : Bool) (x y : Item) → (t ≡ true → x ≡ y) → or_bad t x ≡ or_bad t y
  unfolding or_bad
  or_bad_same true x y e = e refl
  or_bad_same false x y e = refl

  and_parts : (a b : Bool) → a && b ≡ true → (a ≡ true) × (b ≡ true)
  and_parts true true e = (refl, refl)
  and_parts true false e = absurd (let z : ◌≡◌ {A = ℕ} 0 1 = cc in omega arith)
  and_parts false b e = absurd (let z : ◌≡◌ {A = ℕ} 0 1 = cc in omega arith)

  literal_exact : (l : ℕ) → is_literal m l ≡ true → capped l ≡ l
  unfolding is_literal
  literal_exact l e = omega (arith, leb-true l (2 * m + 1) e)

  variable_exact : (l : ℕ) → is_variable m l ≡ true → capped l ≡ l
  unfolding is_variable
  variable_exact l e = literal_exact l (and_parts (eqb (inversion_of l) 0 && ltb 0 l) (is_literal m l) e).1

  module _ {r : Numbers?} {count : ℕ} {values : List ℕ} (G : Got r count values) where
    -- an input's line, by its numbers
    pub input_is : numbers_item (input_item m) r ≡ or_bad (eqb count 1 && is_variable m (get_or values 0 0)) (input_line (get_or values 0 0))
    unfolding input_item numbers_item
    input_is =
        let a = get_or G.ns 0 0 in
        rw (G.is, numbers_item, ← G.counted, G.held 0 (omega arith), variable_same a)
        (or_bad_same (eqb count 1 && is_variable m a) (input_line a) (input_line (capped a)) (λ t. rw (variable_exact a (and_parts (eqb count 1) (is_variable m a) t).1)))

    -- an output's
    pub output_is : numbers_item (output_item m) r ≡ or_bad (eqb count 1 && is_literal m (get_or values 0 0)) (output_line (get_or values 0 0))
    unfolding output_item numbers_item
    output_is =
        let a = get_or G.ns 0 0 in
        rw (G.is, numbers_item, ← G.counted, G.held 0 (omega arith), literal_same a)
        (or_bad_same (eqb count 1 && is_literal m a) (output_line a) (output_line (capped a)) (λ t. rw (literal_exact a (and_parts (eqb count 1) (is_literal m a) t).1)))

    -- a gate's
    pub gate_is : numbers_item (gate_item m) r ≡ or_bad (eqb count 3 && is_variable m (get_or values 0 0) && is_literal m (get_or values 1 0) && is_literal m (get_or values 2 0)) (gate_line (get_or values 0 0) (get_or values 1 0) (get_or values 2 0))
    unfolding gate_item numbers_item
    gate_is =
        let a = get_or G.ns 0 0 in
        let b = get_or G.ns 1 0 in
        let c = get_or G.ns 2 0 in
        rw (G.is, numbers_item, ← G.counted, G.held 0 (omega arith), G.held 1 (omega arith), G.held 2 (omega arith), variable_same a, literal_same b, literal_same c)
        (or_bad_same (eqb count 3 && is_variable m a && is_literal m b && is_literal m c) (gate_line a b c) (gate_line (capped a) (capped b) (capped c)) (λ t.
        let w = and_parts (eqb count 3 && is_variable m a && is_literal m b) (is_literal m c) t in
        let u = and_parts (eqb count 3 && is_variable m a) (is_literal m b) w.0 in
        let s = and_parts (eqb count 3) (is_variable m a) u.0 in
        rw (variable_exact a s.1, literal_exact b u.1, literal_exact c w.1)))

  -- where a latch's variable is in range, so is its reset
  variable_below : (l : ℕ) → is_variable m l ≡ true → l < 4294967296
  unfolding is_variable is_literal
  variable_below l e = omega (arith, leb-true l (2 * m + 1) (and_parts (eqb (inversion_of l) 0 && ltb 0 l) (is_literal m l) e).1)

  bit_same : (a c : ℕ) → a < cap → leb (capped c) 1 || eqb (capped c) a ≡ leb c 1 || eqb c a
  bit_same a c h' = split (ltb c cap)
      (λ t. let q = ltb-true c cap t in let e : capped c ≡ c = omega arith in rw e)
      (λ t. let q = ltb-false c cap t in rw (lt-leb (capped c) 1 (omega arith), lt-leb c 1 (omega arith), ne_eqb (capped c) a (λ z. omega arith), ne_eqb c a (λ z. omega arith)))

  reset_same : (ns : List ℕ) → is_variable m (get_or ns 0 0) ≡ true → reset_in (length ns) (capped (get_or ns 0 0)) (capped (get_or ns 2 0)) ≡ reset_right ns
  unfolding reset_in reset_right
  reset_same ns v =
      let a = get_or ns 0 0 in
      let c = get_or ns 2 0 in
      rw (variable_exact a v, bit_same a c (let h = variable_below a v in omega arith))

  test_same : (ns : List ℕ) → (reset_in (length ns) (capped (get_or ns 0 0)) (capped (get_or ns 2 0)) && is_variable m (capped (get_or ns 0 0)) && is_literal m (capped (get_or ns 1 0))) ≡ (reset_right ns && is_variable m (get_or ns 0 0) && is_literal m (get_or ns 1 0))
  test_same ns =
      let a = get_or ns 0 0 in
      rw (variable_same a, literal_same (get_or ns 1 0)) (split (is_variable m a)
      (λ t. rw (reset_same ns t))
      (λ t. rw (t, and_none (reset_in (length ns) (capped a) (capped (get_or ns 2 0))), and_none (reset_right ns))))

  or_parts : (a b : Bool) → a || b ≡ true → (a ≡ true) ⊎ (b ≡ true)
  or_parts true b e = inl refl
  or_parts false b e = inr e

  reset_exact : (ns : List ℕ) → is_variable m (get_or ns 0 0) ≡ true → reset_right ns ≡ true → capped (get_or ns 2 0) ≡ get_or ns 2 0
  unfolding reset_right
  reset_exact ns l e =
      let a = get_or ns 0 0 in
      let c = get_or ns 2 0 in
      let h = variable_below a l in
      elim (or_parts (eqb (length ns) 2) (eqb (length ns) 3 && (leb c 1 || eqb c a)) e) [
        | inl two ↦ let p : length ns ≤ 2 = omega (arith, eqb-true (length ns) 2 two) in let z : c ≡ 0 = get_or-eq_default ns 0 p in omega arith
        | inr rest ↦ elim (or_parts (leb c 1) (eqb c a) (and_parts (eqb (length ns) 3) (leb c 1 || eqb c a) rest).1) [
          | inl bit ↦ omega (arith, leb-true c 1 bit)
          | inr own ↦ omega (arith, eqb-true c a own)
        ]
      ]

  module _ {r : Numbers?} {count : ℕ} {values : List ℕ} (G : Got r count values) where
    -- a latch's line
    pub latch_is : numbers_item (latch_item m) r ≡ or_bad (reset_in count (get_or values 0 0) (get_or values 2 0) && is_variable m (get_or values 0 0) && is_literal m (get_or values 1 0)) (latch_line (get_or values 0 0) (get_or values 1 0) (get_or values 2 0))
    unfolding latch_item numbers_item
    latch_is =
        let ns = G.ns in
        let a = get_or ns 0 0 in
        let b = get_or ns 1 0 in
        rw (G.is, numbers_item, G.counted, G.held 0 (omega arith), G.held 1 (omega arith), G.held 2 (omega arith), test_same ns)
        (or_bad_same (reset_right ns && is_variable m a && is_literal m b) (latch_line a b (get_or ns 2 0)) (latch_line (capped a) (capped b) (capped (get_or ns 2 0))) (λ t.
        let w = and_parts (reset_right ns && is_variable m a) (is_literal m b) t in
        let u = and_parts (reset_right ns) (is_variable m a) w.0 in
        rw (variable_exact a u.1, literal_exact b w.1, reset_exact ns u.1 u.0)))

    -- its reset is small
    pub reset_fits : reset_in count (get_or values 0 0) (get_or values 2 0) ≡ true → is_variable m (get_or values 0 0) ≡ true → get_or values 2 0 < 4294967296
    unfolding reset_in
    reset_fits e v =
        let a = get_or values 0 0 in
        let c = get_or values 2 0 in
        let h = variable_below a v in
        elim (or_parts (eqb count 2) (eqb count 3 && (leb c 1 || eqb c a)) e) [
          | inl two ↦ let p : length G.ns ≤ 2 = omega (arith, eqb-true count 2 two, G.counted) in let z : get_or G.ns 2 0 ≡ 0 = get_or-eq_default G.ns 0 p in omega (arith, G.held 2 (omega arith))
          | inr rest ↦ elim (or_parts (leb c 1) (eqb c a) (and_parts (eqb count 3) (leb c 1 || eqb c a) rest).1) [
            | inl bit ↦ omega (arith, leb-true c 1 bit)
            | inr own ↦ omega (arith, eqb-true c a own)
          ]
        ]

-- a line that is no numbers is bad
pub no_line : (f : List ℕ → Item) (line : List ℕ) → numbers_of (words line) ≡ no_numbers → said None ≡ line_item f line
unfolding line_item numbers_item said
no_line f line e = rw e

-- ---- symbols

-- an empty line is no symbol
pub symbol_none : (h : Header) (line : List ℕ) → length line ≡ 0 → symbol_item h line ≡ bad_text
unfolding symbol_item
symbol_none h [] e = refl
symbol_none h (c ∷ cs) e = absurd (omega arith)

-- nor is one without a space
pub symbol_cut : (h : Header) (line : List ℕ) (e : ℕ) → e ≡ 1 + until 32 (drop 1 line) → length line ≤ e → symbol_item h line ≡ bad_text
unfolding symbol_item symbol_word
symbol_cut h [] e d k = refl
symbol_cut h (c ∷ cs) e d k = rw (parts_rest 32 cs (omega arith))

below_capped : (k n : ℕ) → n ≤ cap → ltb (capped k) n ≡ ltb k n
below_capped k n h = split (ltb k n) (λ t. let q = ltb-true k n t in lt-ltb (capped k) n (omega arith) ∙ sym t) (λ t. let q = ltb-false k n t in le-ltb (capped k) n (omega arith) ∙ sym t)

symbol_number_lem : (n v : ℕ) (r : Found) → n ≤ cap → numeral (Some v) ≡ capped_found r → or_bad (ltb v n) skipped ≡ symbol_number n r
unfolding symbol_number numeral capped_found
symbol_number_lem n v nothing h e = absurd (cc)
symbol_number_lem n v (found k) h e = let q : v ≡ capped k = cc in rw (q, below_capped k n h)

symbol_number_none : (n : ℕ) (r : Found) → numeral None ≡ capped_found r → bad_text ≡ symbol_number n r
unfolding symbol_number numeral capped_found
symbol_number_none n nothing e = refl
symbol_number_none n (found k) e = absurd (cc)

module _ (h : Header) (line : List ℕ) (e : ℕ) (z : length line ≡ 0 → ⊥) (d : e ≡ 1 + until 32 (drop 1 line)) (l : e < length line) where
  -- a symbol
  pub symbol_is : (v n : ℕ) → n ≡ symbol_count h (get_or line 0 0) → n ≤ cap → numeral (Some v) ≡ capped_found (number (take (e - 1) (drop 1 line))) → or_bad (ltb v n) skipped ≡ symbol_item h line
  unfolding symbol_item symbol_word
  symbol_is v n c k r = at line z d l c r
    where
      at : (line : List ℕ) → (length line ≡ 0 → ⊥) → e ≡ 1 + until 32 (drop 1 line) → e < length line → n ≡ symbol_count h (get_or line 0 0) → numeral (Some v) ≡ capped_found (number (take (e - 1) (drop 1 line))) → or_bad (ltb v n) skipped ≡ symbol_item h line
      at [] z d l c r = absurd (z refl)
      at (x ∷ xs) z d l c r = let q : e - 1 ≡ until 32 xs = omega arith in rw (parts_until 32 xs (omega arith), ← c, ← q) (symbol_number_lem n v _ k r)

  -- no number is none
  pub symbol_word_none : numeral None ≡ capped_found (number (take (e - 1) (drop 1 line))) → bad_text ≡ symbol_item h line
  unfolding symbol_item symbol_word
  symbol_word_none r = at line z d l r
    where
      at : (line : List ℕ) → (length line ≡ 0 → ⊥) → e ≡ 1 + until 32 (drop 1 line) → e < length line → numeral None ≡ capped_found (number (take (e - 1) (drop 1 line))) → bad_text ≡ symbol_item h line
      at [] z d l r = absurd (z refl)
      at (x ∷ xs) z d l r = let q : e - 1 ≡ until 32 xs = omega arith in rw (parts_until 32 xs (omega arith), ← q) (symbol_number_none _ _ r)

-- a longer line is no comment
pub comment_long : (line : List ℕ) → (length line ≡ 1 → ⊥) → false ≡ same_list line (text "c")
unfolding same_list text
comment_long [] n = refl
comment_long (x ∷ []) n = absurd (n refl)
comment_long (x ∷ y ∷ xs) n = split (eqb x 99) (λ t. rw (t, same_list)) (λ t. rw (t, same_list))

-- a comment
pub comment_is : (line : List ℕ) → length line ≡ 1 → eqb (get_or line 0 0) 99 ≡ same_list line (text "c")
unfolding same_list text
comment_is [] n = absurd (omega arith)
comment_is (x ∷ []) n = split (eqb x 99) (λ t. rw (t, same_list)) (λ t. rw (t, same_list))
comment_is (x ∷ y ∷ xs) n = absurd (omega arith)

-- ---- the line at a place

module _ (h : Header) (i : ℕ) (line : List ℕ) where
  -- the line of an input
  pub at_input : i < h.inputs → (line_item (input_item h.variables) line ≡ item_at h i line) × (false ≡ stops_at h i line)
  unfolding item_at stops_at
  at_input a = let t = lt-ltb i h.inputs a in (rw (t, item_at), rw (t, stops_at))

  -- of a latch
  pub at_latch : h.inputs ≤ i → i - h.inputs < h.latches → (line_item (latch_item h.variables) line ≡ item_at h i line) × (false ≡ stops_at h i line)
  unfolding item_at stops_at
  at_latch a b = let t = le-ltb i h.inputs a in let u = lt-ltb (i - h.inputs) h.latches b in (rw (t, item_at, u), rw (t, stops_at, u))

  -- of an output
  pub at_output : h.inputs ≤ i → h.latches ≤ i - h.inputs → i - h.inputs - h.latches < h.outputs → (line_item (output_item h.variables) line ≡ item_at h i line) × (false ≡ stops_at h i line)
  unfolding item_at stops_at
  at_output a b c =
      let t = le-ltb i h.inputs a in
      let u = le-ltb (i - h.inputs) h.latches b in
      let v = lt-ltb (i - h.inputs - h.latches) h.outputs c in
      (rw (t, item_at, u, v), rw (t, stops_at, u, v))

  -- of a gate
  pub at_gate : h.inputs ≤ i → h.latches ≤ i - h.inputs → h.outputs ≤ i - h.inputs - h.latches → i - h.inputs - h.latches - h.outputs < h.gates → (line_item (gate_item h.variables) line ≡ item_at h i line) × (false ≡ stops_at h i line)
  unfolding item_at stops_at
  at_gate a b c d =
      let t = le-ltb i h.inputs a in
      let u = le-ltb (i - h.inputs) h.latches b in
      let v = le-ltb (i - h.inputs - h.latches) h.outputs c in
      let w = lt-ltb (i - h.inputs - h.latches - h.outputs) h.gates d in
      (rw (t, item_at, u, v, w), rw (t, stops_at, u, v, w))

  -- of a symbol
  pub at_symbol : h.inputs ≤ i → h.latches ≤ i - h.inputs → h.outputs ≤ i - h.inputs - h.latches → h.gates ≤ i - h.inputs - h.latches - h.outputs → (symbol_item h line ≡ item_at h i line) × (same_list line (text "c") ≡ stops_at h i line)
  unfolding item_at stops_at
  at_symbol a b c d =
      let t = le-ltb i h.inputs a in
      let u = le-ltb (i - h.inputs) h.latches b in
      let v = le-ltb (i - h.inputs - h.latches) h.outputs c in
      let w = le-ltb (i - h.inputs - h.latches - h.outputs) h.gates d in
      (rw (t, item_at, u, v, w), rw (t, stops_at, u, v, w))

  -- only a symbol's line can stop
  pub no_stop : (s : Section) → In h i s → (s ≡ Symbols → ⊥) → false ≡ stops_at h i line
  no_stop Inputs a n = (at_input a).1
  no_stop Latches (a, b) n = (at_latch a b).1
  no_stop Outputs (a, b, c) n = (at_output a b c).1
  no_stop Gates (a, b, c, d) n = (at_gate a b c d).1
  no_stop Symbols a n = absurd (n refl)
