-- Records and leaves, line by line: laws. Assumes nothing.
use Prim.Native.Nat.{ℕ, suc, ◌+◌, ◌-◌, ◌≤◌}
use mathlib.Core.Path.{◌≡◌, refl, sym, ap, ◌∙◌}
use mathlib.Core.Bool.{Bool, true, false}
use mathlib.Core.List.{List, [], ◌∷◌, ◌++◌}
use native.Mathlib.Omega.{arith}
use lib.Dec.{ltb}
use lib.ListN.{length, length-append}
use lib.Seq.{sets, length-sets}
use borrow.Author.Tests.{lt-ltb, le-ltb, ltb-false}
use Rattle.rules.specs.Lists.{Found, nothing, found}
use Rattle.rules.proofs.Lists.Members.{split}
use Rattle.rules.proofs.Lists.Parts.{sets_append}
use Rattle.aiger_form.specs.Text.{Line, Numbers?, no_numbers, numbers, number, words, numbers_of, parts, space}
use Rattle.aiger_form.specs.Aag.{Header, Item, skipped, items, gather_items, or_bad, gate_item, numbers_item, line_item, symbol_count, symbol_number, symbol_word, symbol_item, record_of, records_of, latch_of, latches_of}
use Rattle.graph.specs.declared.Literal.{Literal}
use Rattle.aiger_rows.specs.declared.rows.Row.{Row}
use Rattle.aiger_rows.specs.declared.rows.Row.TheVariants.{Symbol, Input, Latch, Output, Gate}
use Rattle.aiger_rows.specs.declared.header.Section.{Section}
use Rattle.aiger_rows.specs.declared.header.Section.TheVariants.{Inputs, Latches, Outputs, Gates, Symbols}
use Rattle.aiger_rows.specs.Rows.{row_item, In, item_at, stops_at}
use Rattle.aiger_text.specs.Passes.{spots_at, lines_from}
use Rattle.aiger_text.specs.Lines.{NextLine}
use Rattle.aiger_read.specs.Ends.{FillReady, Filled}

-- ---- behind the outputs there are none

-- an item without a record and a leaf
pub record Bare (x : Item) : Type 0 where
  pub record' : record_of x ≡ []
  pub latch : latch_of x ≡ []

-- so where it is kept or bad
pub or_bad_bare : (b : Bool) (x : Item) → Bare x → Bare (or_bad b x)
unfolding or_bad record_of latch_of
or_bad_bare true x e = e
or_bad_bare false x e = record { record' = refl; latch = refl }

-- so a line
pub line_bare : (f : List ℕ → Item) → ((ns : List ℕ) → Bare (f ns)) → (line : List ℕ) → Bare (line_item f line)
unfolding line_item numbers_item record_of latch_of
line_bare f h line = at (numbers_of (words line))
  where
    at : (r : Numbers?) → Bare (numbers_item f r)
    at no_numbers = record { record' = refl; latch = refl }
    at (numbers ns) = h ns

-- so a symbol
pub symbol_bare : (h : Header) (line : List ℕ) → Bare (symbol_item h line)
unfolding symbol_item symbol_number symbol_word record_of latch_of
symbol_bare h [] = record { record' = refl; latch = refl }
symbol_bare h (c ∷ cs) = word (parts space cs)
  where
    at : (n : ℕ) (r : Found) → Bare (symbol_number n r)
    at n nothing = record { record' = refl; latch = refl }
    at n (found k) = or_bad_bare (ltb k n) skipped (record { record' = refl; latch = refl })

    word : (ws : List (List ℕ)) → Bare (symbol_word (symbol_count h c) ws)
    word [] = record { record' = refl; latch = refl }
    word (w ∷ ws) = at (symbol_count h c) (number w)

behind_outputs : (h : Header) (i : ℕ) (line : List ℕ) → h.inputs + h.latches + h.outputs ≤ i → Bare (item_at h i line)
unfolding item_at gate_item record_of latch_of
behind_outputs h i line e =
    let t = le-ltb i h.inputs (omega arith) in
    let u = le-ltb (i - h.inputs) h.latches (omega arith) in
    let v = le-ltb (i - h.inputs - h.latches) h.outputs (omega arith) in
    split (ltb (i - h.inputs - h.latches - h.outputs) h.gates)
    (λ w. rw (t, item_at, u, v, w) (line_bare (gate_item h.variables) (λ ns. or_bad_bare _ _ (record { record' = refl; latch = refl })) line))
    (λ w. rw (t, item_at, u, v, w) (symbol_bare h line))

none_left : (h : Header) (i : ℕ) (ls : List Line) → h.inputs + h.latches + h.outputs ≤ i → (records_of (items (spots_at h i ls)) ≡ []) × (latches_of (items (spots_at h i ls)) ≡ [])
unfolding spots_at items records_of latches_of gather_items
none_left h i [] e = (refl, refl)
none_left h i (l ∷ ls) e = split (stops_at h i l.text)
    (λ t. rw (t, spots_at) (refl, refl))
    (λ t. let B = behind_outputs h i l.text e in let I = none_left h (suc i) ls (omega arith) in rw (t, spots_at, B.record', B.latch) I)

-- a line before the gates
pub ends_inside : (h : Header) (i : ℕ) (s : Section) → In h i s → (s ≡ Gates → ⊥) → (s ≡ Symbols → ⊥) → true ≡ ltb i (h.inputs + h.latches + h.outputs)
ends_inside h i Inputs a n m = sym (lt-ltb i (h.inputs + h.latches + h.outputs) (omega arith))
ends_inside h i Latches a n m = sym (lt-ltb i (h.inputs + h.latches + h.outputs) (omega arith))
ends_inside h i Outputs a n m = sym (lt-ltb i (h.inputs + h.latches + h.outputs) (omega arith))
ends_inside h i Gates a n m = absurd (n refl)
ends_inside h i Symbols a n m = absurd (m refl)

-- and one behind
pub ends_behind : (h : Header) (i : ℕ) → h.inputs + h.latches + h.outputs ≤ i → false ≡ ltb i (h.inputs + h.latches + h.outputs)
ends_behind h i b = sym (le-ltb i (h.inputs + h.latches + h.outputs) b)

-- ---- line by line

-- what holds before the i-th line, at a place, with r numbers of records and l leaves stored
pub record Filling (H : Header) (start : ℕ) (bytes records₀ records latches₀ latches : List ℕ) (at i r l : ℕ) : Type 0 where
  pub records_here : sets records r (records_of (items (spots_at H i (lines_from bytes at)))) ≡ sets records₀ 0 (records_of (items (spots_at H 0 (lines_from bytes start))))
  pub latches_here : sets latches l (latches_of (items (spots_at H i (lines_from bytes at)))) ≡ sets latches₀ 0 (latches_of (items (spots_at H 0 (lines_from bytes start))))
  pub records_fit : r + length (records_of (items (spots_at H i (lines_from bytes at)))) ≤ length records₀
  pub latches_fit : l + length (latches_of (items (spots_at H i (lines_from bytes at)))) ≤ length latches₀
  pub records_size : length records ≡ length records₀
  pub latches_size : length latches ≡ length latches₀
  pub inside : at ≤ length bytes
  pub few : i ≤ at

-- before the first line
pub filling_start : {H : Header} {start : ℕ} {bytes records latches : List ℕ} → FillReady H start bytes records latches → Filling H start bytes records records latches latches start 0 0 0
filling_start R = record { records_here = refl; latches_here = refl; records_fit = omega (arith, R.records_fit); latches_fit = omega (arith, R.latches_fit); records_size = refl; latches_size = refl; inside = R.behind.inside; few = omega arith }

module _ {H : Header} {start : ℕ} {bytes records₀ records latches₀ latches : List ℕ} {at i r l : ℕ} (S : Filling H start bytes records₀ records latches₀ latches at i r l) where
  filling_none : records_of (items (spots_at H i (lines_from bytes at))) ≡ [] → latches_of (items (spots_at H i (lines_from bytes at))) ≡ [] → Filled H start bytes records₀ latches₀ records latches
  filling_none a b = record { records_hold = rw a at S.records_here; latches_hold = rw b at S.latches_here }

  -- no line is left
  pub filling_over : spots_at H i (lines_from bytes at) ≡ [] → Filled H start bytes records₀ latches₀ records latches
  unfolding items records_of latches_of gather_items
  filling_over z = filling_none (rw z) (rw z)

  -- only gates and symbols are
  pub filling_behind : ltb i (H.inputs + H.latches + H.outputs) ≡ false → Filled H start bytes records₀ latches₀ records latches
  filling_behind p =
      let n = none_left H i (lines_from bytes at) (ltb-false i (H.inputs + H.latches + H.outputs) p) in
      filling_none n.0 n.1

  module _ {x : Item} {e : ℕ} (L : NextLine H i at bytes x e) where
    rest : List Item
    rest = items (spots_at H (i + 1) (lines_from bytes (e + 1)))

    records_are : records_of (items (spots_at H i (lines_from bytes at))) ≡ record_of x ++ records_of rest
    unfolding items records_of gather_items rest
    records_are = rw L.spots

    latches_are : latches_of (items (spots_at H i (lines_from bytes at))) ≡ latch_of x ++ latches_of rest
    unfolding items latches_of gather_items rest
    latches_are = rw L.spots

    records_long : length (records_of (items (spots_at H i (lines_from bytes at)))) ≡ length (record_of x) + length (records_of rest)
    records_long = ap length records_are ∙ length-append (record_of x) (records_of rest)

    latches_long : length (latches_of (items (spots_at H i (lines_from bytes at)))) ≡ length (latch_of x) + length (latches_of rest)
    latches_long = ap length latches_are ∙ length-append (latch_of x) (latches_of rest)

    -- there is room for the line's record and leaf
    pub record_room : r + length (record_of x) ≤ length records
    record_room = omega (arith, S.records_fit, S.records_size, records_long)

    -- and for its leaf
    pub latch_room : l + length (latch_of x) ≤ length latches
    latch_room = omega (arith, S.latches_fit, S.latches_size, latches_long)

    -- one line more
    pub filling_more : {records' latches' : List ℕ} {r' l' : ℕ} → r' ≡ r + length (record_of x) → records' ≡ sets records r (record_of x) → l' ≡ l + length (latch_of x) → latches' ≡ sets latches l (latch_of x) → Filling H start bytes records₀ records' latches₀ latches' (e + 1) (i + 1) r' l'
    unfolding rest
    filling_more er gr el gl = record {
      records_here = rw (gr, er) (sets_append records r (record_of x) (records_of rest) ∙ ap (sets records r) (sym records_are) ∙ S.records_here);
      latches_here = rw (gl, el) (sets_append latches l (latch_of x) (latches_of rest) ∙ ap (sets latches l) (sym latches_are) ∙ S.latches_here);
      records_fit = omega (arith, S.records_fit, records_long);
      latches_fit = omega (arith, S.latches_fit, latches_long);
      records_size = ap length gr ∙ length-sets records r (record_of x) ∙ S.records_size;
      latches_size = ap length gl ∙ length-sets latches l (latch_of x) ∙ S.latches_size;
      inside = omega (arith, L.inside);
      few = omega (arith, S.few, L.from);
    }

-- ---- single stores

-- other lines than a latch's and an output's have no record
pub record_other : (x : Row) → ((l n : Literal) (r : ℕ) → x ≡ Latch l n r → ⊥) → ((l : Literal) → x ≡ Output l → ⊥) → record_of (row_item x) ≡ []
unfolding row_item record_of
record_other Symbol n m = refl
record_other (Input l) n m = refl
record_other (Latch l k r) n m = absurd (n l k r refl)
record_other (Output l) n m = absurd (m l refl)
record_other (Gate l a b) n m = refl

-- nor one other than a latch's a leaf
pub latch_other : (x : Row) → ((l n : Literal) (r : ℕ) → x ≡ Latch l n r → ⊥) → latch_of (row_item x) ≡ []
unfolding row_item latch_of
latch_other Symbol n = refl
latch_other (Input l) n = refl
latch_other (Latch l k r) n = absurd (n l k r refl)
latch_other (Output l) n = refl
latch_other (Gate l a b) n = refl
