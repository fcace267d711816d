-- The first latch with a reset value: laws. Assumes nothing.
use Prim.Native.Nat.{ℕ, suc, ◌+◌, ◌-◌, ◌≤◌, ◌<◌}
use mathlib.Core.Path.{◌≡◌, refl, sym, ◌∙◌}
use mathlib.Core.Bool.{Bool, true, false, not}
use mathlib.Core.List.{List, [], ◌∷◌}
use native.Mathlib.Omega.{arith}
use lib.Dec.{eqb, ltb}
use lib.ListN.{length}
use borrow.Author.Tests.{lt-ltb, le-ltb, ltb-false, not-true, not-false}
use Rattle.rules.specs.Lists.{Found, nothing, found}
use Rattle.rules.proofs.Lists.Members.{split}
use Rattle.aiger_form.specs.Text.{Line, Numbers?, no_numbers, numbers, number, words, numbers_of, parts, space}
use Rattle.aiger_form.specs.Aag.{Header, Item, skipped, or_bad, output_item, gate_item, numbers_item, line_item, symbol_count, symbol_number, symbol_word, symbol_item, reset_of, first_reset}
use Rattle.std.specs.Prelude.{Some, None}
use Rattle.aiger_rows.specs.Rows.{In, row_item, item_at, stops_at}
use Rattle.graph.specs.declared.Literal.{Literal}
use Rattle.aiger_rows.specs.declared.rows.Row.{Row}
use Rattle.aiger_rows.specs.declared.rows.Row.TheVariants.{Symbol, Input, Latch, Output, Gate}
use Rattle.aiger_rows.specs.declared.header.Section.{Section}
use Rattle.aiger_rows.specs.declared.header.Section.TheVariants.{Inputs, Latches, Outputs, Gates, Symbols}
use Rattle.aiger_text.specs.Passes.{spots_at, lines_from, Behind}
use Rattle.aiger_text.specs.Lines.{NextLine}
use Rattle.aiger_text.specs.File.{Resets}

-- ---- behind the latches there is none

or_bad_reset : (b : Bool) (x : Item) → reset_of x ≡ 0 → reset_of (or_bad b x) ≡ 0
unfolding or_bad reset_of
or_bad_reset true x e = e
or_bad_reset false x e = refl

line_reset : (f : List ℕ → Item) → ((ns : List ℕ) → reset_of (f ns) ≡ 0) → (line : List ℕ) → reset_of (line_item f line) ≡ 0
unfolding line_item numbers_item reset_of
line_reset f h line = at (numbers_of (words line))
  where
    at : (r : Numbers?) → reset_of (numbers_item f r) ≡ 0
    at no_numbers = refl
    at (numbers ns) = h ns

symbol_reset : (h : Header) (line : List ℕ) → reset_of (symbol_item h line) ≡ 0
unfolding symbol_item symbol_number symbol_word reset_of
symbol_reset h [] = refl
symbol_reset h (c ∷ cs) = word (parts space cs)
  where
    at : (n : ℕ) (r : Found) → reset_of (symbol_number n r) ≡ 0
    at n nothing = refl
    at n (found k) = or_bad_reset (ltb k n) skipped refl

    word : (ws : List (List ℕ)) → reset_of (symbol_word (symbol_count h c) ws) ≡ 0
    word [] = refl
    word (w ∷ ws) = at (symbol_count h c) (number w)

behind_latches : (h : Header) (i : ℕ) (line : List ℕ) → h.inputs + h.latches ≤ i → reset_of (item_at h i line) ≡ 0
unfolding item_at output_item gate_item reset_of
behind_latches h i line e =
    let t = le-ltb i h.inputs (omega arith) in
    let u = le-ltb (i - h.inputs) h.latches (omega arith) in
    split (ltb (i - h.inputs - h.latches) h.outputs)
    (λ v. rw (t, item_at, u, v) (line_reset (output_item h.variables) (λ ns. or_bad_reset _ _ refl) line))
    (λ v. split (ltb (i - h.inputs - h.latches - h.outputs) h.gates)
    (λ w. rw (t, item_at, u, v, w) (line_reset (gate_item h.variables) (λ ns. or_bad_reset _ _ refl) line))
    (λ w. rw (t, item_at, u, v, w) (symbol_reset h line)))

no_reset : (h : Header) (i : ℕ) (ls : List Line) → h.inputs + h.latches ≤ i → first_reset (spots_at h i ls) ≡ nothing
unfolding spots_at first_reset
no_reset h i [] e = refl
no_reset h i (l ∷ ls) e = split (stops_at h i l.text)
    (λ t. rw (t, spots_at))
    (λ t. let z : eqb (reset_of (item_at h i l.text)) 0 ≡ true = rw (behind_latches h i l.text e) in rw (t, spots_at, z, first_reset) (no_reset h (suc i) ls (omega arith)))

-- the lines of inputs and latches are in front
pub front_inside : (h : Header) (i : ℕ) → i < h.inputs + h.latches → true ≡ ltb i (h.inputs + h.latches)
front_inside h i b = sym (lt-ltb i (h.inputs + h.latches) b)

-- and no others
pub front_behind : (h : Header) (i : ℕ) (s : Section) → In h i s → (s ≡ Inputs → ⊥) → (s ≡ Latches → ⊥) → false ≡ ltb i (h.inputs + h.latches)
front_behind h i Inputs a n m = absurd (n refl)
front_behind h i Latches a n m = absurd (m refl)
front_behind h i Outputs a n m = sym (le-ltb i (h.inputs + h.latches) (omega arith))
front_behind h i Gates a n m = sym (le-ltb i (h.inputs + h.latches) (omega arith))
front_behind h i Symbols a n m = sym (le-ltb i (h.inputs + h.latches) (omega arith))

-- only a latch has a reset value
pub reset_other : (x : Row) → ((l n : Literal) (r : ℕ) → x ≡ Latch l n r → ⊥) → false ≡ not (eqb (reset_of (row_item x)) 0)
unfolding row_item reset_of
reset_other Symbol n = refl
reset_other (Input l) n = refl
reset_other (Latch l m r) n = absurd (n l m r refl)
reset_other (Output l) n = refl
reset_other (Gate l a b) n = refl

-- ---- line by line

-- what holds before the i-th line, at a place
pub record Resetting (H : Header) (start : ℕ) (bytes : List ℕ) (at i : ℕ) : Type 0 where
  pub here : first_reset (spots_at H i (lines_from bytes at)) ≡ first_reset (spots_at H 0 (lines_from bytes start))
  pub inside : at ≤ length bytes
  pub few : i ≤ at

-- before the first line
pub resetting_start : (H : Header) {start : ℕ} {bytes : List ℕ} → Behind start bytes → Resetting H start bytes start 0
resetting_start H B = record { here = refl; inside = B.inside; few = omega arith }

module _ {H : Header} {start : ℕ} {bytes : List ℕ} {at i : ℕ} (S : Resetting H start bytes at i) where
  -- no line is left
  pub resetting_over : spots_at H i (lines_from bytes at) ≡ [] → Resets H start bytes None
  unfolding first_reset
  resetting_over z = sym S.here ∙ rw z

  -- no latch is left
  pub resetting_behind : ltb i (H.inputs + H.latches) ≡ false → Resets H start bytes None
  resetting_behind p = sym S.here ∙ no_reset H i (lines_from bytes at) (ltb-false i (H.inputs + H.latches) p)

  module _ {x : Item} {e : ℕ} (L : NextLine H i at bytes x e) where
    -- a latch with a reset value
    pub resetting_found : not (eqb (reset_of x) 0) ≡ true → Resets H start bytes (Some at)
    unfolding first_reset
    resetting_found z = let u = not-true (eqb (reset_of x) 0) z in sym S.here ∙ rw (L.spots, first_reset, u)

    -- one line more
    pub resetting_more : not (eqb (reset_of x) 0) ≡ false → Resetting H start bytes (e + 1) (i + 1)
    unfolding first_reset
    resetting_more z =
        let u = not-false (eqb (reset_of x) 0) z in
        let w : first_reset (spots_at H (i + 1) (lines_from bytes (e + 1))) ≡ first_reset (spots_at H i (lines_from bytes at)) = rw (L.spots, first_reset, u) in
        record { here = w ∙ S.here; inside = omega (arith, L.inside); few = omega (arith, S.few, L.from) }
