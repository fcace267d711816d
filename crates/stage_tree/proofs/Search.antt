-- The search for an empty cell, step by step. Assumes nothing.
use Prim.Native.Nat.{ℕ, zero, suc, ◌+◌, ◌-◌, ◌*◌, ◌≤◌, ◌<◌}
use mathlib.Core.Path.{◌≡◌, refl, sym, ap, ◌∙◌}
use mathlib.Core.Logic.{◌≢◌}
use mathlib.Core.Bool.{true, false}
use mathlib.Core.List.{List, [], ◌∷◌}
use native.Mathlib.Omega.{arith}
use native.Mathlib.Numerals.{add-one}
use lib.ListN.{length, get_or, drop}
use lib.Seq.{drop-cons, get_or-take, get_or-drop}
use borrow.Author.Tests.{ne_eqb}
use Rattle.rules.specs.Lists.{nothing, found}
use Rattle.rules.specs.Cells.{empty, filled, row_at, row, first_empty}
use Rattle.rules.specs.Traversal.{Setting}
use Rattle.rules.specs.Placing.{cell_at}
use Rattle.rules.specs.Inside.Plans.{Behind}
use Rattle.rules.proofs.Lists.Members.{split, true_false}
use Rattle.stage_tree.specs.Search.{part, SearchAt, First, Cursor}
use Rattle.stage_tree.proofs.Bits.Cells.{get_d_any}

part_cons : (pl : List ℕ) (p e : ℕ) → p < e → e ≤ length pl → part pl p e ≡ get_or pl p 0 ∷ part pl (p + 1) e
unfolding part
part_cons pl p e h l = let z : e - p ≡ suc (e - (p + 1)) = omega arith in rw (z, add-one p, drop-cons pl p 0 (omega arith))

module _ (pl : List ℕ) (a e : ℕ) (A : SearchAt pl a e) where
  -- what is left to search from p on
  abbrev pub Left : ℕ → Type 0
  Left p = first_empty a (part pl a e) ≡ first_empty p (part pl p e)

  -- an empty cell met is the lowest
  pub first_here : (p : ℕ) → a ≤ p → p < e → Left p → get_or pl p 0 ≡ 4294967295 → First pl a e p
  unfolding first_empty filled empty
  first_here p b h same full = record {
    from = b;
    to = omega arith;
    at = λ x. same ∙ rw (part_cons pl p e h A.inside) (rw (full, first_empty) refl);
    none = λ x. absurd (omega arith);
  }

  -- past a filled cell the search goes on
  pub first_on : (p : ℕ) → p < e → Left p → get_or pl p 0 ≢ 4294967295 → Left (p + 1)
  unfolding first_empty filled empty
  first_on p h same none = same ∙ rw (part_cons pl p e h A.inside) (rw (ne_eqb (get_or pl p 0) 4294967295 none, first_empty) (ap (λ (k : ℕ). first_empty k (part pl (p + 1) e)) (sym (add-one p))))

  -- at the end of the part there is no empty cell
  pub first_end : (p : ℕ) → e ≤ p → Left p → First pl a e e
  unfolding first_empty part
  first_end p h same = let z : e - p ≡ 0 = omega arith in record { from = A.upto; to = omega arith; at = λ x. absurd (omega arith); none = λ x. same ∙ rw z refl }

-- over a row this is rule 4's cell
module _ (X : Setting) (h w : ℕ) (e : w ≡ row_at X.K h) (pl : List ℕ) (p : ℕ) (F : First pl w (2 * w) p) where
  cell_part : cell_at X h pl ≡ first_empty w (part pl w (2 * w))
  unfolding cell_at row part
  cell_part = let z : 2 * w - w ≡ w = omega arith in rw (z, e)

  -- the cell found in a row is rule 4's
  pub cell_found : p < 2 * w → cell_at X h pl ≡ found p
  cell_found b = cell_part ∙ F.at b

  -- none found: the level is full
  pub cell_none : 2 * w ≤ p → cell_at X h pl ≡ nothing
  cell_none b = cell_part ∙ F.none b

-- ---- a search that starts past filled cells

not_there : (pl : List ℕ) (q : ℕ) → q < length pl → get_or pl q 0 ≡ 4294967295 → filled (get_or pl q empty) ≡ false
unfolding filled empty
not_there pl q b e = rw (get_d_any pl q empty 0 b, e) refl

-- cells before the first empty one are filled
first_before : (i : ℕ) (cs : List ℕ) (c : ℕ) → first_empty i cs ≡ found c → (j : ℕ) → i + j < c → filled (get_or cs j empty) ≡ true
unfolding first_empty
first_before i [] c e j h = absurd (let z : ◌≡◌ {A = ℕ} 0 1 = cc in omega arith)
first_before i (x ∷ cs) c e zero h = split (filled x) (λ f. f) (λ f. let d : found i ≡ found c = rw (f, first_empty) at e in let z : i ≡ c = cc in absurd (omega arith))
first_before i (x ∷ cs) c e (suc j) h = split (filled x)
    (λ f. first_before (suc i) cs c (rw (f, first_empty) at e) j (omega arith))
    (λ f. let d : found i ≡ found c = rw (f, first_empty) at e in let z : i ≡ c = cc in absurd (omega arith))

module _ {X : Setting} {h w from : ℕ} {pl : List ℕ} (A : Cursor X h w from pl) where
  -- it may be made
  pub cursor_search : SearchAt pl from (2 * w)
  cursor_search = record { upto = A.high; inside = A.inside }

  module _ {c : ℕ} (F : First pl from (2 * w) c) where
    whole : SearchAt pl w (2 * w)
    whole = record { upto = omega arith; inside = A.inside }

    left_from : (n : ℕ) → w + n ≤ from → Left pl w (2 * w) whole (w + n)
    left_from zero b = let z : w + 0 ≡ w = omega arith in rw z refl
    left_from (suc n) b =
        let z : w + suc n ≡ w + n + 1 = omega arith in
        rw z (first_on pl w (2 * w) whole (w + n) (omega (
          arith,
          A.high,
        )) (left_from n (omega arith)) (λ e. true_false (A.behind (w + n) (omega (arith, A.row)) (omega arith)) (not_there pl (w + n) (omega (arith, A.high, A.inside)) e)))

    -- what it finds is the row's first empty cell
    pub cursor_first : First pl w (2 * w) c
    cursor_first =
        let z : w + (from - w) ≡ from = omega (arith, A.low) in
        let l : Left pl w (2 * w) whole from = rw z at (left_from (from - w) (omega (arith, A.low))) in
        record { from = omega (arith, F.from, A.low); to = F.to; at = λ b. l ∙ F.at b; none = λ b. l ∙ F.none b }

    -- and the row's cells before that one are filled
    pub cursor_behind : c < 2 * w → Behind X h c pl
    unfolding part
    cursor_behind b q a d =
        let z : w + (q - w) ≡ q = omega (arith, A.row) in
        let e : get_or (part pl w (2 * w)) (q - w) empty ≡ get_or pl q empty = get_or-take (2 * w - w) (drop w pl) (q - w) empty (omega (arith, A.row)) ∙ get_or-drop w pl (q - w) empty ∙ rw z refl in
        rw (← e) (first_before w (part pl w (2 * w)) c (cursor_first.at b) (q - w) (omega (arith, A.row)))
