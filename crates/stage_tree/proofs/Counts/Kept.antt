-- What stays where only the counts change. Assumes nothing.
use mathlib.Core.Path.{◌≡◌, refl, sym, ◌∙◌}
use mathlib.Core.Logic.{◌≢◌}
use mathlib.Core.Bool.{false, true≢false}
use mathlib.Core.List.{List, [], ◌∷◌}
use Prim.Native.Nat.{ℕ, ◌+◌, ◌*◌, ◌/◌, ◌%◌, ◌<◌, ◌≤◌}
use native.Mathlib.Omega.{arith}
use native.Mathlib.Decide.{ℕ_discrete, dec_lt}
use native.Mathlib.Nat.{div-add-mod', div-lt_iff_lt-mul, mod-lt}
use lib.ListN.{length, get_or, set, length-set}
use lib.Seq.{ext_get_or, get_or-set_other}
use borrow.Author.Tests.{ne_eqb}
use Rattle.columns.specs.Area.{Frame, among}
use Rattle.columns.specs.Fields.{LEVEL, CELLS, TAIL, ONES, PINS, FILLED}
use Rattle.columns.proofs.Area.Columns.{apart, inside}
use Rattle.columns.proofs.Area.Frames.{frame_none, frame_then, frame_room, frame_col}
use Rattle.stage_walk.specs.Stands.{Context, Base, Levelled, Tally}
use Rattle.stage_tree.specs.Counts.{Inner, Kept, Counts, OneMore}

-- ---- what a frame leaves
module _ {fs : List ℕ} {m : ℕ} {u u' : List ℕ} (f : Frame fs m u u') where
  -- area and graph stay under any frame
  pub base_frame : {C : Context} {gates : List ℕ} → Base C m gates u → Base C m gates u'
  base_frame b = record { area = frame_room f b.area; size = b.size; graph = b.graph; pair = b.pair }

  -- levels stay where their column is not named
  pub levelled_frame : {C : Context} → among fs LEVEL ≡ false → Levelled C m u → Levelled C m u'
  levelled_frame e l = record { levels = frame_col f LEVEL e (omega arith) ∙ l.levels }

  -- counts stay where neither their column nor the tail is named
  pub tally_frame : {C : Context} {pl : List ℕ} → among fs CELLS ≡ false → among fs TAIL ≡ false → Tally C m pl u → Tally C m pl u'
  tally_frame e d t = record {
    cells = λ x b. f.cell CELLS e (omega arith) x b ∙ t.cells x b;
    ones = f.past d (16 * m + ONES) (omega arith) ∙ t.ones;
    pins = f.past d (16 * m + PINS) (omega arith) ∙ t.pins;
    total = f.past d (16 * m + FILLED) (omega arith) ∙ t.total;
  }

-- a plan's counts cell by cell, without the sum
pub counts : {C : Context} {m : ℕ} {pl u : List ℕ} → Tally C m pl u → Counts C m pl u
counts t = record { cells = t.cells; ones = t.ones; pins = t.pins }

-- ---- only the counts change

-- nothing changed, so nothing but the counts did
pub inner_none : {m : ℕ} {u : List ℕ} → Inner m u u
inner_none = record { frame = frame_none; rest = λ j a b c. refl }

-- two changes of the counts are one
pub inner_then : {m : ℕ} {u v w : List ℕ} → Inner m u v → Inner m v w → Inner m u w
inner_then a b = record { frame = frame_then a.frame b.frame; rest = λ j x y z. b.rest j x y z ∙ a.rest j x y z }

-- nothing changed, so nothing but the counts and their sum did
pub kept_none : {m : ℕ} {u : List ℕ} → Kept m u u
kept_none = record { frame = frame_none; rest = λ j a b c d. refl }

-- two changes of them are one
pub kept_then : {m : ℕ} {u v w : List ℕ} → Kept m u v → Kept m v w → Kept m u w
kept_then a b = record { frame = frame_then a.frame b.frame; rest = λ j x y z t. b.rest j x y z t ∙ a.rest j x y z t }

-- each number but the counts is the same
pub inner_other : {m : ℕ} {u u' : List ℕ} → length u' ≡ length u →
    ((j : ℕ) → ((x : ℕ) → x < m → j ≢ CELLS * m + x) → j ≢ 16 * m + ONES → j ≢ 16 * m + PINS → get_or u' j 0 ≡ get_or u j 0) → Inner m u u'
inner_other {m} {u} {u'} l h = record {
  frame = record {
    len = l;
    past = λ t j a. absurd (true≢false t);
    cell = λ g e b p k. h (g * m + p) (λ x i d. true≢false (rw (apart g CELLS m p x k i d) at e)) (λ d. omega (arith, inside g m b)) (λ d. omega (arith, inside g m b));
  };
  rest = λ j a b c. h j (λ x i d. omega arith) b c;
}

-- a pin counted once more or once less, and the filled cells of level 1
pub inner_pin : {m n : ℕ} {u u' : List ℕ} → n < m → OneMore m n u u' → Inner m u u'
inner_pin {m} {n} i o = inner_other o.len (λ j a b c. o.other j (a n i) c)

-- a pin counted once less changes only the counts
pub inner_unpin : {m n : ℕ} {u u' : List ℕ} → n < m → OneMore m n u' u → Inner m u u'
inner_unpin {m} {n} i o = inner_other (sym o.len) (λ j a b c. sym (o.other j (a n i) c))

-- another count of level 1 changes only the counts
pub inner_ones : {m : ℕ} {u : List ℕ} (v : ℕ) → Inner m u (set u (16 * m + ONES) v)
inner_ones {m} {u} v = inner_other (length-set u (16 * m + ONES) v) (λ j a b c. get_or-set_other u (16 * m + ONES) j v 0 b)

-- another sum afterwards
pub kept_total : {m : ℕ} {u v : List ℕ} → Inner m u v → (t : ℕ) → Kept m u (set v (16 * m + FILLED) t)
kept_total {m} {u} {v} k t = record {
  frame = frame_then k.frame (record {
    len = length-set v (16 * m + FILLED) t;
    past = λ e j a. absurd (true≢false e);
    cell = λ g e b p i. get_or-set_other v (16 * m + FILLED) (g * m + p) t 0 (λ d. omega (arith, inside g m b));
  });
  rest = λ j a b c d. get_or-set_other v (16 * m + FILLED) j t 0 d ∙ k.rest j a b c;
}

-- a plan's counts fix the area: two outcomes that keep the rest are the same
pub one_area : {C : Context} {m : ℕ} {pl u v w : List ℕ} → Kept m u v → Kept m u w → Tally C m pl v → Tally C m pl w → v ≡ w
one_area {C} {m} {pl} {u} {v} {w} a b s t = ext_get_or 0 v w (a.frame.len ∙ sym b.frame.len) (λ j h. at j (dec_lt j (16 * m)))
  where
    column : (g p : ℕ) → g < 16 → p < m → Dec (g ≡ CELLS) → get_or v (g * m + p) 0 ≡ get_or w (g * m + p) 0
    column g p h k (yes e) = rw e (s.cells p k ∙ sym (t.cells p k))
    column g p h k (no e) = let f : among (CELLS ∷ TAIL ∷ []) g ≡ false = rw (ne_eqb g CELLS e, ne_eqb g TAIL (omega arith)) in a.frame.cell g f h p k ∙ sym (b.frame.cell g f h p k)

    behind : (j : ℕ) → 16 * m ≤ j → Dec (j ≡ 16 * m + ONES) → Dec (j ≡ 16 * m + PINS) → Dec (j ≡ 16 * m + FILLED) → get_or v j 0 ≡ get_or w j 0
    behind j h (yes e) d i = rw e (s.ones ∙ sym t.ones)
    behind j h (no e) (yes d) i = rw d (s.pins ∙ sym t.pins)
    behind j h (no e) (no d) (yes i) = rw i (s.total ∙ sym t.total)
    behind j h (no e) (no d) (no i) = a.rest j h e d i ∙ sym (b.rest j h e d i)

    at : (j : ℕ) → Dec (j < 16 * m) → get_or v j 0 ≡ get_or w j 0
    at j (yes h) = let pos : 0 < m = omega arith in rw (div-add-mod' j m) at (column (j / m) (j % m) ((div-lt_iff_lt-mul pos).1 h) (mod-lt j pos) (ℕ_discrete (j / m) CELLS))
    at j (no h) = behind j (omega arith) (ℕ_discrete j (16 * m + ONES)) (ℕ_discrete j (16 * m + PINS)) (ℕ_discrete j (16 * m + FILLED))
