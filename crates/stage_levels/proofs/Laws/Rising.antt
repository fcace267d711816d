-- Rule 2 forward along the order: one pin more is one store to the column. Assumes nothing.
use mathlib.Core.Path.{◌≡◌, refl, sym, ◌∙◌, ap}
use mathlib.Core.Bool.{false}
use mathlib.Core.List.{List, [], ◌∷◌, ◌++◌, map, map-append}
use Prim.Native.Nat.{ℕ, suc, ◌+◌, ◌*◌, ◌<◌, ◌≤◌, max}
use native.Mathlib.Omega.{arith}
use native.Mathlib.Numerals.{add-one}
use lib.ListN.{length, get_or, set, take, replicate}
use lib.Seq.{take-suc, take_all, get_or-set_same}
use Rattle.rules.specs.Graph.{below}
use Rattle.rules.specs.Traversal.{over, levels, level_at, greatest}
use Rattle.rules.specs.Lists.{In}
use Rattle.rules.proofs.Lists.Members.{in_here}
use Rattle.rules.proofs.Walk.Levels.{over_ext, over_least, length_levels, levels_good}
use Rattle.columns.specs.Area.{among, Frame}
use Rattle.columns.specs.Fields.{ORDER, DONE, LEVEL}
use Rattle.columns.proofs.Area.Columns.{get_or_col, col_set}
use Rattle.columns.proofs.Area.Frames.{frame_none, frame_then, frame_set}
use Rattle.columns.proofs.Lists.Entries.{holds_frame, holds_at, holds_pin}
use Rattle.columns.proofs.Lists.Clears.{clear_col}
use Rattle.stage_walk.specs.Stands.{Context}
use Rattle.stage_levels.specs.Levels.{Along, LevelAt, LevelsAt, Risen, Levels}
use Rattle.stage_walk.proofs.Gates.{follow_pin, reads_frame, both_of}
use Rattle.stage_levels.proofs.Laws.Order.{topo_next, levels_few, before, before_next, before_all_lem, before_topo, before_seen, before_pin, before_length, lv_is}

-- order and marks stay where their columns are not named
pub along_frame : {C : Context} {m k : ℕ} {gates w : List ℕ} → Along C m k gates w → {fs : List ℕ} {w' : List ℕ} → Frame fs m w w' → among fs DONE ≡ false → among fs ORDER ≡ false →
    Along C m k gates w'
along_frame {C} A fr d e = record { reads = reads_frame C A.reads fr d; ordered = record { order = holds_frame A.ordered.order fr e (omega arith) } }

greatest_last : (xs : List ℕ) (x n : ℕ) → greatest (xs ++ (x ∷ [])) n ≡ max x (greatest xs n)
unfolding greatest
greatest_last [] x n = refl
greatest_last (y ∷ xs) x n = greatest_last xs x (max y n)

-- ---- one pin

module _ {C : Context} {m p : ℕ} {gates w : List ℕ} (A : LevelAt C m p gates w) where
  abbrev level : ℕ → ℕ
  level q = get_or w (LEVEL * m + q) 0

  -- a pin from which nothing is followed has level 0
  pub level_none : below C.X.g C.X.done p ≡ [] → 0 ≡ over level (below C.X.g C.X.done p)
  unfolding over
  level_none e = rw e

  module _ (a b : ℕ) (e : below C.X.g C.X.done p ≡ a ∷ b ∷ []) where
    -- the two pins followed and their levels are within the area's numbers
    pub level_low : (a < m) × (b < m) × (level a < m) × (level b < m)
    level_low = let t = both_of C A.reads p a b e in (t.in_first, t.in_second, A.low a t.first, A.low b t.second)

    -- with two, the level is one more than the greater
    pub level_both : (v : ℕ) → v ≡ max (level a) (level b) → v + 1 ≡ over level (below C.X.g C.X.done p)
    unfolding over
    level_both v ev = rw e (omega arith)

-- ---- all

module _ {C : Context} {m k : ℕ} {gates w₀ : List ℕ} (A : LevelsAt C m k gates w₀) where
  -- at the start no pin has a level
  pub risen_none : Risen C m 0 w₀ w₀ 0
  unfolding levels greatest
  risen_none = record { column = record { frame = frame_none; is = clear_col A.clear ∙ ap (λ (n : ℕ). replicate n 0) (sym A.along.reads.base.size) }; most = refl }

  -- at the end all listed pins have theirs, with the greatest
  pub levelled : {i : ℕ} {w : List ℕ} {top : ℕ} → Risen C m i w₀ w top → k ≤ i → Levels C m w₀ w top
  levelled {i} U h = record {
    column = record { frame = U.column.frame; is = U.column.is ∙ ap (levels C.X.g C.X.done) (before_all_lem C i (omega (arith, A.along.ordered.order.count))) ∙ lv_is C };
    most = rw (take_all i C.X.order (omega (arith, A.along.ordered.order.count))) at U.most;
  }

  module _ {i : ℕ} {w : List ℕ} {top : ℕ} (U : Risen C m i w₀ w top) (h : i < k) (p : ℕ) (ep : p ≡ get_or w (ORDER * m + i) 0) where
    along : Along C m k gates w
    along = along_frame A.along U.column.frame refl refl

    inside : i < length C.X.order
    inside = omega (arith, along.ordered.order.count)

    next : before C (suc i) ≡ p ∷ before C i
    next = before_next C i inside ∙ ap (λ (x : ℕ). x ∷ before C i) (sym (ep ∙ holds_at along.ordered.order i h))

    pin : p < m
    pin = rw ep (holds_pin along.ordered.order i h)

    listed : In p C.X.seen
    listed = before_seen C (suc i) p (rw next (in_here p (before C i)))

    at : (x : ℕ) → In x (below C.X.g C.X.done p) → get_or w (LEVEL * m + x) 0 ≡ get_or (levels C.X.g C.X.done (before C i)) x 0
    at x e = sym (get_or_col LEVEL m w x (omega (arith, follow_pin C p x e, along.reads.base.size))) ∙ ap (λ (l : List ℕ). get_or l x 0) U.column.is

    low : (x : ℕ) → In x (below C.X.g C.X.done p) → get_or w (LEVEL * m + x) 0 < i
    low x e = omega (
      arith,
      at x e,
      before_length C i (omega (arith, inside)),
      levels_few C.X.g C.X.done C.r C.S.ranked (before_topo C i) (before_pin C i) x (topo_next C.X.g C.X.done (rw next at (before_topo C (suc i))) x e),
    )

    -- the next pin's level may be computed
    pub level_at_lem : LevelAt C m p gates w
    level_at_lem = record { reads = along.reads; pin = pin; low = λ x e. omega (arith, low x e, along.ordered.order.few) }

    module _ (v : ℕ) (ev : v ≡ over (λ q. get_or w (LEVEL * m + q) 0) (below C.X.g C.X.done p)) where
      -- the next pin's level is below the number of pins
      pub level_few : v < m
      level_few = omega (arith, ev, over_least (λ (q : ℕ). get_or w (LEVEL * m + q) 0) (below C.X.g C.X.done p) i low, along.ordered.order.few)

      store : v ≡ over (λ q. get_or (levels C.X.g C.X.done (before C i)) q 0) (below C.X.g C.X.done p)
      store = ev ∙ over_ext _ _ (below C.X.g C.X.done p) at

      stored : levels C.X.g C.X.done (p ∷ before C i) ≡ set (levels C.X.g C.X.done (before C i)) p v
      unfolding levels
      stored = rw store

      final : v ≡ level_at C.X p
      final =
          let t : get_or (levels C.X.g C.X.done (p ∷ before C i)) p 0 ≡ v = rw stored
          (get_or-set_same (levels C.X.g C.X.done (before C i)) p v 0 (rw (length_levels C.X.g C.X.done C.r C.S.ranked (before C i)) (rw along.reads.base.size pin))) in
          sym t ∙ levels_good C.X.g C.X.done C.r C.S.ranked (rw next at (before_topo C (suc i))) (λ x d. before_pin C (suc i) x (rw next d)) (length C.X.g) p (in_here p (before C i))
          (C.S.fuel p listed)
          ∙ sym (C.S.level p listed)

      -- one store gives the next pin its level
      pub risen_more : (w' : List ℕ) (top' : ℕ) → w' ≡ set w (LEVEL * m + p) v → top' ≡ max v top → Risen C m (i + 1) w₀ w' top'
      risen_more w' top' ew et = record {
        column = record {
          frame = rw ew (frame_then U.column.frame (frame_set LEVEL p v pin (omega arith) refl));
          is = rw (ew, add-one i) (col_set LEVEL m w p v pin (omega (arith, along.reads.base.area.room)) ∙ ap (λ (l : List ℕ). set l p v) U.column.is ∙ sym (ap (levels C.X.g C.X.done) next ∙ stored));
        };
        most = rw (add-one i, take-suc C.X.order i 0 inside, map-append (level_at C.X) (take i C.X.order) (get_or C.X.order i 0 ∷ []), greatest_last) last;
      }
        where
          last : top' ≡ max (level_at C.X (get_or C.X.order i 0)) (greatest (map (level_at C.X) (take i C.X.order)) 0)
          last = rw (← U.most, ← holds_at along.ordered.order i h, ← ep, ← final) et
