-- One level's row of a plan. Assumes nothing.
use Prim.Native.Nat.{ℕ, zero, suc, ◌+◌, ◌-◌, ◌*◌, ◌/◌, ◌^◌, ◌≤◌}
use mathlib.Core.Bool.{true, false, ◌&&◌}
use mathlib.Core.List.{List, [], ◌∷◌}
use mathlib.Core.Path.{◌≡◌, refl, sym}
use mathlib.Core.Logic.{◌⊎◌, inl, inr}
use native.Mathlib.Omega.{arith}
use native.Mathlib.Numerals.{add-one}
use native.Mathlib.Nat.{le-div_iff_mul-le, suc-mul, suc-add, zero-add}
use lib.Dec.{leb}
use lib.Pow.{pow_pos, pow_mono}
use lib.ListN.{length, take, drop}
use lib.Seq.{take-take, drop-drop, take-nil}
use borrow.Author.Tests.{leb-true, le-leb}
use Rattle.rules.specs.Cells.{is_height, stage_size, row_at, rooms, stage_of, has_row, row, row_of}
use Rattle.rules.proofs.Lists.Members.{and_true, split, true_false}
use Rattle.rules.proofs.Needed.Lacks.{same_truth}
use Rattle.rows.specs.declared.Span.{Span}
use Rattle.rows.specs.Spans.{row_from, span_of}
use Rattle.cells.specs.Answers.{or_zero, has_level}
use Rattle.cells.proofs.Heights.{has_level_lem, or_zero_true}

-- such a row stands in a plan of n numbers
pub record Rowed (K s h n : ℕ) : Type 0 where
  pub level : has_level K h ≡ true
  pub height : is_height K ≡ true
  pub from : 1 ≤ s
  pub inside : s * stage_size K ≤ n
  pub upto : h ≤ K

-- what the test of a row establishes: height, stage from 1, inside the plan, level
pub rowed : (K s h n : ℕ) → has_row K s h n ≡ true → Rowed K s h n
unfolding has_row has_level
rowed K s h n e =
    let c = and_true (is_height K && leb 1 s && leb (s * stage_size K) n) (leb h K) e in
    let b = and_true (is_height K && leb 1 s) (leb (s * stage_size K) n) c.0 in
    let a = and_true (is_height K) (leb 1 s) b.0 in
    record {
      level = rw (a.0, c.1);
      height = a.0;
      from = leb-true 1 s a.1;
      inside = leb-true (s * stage_size K) n b.1;
      upto = leb-true h K c.1;
    }

-- for a right height, stage and level only the plan's size is left to test
pub row_tested : (K s h n : ℕ) → 1 ≤ s → is_height K ≡ true → h ≤ K → has_row K s h n ≡ leb (s * stage_size K) n
unfolding has_row
row_tested K s h n a e b = split (leb (s * stage_size K) n) (λ t. simp (e, le-leb 1 s a, t, le-leb h K b)) (λ t. simp (e, le-leb 1 s a, t))

-- so many stages fit: the test of a stage against the rooms
pub row_roomed : (K s h n r : ℕ) → 1 ≤ s → has_level K h ≡ true → r ≡ or_zero (is_height K) (rooms K n) → leb s r ≡ has_row K s h n
unfolding rooms
row_roomed K s h n r a e d =
    let l = has_level_lem K h e in
    let q : r ≡ n / stage_size K = rw (l.height, or_zero_true (n / stage_size K)) at d in
    let i = le-div_iff_mul-le {k = stage_size K} {x = s} {y = n} (pow_pos (K + 1)) in
    rw (row_tested K s h n a l.height l.upto, q)
    (same_truth (leb s (n / stage_size K)) (leb (s * stage_size K) n) (λ t. le-leb _ _ (i.0 (leb-true _ _ t))) (λ t. le-leb _ _ (i.1 (leb-true _ _ t))))

-- stage 0 or a bad level has no row
pub row_none : (K s h n : ℕ) → (s ≡ 0) ⊎ (has_level K h ≡ false) → false ≡ has_row K s h n
row_none K s h n d = split (has_row K s h n)
    (λ t. let r = rowed K s h n t in elim d [ inl e ↦ absurd (omega (arith, r.from)) | inr e ↦ true_false r.level e ])
    (λ t. sym t)

times_pred : (s w : ℕ) → 1 ≤ s → s * w ≡ (s - 1) * w + w
times_pred zero w a = absurd (omega arith)
times_pred (suc s) w a = let e : suc s - 1 ≡ s = omega arith in rw e (suc-mul s w)

-- both rows of that size lie in the stage
fits : (s w r n : ℕ) → 1 ≤ s → s * w ≤ n → r + r ≤ w → (s - 1) * w + r + r ≤ n
fits s w r n a b d = omega (arith, times_pred s w a)

twice : (K h : ℕ) → 2 ^ (K - h) + 2 ^ (K - h) ≤ 2 ^ (K + 1)
twice K h = rw (add-one K) (omega (arith, pow_mono {i = K - h} {j = K} (omega arith)))

-- a row that stands in a plan: its place, with nothing past the plan's end
pub record Stands (K s h n cells size : ℕ) : Type 0 where
  pub cells_are : cells ≡ row_at K h
  pub size_is : size ≡ stage_size K
  pub from : 1 ≤ s
  pub inside : (s - 1) * size + cells + cells ≤ n

module _ (K s h n cells size : ℕ) (e : has_row K s h n ≡ true) (ec : cells ≡ or_zero (has_level K h) (row_at K h)) (es : size ≡ or_zero (is_height K) (stage_size K)) where
  -- a row that passes the test stands at its place, inside the plan
  pub stands : Stands K s h n cells size
  unfolding row_at
  stands =
      let r = rowed K s h n e in
      let a : cells ≡ 2 ^ (K - h) = rw (r.level, or_zero_true (2 ^ (K - h))) at ec in
      let b : size ≡ 2 ^ (K + 1) = rw (r.height, or_zero_true (2 ^ (K + 1))) at es in
      record { cells_are = a; size_is = b; from = r.from; inside = rw (a, b) (fits s (2 ^ (K + 1)) (2 ^ (K - h)) n r.from r.inside (twice K h)) }

  -- where the row stands, as the code computes it
  pub span_there : ◌≡◌ {A = Span} (record { start = (s - 1) * size + cells; end = (s - 1) * size + cells + cells }) (span_of K s h n)
  unfolding span_of row_from
  span_there = let r = stands in rw (e, span_of, r.cells_are, r.size_is)

-- where there is no such row the part is empty
pub span_none : (K s h n : ℕ) → has_row K s h n ≡ false → ◌≡◌ {A = Span} (record { start = 0; end = 0 }) (span_of K s h n)
unfolding span_of
span_none K s h n e = rw (e, span_of)

-- a part of a part
part_part : (m n : ℕ) (l : List ℕ) → drop m (take (m + n) l) ≡ take n (drop m l)
part_part zero n l = rw (zero-add n)
part_part (suc m) n [] = rw (suc-add m n, take-nil n)
part_part (suc m) n (x ∷ l) = rw (suc-add m n) (part_part m n l)

row_part : (m n r : ℕ) (l : List ℕ) → r + r ≤ n → take r (drop r (take n (drop m l))) ≡ take r (drop (m + r) l)
row_part m n r l h =
    let e : n ≡ r + (n - r) = omega arith in
    rw e (rw part_part (rw (take-take r (n - r) (drop r (drop m l)) (omega arith)) (rw drop-drop)))

-- list xs is the part of l from start up to end
pub record Part (x : Span) (xs l : List ℕ) : Type 0 where
  pub rises : x.start ≤ x.end
  pub inside : x.end ≤ length l
  pub holds : take (x.end - x.start) (drop x.start l) ≡ xs

whole_part : (K s h : ℕ) (plan : List ℕ) → Part (span_of K s h (length plan)) (row_of K s h plan) plan
unfolding row_of span_of row stage_of row_from row_at
whole_part K s h plan = split (has_row K s h (length plan))
    (λ t.
    let r = rowed K s h (length plan) t in
    let a = (s - 1) * 2 ^ (K + 1) + 2 ^ (K - h) in
    let d : a + 2 ^ (K - h) - a ≡ 2 ^ (K - h) = omega arith in
    rw (t, span_of, row_of) (record {
      rises = omega arith;
      inside = fits s (2 ^ (K + 1)) (2 ^ (K - h)) (length plan) r.from r.inside (twice K h);
      holds = rw d (sym (row_part ((s - 1) * 2 ^ (K + 1)) (2 ^ (K + 1)) (2 ^ (K - h)) plan (twice K h)));
    }))
    (λ t. rw (t, span_of, row_of) (record { rises = omega arith; inside = omega arith; holds = refl }))

-- a level's row is a part of the plan, and no copy
pub part : (x : Span) (K s h : ℕ) (plan : List ℕ) → x ≡ span_of K s h (length plan) → Part x (row_of K s h plan) plan
part x K s h plan e = rw e (whole_part K s h plan)
