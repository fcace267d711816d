-- If no depth is left, a stage that is not refused leaves nothing to wait. Assumes nothing.
use Prim.Native.Nat.{ℕ, zero, suc, ◌+◌, ◌-◌, ◌*◌, ◌/◌, ◌^◌, ◌≤◌, ◌<◌, min}
use mathlib.Core.Path.{◌≡◌, refl, ◌∙◌, subst}
use mathlib.Core.Logic.{◌⊎◌, inl, inr}
use mathlib.Core.Bool.{true, false, not, ◌&&◌, ◌||◌}
use mathlib.Core.List.{List, [], ◌∷◌, map}
use native.Mathlib.Omega.{arith}
use lib.ListN.{length, get_or, drop, replicate, length-replicate, length-take, length-drop}
use lib.Seq.{get_or-set_other, get_or-take, get_or-drop}
use Rattle.rules.specs.Lists.{mem, is_nil, found, In, Out, Sub, Once}
use Rattle.rules.specs.Cells.{filled, empty, first_empty, row_at, row}
use Rattle.rules.specs.Graph.{below}
use Rattle.rules.specs.Traversal.{Setting, level_at, greatest}
use Rattle.rules.specs.Placing.{place, tree, tree_of, needed_of, fill, filled_plan, asked}
use Rattle.rules.specs.Ending.{sparse_runs, Plan?, full, plan, put_rest, in_need, untouched, last_stage, written, rest}
use Rattle.rules.specs.Depth.{depth}
use Rattle.rules.proofs.Lists.Members.{split, true_false, in_here, in_there, in_nil, in_keep, keep_in, keep_none}
use Rattle.rules.specs.Loops.{From, start, step}
use Rattle.rules.proofs.Walk.Levels.{depth_at, over_above}
use Rattle.rules.proofs.Walk.Reverse.{from_in}
use Rattle.rules.specs.Inside.Walks.{Sound}
use Rattle.rules.proofs.Needed.Needs.{need}
use Rattle.rules.proofs.Tree.Held.{tree_in, first_empty_found, length_place1, place1_other}
use Rattle.rules.proofs.Stage.Puts.{cell, Keeps, runs_fit, lowest}
use Rattle.rules.proofs.Stage.Staged.{Ended, written_keeps, need_filled, two_step}
use Rattle.rules.proofs.Stage.Last.{all_out}
use Rattle.rules.proofs.Stage.Runs.{Counts, runs_count, Solid, runs_solid, Blank, blank_take, blank_drop, starts, runs_from_start}

greatest_zero : (h : ℕ → ℕ) (xs : List ℕ) → ((x : ℕ) → In x xs → h x ≡ 0) → greatest (map h xs) 0 ≡ 0
unfolding greatest
greatest_zero h [] k = refl
greatest_zero h (x ∷ xs) k = rw (k x (in_here x xs)) (greatest_zero h xs (λ y e. k y (in_there y x xs e)))

fill_zero : (X : Setting) (f : ℕ) (pl : List ℕ) → fill X f 0 pl ≡ pl
unfolding fill
fill_zero X zero pl = refl
fill_zero X (suc f) pl = refl

-- a plan of empty marks has no filled cell
pub blank_replicate : (n : ℕ) → Blank (replicate n empty)
unfolding filled empty
blank_replicate zero i = refl
blank_replicate (suc n) zero = refl
blank_replicate (suc n) (suc i) = blank_replicate n i

-- the cells that rule 9 finds filled stay so
rest_stays : (X : Setting) (half : 2 ^ X.K ≡ row_at X.K 1 + row_at X.K 1) (ps real pl pl2 : List ℕ) → 2 ^ X.K ≤ length pl → put_rest X ps real pl ≡ plan pl2 → (i : ℕ) → i < 2 ^ X.K → filled (get_or pl i empty) ≡ true → filled (get_or pl2 i empty) ≡ true
unfolding put_rest
rest_stays X half [] real pl pl2 l e i h f = let d : pl2 ≡ pl = cc in rw d f
rest_stays X half (p ∷ ps) real pl pl2 l e i h f = split (mem p real || mem p (tree X.K pl))
    (λ b. rest_stays X half ps real pl pl2 l (rw (b, put_rest) at e) i h f)
    (λ b. cell (first_empty (row_at X.K 1) (row X.K 1 pl))
    (λ n. absurd (let z : ◌≡◌ {A = Plan?} full (plan pl2) = rw (b, n, put_rest) at e in let y : ◌≡◌ {A = ℕ} 0 1 = cc in omega arith))
    (λ c n.
    let at = lowest X half pl c l n in
    rest_stays X half ps real (place X 1 (row_at X.K 1) c p pl) pl2 (omega (arith, length_place1 X (row_at X.K 1) c p pl)) (rw (b, n, put_rest) at e) i h
    (rw (place1_other X (row_at X.K 1) c p pl at.0 i (omega arith), get_or-set_other pl c i p empty (λ d. true_false (rw d at f) at.2)) f)))

module _ (X : Setting) (r : ℕ → ℕ) (f : ℕ) (S : Sound X r f) (half : 2 ^ X.K ≡ row_at X.K 1 + row_at X.K 1) (small : length X.g ≤ empty)
    (whole : row_at X.K 1 ≡ 32 * (row_at X.K 1 / 32)) (once : Once X.waiting) (level0 : (x : ℕ) → In x X.waiting → depth f X.g X.done x ≡ 0) where
  from_flat : {q : ℕ} → From X.g X.done X.waiting q → depth f X.g X.done q ≡ 0
  from_flat (start {q = q} e) = level0 q e
  from_flat (step {q = q} {x = x} fr e) =
      let i : In q X.seen = from_in X.g X.done X.waiting S.visited.topo S.visited.has fr in
      absurd (omega (arith, from_flat fr, depth_at X.g X.done r S.ranked f q (S.fuel q i), over_above (depth f X.g X.done) (below X.g X.done q) x e))

  seen_flat : (q : ℕ) → In q X.seen → level_at X q ≡ 0
  seen_flat q i = S.level q i ∙ from_flat (elim (S.visited.new q i) [ inl d ↦ in_nil q d | inr d ↦ d ])

  the_plan : filled_plan X ≡ replicate (2 ^ (X.K + 1)) empty
  unfolding filled_plan
  the_plan = rw (greatest_zero (level_at X) X.order (λ x e. seen_flat x (S.listed x e))) (let z : min 0 X.K ≡ 0 = omega arith in rw z (fill_zero X _ _))

  abbrev pl0 : List ℕ
  pl0 = replicate (2 ^ (X.K + 1)) empty

  long : 2 ^ X.K ≤ length pl0
  long = rw length-replicate (omega (arith, two_step X.K))

  no_tree : (q : ℕ) → Out q (tree_of X pl0)
  unfolding tree_of
  no_tree q = split (mem q (tree X.K pl0))
      (λ e. let t = tree_in X.K pl0 q e in true_false t.4 (subst (λ (x : ℕ). filled x ≡ false) t.3 (blank_replicate (2 ^ (X.K + 1)) t.0)))
      (λ e. e)

  all_needed : (q : ℕ) → In q X.waiting → In q (needed_of X pl0)
  unfolding asked
  all_needed q i = need X r f S pl0 q (start i) (no_tree q) q (rw (seen_flat q (S.visited.has q i)) (in_keep _ q (q ∷ []) (in_here q []) i))

  all_left : Sub X.waiting (in_need X pl0)
  unfolding in_need
  all_left q i = in_keep _ q X.waiting i (rw (no_tree q, all_needed q i))

  is_last : last_stage X pl0 ≡ true
  unfolding last_stage untouched is_nil
  is_last = rw (keep_none (λ (p : ℕ). not (mem p (tree_of X pl0)) && not (mem p (needed_of X pl0))) X.waiting (λ x i. rw (no_tree x, all_needed x i)))

  counted : Counts X.waiting (written X pl0)
  unfolding written
  counted = runs_count X half X.waiting (last_stage X pl0) (sparse_runs X.K pl0) (record { plan = pl0; left = in_need X pl0; real = []; words = [] }) (λ x i. inr (all_left x i))

  blank_row : Blank (row X.K 1 pl0)
  unfolding row
  blank_row = blank_take (row_at X.K 1) (drop (row_at X.K 1) pl0) (blank_drop (row_at X.K 1) pl0 (blank_replicate (2 ^ (X.K + 1))))

  solid_or_done : ((written X pl0).left ≡ []) ⊎ ((a : ℕ) → In a (starts (sparse_runs X.K pl0)) → Solid (row_at X.K 1 + a) 32 (written X pl0).plan)
  unfolding written in_need
  solid_or_done = rw is_last (runs_solid X half pl0 long (runs_fit X.K pl0) (record { plan = pl0; left = in_need X pl0; real = []; words = [] })
      (record { len = refl; grows = λ q e. e; real = λ q e. in_nil q e; fine = λ x e. need_filled X r f S half small pl0 x (all_needed x (keep_in _ x X.waiting e).0) }))

  every_run_lem : (k : ℕ) → k < row_at X.K 1 → In (32 * (k / 32)) (starts (sparse_runs X.K pl0))
  unfolding sparse_runs row_at
  every_run_lem k h =
      let z : 0 + 32 * (k / 32) ≡ 32 * (k / 32) = omega arith in
      rw z at (runs_from_start (2 ^ (X.K - 1) / 32) 0 (row X.K 1 pl0) [] blank_row (k / 32) (omega arith))

  -- a full level 1 is refused
  not_solid : (pl2 : List ℕ) → rest X pl0 ≡ plan pl2 → (c : ℕ) × (first_empty 0 (row X.K 1 pl2) ≡ found c) → ((a : ℕ) → In a (starts (sparse_runs X.K pl0)) → Solid (row_at X.K 1 + a) 32 (written X pl0).plan) → ⊥
  unfolding rest row
  not_solid pl2 e fr h =
      let wk : Keeps X half pl0 (written X pl0) = written_keeps X r f S half small pl0 long in
      let t = first_empty_found 0 (row X.K 1 pl2) fr.0 fr.1 in
      let k : ℕ = t.0 in
      let i : k < min (row_at X.K 1) (length pl2 - row_at X.K 1) = simp (length-take, length-drop) at t.2 in
      let j : k < row_at X.K 1 = omega arith in
      let full1 : filled (get_or (written X pl0).plan (row_at X.K 1 + k) empty) ≡ true = h (32 * (k / 32)) (every_run_lem k j) (row_at X.K 1 + k) (omega arith) (omega arith) in
      let full2 : filled (get_or pl2 (row_at X.K 1 + k) empty) ≡ true = rest_stays X half (needed_of X pl0) (written X pl0).real (written X pl0).plan pl2 (omega (arith, wk.len, long)) e (row_at X.K 1 + k) (omega arith) full1 in
      true_false full2 (rw (get_or-take (row_at X.K 1) (drop (row_at X.K 1) pl2) k empty j, get_or-drop) at t.3)

  -- where all waiting pins have depth 0, a stage that is not refused leaves none to wait
  pub none_wait : (pl2 realised waiting2 : List ℕ) → Ended X (filled_plan X) pl2 realised waiting2 → waiting2 ≡ []
  none_wait pl2 realised waiting2 e =
      let d : Ended X pl0 pl2 realised waiting2 = rw the_plan at e in
      elim solid_or_done [
        | inl n ↦ d.waits ∙ all_out once d.real (λ x i. d.early x (elim (counted x i) [ inl c ↦ c | inr c ↦ in_nil x (rw n at c) ]))
        | inr h ↦ absurd (not_solid pl2 d.rested d.free h)
      ]
