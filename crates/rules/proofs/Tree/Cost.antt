-- What placing and taking back report, and the plan of a stage as its kept pins cost it. Assumes nothing.
use Prim.Native.Nat.{ℕ, zero, suc, ◌+◌, ◌*◌, ◌^◌, ◌≤◌, ◌<◌}
use mathlib.Core.Path.{◌≡◌, refl, ◌∙◌, ap}
use mathlib.Core.Bool.{true, false}
use mathlib.Core.List.{List}
use native.Mathlib.Omega.{arith}
use native.Mathlib.Nat.{pow-succ'}
use lib.Dec.{ltb}
use lib.ListN.{length, get_or, set, replicate, length-set, length-replicate, get_or-eq_default}
use lib.Seq.{get_or-set_other}
use borrow.Author.Tests.{ltb-true, ltb-false}
use Rattle.rules.specs.Lists.{count, In}
use Rattle.rules.specs.Cells.{empty, filled, row_at}
use Rattle.rules.specs.Graph.{leaf, pin_of}
use Rattle.rules.specs.Traversal.{Setting, level_at}
use Rattle.rules.specs.Placing.{place, placed, cost, take_back, freed, filled_plan}
use Rattle.rules.specs.Ending.{plan, rest}
use Rattle.rules.specs.Cost.{Placings, none, keep}
use Rattle.rules.specs.Inside.Lean.{blank}
use Rattle.rules.specs.Inside.Plans.{Placeable, Under, Fair}
use Rattle.rules.specs.Inside.Walks.{Sound, Work}
use Rattle.rules.proofs.Lists.Members.{split, true_false}
use Rattle.rules.proofs.Stage.Lengths.{len_place}
use Rattle.rules.proofs.Stage.Staged.{two_step}
use Rattle.rules.proofs.Tree.Loads.{wide, rows, first, second}
use Rattle.rules.proofs.Tree.Sane.{frame}
use Rattle.rules.proofs.Tree.Held.{node}
use Rattle.rules.proofs.Tree.Invariant.{final_at}
use Rattle.rules.proofs.Tree.Fair.{apart, bare, listed_filled, fair_first, fair_kept}
use Rattle.rules.proofs.Tree.Back.{back_bare, taken_back}
use Rattle.rules.proofs.Tree.Tally.{count_set}

-- ---- one cell

-- a pin into an empty cell: one more is filled
one_more : (pl : List ℕ) (p n : ℕ) → p < length pl → filled (get_or pl p empty) ≡ false → filled n ≡ true → count filled (set pl p n) ≡ suc (count filled pl)
one_more pl p n b e f = omega (arith, rw (e, f) at (count_set filled pl p n empty b))

-- a filled cell is one of the plan's
filled_inside : (pl : List ℕ) (p : ℕ) → filled (get_or pl p empty) ≡ true → p < length pl
unfolding filled empty
filled_inside pl p e = split (ltb p (length pl)) (λ d. ltb-true p (length pl) d)
    (λ d. true_false (rw (get_or-eq_default pl empty (ltb-false p (length pl) d)) at e) refl)

-- and out of a filled one: one fewer is
one_less : (pl : List ℕ) (p : ℕ) → filled (get_or pl p empty) ≡ true → suc (count filled (set pl p empty)) ≡ count filled pl
unfolding filled empty
one_less pl p e = omega (arith, rw e at (count_set filled pl p empty empty (filled_inside pl p e)))

-- no cell of an empty plan is filled
pub none_filled : (n : ℕ) → count filled (replicate n empty) ≡ 0
unfolding count filled empty
none_filled zero = refl
none_filled (suc n) = none_filled n

-- ---- taking back

-- as many cells fewer are filled as taking back reports
pub back_count : (h w p : ℕ) (pl : List ℕ) → count filled (take_back h w p pl) + freed h w p pl ≡ count filled pl
unfolding take_back freed
back_count zero w p pl = split (filled (get_or pl p empty))
    (λ e. rw (e, freed) (omega (arith, one_less pl p e)))
    (λ e. rw (e, freed) (omega (arith, ap (count filled) (back_bare 0 w p pl e))))
back_count (suc h) w p pl = split (filled (get_or pl p empty))
    (λ e. rw (e, take_back, freed) (omega (arith, one_less pl p e, back_count h (2 * w) (p + w) (set pl p empty), back_count h (2 * w) (p + 2 * w) (take_back h (2 * w) (p + w) (set pl p empty)))))
    (λ e. rw (e, take_back, freed) (omega arith))

-- a cell and all under it are so many
pub freed_few : (h w p : ℕ) (pl : List ℕ) → freed h w p pl < 2 ^ suc h
unfolding freed
freed_few zero w p pl = split (filled (get_or pl p empty)) (λ e. rw (e, freed) (omega arith)) (λ e. rw (e, freed) (omega arith))
freed_few (suc h) w p pl = split (filled (get_or pl p empty))
    (λ e. rw (e, freed, pow-succ' 2 (suc h)) (omega (arith, freed_few h (2 * w) (p + w) (set pl p empty), freed_few h (2 * w) (p + 2 * w) (take_back h (2 * w) (p + w) (set pl p empty)))))
    (λ e. rw (e, freed, pow-succ' 2 (suc h)) (omega (arith, freed_few h w p pl)))

pub cost_few : (X : Setting) (h n : ℕ) → cost X h n < 2 ^ suc h
unfolding cost
cost_few X zero n = omega arith
cost_few X (suc h) n = split (ltb (level_at X n) (suc h))
    (λ d. rw (d, cost, pow-succ' 2 (suc h)) (omega (arith, cost_few X h n)))
    (λ d. node (get_or X.g n leaf) (λ c. rw (d, c, cost, pow-succ' 2 (suc h)) (omega (arith, cost_few X h n)))
    (λ a b c. rw (d, c, cost, pow-succ' 2 (suc h)) (omega (arith, cost_few X h (pin_of a), cost_few X h (pin_of b)))))

-- ---- placing

module _ (W : Work) where
  abbrev X : Setting
  X = W.X

  abbrev r : ℕ → ℕ
  r = W.r

  abbrev f : ℕ
  f = W.f

  abbrev S : Sound X r f
  S = W.S

  -- as many cells more are filled as placing reports
  pub place_count : (h w p n : ℕ) (pl : List ℕ) → w ≤ p → p < w + w → w * 2 ^ h ≡ 2 ^ X.K → length pl ≡ 2 ^ (X.K + 1) → In n X.seen → Under w p pl → count filled (place X h w p n pl) ≡ count filled pl + cost X h n
  unfolding place cost
  place_count zero w p n pl a b e l i u = omega (arith, one_more pl p n (omega (arith, two_step X.K)) (let z : p + 0 * w ≡ p = omega arith in rw z at (u 0)) (listed_filled W n i))
  place_count (suc h) w p n pl a b e l i u =
      let e1 : w * (2 * 2 ^ h) ≡ 2 ^ X.K = rw (pow-succ' 2 h) at e in
      let e2 : (2 * w) * 2 ^ h ≡ 2 ^ X.K = omega arith in
      let l1 : length (set pl p n) ≡ 2 ^ (X.K + 1) = length-set pl p n ∙ l in
      let o : count filled (set pl p n) ≡ suc (count filled pl) = one_more pl p n (omega (arith, two_step X.K, wide w h)) (let z : p + 0 * w ≡ p = omega arith in rw z at (u 0)) (listed_filled W n i) in
      let u1 : Under (2 * w) (p + w) (set pl p n) = λ j. let z : p + (1 + 2 * j) * w ≡ p + w + j * (2 * w) = omega arith in rw (get_or-set_other pl p (p + w + j * (2 * w)) n empty (omega arith)) (rw z at (u (1 + 2 * j))) in
      let u2 : Under (2 * w) (p + 2 * w) (set pl p n) = λ j. let z : p + (2 + 2 * j) * w ≡ p + 2 * w + j * (2 * w) = omega arith in rw (get_or-set_other pl p (p + 2 * w + j * (2 * w)) n empty (omega arith)) (rw z at (u (2 + 2 * j))) in
      split (ltb (level_at X n) (suc h))
      (λ d. rw (d, place, cost) (omega (arith, o, place_count h (2 * w) (p + w) n (set pl p n) (omega arith) (omega arith) e2 l1 i u1)))
      (λ d. node (get_or X.g n leaf) (λ c. rw (d, c, place, cost) (omega (arith, o)))
      (λ x y c.
      let v : suc h ≤ level_at X n = ltb-false (level_at X n) (suc h) d in
      let m1 = first X r f S n x y i (omega arith) c in
      let m2 = second X r f S n x y i (omega arith) c in
      let pl1 : List ℕ = place X h (2 * w) (p + w) (pin_of x) (set pl p n) in
      let u3 : Under (2 * w) (p + 2 * w) pl1 = λ j. rw (frame X h (2 * w) (p + w) (pin_of x) (set pl p n) (p + 2 * w + j * (2 * w)) (apart (2 * w) (p + w) (p + 2 * w) (omega arith) (omega arith) (omega arith) j)) (u2 j) in
      rw (d, c, place, cost) (omega (
        arith,
        o,
        place_count h (2 * w) (p + w) (pin_of x) (set pl p n) (omega arith) (omega arith) e2 l1 m1.0 u1,
        place_count h (2 * w) (p + 2 * w) (pin_of y) pl1 (omega arith) (omega arith) e2 (len_place X h (2 * w) (p + w) (pin_of x) (set pl p n) ∙ l1) m2.0 u3,
      ))))

  -- the same in a cell that rule 4 takes
  pub placed_count : (h p n : ℕ) {pl : List ℕ} → length pl ≡ 2 ^ (X.K + 1) → Placeable X pl h p n → Under (row_at X.K h) p pl → count filled (placed X h p n pl) ≡ count filled pl + cost X h n
  unfolding placed
  placed_count h p n {pl} l a u = place_count h (row_at X.K h) p n pl a.row a.end (rows X.K h a.high) l a.listed u

  -- for the same pin and cell taking back reports what placing did
  pub same_number : (h p n : ℕ) {pl : List ℕ} → Fair X h pl → Placeable X pl h p n → freed h (row_at X.K h) p (placed X h p n pl) ≡ cost X h n
  same_number h p n {pl} F a = omega (
    arith,
    back_count h (row_at X.K h) p (placed X h p n pl),
    ap (count filled) (taken_back W h p n F a),
    placed_count h p n F.len a (bare W h p n F a),
  )

  -- ---- the pins kept

  -- they fill as many cells as they cost
  pub placings_count : {pl pl2 : List ℕ} {s : ℕ} → length pl ≡ 2 ^ (X.K + 1) → Placings X pl s pl2 → (length pl2 ≡ 2 ^ (X.K + 1)) × (count filled pl2 ≡ count filled pl + s)
  unfolding placed
  placings_count l none = (l, omega arith)
  placings_count l (keep {s = s} {pl2 = pl2} h p n a u k) =
      let t = placings_count l k in
      (len_place X h (row_at X.K h) p n pl2 ∙ t.0, omega (arith, t.1, placed_count h p n t.0 a u))

  -- the plan after rule 9 comes about by kept pins, of rules 4 to 7, 8 and 9, and what they cost is how many of its cells are filled
  pub rest_costs : 1 ≤ X.K → (pl2 : List ℕ) → rest X (filled_plan X) ≡ plan pl2 → Placings X (blank X) (count filled pl2) pl2
  unfolding blank placed
  rest_costs low pl2 e =
      let t = final_at X r f S low (λ h pl. Fair X h pl × ((s : ℕ) × Placings X (blank X) s pl))
      (λ j h pl b k. (record { len = k.0.len; sane = k.0.sane; tall = k.0.tall; zeroth = k.0.zeroth; tidy = λ i c. k.0.tidy i (omega arith) }, k.1))
      (λ pl h p n l k a. (fair_kept W h p n k.0 a, (k.1.0 + cost X h n, keep h p n a (bare W h p n k.0 a) k.1.1)))
      (λ h. (fair_first W h, (0, none))) pl2 e in
      let P : Placings X (blank X) t.1.1.0 pl2 = t.1.1.1 in
      let z : count filled pl2 ≡ t.1.1.0 = omega (arith, (placings_count (length-replicate (2 ^ (X.K + 1)) empty) P).1, none_filled (2 ^ (X.K + 1))) in
      rw z P
