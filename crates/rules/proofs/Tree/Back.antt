-- What was placed in an empty cell with nothing under it is taken back whole. Assumes nothing.
use Prim.Native.Nat.{ℕ, zero, suc, ◌+◌, ◌*◌, ◌^◌, ◌≤◌, ◌<◌}
use mathlib.Core.Path.{◌≡◌, sym, ◌∙◌, ap}
use mathlib.Core.Logic.{◌≢◌}
use mathlib.Core.Bool.{true, false, not}
use mathlib.Core.List.{List}
use native.Mathlib.Omega.{arith}
use native.Mathlib.Nat.{pow-succ'}
use lib.Dec.{eqb, ltb}
use lib.ListN.{length, get_or, set}
use lib.Seq.{get_or-set_same, get_or-set_other, set-set, set-get_or, set_comm}
use borrow.Author.Tests.{ltb-false}
use Rattle.rules.specs.Cells.{empty, filled, row_at}
use Rattle.rules.specs.Graph.{leaf, pin_of}
use Rattle.rules.specs.Traversal.{Setting, level_at}
use Rattle.rules.specs.Placing.{place, placed, take_back}
use Rattle.rules.specs.Lists.{In}
use Rattle.rules.proofs.Lists.Members.{split, true_false, eqb_true}
use Rattle.rules.specs.Inside.Walks.{Sound, Marked, Work}
use Rattle.rules.proofs.Stage.Staged.{two_step}
use Rattle.rules.proofs.Tree.Loads.{wide, rows, first, second}
use Rattle.rules.proofs.Tree.Sane.{frame}
use Rattle.rules.specs.Inside.Plans.{Placeable, Fair, Under}
use Rattle.rules.proofs.Tree.Fair.{apart, bare, listed_filled}
use Rattle.rules.proofs.Tree.Held.{node}

-- a cell that isn't filled holds the empty mark
pub not_filled : (c : ℕ) → filled c ≡ false → c ≡ empty
unfolding filled
not_filled c e = split (eqb c empty) (λ d. eqb_true c empty d) (λ d. true_false (let z : not (eqb c empty) ≡ true = rw d in z) e)

set_empty : (pl : List ℕ) (p : ℕ) → filled (get_or pl p empty) ≡ false → set pl p empty ≡ pl
set_empty pl p e = ap (set pl p) (sym (not_filled (get_or pl p empty) e)) ∙ set-get_or pl p empty

-- nothing to take back
pub back_bare : (h w p : ℕ) (pl : List ℕ) → filled (get_or pl p empty) ≡ false → take_back h w p pl ≡ pl
unfolding take_back
back_bare zero w p pl e = set_empty pl p e
back_bare (suc h) w p pl e = rw (e, take_back)

-- a cell elsewhere may be set before or after
back_set : (h w p : ℕ) (pl : List ℕ) (q v : ℕ) → ((i : ℕ) → q ≢ p + i * w) → take_back h w p (set pl q v) ≡ set (take_back h w p pl) q v
unfolding take_back
back_set zero w p pl q v off = set_comm pl q p v empty (λ e. off 0 (omega arith))
back_set (suc h) w p pl q v off =
    let s : get_or (set pl q v) p empty ≡ get_or pl p empty = get_or-set_other pl q p v empty (λ e. off 0 (omega arith)) in
    let n1 : (i : ℕ) → q ≢ p + w + i * (2 * w) = λ i e. off (1 + 2 * i) (omega arith) in
    let n2 : (i : ℕ) → q ≢ p + 2 * w + i * (2 * w) = λ i e. off (2 + 2 * i) (omega arith) in
    split (filled (get_or pl p empty))
    (λ e. let d : filled (get_or (set pl q v) p empty) ≡ true = rw s e in
    rw (d, e, take_back) (rw (set_comm pl q p v empty (λ c. off 0 (omega arith)), back_set h (2 * w) (p + w) (set pl p empty) q v n1) (back_set h (2 * w) (p + 2 * w) (take_back h (2 * w) (p + w) (set pl p empty)) q v n2)))
    (λ e. let d : filled (get_or (set pl q v) p empty) ≡ false = rw s e in rw (d, e, take_back))

module _ (X : Setting) where
  place_set : (h w p n : ℕ) (pl : List ℕ) (q v : ℕ) → ((i : ℕ) → q ≢ p + i * w) → place X h w p n (set pl q v) ≡ set (place X h w p n pl) q v
  unfolding place
  place_set zero w p n pl q v off = set_comm pl q p v n (λ e. off 0 (omega arith))
  place_set (suc h) w p n pl q v off =
      let s : set (set pl q v) p n ≡ set (set pl p n) q v = set_comm pl q p v n (λ e. off 0 (omega arith)) in
      let n1 : (i : ℕ) → q ≢ p + w + i * (2 * w) = λ i e. off (1 + 2 * i) (omega arith) in
      let n2 : (i : ℕ) → q ≢ p + 2 * w + i * (2 * w) = λ i e. off (2 + 2 * i) (omega arith) in
      split (ltb (level_at X n) (suc h))
      (λ d. rw (d, place) (rw s (place_set h (2 * w) (p + w) n (set pl p n) q v n1)))
      (λ d. node (get_or X.g n leaf) (λ c. rw (d, c, place) s)
      (λ x y c. rw (d, c, place) (rw (s, place_set h (2 * w) (p + w) (pin_of x) (set pl p n) q v n1) (place_set h (2 * w) (p + 2 * w) (pin_of y) (place X h (2 * w) (p + w) (pin_of x) (set pl p n)) q v n2))))

  -- so may a pin be placed elsewhere
  back_place : (h w p : ℕ) (k u c n : ℕ) (pl : List ℕ) → ((j i : ℕ) → c + j * u ≢ p + i * w) → take_back h w p (place X k u c n pl) ≡ place X k u c n (take_back h w p pl)
  unfolding place
  back_place h w p zero u c n pl off = back_set h w p pl c n (λ i e. off 0 i (omega arith))
  back_place h w p (suc k) u c n pl off =
      let s : take_back h w p (set pl c n) ≡ set (take_back h w p pl) c n = back_set h w p pl c n (λ i e. off 0 i (omega arith)) in
      let n1 : (j i : ℕ) → c + u + j * (2 * u) ≢ p + i * w = λ j i e. off (1 + 2 * j) i (omega arith) in
      let n2 : (j i : ℕ) → c + 2 * u + j * (2 * u) ≢ p + i * w = λ j i e. off (2 + 2 * j) i (omega arith) in
      split (ltb (level_at X n) (suc k))
      (λ d. rw (d, place) (back_place h w p k (2 * u) (c + u) n (set pl c n) n1 ∙ ap (place X k (2 * u) (c + u) n) s))
      (λ d. node (get_or X.g n leaf) (λ z. rw (d, z, place) s)
      (λ x y z. rw (d, z, place) (back_place h w p k (2 * u) (c + 2 * u) (pin_of y) (place X k (2 * u) (c + u) (pin_of x) (set pl c n)) n2
      ∙ ap (place X k (2 * u) (c + 2 * u) (pin_of y)) (back_place h w p k (2 * u) (c + u) (pin_of x) (set pl c n) n1 ∙ ap (place X k (2 * u) (c + u) (pin_of x)) s))))

module _ (W : Work) where
  abbrev X : Setting
  X = W.X

  abbrev r : ℕ → ℕ
  r = W.r

  abbrev f : ℕ
  f = W.f

  abbrev S : Sound X r f
  S = W.S

  abbrev M : Marked X
  M = W.M

  abbrev small : length X.g ≤ empty
  small = W.small

  back_whole : (h w p n : ℕ) (pl : List ℕ) → w ≤ p → p < w + w → w * 2 ^ h ≡ 2 ^ X.K → length pl ≡ 2 ^ (X.K + 1) → In n X.seen → Under w p pl → take_back h w p (place X h w p n pl) ≡ pl
  unfolding take_back place
  back_whole zero w p n pl a b e l i u = set-set pl p n empty ∙ set_empty pl p (let z : p + 0 * w ≡ p = omega arith in rw z at (u 0))
  back_whole (suc h) w p n pl a b e l i u =
      let e1 : w * (2 * 2 ^ h) ≡ 2 ^ X.K = rw (pow-succ' 2 h) at e in
      let e2 : (2 * w) * 2 ^ h ≡ 2 ^ X.K = omega arith in
      let u0 : filled (get_or pl p empty) ≡ false = let z : p + 0 * w ≡ p = omega arith in rw z at (u 0) in
      let u1 : Under (2 * w) (p + w) pl = λ j. let z : p + (1 + 2 * j) * w ≡ p + w + j * (2 * w) = omega arith in rw z at (u (1 + 2 * j)) in
      let u2 : Under (2 * w) (p + 2 * w) pl = λ j. let z : p + (2 + 2 * j) * w ≡ p + 2 * w + j * (2 * w) = omega arith in rw z at (u (2 + 2 * j)) in
      let m1 : (j : ℕ) → p ≢ p + w + j * (2 * w) = λ j t. omega arith in
      let m2 : (j : ℕ) → p ≢ p + 2 * w + j * (2 * w) = λ j t. omega arith in
      let z1 : filled (get_or pl (p + w) empty) ≡ false = let z : p + w + 0 * (2 * w) ≡ p + w = omega arith in rw z at (u1 0) in
      let z2 : filled (get_or pl (p + 2 * w) empty) ≡ false = let z : p + 2 * w + 0 * (2 * w) ≡ p + 2 * w = omega arith in rw z at (u2 0) in
      let back : set (set pl p n) p empty ≡ pl = set-set pl p n empty ∙ set_empty pl p u0 in
      let top : get_or (set pl p n) p empty ≡ n = get_or-set_same pl p n empty (omega (arith, two_step X.K, wide w h)) in
      let g : filled n ≡ true = listed_filled W n i in
      split (ltb (level_at X n) (suc h))
      (λ d.
      let pl1 : List ℕ = place X h (2 * w) (p + w) n (set pl p n) in
      let t : filled (get_or pl1 p empty) ≡ true = rw (frame X h (2 * w) (p + w) n (set pl p n) p m1, top) g in
      let s : set pl1 p empty ≡ place X h (2 * w) (p + w) n pl = sym (place_set X h (2 * w) (p + w) n (set pl p n) p empty m1) ∙ ap (place X h (2 * w) (p + w) n) back in
      let q : take_back (suc h) w p pl1 ≡ pl = rw (t, take_back) (rw (s, back_whole h (2 * w) (p + w) n pl (omega arith) (omega arith) e2 l i u1) (back_bare h (2 * w) (p + 2 * w) pl z2)) in
      let o : place X (suc h) w p n pl ≡ pl1 = rw (d, place) in
      ap (take_back (suc h) w p) o ∙ q)
      (λ d. node (get_or X.g n leaf)
      (λ c.
      let t : filled (get_or (set pl p n) p empty) ≡ true = rw top g in
      let q : take_back (suc h) w p (set pl p n) ≡ pl = rw (t, take_back) (rw (back, back_bare h (2 * w) (p + w) pl z1) (back_bare h (2 * w) (p + 2 * w) pl z2)) in
      let o : place X (suc h) w p n pl ≡ set pl p n = rw (d, c, place) in
      ap (take_back (suc h) w p) o ∙ q)
      (λ x y c.
      let v : suc h ≤ level_at X n = ltb-false (level_at X n) (suc h) d in
      let k1 = first X r f S n x y i (omega arith) c in
      let k2 = second X r f S n x y i (omega arith) c in
      let pl1 : List ℕ = place X h (2 * w) (p + w) (pin_of x) (set pl p n) in
      let pl2 : List ℕ = place X h (2 * w) (p + 2 * w) (pin_of y) pl1 in
      let t : filled (get_or pl2 p empty) ≡ true = rw (frame X h (2 * w) (p + 2 * w) (pin_of y) pl1 p m2, frame X h (2 * w) (p + w) (pin_of x) (set pl p n) p m1, top) g in
      let s1 : set pl1 p empty ≡ place X h (2 * w) (p + w) (pin_of x) pl = sym (place_set X h (2 * w) (p + w) (pin_of x) (set pl p n) p empty m1) ∙ ap (place X h (2 * w) (p + w) (pin_of x)) back in
      let s2 : set pl2 p empty ≡ place X h (2 * w) (p + 2 * w) (pin_of y) (place X h (2 * w) (p + w) (pin_of x) pl) = sym (place_set X h (2 * w) (p + 2 * w) (pin_of y) pl1 p empty m2) ∙ ap (place X h (2 * w) (p + 2 * w) (pin_of y)) s1 in
      let b1 : take_back h (2 * w) (p + w) (set pl2 p empty) ≡ place X h (2 * w) (p + 2 * w) (pin_of y) pl =
      ap (take_back h (2 * w) (p + w)) s2
      ∙ back_place X h (2 * w) (p + w) h (2 * w) (p + 2 * w) (pin_of y) (place X h (2 * w) (p + w) (pin_of x) pl) (apart (2 * w) (p + w) (p + 2 * w) (omega arith) (omega arith) (omega arith))
      ∙ ap (place X h (2 * w) (p + 2 * w) (pin_of y)) (back_whole h (2 * w) (p + w) (pin_of x) pl (omega arith) (omega arith) e2 l k1.0 u1) in
      let q : take_back (suc h) w p pl2 ≡ pl = rw (t, take_back) (rw b1 (back_whole h (2 * w) (p + 2 * w) (pin_of y) pl (omega arith) (omega arith) e2 l k2.0 u2)) in
      let o : place X (suc h) w p n pl ≡ pl2 = rw (d, c, place) in
      ap (take_back (suc h) w p) o ∙ q))

  -- a placing that leaves no room is taken back
  pub taken_back : (h p n : ℕ) {pl : List ℕ} → Fair X h pl → Placeable X pl h p n → take_back h (row_at X.K h) p (placed X h p n pl) ≡ pl
  unfolding placed
  taken_back h p n {pl} F a = back_whole h (row_at X.K h) p n pl a.row a.end (rows X.K h a.high) F.len a.listed (bare W h p n F a)
