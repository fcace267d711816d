-- What holds of every plan that rules 2 to 7 go through; placing adds to the tree and takes nothing out. Assumes nothing.
use Prim.Native.Nat.{ℕ, zero, suc, ◌+◌, ◌*◌, ◌^◌, ◌≤◌, ◌<◌}
use mathlib.Core.Path.{◌≡◌, ◌∙◌, subst}
use mathlib.Core.Logic.{◌≢◌}
use mathlib.Core.Bool.{true, false}
use mathlib.Core.List.{List}
use native.Mathlib.Omega.{arith}
use native.Mathlib.Nat.{pow-succ'}
use lib.Dec.{ltb}
use lib.ListN.{length, get_or, set, length-set, length-replicate}
use lib.Seq.{get_or-set_other}
use borrow.Author.Tests.{ltb-true, ltb-false}
use Rattle.rules.specs.Cells.{filled, empty, row_at}
use Rattle.rules.specs.Graph.{leaf, pin_of}
use Rattle.rules.specs.Traversal.{Setting, level_at}
use Rattle.rules.specs.Placing.{place, placed, tree_of, reverse_of}
use Rattle.rules.specs.Inside.Lean.{blank, start_levels}
use Rattle.rules.specs.Lists.{In, Out, Sub}
use Rattle.rules.proofs.Lists.Members.{split, true_false}
use Rattle.rules.proofs.Walk.Reverse.{below_in}
use Rattle.rules.specs.Inside.Walks.{Sound, Marked, Work}
use Rattle.rules.proofs.Stage.Lengths.{len_place}
use Rattle.rules.proofs.Tree.Held.{tree_in, in_tree, node}
use Rattle.rules.proofs.Stage.Flat.{blank_replicate}
use Rattle.rules.proofs.Stage.Staged.{two_step, small_filled}
use Rattle.rules.proofs.Fold.Whole.{zero_kept}
use Rattle.rules.specs.Inside.Plans.{Placeable, Under, TidyAt, Tidy, Fair}
use Rattle.rules.proofs.Tree.Loads.{wide, rows, first, second}
use Rattle.rules.proofs.Tree.Sane.{frame, head, sane_kept, sane_first}
use Rattle.rules.proofs.Tree.Cone.{tall_kept, cone}
use Rattle.rules.proofs.Lean.Steady.{Closed, steady}

-- cells of two subtrees of one row
pub apart : (w p q : ℕ) → p < q + w → q < p + w → q ≢ p → (i j : ℕ) → q + i * w ≢ p + j * w
apart w p q a b n zero zero e = n (omega arith)
apart w p q a b n zero (suc j) e = omega arith
apart w p q a b n (suc i) zero e = omega arith
apart w p q a b n (suc i) (suc j) e = apart w p q a b n i j (omega arith)

lower_row : (m h j w v : ℕ) → w * 2 ^ h ≡ m → v * 2 ^ j ≡ m → j < h → w + w ≤ v
lower_row m zero j w v d e b = absurd (omega arith)
lower_row m (suc h) zero w v d e b = let a : w * (2 * 2 ^ h) ≡ m = rw (pow-succ' 2 h) at d in omega (arith, wide w h)
lower_row m (suc h) (suc j) w v d e b =
    let a : w * (2 * 2 ^ h) ≡ m = rw (pow-succ' 2 h) at d in
    let c : v * (2 * 2 ^ j) ≡ m = rw (pow-succ' 2 j) at e in
    omega (arith, lower_row m h j (2 * w) (2 * v) (omega arith) (omega arith) (omega arith))

row_same : (m h w v : ℕ) → w * 2 ^ h ≡ m → v * 2 ^ h ≡ m → v ≡ w
row_same m zero w v d e = omega arith
row_same m (suc h) w v d e =
    let a : w * (2 * 2 ^ h) ≡ m = rw (pow-succ' 2 h) at d in
    let c : v * (2 * 2 ^ h) ≡ m = rw (pow-succ' 2 h) at e in
    omega (arith, row_same m h (2 * w) (2 * v) (omega arith) (omega arith))

set_tidy : (X : Setting) (h w p n : ℕ) (pl : List ℕ) → w * 2 ^ suc h ≡ 2 ^ X.K → p < w + w → Tidy X (suc h) pl → Tidy X h (set pl p n)
set_tidy X h w p n pl e b k j c v q d x y g i =
    let far : w + w ≤ v = lower_row (2 ^ X.K) (suc h) j w v e d (omega arith) in
    rw (get_or-set_other pl p (q + i * v) n empty (omega arith)) (k j (omega arith) v q d x y (rw (get_or-set_other pl p q n empty (omega arith)) at g) i)

mend_tidy : (X : Setting) (h w p : ℕ) (pl pl2 : List ℕ) → w * 2 ^ h ≡ 2 ^ X.K → w ≤ p → p < w + w → Tidy X h pl → ((j : ℕ) → j < h → TidyAt X j pl2) →
    ((q : ℕ) → ((i : ℕ) → q ≢ p + i * w) → get_or pl2 q empty ≡ get_or pl q empty) → filled (get_or pl2 p empty) ≡ true → Tidy X h pl2
mend_tidy X h w p pl pl2 e a b k low fr top j c v q d x y g = split (ltb j h)
    (λ t. low j (ltb-true j h t) v q d x y g)
    (λ t.
    let z : j ≡ h = omega (arith, ltb-false j h t) in
    let s : v ≡ w = row_same (2 ^ X.K) h w v e (rw z at d) in
    let n : q ≢ p = λ o. true_false top (rw o at g) in
    let off : (i m : ℕ) → q + i * w ≢ p + m * w = apart w p q (omega arith) (omega arith) n in
    let g0 : filled (get_or pl q empty) ≡ false = rw (fr q (λ i o. off 0 i (omega arith))) at g in
    rw s (λ i. rw (fr (q + i * w) (off i)) (k h (omega arith) w q e (omega arith) (omega arith) g0 i)))

module _ (W : Work) where
  abbrev X : Setting
  X = W.X

  abbrev r : ℕ → ℕ
  r = W.r

  abbrev f : ℕ
  f = W.f

  abbrev S : Sound X r f
  S = W.S

  abbrev M : Marked X
  M = W.M

  abbrev small : length X.g ≤ empty
  small = W.small

  -- listed pins are no empty marks
  pub listed_filled : (n : ℕ) → In n X.seen → filled n ≡ true
  listed_filled n i = small_filled n (omega (arith, S.bound n i))

  place_tidy : (h w p n : ℕ) (pl : List ℕ) → w * 2 ^ h ≡ 2 ^ X.K → w ≤ p → p < w + w → length pl ≡ 2 ^ (X.K + 1) → In n X.seen → Tidy X h pl → Under w p pl → Tidy X h (place X h w p n pl)
  unfolding place
  place_tidy zero w p n pl e a b l i k u = mend_tidy X 0 w p pl (set pl p n) e a b k (λ j c. absurd (omega arith)) (frame X 0 w p n pl)
      (rw (head X 0 w p n pl (omega arith) (omega (arith, two_step X.K))) (listed_filled n i))
  place_tidy (suc h) w p n pl e a b l i k u =
      let e1 : w * (2 * 2 ^ h) ≡ 2 ^ X.K = rw (pow-succ' 2 h) at e in
      let e2 : (2 * w) * 2 ^ h ≡ 2 ^ X.K = omega arith in
      let l1 : length (set pl p n) ≡ 2 ^ (X.K + 1) = length-set pl p n ∙ l in
      let s : Tidy X h (set pl p n) = set_tidy X h w p n pl e b k in
      let u1 : Under (2 * w) (p + w) (set pl p n) = λ j. let z : p + (1 + 2 * j) * w ≡ p + w + j * (2 * w) = omega arith in rw (get_or-set_other pl p (p + w + j * (2 * w)) n empty (omega arith)) (rw z at (u (1 + 2 * j))) in
      let u2 : Under (2 * w) (p + 2 * w) (set pl p n) = λ j. let z : p + (2 + 2 * j) * w ≡ p + 2 * w + j * (2 * w) = omega arith in rw (get_or-set_other pl p (p + 2 * w + j * (2 * w)) n empty (omega arith)) (rw z at (u (2 + 2 * j))) in
      let low : Tidy X h (place X (suc h) w p n pl) = split (ltb (level_at X n) (suc h))
      (λ d. rw (d, place) (place_tidy h (2 * w) (p + w) n (set pl p n) e2 (omega arith) (omega arith) l1 i s u1))
      (λ d. node (get_or X.g n leaf) (λ c. rw (d, c, place) s)
      (λ x y c.
      let v : suc h ≤ level_at X n = ltb-false (level_at X n) (suc h) d in
      let m1 = first X r f S n x y i (omega arith) c in
      let m2 = second X r f S n x y i (omega arith) c in
      let pl1 : List ℕ = place X h (2 * w) (p + w) (pin_of x) (set pl p n) in
      let u3 : Under (2 * w) (p + 2 * w) pl1 = λ j. rw (frame X h (2 * w) (p + w) (pin_of x) (set pl p n) (p + 2 * w + j * (2 * w)) (apart (2 * w) (p + w) (p + 2 * w) (omega arith) (omega arith) (omega arith) j)) (u2 j) in
      rw (d, c, place) (place_tidy h (2 * w) (p + 2 * w) (pin_of y) pl1 e2 (omega arith) (omega arith) (len_place X h (2 * w) (p + w) (pin_of x) (set pl p n) ∙ l1) m2.0
      (place_tidy h (2 * w) (p + w) (pin_of x) (set pl p n) e2 (omega arith) (omega arith) l1 m1.0 s u1) u3))) in
      mend_tidy X (suc h) w p pl (place X (suc h) w p n pl) e a b k (λ j c. low j (omega arith)) (frame X (suc h) w p n pl)
      (rw (head X (suc h) w p n pl (omega arith) (omega (arith, two_step X.K, wide w h))) (listed_filled n i))

  -- the empty plan is fair, at every level
  pub fair_first : (h : ℕ) → Fair X h (blank X)
  unfolding blank
  fair_first h = record {
    len = length-replicate (2 ^ (X.K + 1)) empty;
    sane = sane_first X r f S M (2 ^ (X.K + 1));
    tall = λ j w q e c d g. true_false g (blank_replicate (2 ^ (X.K + 1)) q);
    zeroth = blank_replicate (2 ^ (X.K + 1)) 0;
    tidy = λ j b v q e a c g i. blank_replicate (2 ^ (X.K + 1)) (q + i * v);
  }

  -- a plan that is fair at a level is fair one level down
  pub fair_down : (h : ℕ) {pl : List ℕ} → Fair X (suc h) pl → Fair X h pl
  fair_down h k = record { len = k.len; sane = k.sane; tall = k.tall; zeroth = k.zeroth; tidy = λ j b. k.tidy j (omega arith) }

  -- the cell that is filled next has only empty cells under it
  pub bare : (h p n : ℕ) {pl : List ℕ} → Fair X h pl → Placeable X pl h p n → Under (row_at X.K h) p pl
  bare h p n k a = k.tidy h (omega arith) (row_at X.K h) p (rows X.K h a.high) a.row a.end a.free

  -- placing keeps a plan fair
  pub fair_kept : (h p n : ℕ) {pl : List ℕ} → Fair X h pl → Placeable X pl h p n → Fair X h (placed X h p n pl)
  unfolding placed
  fair_kept h p n {pl} k a = record {
    len = len_place X h (row_at X.K h) p n pl ∙ k.len;
    sane = sane_kept X r f S M pl h p n k.len k.sane a;
    tall = tall_kept X r f S pl h p n k.len k.tall a;
    zeroth = zero_kept X pl h p n k.len k.zeroth a;
    tidy = place_tidy h (row_at X.K h) p n pl (rows X.K h a.high) a.row a.end k.len a.listed k.tidy (bare h p n k a);
  }

  -- filled cells keep their pins
  pub stays : (h p n : ℕ) {pl : List ℕ} → Fair X h pl → Placeable X pl h p n → (q : ℕ) → filled (get_or pl q empty) ≡ true → get_or (placed X h p n pl) q empty ≡ get_or pl q empty
  unfolding placed
  stays h p n {pl} k a q e = frame X h (row_at X.K h) p n pl q (λ i d. true_false (subst (λ (x : ℕ). filled (get_or pl x empty) ≡ true) d e) (bare h p n k a i))

  -- placing takes nothing out of the tree
  pub grows : (h p n : ℕ) {pl : List ℕ} → Fair X h pl → Placeable X pl h p n → Sub (tree_of X pl) (tree_of X (placed X h p n pl))
  unfolding tree_of placed
  grows h p n {pl} k a q e =
      let t = tree_in X.K pl q e in
      in_tree X.K (place X h (row_at X.K h) p n pl) t.0 q t.1 (rw len_place t.2) (stays h p n k a t.0 (rw t.3 t.4) ∙ t.3) t.4

  -- and puts the pin into it
  pub joins : (h p n : ℕ) {pl : List ℕ} → Fair X h pl → Placeable X pl h p n → In n (tree_of X (placed X h p n pl))
  unfolding tree_of placed
  joins zero p n k a = absurd (omega (arith, a.low))
  joins (suc h) p n {pl} k a =
      let w : ℕ = row_at X.K (suc h) in
      let e : w * (2 * 2 ^ h) ≡ 2 ^ X.K = rw (pow-succ' 2 h) at (rows X.K (suc h) a.high) in
      let b : p < 2 ^ X.K = omega (arith, a.end, wide w h) in
      in_tree X.K (place X (suc h) w p n pl) p n b (rw (len_place, k.len) (omega (arith, two_step X.K))) (head X (suc h) w p n pl (omega (arith, a.row, a.end)) (rw k.len (omega (arith, two_step X.K)))) (listed_filled n a.listed)

  -- placed pins of level 2 or more have placed operands
  pub closed : {h : ℕ} {pl : List ℕ} → Fair X h pl → Closed X r f S (tree_of X pl)
  unfolding tree_of
  closed {h} {pl} k p x s i l e = cone X r f S M pl k.len k.sane k.tall p e k.zeroth l x (below_in X.g X.done p x i).1

  -- S1
  pub same_reverse : {h : ℕ} {pl : List ℕ} → Fair X h pl → (x : ℕ) → 1 ≤ level_at X x → Out x (tree_of X pl) → get_or (reverse_of X pl) x 0 ≡ get_or (start_levels X) x 0
  unfolding reverse_of
  same_reverse {h} {pl} k x l o = steady X r f S (tree_of X pl) (closed k) x l o
