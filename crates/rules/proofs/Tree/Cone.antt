-- The tree holds all operands of a pin of level 2 or more, so an unplaced pin above level 0 is reached past no placed pin. Assumes nothing.
use Prim.Native.Nat.{ℕ, zero, suc, ◌+◌, ◌*◌, ◌^◌, ◌≤◌, ◌<◌}
use mathlib.Core.Path.{◌≡◌, sym, ◌∙◌}
use mathlib.Core.Logic.{inl, inr}
use mathlib.Core.Bool.{true, false}
use mathlib.Core.List.{List, [], ◌∷◌, ◌++◌}
use native.Mathlib.Omega.{arith}
use native.Mathlib.Nat.{pow-succ'}
use lib.Dec.{ltb}
use lib.ListN.{length, get_or, set}
use borrow.Author.Tests.{ltb-true, ltb-false}
use Rattle.rules.specs.Lists.{mem, In, Out}
use Rattle.rules.specs.Cells.{filled, empty, row_at}
use Rattle.rules.specs.Graph.{leaf, gate, pin_of, operands, below}
use Rattle.rules.specs.Traversal.{Setting, level_at}
use Rattle.rules.specs.Placing.{place, tree}
use Rattle.rules.specs.Depth.{depth}
use Rattle.rules.proofs.Lists.Members.{split, true_false, in_cons, in_nil, out_append}
use Rattle.rules.specs.Loops.{From, start, step}
use Rattle.rules.proofs.Walk.Reverse.{below_in, in_below, from_in, topo_closed}
use Rattle.rules.proofs.Walk.Levels.{over_above}
use Rattle.rules.proofs.Fold.Whole.{above_zero}
use Rattle.rules.specs.Inside.Walks.{Sound, Marked}
use Rattle.rules.proofs.Tree.Held.{tree_in, in_tree, node}
use Rattle.rules.proofs.Stage.Staged.{two_step}
use Rattle.rules.specs.Inside.Plans.{Placeable, Step, copies, splits, Sane, Tall}
use Rattle.rules.proofs.Tree.Loads.{wide, rows, set_either, first, second, level_is}
use Rattle.rules.proofs.Tree.Sane.{same_row}

double : (w m k : ℕ) → w * (2 * m) ≡ k → (2 * w) * m ≡ k
double w m k e = omega arith

-- the row of a position above level 0
row_of_from : (m n h w i : ℕ) → w * 2 ^ h ≡ m → w ≤ i → i < w * 2 ^ n → n ≤ h → (j : ℕ) × (v : ℕ) × (v * 2 ^ j ≡ m) × (v ≤ i) × (i < v + v)
row_of_from m zero h w i e a b c = absurd (omega arith)
row_of_from m (suc n) zero w i e a b c = absurd (omega arith)
row_of_from m (suc n) (suc h) w i e a b c =
    let e1 : w * (2 * 2 ^ h) ≡ m = rw (pow-succ' 2 h) at e in
    let b1 : i < w * (2 * 2 ^ n) = rw (pow-succ' 2 n) at b in
    split (ltb i (w + w)) (λ t. (suc h, w, e, a, ltb-true i (w + w) t))
    (λ t. row_of_from m n h (2 * w) i (omega arith) (omega (arith, ltb-false i (w + w) t)) (omega arith) (omega arith))

row_of : (K i : ℕ) → 1 ≤ i → i < 2 ^ K → (j : ℕ) × (v : ℕ) × (v * 2 ^ j ≡ 2 ^ K) × (v ≤ i) × (i < v + v)
row_of K i a b = row_of_from (2 ^ K) K K 1 i (omega arith) a (omega arith) (omega arith)

-- what is followed from a listed pin is of a lower level
pub over_level : (X : Setting) (r : ℕ → ℕ) (f : ℕ) (S : Sound X r f) (q x : ℕ) → In q X.seen → In x (below X.g X.done q) → level_at X x < level_at X q
over_level X r f S q x s i =
    let j : In x X.seen = topo_closed X.g X.done S.visited.topo q x s i in
    omega (arith, S.level x j, level_is X r f S q s, over_above (depth f X.g X.done) (below X.g X.done q) x i)

module _ (X : Setting) (r : ℕ → ℕ) (f : ℕ) (S : Sound X r f) where
  set_tall : (pl : List ℕ) (h w p n : ℕ) → w * 2 ^ h ≡ 2 ^ X.K → w ≤ p → p < w + w → Tall X pl → In n X.seen → level_at X n ≤ h → Tall X (set pl p n)
  set_tall pl h w p n e a b k i l h2 w2 q e2 a2 b2 g = elim (set_either pl p n q empty) [
    | inl d ↦ rw d.1 (i, elim (same_row (2 ^ X.K) h h2 w w2 e e2) [ inl c ↦ omega arith | inr c ↦ elim c [ inl y ↦ absurd (omega (arith, d.0)) | inr y ↦ absurd (omega (arith, d.0)) ] ])
    | inr d ↦ rw d (k h2 w2 q e2 a2 b2 (rw d at g))
  ]

  place_tall : (h w p n : ℕ) (pl : List ℕ) → w * 2 ^ h ≡ 2 ^ X.K → w ≤ p → p < w + w → In n X.seen → level_at X n ≤ h → Tall X pl → Tall X (place X h w p n pl)
  unfolding place
  place_tall zero w p n pl e a b i l k = set_tall pl zero w p n e a b k i l
  place_tall (suc h) w p n pl e a b i l k =
      let e1 : w * (2 * 2 ^ h) ≡ 2 ^ X.K = rw (pow-succ' 2 h) at e in
      let e2 : (2 * w) * 2 ^ h ≡ 2 ^ X.K = omega arith in
      let k2 : Tall X (set pl p n) = set_tall pl (suc h) w p n e a b k i l in
      split (ltb (level_at X n) (suc h))
      (λ d. rw (d, place) (place_tall h (2 * w) (p + w) n (set pl p n) e2 (omega arith) (omega arith) i (omega (arith, ltb-true (level_at X n) (suc h) d)) k2))
      (λ d. node (get_or X.g n leaf) (λ c. rw (d, c, place) k2)
      (λ x y c.
      let v : suc h ≤ level_at X n = ltb-false (level_at X n) (suc h) d in
      let m1 = first X r f S n x y i (omega arith) c in
      let m2 = second X r f S n x y i (omega arith) c in
      rw (d, c, place) (place_tall h (2 * w) (p + 2 * w) (pin_of y) (place X h (2 * w) (p + w) (pin_of x) (set pl p n)) e2 (omega arith) (omega arith) m2.0 (omega (arith, m2.1))
      (place_tall h (2 * w) (p + w) (pin_of x) (set pl p n) e2 (omega arith) (omega arith) m1.0 (omega (arith, m1.1)) k2))))

  -- placing keeps every cell's pin listed, and of no higher level than the cell
  pub tall_kept : (pl : List ℕ) (h p n : ℕ) → length pl ≡ 2 ^ (X.K + 1) → Tall X pl → Placeable X pl h p n → Tall X (place X h (row_at X.K h) p n pl)
  tall_kept pl h p n l k a = place_tall h (row_at X.K h) p n pl (rows X.K h a.high) a.row a.end a.listed a.level k

  module _ (M : Marked X) (pl : List ℕ) (len : length pl ≡ 2 ^ (X.K + 1)) (sane : Sane X (λ q. ⊥) pl) (tall : Tall X pl) where
    inside : (h w q x : ℕ) → w * 2 ^ suc h ≡ 2 ^ X.K → q < w + w → get_or pl q empty ≡ x → filled x ≡ true → In x (tree X.K pl)
    inside h w q x e b z g = let e1 : w * (2 * 2 ^ h) ≡ 2 ^ X.K = rw (pow-succ' 2 h) at e in in_tree X.K pl q x (omega (arith, wide w h)) (omega (arith, wide w h, two_step X.K)) z g

    -- down from a cell that holds n to the cell that splits it
    abbrev Down : ℕ → Type 0
    Down h = (w q n : ℕ) → w * 2 ^ h ≡ 2 ^ X.K → w ≤ q → q < w + w → get_or pl q empty ≡ n → filled n ≡ true → 2 ≤ level_at X n → (x : ℕ) → In x (operands (get_or X.g n leaf)) → In x (tree X.K pl)

    deep : (h w q n : ℕ) → Down (suc h) → (2 * w) * 2 ^ suc h ≡ 2 ^ X.K → w ≤ q → q < w + w → get_or pl q empty ≡ n → filled n ≡ true → 2 ≤ level_at X n → (x : ℕ) → In x (operands (get_or X.g n leaf)) → Step X pl w q → In x (tree X.K pl)
    unfolding operands
    deep h w q n ih e a b z g l x o (copies c) = ih (2 * w) (q + w) n e (omega arith) (omega arith) (c ∙ z) g l x o
    deep h w q n ih e a b z g l x o (splits {a = i} {b = j} d c u v) =
        let c2 : get_or X.g n leaf ≡ gate i j = rw z at c in
        let m = M n i j c2 in
        elim (in_cons x (pin_of i) (pin_of j ∷ []) (rw c2 at o)) [
          | inl t ↦ inside h (2 * w) (q + w) x e (omega arith) (u ∙ sym t) (rw t m.0)
          | inr t ↦ elim (in_cons x (pin_of j) [] t) [ inl y ↦ inside h (2 * w) (q + 2 * w) x e (omega arith) (v ∙ sym y) (rw y m.1) | inr y ↦ in_nil x y ]
        ]

    descend : (h : ℕ) → Down h
    descend zero w q n e a b z g l x o = absurd (let t : level_at X n ≤ 0 = rw z at (tall 0 w q e a b (rw z g)).1 in omega arith)
    descend (suc zero) w q n e a b z g l x o = absurd (let t : level_at X n ≤ 1 = rw z at (tall 1 w q e a b (rw z g)).1 in omega arith)
    descend (suc (suc h)) w q n e a b z g l x o =
        let e1 : w * (2 * 2 ^ suc h) ≡ 2 ^ X.K = rw (pow-succ' 2 (suc h)) at e in
        deep h w q n (descend (suc h)) (double w (2 ^ suc h) (2 ^ X.K) e1) a b z g l x o (sane (suc h) w q e a b (λ y. y) (rw z g))

    -- all operands of a placed pin of level 2 or more are placed
    pub cone : (n : ℕ) → In n (tree X.K pl) → filled (get_or pl 0 empty) ≡ false → 2 ≤ level_at X n → (x : ℕ) → In x (operands (get_or X.g n leaf)) → In x (tree X.K pl)
    cone n i no_zero l x o =
        let t = tree_in X.K pl n i in
        let k = row_of X.K t.0 (above_zero pl t.0 n no_zero t.3 t.4) t.1 in
        descend k.0 k.1 t.0 n k.2 k.3 k.4 t.3 t.4 l x o

    -- so an unplaced pin above level 0 is reached past no placed pin
    pub unplaced : filled (get_or pl 0 empty) ≡ false → {p : ℕ} → From X.g X.done X.waiting p → 1 ≤ level_at X p → Out p (tree X.K pl) → From X.g (tree X.K pl ++ X.done) X.waiting p
    unplaced no_zero (start i) l o = start i
    unplaced no_zero (step {q = q} {x = x} fr i) l o =
        let b = below_in X.g X.done q x i in
        let s : In q X.seen = from_in X.g X.done X.waiting S.visited.topo S.visited.has fr in
        let up : level_at X x < level_at X q = over_level X r f S q x s i in
        let oq : Out q (tree X.K pl) = split (mem q (tree X.K pl)) (λ c. true_false (cone q c no_zero (omega arith) x b.1) o) (λ c. c) in
        step (unplaced no_zero fr (omega arith) oq) (in_below X.g (tree X.K pl ++ X.done) q x (out_append q (tree X.K pl) X.done oq b.0) b.1)
