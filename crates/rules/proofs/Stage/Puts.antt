-- Rules 8 and 9: a stage that is not refused holds all that it held before and every needed pin. Assumes nothing.
use Prim.Native.Nat.{ℕ, zero, suc, ◌+◌, ◌-◌, ◌*◌, ◌/◌, ◌^◌, ◌≤◌, ◌<◌, min}
use mathlib.Core.Path.{◌≡◌, refl, sym, ◌∙◌}
use mathlib.Core.Logic.{inl, inr}
use mathlib.Core.Bool.{Bool, true, false, ◌&&◌, ◌||◌}
use mathlib.Core.List.{List, [], ◌∷◌}
use native.Mathlib.Omega.{arith}
use lib.Dec.{eqb, ltb, leb}
use lib.ListN.{length, get_or, take, drop, length-take, length-drop}
use lib.Seq.{get_or-set_same, get_or-set_other, get_or-take, get_or-drop}
use Rattle.rules.specs.Inside.Counts.{Runs, none, more}
use Rattle.rules.specs.Lists.{mem, count, Found, nothing, found, In, Sub}
use Rattle.rules.specs.Cells.{filled, empty, first_empty, row_at, row}
use Rattle.rules.specs.Traversal.{Setting}
use Rattle.rules.specs.Placing.{place, tree}
use Rattle.rules.specs.Ending.{Put, meet, fill_in, put_cell, put_cells, Sparse, put_run, goes_on, put_runs, add_sparse, sparse_from, sparse_runs, Plan?, full, plan, put_rest}
use Rattle.rules.proofs.Lists.Members.{split, in_here, in_there, in_cons, in_nil, keep_in, insert_in, insert_all_in, or_true}
use Rattle.rules.proofs.Tree.Held.{in_tree, tree_grows, length_place1, place1_other, first_empty_found}

-- a list is empty or has a head
pub list : {P : Type 0} (xs : List ℕ) → (xs ≡ [] → P) → ((y : ℕ) (ys : List ℕ) → xs ≡ y ∷ ys → P) → P
list [] n c = n refl
list (y ∷ ys) n c = c y ys refl

-- a search finds nothing or a cell
pub cell : {P : Type 0} (x : Found) → (x ≡ nothing → P) → ((c : ℕ) → x ≡ found c → P) → P
cell nothing n f = n refl
cell (found c) n f = f c refl

add_run_fits : (m : ℕ) (r : Sparse) → r.start + 32 ≤ m → {rs : List Sparse} → Runs m rs → Runs m (add_sparse r rs)
unfolding add_sparse
add_run_fits m r h none = more h none
add_run_fits m r h (more {r = s} {rs = ss} i k) = split (ltb s.filled r.filled || eqb s.filled r.filled && leb s.start r.start)
    (λ e. rw (e, add_sparse) (more i (add_run_fits m r h k))) (λ e. rw (e, add_sparse) (more h (more i k)))

runs_from_fits : (m n start : ℕ) (cells : List ℕ) → start + 32 * n ≤ m → {rs : List Sparse} → Runs m rs → Runs m (sparse_from n start cells rs)
unfolding sparse_from
runs_from_fits m zero start cells h k = k
runs_from_fits m (suc n) start cells h {rs} k = split (ltb (count filled (take 32 cells)) 10)
    (λ e. rw (e, sparse_from) (runs_from_fits m n (start + 32) (drop 32 cells) (omega arith) (add_run_fits m (record { filled = count filled (take 32 cells); start = start }) (omega arith) k)))
    (λ e. rw (e, sparse_from) (runs_from_fits m n (start + 32) (drop 32 cells) (omega arith) k))

-- the sparse runs lie inside level 1
pub runs_fit : (K : ℕ) (pl : List ℕ) → Runs (row_at K 1) (sparse_runs K pl)
unfolding sparse_runs row_at
runs_fit K pl = runs_from_fits (2 ^ (K - 1)) (2 ^ (K - 1) / 32) 0 (row K 1 pl) (omega arith) none

-- a height of at least 1, and a plan's length
module _ (X : Setting) (half : 2 ^ X.K ≡ row_at X.K 1 + row_at X.K 1) where
  -- pin e into the empty cell c of level 1
  pub placing : (pl : List ℕ) (c e : ℕ) → 2 ^ X.K ≤ length pl → row_at X.K 1 ≤ c → c < 2 ^ X.K → filled (get_or pl c empty) ≡ false → filled e ≡ true →
      Sub (tree X.K pl) (tree X.K (place X 1 (row_at X.K 1) c e pl)) × In e (tree X.K (place X 1 (row_at X.K 1) c e pl))
  placing pl c e l lo hi b d =
      let pl2 : List ℕ = place X 1 (row_at X.K 1) c e pl in
      let len : length pl2 ≡ length pl = length_place1 X (row_at X.K 1) c e pl in (
        tree_grows X.K pl pl2 c len b
            (λ i h n. place1_other X (row_at X.K 1) c e pl lo i (omega arith) ∙ get_or-set_other pl c i e empty n),
        in_tree X.K pl2 c e hi (omega arith)
            (place1_other X (row_at X.K 1) c e pl lo c (omega arith) ∙ get_or-set_same pl c e empty (omega arith)) d,
      )

  -- what the writing of runs keeps
  pub record Keeps (pl : List ℕ) (s : Put) : Type 0 where
    pub len : length s.plan ≡ length pl
    pub grows : Sub (tree X.K pl) (tree X.K s.plan)
    pub real : Sub s.real (tree X.K s.plan)
    pub fine : (x : ℕ) → In x s.left → filled x ≡ true

  module _ (pl : List ℕ) (l : 2 ^ X.K ≤ length pl) where
    -- a cell's turn keeps all that
    pub cell_keeps : (p : ℕ) (s : Put) → row_at X.K 1 ≤ p → p < 2 ^ X.K → Keeps pl s → Keeps pl (put_cell X p s)
    unfolding put_cell meet fill_in
    cell_keeps p s lo hi k = list s.left (λ e. rw (e, put_cell) k)
        (λ y ys e. split (filled (get_or s.plan p empty))
        (λ b. rw (e, b, put_cell) (record {
          len = k.len;
          grows = k.grows;
          real = λ q d. elim (insert_all_in q _ s.real d) [
            | inl c ↦ elim (in_cons q (get_or s.plan p empty) [] (keep_in _ q (get_or s.plan p empty ∷ []) c).0) [
              | inl a ↦ in_tree X.K s.plan p q hi (rw k.len (omega arith)) (sym a) (rw a b)
              | inr a ↦ in_nil q a
            ]
            | inr c ↦ k.real q c
          ];
          fine = k.fine;
        }))
        (λ b.
        let put = placing s.plan p y (rw k.len l) lo hi b (k.fine y (rw e (in_here y ys))) in
        rw (e, b, put_cell) (record {
          len = length_place1 X (row_at X.K 1) p y s.plan ∙ k.len;
          grows = λ q d. put.0 q (k.grows q d);
          real = λ q d. elim (insert_in q y s.real d) [ inl c ↦ rw c put.1 | inr c ↦ put.0 q (k.real q c) ];
          fine = λ q d. k.fine q (rw e (in_there q y ys d));
        })))

    -- and so do the turns of several
    pub cells_keep : (n p : ℕ) (s : Put) → row_at X.K 1 ≤ p → p + n ≤ 2 ^ X.K → Keeps pl s → Keeps pl (put_cells X n p s)
    unfolding put_cells
    cells_keep zero p s lo hi k = k
    cells_keep (suc n) p s lo hi k = cells_keep n (suc p) (put_cell X p s) (omega arith) (omega arith) (cell_keeps p s lo (omega arith) k)

    -- and so do all runs that are written
    pub runs_keep : (last : Bool) {rs : List Sparse} → Runs (row_at X.K 1) rs → (s : Put) → Keeps pl s → Keeps pl (put_runs X last rs s)
    unfolding put_runs put_run
    runs_keep last none s k = k
    runs_keep last (more {r = r} {rs = rs} h i) s k =
        let c : Keeps pl (put_cells X 32 (row_at X.K 1 + r.start) s) = cells_keep 32 (row_at X.K 1 + r.start) s (omega arith) (omega arith) k in
        split (goes_on X.rule last r.filled (length s.left))
        (λ e. rw (e, put_runs) (runs_keep last i (put_run X r s) (record { len = c.len; grows = c.grows; real = c.real; fine = c.fine })))
        (λ e. rw (e, put_runs) k)

  -- the lowest empty cell of level 1
  pub lowest : (pl : List ℕ) (c : ℕ) → 2 ^ X.K ≤ length pl → first_empty (row_at X.K 1) (row X.K 1 pl) ≡ found c → (row_at X.K 1 ≤ c) × (c < 2 ^ X.K) × (filled (get_or pl c empty) ≡ false)
  unfolding row
  lowest pl c l e =
      let h = first_empty_found (row_at X.K 1) (row X.K 1 pl) c e in
      let k : h.0 < min (row_at X.K 1) (length pl - row_at X.K 1) = simp (length-take, length-drop) at h.2 in
      let i : h.0 < row_at X.K 1 = omega arith in
      (omega (arith, h.1), omega (arith, h.1), rw (h.1, ← get_or-drop (row_at X.K 1) pl h.0 empty, ← get_or-take (row_at X.K 1) (drop (row_at X.K 1) pl) h.0 empty i) h.3)

  -- 9. the rest of the needed pins
  pub rest_holds : (ps real pl pl2 : List ℕ) → 2 ^ X.K ≤ length pl → Sub real (tree X.K pl) → ((x : ℕ) → In x ps → filled x ≡ true) → put_rest X ps real pl ≡ plan pl2 →
      (length pl2 ≡ length pl) × Sub (tree X.K pl) (tree X.K pl2) × Sub ps (tree X.K pl2)
  unfolding put_rest
  rest_holds [] real pl pl2 l k fine e = let d : pl2 ≡ pl = cc in (rw d, λ q c. rw d c, λ q c. in_nil q c)
  rest_holds (p ∷ ps) real pl pl2 l k fine e = split (mem p real || mem p (tree X.K pl))
      (λ b.
      let h = rest_holds ps real pl pl2 l k (λ x i. fine x (in_there x p ps i)) (rw (b, put_rest) at e) in
      let i : In p (tree X.K pl) = elim (or_true (mem p real) (mem p (tree X.K pl)) b) [ inl a ↦ k p a | inr a ↦ a ] in
      (h.0, h.1, λ q c. elim (in_cons q p ps c) [ inl a ↦ rw a (h.1 p i) | inr a ↦ h.2 q a ]))
      (λ b. cell (first_empty (row_at X.K 1) (row X.K 1 pl))
      (λ n. absurd (let z : ◌≡◌ {A = Plan?} full (plan pl2) = rw (b, n, put_rest) at e in let y : ◌≡◌ {A = ℕ} 0 1 = cc in omega arith))
      (λ c n.
      let at = lowest pl c l n in
      let pl1 : List ℕ = place X 1 (row_at X.K 1) c p pl in
      let len : length pl1 ≡ length pl = length_place1 X (row_at X.K 1) c p pl in
      let put = placing pl c p l at.0 at.1 at.2 (fine p (in_here p ps)) in
      let h = rest_holds ps real pl1 pl2 (omega arith) (λ q i. put.0 q (k q i)) (λ x i. fine x (in_there x p ps i)) (rw (b, n, put_rest) at e) in
      (h.0 ∙ len, λ q i. h.1 q (put.0 q i), λ q i. elim (in_cons q p ps i) [ inl a ↦ rw a (h.1 p put.1) | inr a ↦ h.2 q a ])))
