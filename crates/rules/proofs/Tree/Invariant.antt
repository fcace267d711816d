-- A property of plans that every placing keeps holds of the plan that a stage ends with. Assumes nothing.
use Prim.Native.Nat.{ℕ, zero, suc, ◌+◌, ◌-◌, ◌^◌, ◌≤◌, ◌<◌, min}
use mathlib.Core.Path.{◌≡◌, refl, ◌∙◌}
use mathlib.Core.Logic.{◌⊎◌, inl, inr}
use mathlib.Core.Bool.{Bool, false, not, ◌&&◌, ◌||◌}
use mathlib.Core.List.{List, [], ◌∷◌}
use native.Mathlib.Omega.{arith}
use lib.Dec.{eqb, ltb}
use lib.ListN.{length, get_or, drop, replicate, length-replicate, length-take, length-drop}
use lib.Seq.{get_or-take, get_or-drop}
use Rattle.rules.specs.Inside.Plans.{Placeable}
use Rattle.rules.specs.Lists.{mem, gather, Found, nothing, found, In}
use Rattle.rules.specs.Cells.{filled, empty, first_empty, row_at, row}
use Rattle.rules.specs.Traversal.{Setting, level_at}
use Rattle.rules.specs.Placing.{place, placed, tree, tree_of, reverse_of, needed_of, needed, asks, choose, cell_at, pin_at, roomy, fill, filled_plan}
use Rattle.rules.specs.Ending.{Put, meet, fill_in, put_cell, put_cells, Sparse, put_run, goes_on, put_runs, Plan?, full, plan, put_rest, in_need, last_stage, written, rest}
use Rattle.rules.proofs.Lists.Members.{split, eqb_true, and_true, in_here, in_there, in_nil, keep_in, gather_in, distinct_in}
use Rattle.rules.specs.Inside.Walks.{Sound}
use Rattle.rules.proofs.Needed.Needs.{need_listed, asked_low}
use Rattle.rules.proofs.Tree.Held.{first_empty_found}
use Rattle.rules.specs.Inside.Counts.{Runs, none, more}
use Rattle.rules.proofs.Stage.Puts.{list, cell, runs_fit}
use Rattle.rules.proofs.Stage.Lengths.{len_place}

-- the lowest empty cell of a row
pub row_empty : (K h : ℕ) (pl : List ℕ) (c : ℕ) → first_empty (row_at K h) (row K h pl) ≡ found c → (row_at K h ≤ c) × (c < row_at K h + row_at K h) × (filled (get_or pl c empty) ≡ false)
unfolding row
row_empty K h pl c e =
    let t = first_empty_found (row_at K h) (row K h pl) c e in
    let k : t.0 < min (row_at K h) (length pl - row_at K h) = simp (length-take, length-drop) at t.2 in
    let i : t.0 < row_at K h = omega arith in
    (omega (arith, t.1), omega (arith, t.1), rw (t.1, ← get_or-drop (row_at K h) pl t.0 empty, ← get_or-take (row_at K h) (drop (row_at K h) pl) t.0 empty i) t.3)

-- the pin that rule 4 chooses
pub choose_good : (X : Setting) (tr rl : List ℕ) (h : ℕ) (ps : List ℕ) (top : ℕ) (best : Found) (n : ℕ) → choose X tr rl h ps top best ≡ found n → (best ≡ found n) ⊎ (In n ps × (level_at X n ≡ h))
unfolding choose
choose_good X tr rl h [] top best n e = inl e
choose_good X tr rl h (p ∷ ps) top best n e = split (eqb (level_at X p) h && ltb top (get_or rl p 0) && not (mem p tr))
    (λ b. elim (choose_good X tr rl h ps (get_or rl p 0) (found p) n (rw (b, choose) at e)) [
      | inl d ↦ let z : n ≡ p = cc in inr (rw z (in_here p ps), rw z (eqb_true (level_at X p) h (and_true (eqb (level_at X p) h) (ltb top (get_or rl p 0)) (and_true (eqb (level_at X p) h && ltb top (get_or rl p 0)) (not (mem p tr)) b).0).0))
      | inr d ↦ inr (in_there n p ps d.0, d.1)
    ])
    (λ b. elim (choose_good X tr rl h ps top best n (rw (b, choose) at e)) [ inl d ↦ inl d | inr d ↦ inr (in_there n p ps d.0, d.1) ])

-- one that may speak of the level that is being filled, and holds of lower ones too
module _ (X : Setting) (r : ℕ → ℕ) (f : ℕ) (S : Sound X r f) (tall : 1 ≤ X.K)
    (I : ℕ → List ℕ → Type 0) (lower : (j h : ℕ) (pl : List ℕ) → j ≤ h → I h pl → I j pl)
    (keeps : (pl : List ℕ) (h p n : ℕ) → length pl ≡ 2 ^ (X.K + 1) → I h pl → Placeable X pl h p n → I h (place X h (row_at X.K h) p n pl)) where
  -- the invariant, with the length
  abbrev pub Inv : ℕ → List ℕ → Type 0
  Inv h pl = (length pl ≡ 2 ^ (X.K + 1)) × I h pl

  step : (pl : List ℕ) (h p n : ℕ) → Inv h pl → Placeable X pl h p n → Inv h (place X h (row_at X.K h) p n pl)
  step pl h p n k a = (len_place X h (row_at X.K h) p n pl ∙ k.0, keeps pl h p n k.0 k.1 a)

  down : (j h : ℕ) {pl : List ℕ} → j ≤ h → Inv h pl → Inv j pl
  down j h {pl} b k = (k.0, lower j h pl b k.1)

  -- rules 2 to 7
  fill_inv : (t h : ℕ) → h ≤ X.K → (pl : List ℕ) → Inv h pl → Inv 1 pl → Inv 1 (fill X t h pl)
  unfolding fill placed cell_at pin_at
  fill_inv zero h b pl k o = o
  fill_inv (suc t) zero b pl k o = o
  fill_inv (suc t) (suc zero) b pl k o = o
  fill_inv (suc t) (suc (suc l)) b pl k o = cell (cell_at X (suc (suc l)) pl) (λ e. rw (e, fill) (fill_inv t (suc l) (omega arith) pl (down (suc l) (suc (suc l)) (omega arith) k) o))
      (λ p e. cell (pin_at X (suc (suc l)) pl) (λ d. rw (e, d, fill) (fill_inv t (suc l) (omega arith) pl (down (suc l) (suc (suc l)) (omega arith) k) o))
      (λ n d. split (roomy X (placed X (suc (suc l)) p n pl))
      (λ q.
      let c = row_empty X.K (suc (suc l)) pl p e in
      let m : In n X.order × (level_at X n ≡ suc (suc l)) = elim (choose_good X (tree_of X pl) (reverse_of X pl) (suc (suc l)) X.order 0 nothing n d) [ inl z ↦ absurd (let y : ◌≡◌ {A = ℕ} 0 1 = cc in omega arith) | inr z ↦ z ] in
      let k2 : Inv (suc (suc l)) (place X (suc (suc l)) (row_at X.K (suc (suc l))) p n pl) =
      step pl (suc (suc l)) p n k (record { low = omega arith; high = b; row = c.0; end = c.1; free = c.2; listed = S.listed n m.0; level = omega (arith, m.1) }) in
      rw (e, d, q, fill) (fill_inv t (suc (suc l)) b (place X (suc (suc l)) (row_at X.K (suc (suc l))) p n pl) k2 (down 1 (suc (suc l)) (omega arith) k2)))
      (λ q. rw (e, d, q, fill) (fill_inv t (suc l) (omega arith) pl (down (suc l) (suc (suc l)) (omega arith) k) o))))

  -- if the empty plan has the property, so has the plan of rules 2 to 7
  filled_inv : ((h : ℕ) → I h (replicate (2 ^ (X.K + 1)) empty)) → Inv 1 (filled_plan X)
  unfolding filled_plan
  filled_inv i = fill_inv _ _ (omega arith) _ (length-replicate (2 ^ (X.K + 1)) empty, i _) (length-replicate (2 ^ (X.K + 1)) empty, i 1)

  need_low : (pl : List ℕ) (x : ℕ) → In x (needed_of X pl) → level_at X x ≤ 1
  unfolding needed_of needed asks
  need_low pl x e =
      let tr : List ℕ = tree_of X pl in
      let k = gather_in (asks X tr (reverse_of X pl)) x X.order (distinct_in x (gather (asks X tr (reverse_of X pl)) X.order) e) in
      split (ltb 0 (get_or (reverse_of X pl) k.0 0) && not (mem k.0 tr))
      (λ b. asked_low X tr k.0 (level_at X k.0) x refl (rw (b, asks) at k.2))
      (λ b. in_nil x (rw (b, asks) at k.2))

  abbrev Low : List ℕ → Type 0
  Low xs = (x : ℕ) → In x xs → In x X.seen × (level_at X x ≤ 1)

  at_level_1 : (pl : List ℕ) (p n : ℕ) → row_at X.K 1 ≤ p → p < row_at X.K 1 + row_at X.K 1 → filled (get_or pl p empty) ≡ false → In n X.seen × (level_at X n ≤ 1) → Placeable X pl 1 p n
  at_level_1 pl p n a b c d = record { low = omega arith; high = tall; row = a; end = b; free = c; listed = d.0; level = d.1 }

  -- rule 8
  cell_inv : (p : ℕ) (s : Put) → row_at X.K 1 ≤ p → p < row_at X.K 1 + row_at X.K 1 → Inv 1 s.plan × Low s.left → Inv 1 (put_cell X p s).plan × Low (put_cell X p s).left
  unfolding put_cell meet fill_in
  cell_inv p s a b k = list s.left (λ e. rw (e, put_cell) k)
      (λ y ys e. split (filled (get_or s.plan p empty)) (λ q. rw (e, q, put_cell) k)
      (λ q. rw (e, q, put_cell) (step s.plan 1 p y k.0 (at_level_1 s.plan p y a b q (k.1 y (rw e (in_here y ys)))), λ x i. k.1 x (rw e (in_there x y ys i)))))

  cells_inv : (n p : ℕ) (s : Put) → row_at X.K 1 ≤ p → p + n ≤ row_at X.K 1 + row_at X.K 1 → Inv 1 s.plan × Low s.left → Inv 1 (put_cells X n p s).plan × Low (put_cells X n p s).left
  unfolding put_cells
  cells_inv zero p s a b k = k
  cells_inv (suc n) p s a b k = cells_inv n (suc p) (put_cell X p s) (omega arith) (omega arith) (cell_inv p s a (omega arith) k)

  runs_inv : (last : Bool) {rs : List Sparse} → Runs (row_at X.K 1) rs → (s : Put) → Inv 1 s.plan × Low s.left → Inv 1 (put_runs X last rs s).plan
  unfolding put_runs put_run
  runs_inv last none s k = k.0
  runs_inv last (more {r = q} {rs = rs} h i) s k = split (goes_on X.rule last q.filled (length s.left))
      (λ e. rw (e, put_runs) (runs_inv last i (put_run X q s) (cells_inv 32 (row_at X.K 1 + q.start) s (omega arith) (omega arith) k)))
      (λ e. rw (e, put_runs) k.0)

  written_inv : (pl : List ℕ) → Inv 1 pl → Inv 1 (written X pl).plan
  unfolding written in_need
  written_inv pl k = runs_inv (last_stage X pl) (runs_fit X.K pl) (record { plan = pl; left = in_need X pl; real = []; words = [] })
      (k, λ x e. let i : In x (needed_of X pl) = (and_true (not (mem x (tree_of X pl))) (mem x (needed_of X pl)) (keep_in _ x X.waiting e).1).1 in (need_listed X r f S pl x i, need_low pl x i))

  -- rule 9
  rest_inv : (ps real pl pl2 : List ℕ) → Low ps → put_rest X ps real pl ≡ plan pl2 → Inv 1 pl → Inv 1 pl2
  unfolding put_rest
  rest_inv [] real pl pl2 w e k = let d : pl2 ≡ pl = cc in rw d k
  rest_inv (p ∷ ps) real pl pl2 w e k = split (mem p real || mem p (tree X.K pl))
      (λ b. rest_inv ps real pl pl2 (λ x i. w x (in_there x p ps i)) (rw (b, put_rest) at e) k)
      (λ b. cell (first_empty (row_at X.K 1) (row X.K 1 pl))
      (λ n. absurd (let z : ◌≡◌ {A = Plan?} full (plan pl2) = rw (b, n, put_rest) at e in let y : ◌≡◌ {A = ℕ} 0 1 = cc in omega arith))
      (λ c n.
      let at = row_empty X.K 1 pl c n in
      rest_inv ps real (place X 1 (row_at X.K 1) c p pl) pl2 (λ x i. w x (in_there x p ps i)) (rw (b, n, put_rest) at e) (step pl 1 c p k (at_level_1 pl c p at.0 at.1 at.2 (w p (in_here p ps))))))

  -- if the empty plan has the property, so has the plan after rule 9
  pub final_at : ((h : ℕ) → I h (replicate (2 ^ (X.K + 1)) empty)) → (pl2 : List ℕ) → rest X (filled_plan X) ≡ plan pl2 → (length pl2 ≡ 2 ^ (X.K + 1)) × I 1 pl2
  unfolding rest
  final_at i pl2 e = rest_inv (needed_of X (filled_plan X)) (written X (filled_plan X)).real (written X (filled_plan X)).plan pl2
      (λ x d. (need_listed X r f S (filled_plan X) x d, need_low (filled_plan X) x d)) e (written_inv (filled_plan X) (filled_inv i))

-- one that speaks of the plan alone
pub final : (X : Setting) (r : ℕ → ℕ) (f : ℕ) (S : Sound X r f) (tall : 1 ≤ X.K)
    (I : List ℕ → Type 0) (keeps : (pl : List ℕ) (h p n : ℕ) → length pl ≡ 2 ^ (X.K + 1) → I pl → Placeable X pl h p n → I (place X h (row_at X.K h) p n pl)) →
    I (replicate (2 ^ (X.K + 1)) empty) → (pl2 : List ℕ) → rest X (filled_plan X) ≡ plan pl2 → (length pl2 ≡ 2 ^ (X.K + 1)) × I pl2
final X r f S tall I keeps i = final_at X r f S tall (λ h. I) (λ j h pl b k. k) keeps (λ h. i)
