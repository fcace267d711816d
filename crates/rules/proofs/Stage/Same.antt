-- A stage under another word rule: rules 1 to 7 and 9 give the same cells, and so does one run of rule 8. Assumes nothing.
use Prim.Native.Nat.{ℕ, zero, suc, ◌+◌, ◌*◌}
use mathlib.Core.Path.{◌≡◌, refl, ◌∙◌, ap}
use mathlib.Core.Bool.{not, ◌&&◌, ◌||◌}
use mathlib.Core.List.{List, [], ◌∷◌}
use lib.Dec.{ltb, eqb}
use lib.ListN.{get_or, set}
use Rattle.rules.specs.Lists.{Found, nothing, found, mem, distinct, gather}
use Rattle.rules.specs.Cells.{empty, filled, row_at, row, first_empty}
use Rattle.rules.specs.Graph.{leaf, pin_of}
use Rattle.rules.specs.Traversal.{WordRule, Setting, level_at, reverse_levels}
use Rattle.rules.specs.Placing.{choose, place, asked, asks, needed, tree, tree_of, reverse_of, needed_of, roomy, cell_at, pin_at, placed, fill, filled_plan}
use Rattle.rules.specs.Ending.{Sparse, Put, meet, fill_in, put_cell, put_cells, put_run, put_rest}
use Rattle.rules.proofs.Lists.Members.{split}
use Rattle.rules.proofs.Tree.Held.{node}
use Rattle.rules.proofs.Stage.Puts.{list, cell}

-- a stage's setting under another word rule
abbrev pub under : WordRule → Setting → Setting
under v X = record { rule = v; K = X.K; g = X.g; done = X.done; waiting = X.waiting; seen = X.seen; order = X.order; lv = X.lv }

gather_ext : (f h : ℕ → List ℕ) (xs : List ℕ) → ((x : ℕ) → f x ≡ h x) → gather f xs ≡ gather h xs
unfolding gather
gather_ext f h [] e = refl
gather_ext f h (x ∷ xs) e = rw (e x, gather_ext f h xs e)

-- ---- what no rule but 8 asks for

module _ (v : WordRule) (X : Setting) where
  same_place : (h w p n : ℕ) (pl : List ℕ) → place (under v X) h w p n pl ≡ place X h w p n pl
  unfolding place level_at
  same_place zero w p n pl = refl
  same_place (suc h) w p n pl = split (ltb (level_at X n) (suc h))
      (λ e. rw (e, place) (same_place h (2 * w) (p + w) n (set pl p n)))
      (λ e. node (get_or X.g n leaf) (λ d. rw (e, d, place))
      (λ a b d. rw (e, d, place) (ap (place (under v X) h (2 * w) (p + 2 * w) (pin_of b)) (same_place h (2 * w) (p + w) (pin_of a) (set pl p n)) ∙ same_place h (2 * w) (p + 2 * w) (pin_of b) _)))

  same_choose : (tr rl : List ℕ) (h : ℕ) (ps : List ℕ) (top : ℕ) (best : Found) → choose (under v X) tr rl h ps top best ≡ choose X tr rl h ps top best
  unfolding choose level_at
  same_choose tr rl h [] top best = refl
  same_choose tr rl h (p ∷ ps) top best = split (eqb (level_at X p) h && ltb top (get_or rl p 0) && not (mem p tr))
      (λ e. rw (e, choose) (same_choose tr rl h ps (get_or rl p 0) (found p))) (λ e. rw (e, choose) (same_choose tr rl h ps top best))

  same_asked : (tr : List ℕ) (p l : ℕ) → asked (under v X) tr p l ≡ asked X tr p l
  unfolding asked level_at
  same_asked tr p zero = refl
  same_asked tr p (suc zero) = refl
  same_asked tr p (suc (suc l)) = refl

  same_asks : (tr rl : List ℕ) (p : ℕ) → asks (under v X) tr rl p ≡ asks X tr rl p
  unfolding asks level_at
  same_asks tr rl p = split (ltb 0 (get_or rl p 0) && not (mem p tr)) (λ e. rw (e, asks) (same_asked tr p (level_at X p))) (λ e. rw (e, asks))

  -- the same pins are needed
  pub same_need : (pl : List ℕ) → needed_of (under v X) pl ≡ needed_of X pl
  unfolding needed_of needed tree_of reverse_of reverse_levels
  same_need pl = ap distinct (gather_ext _ _ X.order (same_asks (tree_of X pl) (reverse_of X pl)))

  same_roomy : (pl : List ℕ) → roomy (under v X) pl ≡ roomy X pl
  unfolding roomy tree_of
  same_roomy pl = rw (same_need pl)

  same_pin : (h : ℕ) (pl : List ℕ) → pin_at (under v X) h pl ≡ pin_at X h pl
  unfolding pin_at tree_of reverse_of reverse_levels
  same_pin h pl = same_choose (tree_of X pl) (reverse_of X pl) h X.order 0 nothing

  same_placed : (h p n : ℕ) (pl : List ℕ) → placed (under v X) h p n pl ≡ placed X h p n pl
  unfolding placed
  same_placed h p n pl = same_place h (row_at X.K h) p n pl

  same_fill : (f h : ℕ) (pl : List ℕ) → fill (under v X) f h pl ≡ fill X f h pl
  unfolding fill cell_at
  same_fill zero h pl = refl
  same_fill (suc f) zero pl = refl
  same_fill (suc f) (suc zero) pl = refl
  same_fill (suc f) (suc (suc l)) pl = cell (cell_at X (suc (suc l)) pl)
      (λ c. rw (c, fill) (same_fill f (suc l) pl))
      (λ p c. cell (pin_at X (suc (suc l)) pl)
      (λ d. rw (c, same_pin (suc (suc l)) pl, d, fill) (same_fill f (suc l) pl))
      (λ n d. split (roomy X (placed X (suc (suc l)) p n pl))
      (λ b. rw (c, same_pin (suc (suc l)) pl, d, same_placed (suc (suc l)) p n pl, same_roomy (placed X (suc (suc l)) p n pl), b, fill) (ap (fill (under v X) f (suc (suc l))) (same_placed (suc (suc l)) p n pl) ∙ same_fill f (suc (suc l)) (placed X (suc (suc l)) p n pl)))
      (λ b. rw (c, same_pin (suc (suc l)) pl, d, same_placed (suc (suc l)) p n pl, same_roomy (placed X (suc (suc l)) p n pl), b, fill) (same_fill f (suc l) pl))))

  -- rules 2 to 7 give the same plan
  pub same_plan : filled_plan (under v X) ≡ filled_plan X
  unfolding filled_plan level_at
  same_plan = same_fill _ _ _

  -- ---- one cell of rule 8, one run, rule 9

  same_cell : (p : ℕ) (s : Put) → put_cell (under v X) p s ≡ put_cell X p s
  unfolding put_cell meet fill_in
  same_cell p s = list s.left (λ e. rw (e, put_cell))
      (λ y ys e. split (filled (get_or s.plan p empty)) (λ b. rw (e, b, put_cell)) (λ b. rw (e, b, same_place 1 (row_at X.K 1) p y s.plan, put_cell)))

  same_cells : (n p : ℕ) (s : Put) → put_cells (under v X) n p s ≡ put_cells X n p s
  unfolding put_cells
  same_cells zero p s = refl
  same_cells (suc n) p s = ap (put_cells (under v X) n (suc p)) (same_cell p s) ∙ same_cells n (suc p) (put_cell X p s)

  -- a run that is written is filled alike
  pub same_run : (r : Sparse) (s : Put) → put_run (under v X) r s ≡ put_run X r s
  unfolding put_run
  same_run r s = rw (same_cells 32 (row_at X.K 1 + r.start) s)

  -- rule 9 places the same pins in the same cells
  pub same_rest : (ps real pl : List ℕ) → put_rest (under v X) ps real pl ≡ put_rest X ps real pl
  unfolding put_rest
  same_rest [] real pl = refl
  same_rest (p ∷ ps) real pl = split (mem p real || mem p (tree X.K pl))
      (λ b. rw (b, put_rest) (same_rest ps real pl))
      (λ b. cell (first_empty (row_at X.K 1) (row X.K 1 pl)) (λ n. rw (b, n, put_rest))
      (λ c n. rw (b, n, same_place 1 (row_at X.K 1) c p pl, put_rest) (same_rest ps real (place X 1 (row_at X.K 1) c p pl))))
