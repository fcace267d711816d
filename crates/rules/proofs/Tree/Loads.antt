-- What stands at level 0: listed pins of level 0. Assumes nothing.
use Prim.Native.Nat.{ℕ, zero, suc, ◌+◌, ◌-◌, ◌*◌, ◌^◌, ◌≤◌, ◌<◌}
use mathlib.Core.Path.{◌≡◌, refl, sym, ◌∙◌, ap}
use mathlib.Core.Logic.{◌⊎◌, inl, inr}
use mathlib.Core.Bool.{true}
use mathlib.Core.List.{List, [], ◌∷◌, ◌++◌}
use native.Mathlib.Omega.{arith}
use native.Mathlib.Nat.{pow-succ', mul-le-mul_left, one-le-pow, add-zero, add-suc}
use lib.Dec.{ltb}
use lib.ListN.{length, get_or, set, replicate}
use borrow.Author.Tests.{ltb-true, ltb-false}
use Rattle.rules.specs.Lists.{mem, In, Out}
use Rattle.rules.specs.Cells.{filled, empty, row_at}
use Rattle.rules.specs.Graph.{Node, leaf, gate, pin_of, operands, below}
use Rattle.rules.specs.Traversal.{WordRule, over, Setting, setting, level_at}
use Rattle.rules.specs.Placing.{place}
use Rattle.rules.specs.Ending.{stage, one_stage}
use Rattle.rules.specs.Depth.{depth}
use Rattle.rules.proofs.Lists.Members.{split, true_false, in_here, in_there, in_nil}
use Rattle.rules.proofs.Walk.Levels.{depth_at, over_above}
use Rattle.rules.proofs.Walk.Reverse.{in_below, topo_closed}
use Rattle.rules.specs.Inside.Walks.{Sound, Graph, Ready}
use Rattle.rules.proofs.Needed.Needs.{setting_sound}
use Rattle.rules.specs.Loops.{From}
use Rattle.rules.proofs.Stage.Staged.{the_end, stage_holds}
use Rattle.rules.proofs.Stage.Depth.{still_ready}
use Rattle.rules.proofs.Stage.Flat.{blank_replicate}
use Rattle.rules.specs.Inside.Plans.{Placeable}
use Rattle.rules.proofs.Tree.Invariant.{final}
use Rattle.rules.proofs.Tree.Held.{node}

-- a row above level 0 has at most half the cells of level 0
pub wide : (w h : ℕ) → w + w ≤ w * (2 * 2 ^ h)
wide w h = omega (arith, mul-le-mul_left w (one-le-pow h 2 (omega arith)))

-- a row's size by the height of the plan
pub row_size : (h k : ℕ) → 2 ^ k * 2 ^ h ≡ 2 ^ (k + h)
row_size zero k = rw add-zero (omega arith)
row_size (suc h) k = rw (add-suc, pow-succ' 2 h, pow-succ' 2 (k + h), ← row_size h k) (omega arith)

-- a row of level h, doubled h times, has the cells of level 0
pub rows : (K h : ℕ) → h ≤ K → row_at K h * 2 ^ h ≡ 2 ^ K
unfolding row_at
rows K h b = row_size h (K - h) ∙ (let e : K - h + h ≡ K = omega arith in rw e)

-- a cell after a set
pub set_either : (l : List ℕ) (p n q d : ℕ) → ((q ≡ p) × (get_or (set l p n) q d ≡ n)) ⊎ (get_or (set l p n) q d ≡ get_or l q d)
set_either [] p n q d = inr refl
set_either (x ∷ l) zero n zero d = inl (refl, refl)
set_either (x ∷ l) zero n (suc q) d = inr refl
set_either (x ∷ l) (suc p) n zero d = inr refl
set_either (x ∷ l) (suc p) n (suc q) d = elim (set_either l p n q d) [ inl e ↦ inl (ap suc e.0, e.1) | inr e ↦ inr e ]

module _ (X : Setting) (r : ℕ → ℕ) (f : ℕ) (S : Sound X r f) where
  -- a listed pin's level is one above the deepest pin that is followed from it, 0 if none is
  pub level_is : (n : ℕ) → In n X.seen → level_at X n ≡ over (depth f X.g X.done) (below X.g X.done n)
  level_is n i = S.level n i ∙ depth_at X.g X.done r S.ranked f n (S.fuel n i)

  -- a listed pin above level 0 is neither given nor realised
  pub not_done : (n : ℕ) → In n X.seen → 1 ≤ level_at X n → Out n X.done
  unfolding below over
  not_done n i h = split (mem n X.done) (λ e. absurd (let z = rw (e, below) at (level_is n i) in omega arith)) (λ e. e)

  -- a listed leaf is of level 0
  pub leaf_level : (n : ℕ) → In n X.seen → get_or X.g n leaf ≡ leaf → level_at X n ≡ 0
  unfolding below over operands
  leaf_level n i e = split (mem n X.done) (λ d. let z = rw (d, below) at (level_is n i) in z) (λ d. let z = rw (d, below, e) at (level_is n i) in z)

  -- the operands of a listed pin above level 0 are listed, and of lower levels
  pub operand : (n x : ℕ) → In n X.seen → 1 ≤ level_at X n → In x (operands (get_or X.g n leaf)) → In x X.seen × (level_at X x < level_at X n)
  operand n x i h o =
      let b : In x (below X.g X.done n) = in_below X.g X.done n x (not_done n i h) o in
      let j : In x X.seen = topo_closed X.g X.done S.visited.topo n x i b in
      (j, omega (arith, S.level x j, level_is n i, over_above (depth f X.g X.done) (below X.g X.done n) x b))

  -- so is the first pin of its gate
  pub first : (n a b : ℕ) → In n X.seen → 1 ≤ level_at X n → get_or X.g n leaf ≡ gate a b → In (pin_of a) X.seen × (level_at X (pin_of a) < level_at X n)
  unfolding operands
  first n a b i h e = operand n (pin_of a) i h (rw e (in_here (pin_of a) (pin_of b ∷ [])))

  -- and the second
  pub second : (n a b : ℕ) → In n X.seen → 1 ≤ level_at X n → get_or X.g n leaf ≡ gate a b → In (pin_of b) X.seen × (level_at X (pin_of b) < level_at X n)
  unfolding operands
  second n a b i h e = operand n (pin_of b) i h (rw e (in_there (pin_of b) (pin_of a) (pin_of b ∷ []) (in_here (pin_of b) [])))

  -- each filled cell holds a listed pin, at level 0 one of level 0
  abbrev pub Fine : List ℕ → Type 0
  Fine pl = (q : ℕ) → filled (get_or pl q empty) ≡ true → In (get_or pl q empty) X.seen × (2 ^ X.K ≤ q → level_at X (get_or pl q empty) ≡ 0)

  set_fine : (pl : List ℕ) (p n : ℕ) → Fine pl → In n X.seen → (2 ^ X.K ≤ p → level_at X n ≡ 0) → Fine (set pl p n)
  set_fine pl p n k i h q e = elim (set_either pl p n q empty) [
    | inl d ↦ rw d.1 (i, λ a. h (rw d.0 at a))
    | inr d ↦ rw d (k q (rw d at e))
  ]

  place_fine : (h w p n : ℕ) (pl : List ℕ) → w * 2 ^ h ≡ 2 ^ X.K → p < w + w → In n X.seen → level_at X n ≤ h → Fine pl → Fine (place X h w p n pl)
  unfolding place
  place_fine zero w p n pl e b i l k = set_fine pl p n k i (λ a. omega arith)
  place_fine (suc h) w p n pl e b i l k =
      let e1 : w * (2 * 2 ^ h) ≡ 2 ^ X.K = rw (pow-succ' 2 h) at e in
      let e2 : (2 * w) * 2 ^ h ≡ 2 ^ X.K = omega arith in
      let k2 : Fine (set pl p n) = set_fine pl p n k i (λ a. absurd (omega (arith, wide w h))) in
      split (ltb (level_at X n) (suc h))
      (λ d. rw (d, place) (place_fine h (2 * w) (p + w) n (set pl p n) e2 (omega arith) i (omega (arith, ltb-true (level_at X n) (suc h) d)) k2))
      (λ d. node (get_or X.g n leaf) (λ c. rw (d, c, place) k2)
      (λ x y c.
      let v : suc h ≤ level_at X n = ltb-false (level_at X n) (suc h) d in
      let a = first n x y i (omega arith) c in
      let z = second n x y i (omega arith) c in
      rw (d, c, place) (place_fine h (2 * w) (p + 2 * w) (pin_of y) (place X h (2 * w) (p + w) (pin_of x) (set pl p n)) e2 (omega arith) z.0 (omega (arith, z.1))
      (place_fine h (2 * w) (p + w) (pin_of x) (set pl p n) e2 (omega arith) a.0 (omega (arith, a.1)) k2))))

  -- placing keeps every filled cell so
  pub fine_kept : (pl : List ℕ) (h p n : ℕ) → length pl ≡ 2 ^ (X.K + 1) → Fine pl → Placeable X pl h p n → Fine (place X h (row_at X.K h) p n pl)
  fine_kept pl h p n l k a = place_fine h (row_at X.K h) p n pl (rows X.K h a.high) a.end a.listed a.level k

  -- and the empty plan is so
  pub fine_first : (m : ℕ) → Fine (replicate m empty)
  fine_first m q e = true_false e (blank_replicate m q)

-- each stage after the first loads only pins that the stage before holds above level 0
module _ (rule : WordRule) (K : ℕ) (g : List Node) (r : ℕ → ℕ) (G : Graph g r) (tall : 6 ≤ K) (small : length g ≤ empty)
    (done waiting : List ℕ) (R : Ready g r waiting) (room : ℕ) (plan2 words realised waiting2 : List ℕ) (e : one_stage rule K g done waiting room ≡ stage plan2 words realised waiting2)
    (room3 : ℕ) (plan3 words3 realised3 waiting3 : List ℕ) (d : one_stage rule K g (realised ++ done) waiting2 room3 ≡ stage plan3 words3 realised3 waiting3) where
  low : 1 ≤ K
  low = omega arith

  R2 : Ready g r waiting2
  R2 = still_ready rule K g r G tall small done waiting R room plan2 words realised waiting2 e

  abbrev W2 : Setting
  W2 = setting rule K g (realised ++ done) waiting2

  S2 : Sound W2 r (length g)
  S2 = setting_sound rule K g r G (realised ++ done) waiting2 R2.bounded

  -- all that the next stage loads was realised by this one
  pub loads : (q : ℕ) → 2 ^ K ≤ q → filled (get_or plan3 q empty) ≡ true → In (get_or plan3 q empty) realised
  unfolding setting
  loads q b h =
      let fine : Fine W2 r (length g) S2 plan3 =
      (final W2 r (length g) S2 low (Fine W2 r (length g) S2) (fine_kept W2 r (length g) S2) (fine_first W2 r (length g) S2 (2 ^ (K + 1))) plan3
      (the_end rule K g r G low small (realised ++ done) waiting2 R2.bounded room3 plan3 words3 realised3 waiting3 d).rested).1 in
      let c = fine q h in
      let i : From g (realised ++ done) waiting2 (get_or plan3 q empty) = elim (S2.visited.new (get_or plan3 q empty) c.0) [ inl a ↦ in_nil _ a | inr a ↦ a ] in
      stage_holds rule K g r G low small done waiting R.bounded room plan2 words realised waiting2 e (get_or plan3 q empty) i (sym (S2.level (get_or plan3 q empty) c.0) ∙ c.1 b)
