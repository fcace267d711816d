-- Depths of little fuel, and levels between them and the whole depth. Assumes nothing.
use Prim.Native.Nat.{ℕ, zero, suc, ◌+◌, ◌≤◌, ◌<◌, min, max}
use mathlib.Core.Path.{◌≡◌, refl, sym, ◌∙◌, ap}
use mathlib.Core.Bool.{Bool, true, false}
use mathlib.Core.List.{List, [], ◌∷◌}
use native.Mathlib.Omega.{arith}
use native.Mathlib.Numerals.{add-one}
use lib.Dec.{ltb, eqb}
use lib.ListN.{length, get_or, set, length-set, replicate, length-replicate, get_or-eq_default, get_or-replicate}
use lib.Seq.{get_or-set_same, get_or-set_other, set-get_or}
use borrow.Author.Tests.{ltb-true, ltb-false}
use Rattle.rules.specs.Lists.{mem}
use Rattle.rules.specs.Graph.{Node, leaf, gate, pin_of, operands, below, graph_of, pin_count}
use Rattle.rules.specs.Traversal.{over}
use Rattle.rules.specs.Depth.{depth}
use Rattle.rules.specs.Loops.{Valid}
use Rattle.rules.specs.Inside.Walks.{rank}
use Rattle.rules.proofs.Lists.Members.{split, eqb_true, eqb_false}
use Rattle.rules.proofs.Walk.Levels.{depth_at, over_least}
use Rattle.rules.proofs.Needed.Needs.{falls_always}
use Rattle.rules.proofs.Demand.{graph, graph_few}
use Rattle.graph.proofs.Gates.{graph_length}
use Rattle.plan_check_stage.specs.Marks.{marked}
use Rattle.mending.specs.Mend.{level_in}
use Rattle.mend_levels.specs.Levels.{Stops, level_by, Between, PassAt, Passed, LevelsAt, Levelled}

-- ---- depths of little fuel

-- greater numbers, a greater one above them
over_more : (m n : ℕ → ℕ) (xs : List ℕ) → ((x : ℕ) → m x ≤ n x) → over m xs ≤ over n xs
unfolding over
over_more m n [] h = omega arith
over_more m n (x ∷ xs) h = omega (arith, h x, over_more m n xs h)

over_min : (f : ℕ) (m n : ℕ → ℕ) (xs : List ℕ) → ((x : ℕ) → min f (m x) ≤ n x) → min (suc f) (over m xs) ≤ over n xs
unfolding over
over_min f m n [] h = omega arith
over_min f m n (x ∷ xs) h = omega (arith, h x, over_min f m n xs h)

module _ (g : List Node) (stop : List ℕ) where
  -- no more than the fuel
  depth_few : (f p : ℕ) → depth f g stop p ≤ f
  unfolding depth
  depth_few zero p = omega arith
  depth_few (suc f) p = over_least (depth f g stop) (below g stop p) (suc f) (λ x i. omega (arith, depth_few f x))

  -- more fuel, no less
  depth_more : (f p : ℕ) → depth f g stop p ≤ depth (suc f) g stop p
  unfolding depth
  depth_more zero p = omega arith
  depth_more (suc f) p = over_more (depth f g stop) (depth (suc f) g stop) (below g stop p) (λ x. depth_more f x)

  -- with fuel f it is the whole depth or f
  depth_min : (f e p : ℕ) → min f (depth e g stop p) ≤ depth f g stop p
  unfolding depth
  depth_min zero e p = omega arith
  depth_min (suc f) zero p = omega arith
  depth_min (suc f) (suc e) p = over_min f (depth e g stop) (depth f g stop) (below g stop p) (λ x. depth_min f e x)

  -- none past the graph
  depth_past : (f p : ℕ) → length g ≤ p → depth f g stop p ≡ 0
  unfolding depth below operands over
  depth_past zero p h = refl
  depth_past (suc f) p h = split (mem p stop) (λ e. rw (e, below)) (λ e. rw (e, below, get_or-eq_default g leaf {n = p} h))

  -- the whole depth is one above the deepest operand's
  whole_at : Valid g → (n : ℕ) → n < length g → level_in g stop n ≡ over (depth (length g) g stop) (below g stop n)
  whole_at ok n h = depth_at g stop (rank g) (falls_always g (rank g) (graph g ok) stop) (length g) n (graph_few g ok n h)

-- ---- a level by levels so far

module _ (g : List Node) (stop marks levels : List ℕ) (S : Stops stop marks) (cap p : ℕ) (small : p < 65536) where
  level_by_lem : level_by g marks levels cap p ≡ min (over (λ q. get_or levels q 0) (below g stop p)) cap
  unfolding level_by below over
  level_by_lem = rw (level_by, S.says p small) (split (mem p stop) (λ e. rw (e, below, level_by) (omega arith)) (λ e. rw (e, below, level_by)))

-- ---- the code's cases

module _ (levels : List ℕ) (p i : ℕ) (e : i ≡ p) where
  -- a pin past the levels has none
  pub level_past : length levels ≤ i → 0 ≡ get_or levels p 0
  level_past h = sym (get_or-eq_default levels 0 {n = p} (omega arith))

  -- any pin has its own
  pub level_there : get_or levels i 0 ≡ get_or levels p 0
  level_there = rw e

module _ (g : List Node) (marks levels : List ℕ) (cap p : ℕ) where
  -- a pin to stop at
  pub by_stop : (t : Bool) → t ≡ marked marks p → t ≡ true → 0 ≡ level_by g marks levels cap p
  unfolding level_by
  by_stop t e d = let z : marked marks p ≡ true = sym e ∙ d in rw (level_by, z)

  module _ (t : Bool) (e : t ≡ marked marks p) (d : t ≡ false) where
    -- a leaf
    pub by_leaf : leaf ≡ get_or g p leaf → 0 ≡ level_by g marks levels cap p
    unfolding level_by operands over
    by_leaf l = let z : marked marks p ≡ false = sym e ∙ d in rw (level_by, z, ← l) (omega arith)

    -- a gate
    pub by_gate : (a b : ℕ) → gate a b ≡ get_or g p leaf → (x y u v r : ℕ) → x ≡ pin_of a → y ≡ pin_of b → u ≡ get_or levels x 0 → v ≡ get_or levels y 0 → r ≡ min (suc (max u v)) cap → r ≡ level_by g marks levels cap p
    unfolding level_by operands over
    by_gate a b l x y u v r ex ey eu ev er =
        let z : marked marks p ≡ false = sym e ∙ d in
        let m : get_or levels (pin_of a) 0 ≡ u = rw (← ex) (sym eu) in
        let n : get_or levels (pin_of b) 0 ≡ v = rw (← ey) (sym ev) in
        rw (level_by, z, ← l, m, n) (omega arith)

  -- never above the cap
  by_cap : level_by g marks levels cap p ≤ cap
  unfolding level_by
  by_cap = split (marked marks p) (λ e. rw (level_by, e) (omega arith)) (λ e. rw (level_by, e) (omega arith))

-- ---- a pass

-- the pins before i are a step further
pub record PassedTo (g : List Node) (marks : List ℕ) (cap : ℕ) (levels : List ℕ) (i : ℕ) (now : List ℕ) (changed : Bool) : Type 0 where
  pub len : length now ≡ length levels
  pub upto : i ≤ length g
  pub held : (stop : List ℕ) → Stops stop marks → (f : ℕ) → f < cap → Between g stop f levels → Between g stop f now
  pub further : (stop : List ℕ) → Stops stop marks → (f : ℕ) → f < cap → Between g stop f levels → (n : ℕ) → n < i → depth (suc f) g stop n ≤ get_or now n 0
  pub capped : ((n : ℕ) → get_or levels n 0 ≤ cap) → (n : ℕ) → get_or now n 0 ≤ cap
  pub still : changed ≡ false → now ≡ levels

module _ (gates marks levels : List ℕ) (A : PassAt gates levels) (cap : ℕ) where
  pub passed_none : PassedTo (graph_of gates) marks cap levels 0 levels false
  passed_none = record { len = refl; upto = omega arith; held = λ stop S f h B. B; further = λ stop S f h B n b. absurd (omega arith); capped = λ h. h; still = λ e. refl }

  module _ (i : ℕ) (now : List ℕ) (b : Bool) (R : PassedTo (graph_of gates) marks cap levels i now b) (m : ℕ) (em : m ≡ pin_count gates) (h : i < m) where
    -- the pin is there
    pub next_inside : (i < 65536) × (i < length now)
    next_inside = omega (arith, A.pins, A.size, R.len)

    inside : i < length (graph_of gates)
    inside = omega (arith, graph_length gates)

    module _ (v : ℕ) (ev : v ≡ level_by (graph_of gates) marks now cap i) where
      at_next : get_or (set now i v) i 0 ≡ v
      at_next = get_or-set_same now i v 0 next_inside.1

      off_next : (n : ℕ) → eqb n i ≡ false → get_or (set now i v) n 0 ≡ get_or now n 0
      off_next n e = get_or-set_other now i n v 0 (eqb_false n i e)

      module _ (stop : List ℕ) (S : Stops stop marks) (f : ℕ) (k : f < cap) (B : Between (graph_of gates) stop f now) where
        is : v ≡ min (over (λ q. get_or now q 0) (below (graph_of gates) stop i)) cap
        is = ev ∙ level_by_lem (graph_of gates) stop marks now S cap i next_inside.0

        -- a step of fuel further
        low : depth (suc f) (graph_of gates) stop i ≤ v
        unfolding depth
        low = omega (arith, is, depth_few (graph_of gates) stop (suc f) i, over_more (depth f (graph_of gates) stop) (λ q. get_or now q 0) (below (graph_of gates) stop i) B.least)

        -- and no deeper than the pin is
        high : v ≤ level_in (graph_of gates) stop i
        high = omega (arith, is, whole_at (graph_of gates) stop A.valid i inside, over_more (λ q. get_or now q 0) (depth (length (graph_of gates)) (graph_of gates) stop) (below (graph_of gates) stop i) B.most)

        next_between : Between (graph_of gates) stop f (set now i v)
        next_between = record {
          least = λ n. split (eqb n i)
              (λ e. rw (eqb_true n i e, at_next) (omega (arith, low, depth_more (graph_of gates) stop f i)))
              (λ e. rw (off_next n e) (B.least n));
          most = λ n. split (eqb n i) (λ e. rw (eqb_true n i e, at_next) high) (λ e. rw (off_next n e) (B.most n));
        }

      stored : (c : Bool) → (c ≡ false → set now i v ≡ levels) → PassedTo (graph_of gates) marks cap levels (i + 1) (set now i v) c
      stored c s = record {
        len = length-set now i v ∙ R.len;
        upto = omega (arith, inside);
        held = λ stop S f k B. next_between stop S f k (R.held stop S f k B);
        further = λ stop S f k B n j. split (eqb n i)
            (λ e. rw (eqb_true n i e, at_next) (low stop S f k (R.held stop S f k B)))
            (λ e. rw (off_next n e) (R.further stop S f k B n (let d = eqb_false n i e in omega arith)));
        capped = λ j n. split (eqb n i) (λ e. rw (eqb_true n i e, at_next, ev) (by_cap (graph_of gates) marks now cap i)) (λ e. rw (off_next n e) (R.capped j n));
        still = s;
      }

      -- its level changes
      pub passed_other : PassedTo (graph_of gates) marks cap levels (i + 1) (set now i v) true
      passed_other = stored true (λ e. absurd (let z : ◌≡◌ {A = ℕ} 0 1 = cc in omega arith))

      -- or doesn't
      pub passed_same : get_or now i 0 ≡ v → PassedTo (graph_of gates) marks cap levels (i + 1) now b
      passed_same e =
          let z : set now i v ≡ now = rw (← e) (set-get_or now i 0) in
          rw z at (stored b (λ d. z ∙ R.still d))

  pub passed_all : (i : ℕ) (now : List ℕ) (b : Bool) → PassedTo (graph_of gates) marks cap levels i now b → (m : ℕ) → m ≡ pin_count gates → m ≤ i → Passed (graph_of gates) marks cap levels now b
  passed_all i now b R m em h = record {
    len = R.len;
    further = λ stop S f k B. record {
      least = λ n. split (ltb n i)
          (λ t. R.further stop S f k B n (ltb-true n i t))
          (λ t. omega (arith, depth_past (graph_of gates) stop (suc f) n (omega (arith, ltb-false n i t, graph_length gates))));
      most = (R.held stop S f k B).most;
    };
    capped = R.capped;
    still = R.still;
  }

-- ---- all passes

-- the levels after r passes
pub record Risen (g : List Node) (marks : List ℕ) (cap size r : ℕ) (now : List ℕ) : Type 0 where
  pub len : length now ≡ size
  pub upto : r ≤ cap
  pub between : (stop : List ℕ) → Stops stop marks → Between g stop r now
  pub capped : (n : ℕ) → get_or now n 0 ≤ cap

zeros : (k n : ℕ) → ◌≡◌ {A = ℕ} (get_or (replicate k 0) n 0) 0
zeros k n = split (ltb n k) (λ t. get_or-replicate {A = ℕ} k n 0 0 (ltb-true n k t)) (λ t. get_or-eq_default {A = ℕ} (replicate k 0) 0 {n = n} (omega (arith, length-replicate {A = ℕ} k 0, ltb-false n k t)))

module _ (K : ℕ) (gates marks levels : List ℕ) (A : LevelsAt K gates levels) (cap : ℕ) (ec : cap ≡ K + 1) (size : ℕ) (es : size ≡ length levels) where
  -- none before the first
  pub risen_none : (now : List ℕ) → now ≡ replicate (length levels) 0 → Risen (graph_of gates) marks cap size 0 now
  unfolding depth
  risen_none now e = record {
    len = omega (arith, ap length e, length-replicate {A = ℕ} (length levels) 0);
    upto = omega arith;
    between = λ stop S. record { least = λ n. omega arith; most = λ n. rw (e, zeros (length levels) n) (omega arith) };
    capped = λ n. rw (e, zeros (length levels) n) (omega arith);
  }

  module _ (r : ℕ) (now : List ℕ) (R : Risen (graph_of gates) marks cap size r now) where
    -- the next may begin
    pub next_pass : PassAt gates now
    next_pass = record { pins = A.at.pins; size = omega (arith, A.at.size, R.len); valid = A.at.valid }

    -- at the cap they are told
    capped_levels : ((stop : List ℕ) → Stops stop marks → Between (graph_of gates) stop cap now) → Levelled K (graph_of gates) marks levels now
    capped_levels B = record {
      len = omega (arith, R.len);
      tells = λ stop S. record { each = λ n. omega (arith, R.capped n, (B stop S).least n, (B stop S).most n, depth_min (graph_of gates) stop cap (length (graph_of gates)) n) };
    }

    pub risen_all : cap ≤ r → Levelled K (graph_of gates) marks levels now
    risen_all h = let e : r ≡ cap = omega (arith, R.upto) in capped_levels (rw e at R.between)

    module _ (h : r < cap) (now' : List ℕ) (b : Bool) (P : Passed (graph_of gates) marks cap now now' b) where
      pub risen_more : Risen (graph_of gates) marks cap size (r + 1) now'
      risen_more = record {
        len = P.len ∙ R.len;
        upto = omega arith;
        between = λ stop S. rw (add-one r) (P.further stop S r h (R.between stop S));
        capped = P.capped R.capped;
      }

      -- where nothing changes, every fuel up to the cap has been reached
      ever : now' ≡ now → (stop : List ℕ) → Stops stop marks → (f : ℕ) → f ≤ cap → Between (graph_of gates) stop f now
      unfolding depth
      ever z stop S zero k = record { least = λ n. omega arith; most = (R.between stop S).most }
      ever z stop S (suc f) k = rw z at (P.further stop S f (omega arith) (ever z stop S f (omega arith)))

      -- such a pass is the last
      pub risen_still : b ≡ false → Levelled K (graph_of gates) marks levels now'
      risen_still e =
          let z = P.still e in
          rw z (capped_levels (λ stop S. ever z stop S cap (omega arith)))
