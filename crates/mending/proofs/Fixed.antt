-- A pin that a cell above fixes always fits its cell, so what stood there doesn't matter. Assumes nothing.
use Prim.Native.Nat.{ℕ, zero, suc, ◌+◌, ◌*◌, ◌^◌, ◌≤◌, ◌<◌}
use mathlib.Core.Path.{◌≡◌, refl, sym, ◌∙◌}
use mathlib.Core.Logic.{inl, inr}
use mathlib.Core.Bool.{true, false}
use mathlib.Core.List.{List, [], ◌∷◌}
use native.Mathlib.Omega.{arith}
use native.Mathlib.Nat.{pow-succ'}
use lib.ListN.{length, get_or, set}
use Rattle.rules.specs.Lists.{mem, Out}
use Rattle.rules.specs.Cells.{empty, filled, level_of, row_start, first_lower, second_lower, stage_size}
use Rattle.rules.specs.Graph.{Node, leaf, gate, pin_of, operands, below}
use Rattle.rules.specs.Traversal.{over}
use Rattle.rules.specs.Depth.{depth}
use Rattle.rules.specs.Loops.{Valid}
use Rattle.rules.specs.Inside.Walks.{rank}
use Rattle.rules.proofs.Lists.Members.{split, true_false, in_here, in_there}
use Rattle.rules.proofs.Walk.Levels.{depth_at, over_above}
use Rattle.rules.proofs.Walk.Reverse.{in_below}
use Rattle.rules.proofs.Needed.Needs.{falls_always}
use Rattle.rules.proofs.Cells.Positions.{position_placed}
use Rattle.rules.proofs.Stage.Flat.{blank_replicate}
use Rattle.rules.proofs.Tree.Loads.{wide, set_either}
use Rattle.rules.proofs.Fold.Bits.{lower_cells}
use Rattle.rules.proofs.Demand.{graph, graph_few}
use Rattle.rules.proofs.Build.Above.{Above}
use Rattle.rules.specs.Coded.{cell_pin}
use Rattle.mending.specs.Mend.{level_in, Deed, pin_for, pin_deed, deed, mended, fixing, mend_from, fixed_from, nothing_fixed, mend_stage, fixed_stage}
use Rattle.mending.proofs.Deeds.{in_graph_lem, graph_in, Case, is_kept, is_stands, is_copies, is_joins, which, rewrites, for_fixed, for_free}

-- a position whose level isn't 0 is above level 0
above_from : (K p w h : ℕ) → w * 2 ^ h ≡ 2 ^ K → p < w + w → 0 < h → p < 2 ^ K
above_from K p w zero e b a = absurd (omega arith)
above_from K p w (suc h) e b a = let d : w * (2 * 2 ^ h) ≡ 2 ^ K = rw (pow-succ' 2 h) at e in omega (arith, wide w h)

-- so it has lower cells
pub above_low : (K p : ℕ) → 1 ≤ p → p < 2 ^ (K + 1) → 0 < level_of K p → p < 2 ^ K
above_low K p a b h = let t = position_placed K p a b in above_from K p (row_start p) (level_of K p) t.rows t.end h

module _ (K : ℕ) (g : List Node) (ok : Valid g) (A : Above g) (stop : List ℕ) where
  -- operands are of lower levels
  pub operands_lower : (n a b : ℕ) → n < length g → 0 < level_in g stop n → get_or g n leaf ≡ gate a b → (level_in g stop (pin_of a) < level_in g stop n) × (level_in g stop (pin_of b) < level_in g stop n)
  unfolding below over operands
  operands_lower n a b h l e =
      let d : depth (length g) g stop n ≡ over (depth (length g) g stop) (below g stop n) = depth_at g stop (rank g) (falls_always g (rank g) (graph g ok) stop) (length g) n (graph_few g ok n h) in
      let o : Out n stop = split (mem n stop) (λ m. absurd (let z = rw (m, below) at d in omega arith)) (λ m. m) in (
        omega (arith, over_above (depth (length g) g stop) (below g stop n) (pin_of a) (in_below g stop n (pin_of a) o (rw e (in_here (pin_of a) (pin_of b ∷ []))))),
        omega (arith, over_above (depth (length g) g stop) (below g stop n) (pin_of b) (in_below g stop n (pin_of b) o (rw e (in_there (pin_of b) (pin_of a) (pin_of b ∷ []) (in_here (pin_of b) []))))),
      )

  -- a pin of the graph no deeper than the cell at q
  pub record Fits (q n : ℕ) : Type 0 where
    pub above : 0 < n
    pub below : n < length g
    pub level : level_in g stop n ≤ level_of K q

  -- what is fixed from position p on fits
  abbrev pub Right : ℕ → List ℕ → Type 0
  Right p fx = (q : ℕ) → p ≤ q → filled (get_or fx q empty) ≡ true → Fits q (get_or fx q empty)

  set_right : (p : ℕ) (fx : List ℕ) (c n : ℕ) → Right p fx → Fits c n → Right p (set fx c n)
  set_right p fx c n R F q a k = elim (set_either fx c n q empty) [
    | inl e ↦ rw (e.1, e.0) F
    | inr e ↦ rw e (R q a (rw e at k))
  ]

  -- whatever becomes of the cell at p, what it fixes fits
  pub fixing_right : (p : ℕ) → 1 ≤ p → p < 2 ^ (K + 1) → (n : ℕ) (d : Deed) → Case K g stop p n d → (fx : List ℕ) → Right p fx → Right (suc p) (fixing p d fx)
  unfolding fixing
  fixing_right p a b n d (is_kept j) fx R = λ q h k. R q (omega arith) k
  fixing_right p a b n d (is_stands j k l) fx R = λ q h k. R q (omega arith) k
  fixing_right p a b n d (is_copies j k) fx R =
      let i = in_graph_lem g n j in
      let L = lower_cells K p a (above_low K p a b (omega arith)) in
      set_right (suc p) fx (first_lower p) n (λ q h k. R q (omega arith) k) (record { above = i.0; below = i.1; level = omega (arith, L.level, L.first_level) })
  fixing_right p a b n d (is_joins {a = x} {b = y} j k l m) fx R =
      let i = in_graph_lem g n j in
      let L = lower_cells K p a (above_low K p a b k) in
      let o = operands_lower n x y i.1 (omega arith) m in
      let v = ok.inside n x y m in
      let z = A.operands n x y m in
      set_right (suc p) (set fx (first_lower p) (pin_of x)) (second_lower p) (pin_of y)
      (set_right (suc p) fx (first_lower p) (pin_of x) (λ q h k. R q (omega arith) k)
      (record { above = z.0; below = omega (arith, v.0, i.1); level = omega (arith, o.0, L.level, L.first_level) }))
      (record { above = z.1; below = omega (arith, v.1, i.1); level = omega (arith, o.1, L.level, L.second_level) })

  none_right : Right 1 (nothing_fixed K)
  unfolding nothing_fixed
  none_right q h k = true_false k (blank_replicate (stage_size K) q)

  next_right : (p c : ℕ) (fx : List ℕ) → 1 ≤ p → p < 2 ^ (K + 1) → Right p fx → Right (suc p) (fixing p (deed K g stop p c (get_or fx p empty)) fx)
  unfolding deed
  next_right p c fx a b R = fixing_right p a b (pin_for c (get_or fx p empty)) (pin_deed K g stop p (pin_for c (get_or fx p empty))) (which K g stop p (pin_for c (get_or fx p empty))) fx R

  fits_from : (p : ℕ) (fx cs : List ℕ) → 1 ≤ p → p + length cs ≤ 2 ^ (K + 1) → Right p fx → (i q : ℕ) → q ≡ p + i → filled (get_or (fixed_from K g stop p fx cs) i empty) ≡ true → Fits q (get_or (fixed_from K g stop p fx cs) i empty)
  unfolding fixed_from filled empty
  fits_from p fx [] a b R i q e k = true_false k refl
  fits_from p fx (c ∷ cs) a b R zero q e k = let z : q ≡ p = omega arith in rw z (R p (omega arith) k)
  fits_from p fx (c ∷ cs) a b R (suc i) q e k = fits_from (suc p) (fixing p (deed K g stop p c (get_or fx p empty)) fx) cs (omega arith) (omega arith) (next_right p c fx a (omega arith) R) i q (omega arith) k

  -- a pin fixed for a cell is never deeper than the cell's level
  pub fixed_fits : (cl : List ℕ) → length cl ≤ 2 ^ (K + 1) → (q : ℕ) → filled (get_or (fixed_stage K g stop cl) q empty) ≡ true → Fits q (get_or (fixed_stage K g stop cl) q empty)
  unfolding fixed_stage filled empty
  fixed_fits [] b q k = true_false k refl
  fixed_fits (c ∷ cs) b zero k = true_false k refl
  fixed_fits (c ∷ cs) b (suc q) k = fits_from 1 (nothing_fixed K) cs (omega arith) (omega arith) none_right q (suc q) (omega arith) k

  -- ---- two lists of cells that mend to the same

  -- the same pin; and where the first is kept whole, the same cell
  pub record Alike (p c d : ℕ) : Type 0 where
    pub pin : cell_pin d ≡ cell_pin c
    pub cell : mended (pin_deed K g stop p (cell_pin c)) d ≡ mended (pin_deed K g stop p (cell_pin c)) c

  agree : (p : ℕ) (fx cs ds : List ℕ) → 1 ≤ p → p + length cs ≤ 2 ^ (K + 1) → Right p fx → length ds ≡ length cs →
      ((i q : ℕ) → q ≡ p + i → i < length cs → filled (get_or (fixed_from K g stop p fx cs) i empty) ≡ false → Alike q (get_or cs i empty) (get_or ds i empty)) →
      mend_from K g stop p fx ds ≡ mend_from K g stop p fx cs
  unfolding mend_from fixed_from deed
  agree p fx [] [] a b R l A = refl
  agree p fx [] (d ∷ ds) a b R l A = absurd (omega arith)
  agree p fx (c ∷ cs) [] a b R l A = absurd (omega arith)
  agree p fx (c ∷ cs) (d ∷ ds) a b R l A =
      let f : ℕ = get_or fx p empty in
      let same : (pin_for d f ≡ pin_for c f) × (mended (pin_deed K g stop p (pin_for c f)) d ≡ mended (pin_deed K g stop p (pin_for c f)) c) = split (filled f)
      (λ k. let F = R p (omega arith) k in (for_fixed d f k ∙ sym (for_fixed c f k), rw (for_fixed c f k) (rewrites K g stop p f (graph_in g f F.above F.below) F.level d c)))
      (λ k. let B = A 0 p (omega arith) (omega arith) k in (for_free d f k ∙ B.pin ∙ sym (for_free c f k), rw (for_free c f k) B.cell)) in
      let e = same.0 in
      (λ i. mended (pin_deed K g stop p (e i)) d ∷ mend_from K g stop (suc p) (fixing p (pin_deed K g stop p (e i)) fx) ds)
      ∙ (λ i. same.1 i ∷ agree (suc p) (fixing p (pin_deed K g stop p (pin_for c f)) fx) cs ds (omega arith) (omega arith)
      (next_right p c fx a (omega arith) R) (omega arith) (λ j q z h k. A (suc j) q (omega arith) (omega arith) k) i)

  -- cells that are alike wherever no cell above fixes one mend to the same
  pub stages_agree : (cs ds : List ℕ) → length cs ≤ 2 ^ (K + 1) → length ds ≡ length cs → get_or ds 0 empty ≡ get_or cs 0 empty →
      ((q : ℕ) → 1 ≤ q → q < length cs → filled (get_or (fixed_stage K g stop cs) q empty) ≡ false → Alike q (get_or cs q empty) (get_or ds q empty)) →
      mend_stage K g stop ds ≡ mend_stage K g stop cs
  unfolding mend_stage fixed_stage
  stages_agree [] [] b l z A = refl
  stages_agree [] (d ∷ ds) b l z A = absurd (omega arith)
  stages_agree (c ∷ cs) [] b l z A = absurd (omega arith)
  stages_agree (c ∷ cs) (d ∷ ds) b l z A = λ i. z i ∷ agree 1 (nothing_fixed K) cs ds (omega arith) (omega arith) none_right (omega arith)
      (λ j q e h k. let y : q ≡ suc j = omega arith in rw y (A (suc j) (omega arith) (omega arith) k)) i
