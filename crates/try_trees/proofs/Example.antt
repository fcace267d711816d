-- The example's graph, its context at any height, and its area when the trial begins. Assumes nothing.
use Prim.Native.Nat.{ℕ, zero, suc, ◌+◌, ◌^◌, ◌≤◌, ◌<◌}
use mathlib.Core.Path.{◌≡◌, refl, ◌∙◌}
use mathlib.Core.Logic.{inl, inr}
use mathlib.Core.Bool.{true}
use mathlib.Core.List.{List, [], ◌∷◌}
use native.Mathlib.Omega.{arith}
use lib.Pow.{pow_mono}
use borrow.Author.Tests.{le-leb}
use lib.ListN.{length, get_or, set, replicate, length-set, length-replicate, get_or-replicate}
use lib.Seq.{get_or-set_other}
use Rattle.rules.specs.Lists.{mem, nobody, one}
use Rattle.rules.specs.Cells.{empty, is_height, stage_size, row_at}
use Rattle.rules.specs.Graph.{Node, leaf, gate, pin_of, operands, node_of, graph_of, below}
use Rattle.rules.specs.Traversal.{needed_runs, thread, visit, traverse, over, levels, setting, level_at}
use Rattle.rules.specs.Inside.Lean.{blank}
use Rattle.rules.proofs.Lists.Members.{in_cons, in_nil}
use Rattle.rules.specs.Inside.Walks.{Graph, Ready, rank}
use Rattle.rules.proofs.Needed.Needs.{setting_sound}
use Rattle.rules.proofs.Fold.Whole.{mark}
use Rattle.rules.specs.Loops.{Valid}
use Rattle.rules.proofs.Demand.{graph, graph_few, lower_valid}
use Rattle.cells.specs.Answers.{or_zero, has_level}
use Rattle.cells.proofs.Heights.{or_zero_true, tall, level_tested}
use Rattle.columns.specs.Area.{Room, col}
use Rattle.rules.specs.Inside.Some.{Some}
use Rattle.stage_walk.specs.Stands.{Context, Base, Levelled}
use Rattle.stage_tree.proofs.Bits.Standing.{first_stands}
use Rattle.try_trees.specs.Example.{gates, begun, Trial, SizedFor}

abbrev g : List Node
g = leaf ∷ leaf ∷ leaf ∷ leaf ∷ leaf ∷ gate 2 4 ∷ gate 6 9 ∷ gate 10 12 ∷ []

graph_is : g ≡ graph_of gates
unfolding graph_of node_of empty
graph_is = refl

no_gate : {P : Type 0} {a b : ℕ} → leaf ≡ gate a b → P
no_gate e = absurd (let z : ◌≡◌ {A = ℕ} 0 1 = cc in omega arith)

lower : (x y p a b : ℕ) → pin_of x < p → pin_of y < p → gate x y ≡ gate a b → (pin_of a < p) × (pin_of b < p)
lower x y p a b h k e = let c : a ≡ x = cc in let d : b ≡ y = cc in (rw c h, rw d k)

valid : Valid g
unfolding pin_of
valid = lower_valid g at
  where
    at : (p a b : ℕ) → get_or g p leaf ≡ gate a b → (pin_of a < p) × (pin_of b < p)
    at zero a b e = no_gate e
    at (suc zero) a b e = no_gate e
    at (suc (suc zero)) a b e = no_gate e
    at (suc (suc (suc zero))) a b e = no_gate e
    at (suc (suc (suc (suc zero)))) a b e = no_gate e
    at (suc (suc (suc (suc (suc zero))))) a b e = lower 2 4 5 a b (omega arith) (omega arith) e
    at (suc (suc (suc (suc (suc (suc zero)))))) a b e = lower 6 9 6 a b (omega arith) (omega arith) e
    at (suc (suc (suc (suc (suc (suc (suc zero))))))) a b e = lower 10 12 7 a b (omega arith) (omega arith) e
    at (suc (suc (suc (suc (suc (suc (suc (suc p)))))))) a b e = no_gate e

G : Graph g (rank g)
G = graph g valid

ready : Ready g (rank g) (7 ∷ [])
unfolding mem
ready = record { once = one refl nobody; bounded = λ x i. let h : x < length g = elim (in_cons x 7 [] i) [ inl e ↦ omega arith | inr e ↦ in_nil x e ] in (h, graph_few g valid x h) }

small : length g ≤ empty
unfolding empty
small = omega arith

-- the example's context at a height
pub example : (K : ℕ) → 6 ≤ K → K ≤ 13 → Context
unfolding setting
example K low high = record {
  X = setting needed_runs K g [] (7 ∷ []);
  r = rank g;
  G = G;
  R = ready;
  S = setting_sound needed_runs K g (rank g) G [] (7 ∷ []) ready.bounded;
  M = mark g (rank g) G small;
  is = refl;
  low = low;
  high = high;
  small = omega arith;
}

-- ---- the area
zero_at : (j : ℕ) → 24 ≤ j → j < 640 → get_or (begun 640) j 0 ≡ 0
unfolding begun
zero_at j a b =
    let u0 : List ℕ = replicate 640 0 in
    let u1 : List ℕ = set u0 21 1 in
    let u2 : List ℕ = set u1 22 1 in
    get_or-set_other u2 23 j 2 0 (λ e. omega arith) ∙ get_or-set_other u1 22 j 1 0 (λ e. omega arith) ∙ get_or-set_other u0 21 j 1 0 (λ e. omega arith) ∙ get_or-replicate {A = ℕ} 640 j 0 0 b

area : Room 8 (begun 640)
unfolding begun
area = record { small = omega arith; room = simp (length-set, length-replicate) (omega arith) }

module _ (K : ℕ) (low : 6 ≤ K) (high : K ≤ 13) where
  abbrev C : Context
  C = example K low high

  base : Base C 8 gates (begun 640)
  unfolding example setting
  base = record { area = area; size = refl; graph = graph_is; pair = refl }

  levelled : Levelled C 8 (begun 640)
  unfolding example setting traverse thread visit below operands pin_of mem levels over col begun
  levelled = record { levels = refl }

  -- in an empty stage and a begun area the trial may be made
  pub trial : (w : ℕ) (pl u : List ℕ) → w ≡ row_at K 2 → pl ≡ replicate (2 ^ (K + 1)) empty → u ≡ begun 640 → Trial C 8 2 w 7 gates pl u
  unfolding example setting traverse thread visit below operands pin_of mem levels over level_at blank
  trial w pl u row e d = record {
    stands = rw (e, d) (first_stands C 8 2 gates (begun 640) base levelled (λ x h. zero_at (32 + x) (omega arith) (omega arith)) (zero_at 384 (omega arith) (omega arith)) (zero_at 385 (omega arith) (omega arith)) (zero_at 386 (omega arith) (omega arith)));
    row = row;
    low = omega arith;
    high = omega arith;
    listed = refl;
    level = refl;
  }

-- what the program has made of the two areas
pub begins : {K : ℕ} {pl₀ u₀ : List ℕ} → SizedFor K pl₀ u₀ → (w : ℕ) (pl u : List ℕ) → w ≡ or_zero (has_level K 2) (row_at K 2) → pl ≡ replicate (length pl₀) 4294967295 → u ≡ begun (length u₀) → Some (λ C. Trial C 8 2 w 7 gates pl u)
unfolding empty
begins {K} Z w pl u r e d =
    let t = tall K refl Z.height in
    let l : has_level K 2 ≡ true = level_tested K 2 Z.height ∙ le-leb 2 K (omega (arith, t.low)) in
    record {
      it = example K t.low t.high;
      at = trial K t.low t.high w pl u (r ∙ rw l (or_zero_true (row_at K 2))) (e ∙ rw Z.stage refl) (d ∙ rw Z.work refl);
    }

-- the size of a stage, as the program gets it, and its bound
pub stage_room : (K size : ℕ) → is_height K ≡ true → size ≡ or_zero (is_height K) (stage_size K) → (size ≡ stage_size K) × (size ≤ 16384)
stage_room K size h e =
    let s : size ≡ stage_size K = e ∙ rw h (or_zero_true (stage_size K)) in
    (s, omega (arith, s, pow_mono {i = K + 1} {j = 14} (omega (arith, (tall K refl h).high))))
