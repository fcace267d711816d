-- A context from what a stage is handed, and what holds in every context: levels are below N + 1, and the order is as long as the traversal. Assumes nothing.
use mathlib.Core.Path.{◌≡◌, refl, ◌∙◌, ap}
use mathlib.Core.List.{List, reverse}
use Prim.Native.Nat.{ℕ, ◌<◌, ◌≤◌}
use native.Mathlib.Omega.{arith}
use lib.ListN.{length, length-reverse}
use Rattle.rules.specs.Lists.{In}
use Rattle.rules.specs.Cells.{empty}
use Rattle.rules.specs.Graph.{Node}
use Rattle.rules.specs.Traversal.{WordRule, setting, level_at}
use Rattle.rules.specs.Inside.Walks.{Graph, Ready, Work}
use Rattle.rules.proofs.Needed.Needs.{setting_sound}
use Rattle.rules.proofs.Fold.Whole.{mark}
use Rattle.rules.proofs.Build.Bounds.{depth_rank}
use Rattle.stage_walk.specs.Stands.{Context}

-- 65,536 pins are below the empty mark
pub unfold_empty : (n : ℕ) → n ≤ 65536 → n ≤ empty
unfolding empty
unfold_empty n h = omega arith

-- every pin is below the empty mark
pub low_mark : (C : Context) → length C.X.g ≤ empty
low_mark C = unfold_empty (length C.X.g) C.small

-- what the laws of the rules ask of it
abbrev pub work : Context → Work
work C = record { X = C.X; r = C.r; f = length C.X.g; S = C.S; M = C.M; small = low_mark C }

-- what a stage is handed makes a context
unfoldable pub context : (rule : WordRule) (K : ℕ) (g : List Node) (r : ℕ → ℕ) → Graph g r → 6 ≤ K → K ≤ 13 → length g ≤ 65536 → (done waiting : List ℕ) → Ready g r waiting → Context
unfolding setting
context rule K g r G low high small done waiting R = record {
  X = setting rule K g done waiting;
  r = r;
  G = G;
  R = R;
  S = setting_sound rule K g r G done waiting R.bounded;
  M = mark g r G (unfold_empty (length g) small);
  is = refl;
  low = low;
  high = high;
  small = small;
}

-- ---- levels

module _ (C : Context) where
  abbrev m : ℕ
  m = length C.X.g

  -- a listed pin's level is below the number of pins
  pub level_below : (p : ℕ) → In p C.X.seen → level_at C.X p < m
  level_below p i = omega (arith, C.S.level p i, depth_rank C.X.g C.X.done C.r C.S.ranked m p, C.S.fuel p i)

-- ---- lists of listed pins

module _ (C : Context) where
  -- the order is the traversal turned round
  pub order_is : C.X.order ≡ reverse C.X.seen
  unfolding setting
  order_is = rw C.is refl

  -- order and traversal have the same length
  pub order_length : length C.X.order ≡ length C.X.seen
  order_length = ap length order_is ∙ length-reverse C.X.seen
