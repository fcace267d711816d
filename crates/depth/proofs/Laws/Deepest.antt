-- The greatest level of a traversal is what remains under its waiting pins. Assumes nothing.
use Prim.Native.Nat.{ℕ, ◌≤◌, ◌<◌}
use mathlib.Core.Path.{◌≡◌}
use mathlib.Core.Logic.{inl, inr}
use mathlib.Core.List.{map}
use native.Mathlib.Omega.{arith}
use lib.ListN.{length}
use Rattle.rules.specs.Lists.{In}
use Rattle.rules.specs.Graph.{below}
use Rattle.rules.specs.Loops.{From, start, step}
use Rattle.rules.specs.Traversal.{level_at, greatest}
use Rattle.rules.specs.Depth.{depth, remaining}
use Rattle.rules.proofs.Lists.Members.{in_nil}
use Rattle.rules.proofs.Walk.Levels.{over_above, depth_at, greatest_most, greatest_above}
use Rattle.rules.proofs.Stage.Staged.{remaining_least, remaining_above}
use Rattle.stage_walk.specs.Stands.{Context}

module _ (C : Context) where
  abbrev size : ℕ
  size = length C.X.g

  abbrev deep : ℕ → ℕ
  deep q = depth size C.X.g C.X.done q

  abbrev left : ℕ
  left = remaining size C.X.g C.X.done C.X.waiting

  reached : {q : ℕ} → From C.X.g C.X.done C.X.waiting q → (C.r q < size) × (deep q ≤ left)
  reached (start {q = q} i) = ((C.R.bounded q i).1, remaining_above size C.X.g C.X.done C.X.waiting q i)
  reached (step {q = q} {x = x} t i) =
      let h = reached t in (
        omega (arith, h.0, C.S.ranked q x i),
        omega (arith, h.1, depth_at C.X.g C.X.done C.r C.S.ranked size q h.0, over_above (depth size C.X.g C.X.done) (below C.X.g C.X.done q) x i),
      )

  -- every listed pin is reached from a waiting one, so none is deeper
  pub most_remains : greatest (map (level_at C.X) C.X.order) 0 ≡ left
  most_remains = omega (
    arith,
    greatest_most (level_at C.X) left 0 C.X.order (omega arith)
        (λ x i.
        let s : In x C.X.seen = C.S.listed x i in
        elim (C.S.visited.new x s) [ inl a ↦ in_nil x a | inr a ↦ omega (arith, C.S.level x s, (reached a).1) ]),
    remaining_least size C.X.g C.X.done C.X.waiting (greatest (map (level_at C.X) C.X.order) 0)
        (λ x i.
        let s : In x C.X.seen = C.S.visited.has x i in
        omega (arith, C.S.level x s, greatest_above (level_at C.X) 0 C.X.order x (C.S.ordered x s))),
  )
