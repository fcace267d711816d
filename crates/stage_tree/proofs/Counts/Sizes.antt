-- Counts never overflow. Assumes nothing.
use Prim.Native.Nat.{ℕ, suc, ◌+◌, ◌^◌, ◌≤◌}
use mathlib.Core.Bool.{Bool}
use mathlib.Core.List.{List, [], ◌∷◌}
use native.Mathlib.Omega.{arith}
use lib.Pow.{pow_mono}
use lib.Dec.{eqb}
use lib.ListN.{length, take, drop, length-take, length-append}
use Rattle.rules.specs.Lists.{count, mem, keep, insert, insert_all, distinct}
use Rattle.rules.specs.Cells.{filled, row, row_at}
use Rattle.rules.specs.Placing.{tree, tree_of}
use Rattle.rules.specs.Inside.Lean.{cells_holding}
use Rattle.rules.proofs.Lists.Members.{split}
use Rattle.rules.proofs.Stage.Fuel.{count-length}
use Rattle.stage_walk.specs.Stands.{Context}
use Rattle.stage_tree.specs.Counts.{Counts, Few}

keep_length : (f : ℕ → Bool) (xs : List ℕ) → length (keep f xs) ≤ length xs
unfolding keep
keep_length f [] = omega arith
keep_length f (x ∷ xs) = split (f x) (λ e. rw (e, keep) (omega (arith, keep_length f xs))) (λ e. rw (e, keep) (omega (arith, keep_length f xs)))

insert_length : (x : ℕ) (ys : List ℕ) → length (insert x ys) ≤ suc (length ys)
unfolding insert
insert_length x ys = split (mem x ys) (λ e. rw (e, insert) (omega arith)) (λ e. rw (e, insert) (rw (length-append ys (x ∷ [])) (omega arith)))

insert_all-length : (xs ys : List ℕ) → length (insert_all xs ys) ≤ length xs + length ys
unfolding insert_all
insert_all-length [] ys = omega arith
insert_all-length (x ∷ xs) ys = omega (arith, insert_all-length xs (insert x ys), insert_length x ys)

tree_length : (K : ℕ) (pl : List ℕ) → length (tree K pl) ≤ 2 ^ K
unfolding tree distinct
tree_length K pl = omega (arith, insert_all-length (keep filled (take (2 ^ K) pl)) [], keep_length filled (take (2 ^ K) pl), length-take (2 ^ K) pl)

cells_length : (K : ℕ) (pl : List ℕ) (x : ℕ) → cells_holding K pl x ≤ 2 ^ K
unfolding cells_holding
cells_length K pl x = omega (arith, count-length (λ c. eqb c x) (take (2 ^ K) pl), length-take (2 ^ K) pl)

row_length : (K h : ℕ) (pl : List ℕ) → count filled (row K h pl) ≤ row_at K h
unfolding row
row_length K h pl = omega (arith, count-length filled (take (row_at K h) (drop (row_at K h) pl)), length-take (row_at K h) (drop (row_at K h) pl))

row_few : (K h : ℕ) → row_at K h ≤ 2 ^ K
unfolding row_at
row_few K h = pow_mono (omega arith)

-- a tree is at most 8,192 cells wide
pub width_few : (C : Context) → 2 ^ C.X.K ≤ 8192
width_few C = pow_mono {i = C.X.K} {j = 13} C.high

-- no count of a plan is above 8,192
pub few : {C : Context} {m : ℕ} {pl u : List ℕ} → Counts C m pl u → Few m u
unfolding tree_of
few {C} {m} {pl} t = record {
  cells = λ x b. omega (arith, t.cells x b, cells_length C.X.K pl x, width_few C);
  ones = omega (arith, t.ones, row_length C.X.K 1 pl, row_few C.X.K 1, width_few C);
  pins = omega (arith, t.pins, tree_length C.X.K pl, width_few C);
}

-- pins are smaller than the empty mark
