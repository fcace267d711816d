-- For the code's proofs: the lean loop's branches one by one, the empty plan that it starts from, and a stage by the lean plan. Assumes nothing.
use Prim.Native.Nat.{ℕ, suc, ◌+◌, ◌^◌, ◌≤◌, ◌<◌}
use mathlib.Core.Path.{◌≡◌, refl, ap, subst}
use mathlib.Core.Bool.{true, false}
use mathlib.Core.List.{List, [], ◌∷◌}
use lib.ListN.{length, replicate}
use Rattle.rules.specs.Lists.{mem, nothing, found, In, Out}
use Rattle.rules.specs.Cells.{empty, filled}
use Rattle.rules.specs.Graph.{Node}
use Rattle.rules.specs.Traversal.{WordRule, Setting, setting}
use Rattle.rules.specs.Placing.{tree, tree_of, cell_at, placed}
use Rattle.rules.specs.Ending.{finish, one_stage}
use Rattle.rules.specs.Inside.Lean.{blank, candidates, wanted, room_for, recount, Filling, sweep, lean, onward, lean_plan}
use Rattle.rules.proofs.Lists.Members.{split, true_false, in_here}
use Rattle.rules.specs.Inside.Walks.{Graph}
use Rattle.rules.proofs.Needed.Needs.{setting_sound}
use Rattle.rules.proofs.Tree.Held.{tree_in}
use Rattle.rules.proofs.Stage.Flat.{blank_replicate}
use Rattle.rules.proofs.Fold.Whole.{mark}
use Rattle.rules.proofs.Lean.Lean.{lean_plan_lem}

-- rule 7: first by the bound, then by a count
module _ (X : Setting) (b : ℕ) (pl : List ℕ) where
  -- the earlier number leaves room: it stays
  pub recount_bound : room_for X b pl ≡ true → recount X b pl ≡ found b
  unfolding recount
  recount_bound e = rw (e, recount)

  -- only the count leaves room: it is taken
  pub recount_count : room_for X b pl ≡ false → room_for X (length (wanted X pl)) pl ≡ true → recount X b pl ≡ found (length (wanted X pl))
  unfolding recount
  recount_count e d = rw (e, d, recount)

  -- neither leaves room
  pub recount_full : room_for X b pl ≡ false → room_for X (length (wanted X pl)) pl ≡ false → recount X b pl ≡ nothing
  unfolding recount
  recount_full e d = rw (e, d, recount)

-- one turn at level l + 1
module _ (X : Setting) (l b : ℕ) (pl : List ℕ) where
  rest_of : Filling → List ℕ
  rest_of s = lean X l s.most s.plan

  -- no candidate left: one level down
  pub onward_end : onward X l [] b pl ≡ lean X l b pl
  unfolding onward sweep
  onward_end = refl

  module _ (n : ℕ) (ns : List ℕ) where
    -- a placed candidate is passed over
    pub onward_skip : In n (tree_of X pl) → onward X l (n ∷ ns) b pl ≡ onward X l ns b pl
    unfolding onward sweep rest_of
    onward_skip i = let e : sweep X (suc l) (n ∷ ns) b pl ≡ sweep X (suc l) ns b pl = rw (i, sweep) in ap rest_of e

    -- no empty cell: one level down
    pub onward_no_cell : Out n (tree_of X pl) → cell_at X (suc l) pl ≡ nothing → onward X l (n ∷ ns) b pl ≡ lean X l b pl
    unfolding onward sweep rest_of
    onward_no_cell o e = let d : sweep X (suc l) (n ∷ ns) b pl ≡ record { most = b; plan = pl } = rw (o, e, sweep) in ap rest_of d

    -- no room with the candidate placed: one level down, without it
    pub onward_no_room : (p : ℕ) → Out n (tree_of X pl) → cell_at X (suc l) pl ≡ found p → recount X b (placed X (suc l) p n pl) ≡ nothing → onward X l (n ∷ ns) b pl ≡ lean X l b pl
    unfolding onward sweep rest_of
    onward_no_room p o e c = let d : sweep X (suc l) (n ∷ ns) b pl ≡ record { most = b; plan = pl } = rw (o, e, c, sweep) in ap rest_of d

    -- room left: the candidate stays placed, and the others follow
    pub onward_placed : (p k : ℕ) → Out n (tree_of X pl) → cell_at X (suc l) pl ≡ found p → recount X b (placed X (suc l) p n pl) ≡ found k → onward X l (n ∷ ns) b pl ≡ onward X l ns k (placed X (suc l) p n pl)
    unfolding onward sweep rest_of
    onward_placed p k o e c = let d : sweep X (suc l) (n ∷ ns) b pl ≡ sweep X (suc l) ns k (placed X (suc l) p n pl) = rw (o, e, c, sweep) in ap rest_of d

-- the next level
pub onward_level : (X : Setting) (l b : ℕ) (pl : List ℕ) → lean X (suc (suc l)) b pl ≡ onward X (suc l) (candidates X (suc (suc l))) b pl
unfolding lean onward
onward_level X l b pl = refl

-- the start: nothing is in the tree
nobody_in : (xs : List ℕ) → ((x : ℕ) → Out x xs) → xs ≡ []
nobody_in [] h = refl
nobody_in (x ∷ xs) h = true_false (in_here x xs) (h x)

-- the empty plan has no pin in its tree
pub blank_tree : (X : Setting) → tree_of X (blank X) ≡ []
unfolding tree_of blank
blank_tree X = nobody_in (tree X.K (replicate (2 ^ (X.K + 1)) empty)) (λ q. split (mem q (tree X.K (replicate (2 ^ (X.K + 1)) empty)))
    (λ e. let t = tree_in X.K (replicate (2 ^ (X.K + 1)) empty) q e in true_false t.4 (subst (λ (x : ℕ). filled x ≡ false) t.3 (blank_replicate (2 ^ (X.K + 1)) t.0))) (λ e. e))

-- a stage of a graph
pub lean_stage : (rule : WordRule) (K : ℕ) (g : List Node) (r : ℕ → ℕ) → Graph g r → length g ≤ empty → (done waiting : List ℕ) → ((x : ℕ) → In x waiting → (x < length g) × (r x < length g)) →
    (room : ℕ) → one_stage rule K g done waiting room ≡ finish (setting rule K g done waiting) room (lean_plan (setting rule K g done waiting))
unfolding one_stage setting
lean_stage rule K g r G small done waiting bounded room = rw (lean_plan_lem (record { X = setting rule K g done waiting; r = r; f = length g; S = setting_sound rule K g r G done waiting bounded; M = mark g r G small; small = small }))
