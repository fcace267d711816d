-- The loop's notes, branch by branch. Assumes nothing.
use Prim.Native.Nat.{ℕ, zero, suc, ◌<◌}
use mathlib.Core.Path.{◌≡◌, refl, ap, ◌∙◌}
use mathlib.Core.List.{List, [], ◌∷◌}
use native.Mathlib.Omega.{arith}
use Rattle.rules.specs.Lists.{nothing, found, In, Out}
use Rattle.rules.specs.Traversal.{Setting}
use Rattle.rules.specs.Placing.{tree_of, cell_at, placed}
use Rattle.rules.specs.Inside.Lean.{candidates, recount, Filling, sweep}
use Rattle.stage_notes.specs.Taken.{Taken}
use Rattle.stage_notes.specs.Notes.{weighed, sweep_back, note_in, lean_notes, onward_notes}

-- one turn at level l + 1
module _ (X : Setting) (l b : ℕ) (pl ns : List ℕ) where
  rest_of : Filling → List Taken → List ℕ
  rest_of s ts = lean_notes X l s.most s.plan (note_in (suc l) ts ns)

  both : {s s' : Filling} {ts ts' : List Taken} → s ≡ s' → ts ≡ ts' → rest_of s ts ≡ rest_of s' ts'
  both {s} {s'} {ts} {ts'} e d = ap (λ (x : Filling). rest_of x ts) e ∙ ap (rest_of s') d

  -- no candidate left: one level down
  pub notes_end : onward_notes X l [] b pl ns ≡ lean_notes X l b pl ns
  unfolding onward_notes sweep sweep_back note_in
  notes_end = refl

  module _ (n : ℕ) (cs : List ℕ) where
    -- a placed candidate is passed over
    pub notes_skip : In n (tree_of X pl) → onward_notes X l (n ∷ cs) b pl ns ≡ onward_notes X l cs b pl ns
    unfolding onward_notes sweep sweep_back rest_of
    notes_skip i =
        let e : sweep X (suc l) (n ∷ cs) b pl ≡ sweep X (suc l) cs b pl = rw (i, sweep) in
        let d : sweep_back X (suc l) (n ∷ cs) b pl ≡ sweep_back X (suc l) cs b pl = rw (i, sweep_back) in
        both e d

    -- no empty cell: one level down
    pub notes_no_cell : Out n (tree_of X pl) → cell_at X (suc l) pl ≡ nothing → onward_notes X l (n ∷ cs) b pl ns ≡ lean_notes X l b pl ns
    unfolding onward_notes sweep sweep_back rest_of note_in
    notes_no_cell o c =
        let e : sweep X (suc l) (n ∷ cs) b pl ≡ record { most = b; plan = pl } = rw (o, c, sweep) in
        let d : sweep_back X (suc l) (n ∷ cs) b pl ≡ [] = rw (o, c, sweep_back) in
        both e d

    -- no room with the candidate placed: it is noted
    pub notes_no_room : (p : ℕ) → Out n (tree_of X pl) → cell_at X (suc l) pl ≡ found p → recount X b (placed X (suc l) p n pl) ≡ nothing →
        onward_notes X l (n ∷ cs) b pl ns ≡ lean_notes X l b pl (note_in (suc l) (weighed X n (placed X (suc l) p n pl) ∷ []) ns)
    unfolding onward_notes sweep sweep_back rest_of
    notes_no_room p o c r =
        let e : sweep X (suc l) (n ∷ cs) b pl ≡ record { most = b; plan = pl } = rw (o, c, r, sweep) in
        let d : sweep_back X (suc l) (n ∷ cs) b pl ≡ weighed X n (placed X (suc l) p n pl) ∷ [] = rw (o, c, r, sweep_back) in
        both e d

    -- room left: the candidate stays placed, and the others follow
    pub notes_placed : (p k : ℕ) → Out n (tree_of X pl) → cell_at X (suc l) pl ≡ found p → recount X b (placed X (suc l) p n pl) ≡ found k →
        onward_notes X l (n ∷ cs) b pl ns ≡ onward_notes X l cs k (placed X (suc l) p n pl) ns
    unfolding onward_notes sweep sweep_back rest_of
    notes_placed p k o c r =
        let e : sweep X (suc l) (n ∷ cs) b pl ≡ sweep X (suc l) cs k (placed X (suc l) p n pl) = rw (o, c, r, sweep) in
        let d : sweep_back X (suc l) (n ∷ cs) b pl ≡ sweep_back X (suc l) cs k (placed X (suc l) p n pl) = rw (o, c, r, sweep_back) in
        both e d

-- the next level
pub notes_level : (X : Setting) (l b : ℕ) (pl ns : List ℕ) → 0 < l → lean_notes X (suc l) b pl ns ≡ onward_notes X l (candidates X (suc l)) b pl ns
unfolding lean_notes onward_notes
notes_level X zero b pl ns h = absurd (omega arith)
notes_level X (suc l) b pl ns h = refl

-- below level 2 nothing is noted
pub notes_low : (X : Setting) (h b : ℕ) (pl ns : List ℕ) → h < 2 → lean_notes X h b pl ns ≡ ns
unfolding lean_notes
notes_low X zero b pl ns l = refl
notes_low X (suc zero) b pl ns l = refl
notes_low X (suc (suc h)) b pl ns l = absurd (omega arith)
