-- Demand 3 over several stages: every filled cell of every stage folds to its pin's graph value. Assumes nothing.
use Prim.Native.Nat.{ℕ, zero, suc, ◌+◌, ◌-◌, ◌^◌, ◌≤◌, ◌<◌}
use mathlib.Core.Path.{◌≡◌, refl}
use mathlib.Core.Logic.{◌⊎◌, inl, inr}
use mathlib.Core.Bool.{Bool, true, false}
use mathlib.Core.List.{List, [], ◌∷◌}
use native.Mathlib.Omega.{arith}
use native.Mathlib.Nat.{one-le-pow}
use lib.Dec.{eqb}
use lib.ListN.{length, get_or}
use Rattle.rules.specs.Lists.{mem, In, Sub}
use Rattle.rules.specs.Cells.{filled, empty, row_at}
use Rattle.rules.specs.Graph.{Node, leaf, gate, pin_of, operands, below, value}
use Rattle.rules.specs.Traversal.{WordRule, Setting, setting, level_at}
use Rattle.rules.specs.Placing.{place}
use Rattle.rules.specs.Ending.{stage, one_stage}
use Rattle.rules.specs.Depth.{depth}
use Rattle.rules.specs.Fold.{bit_at, load_from}
use Rattle.rules.proofs.Lists.Members.{split, true_false, eqb_true, in_here, in_there}
use Rattle.rules.proofs.Walk.Levels.{over_above}
use Rattle.rules.proofs.Walk.Reverse.{in_below}
use Rattle.rules.specs.Inside.Walks.{Sound, Graph, Ready, Marked}
use Rattle.rules.proofs.Needed.Needs.{setting_sound}
use Rattle.rules.proofs.Tree.Held.{tree_in, node}
use Rattle.rules.proofs.Stage.Staged.{Ended, the_end}
use Rattle.rules.proofs.Stage.Flat.{blank_replicate}
use Rattle.rules.specs.Inside.Plans.{Placeable, Sane}
use Rattle.rules.proofs.Tree.Invariant.{final}
use Rattle.rules.proofs.Tree.Loads.{Fine, fine_kept, fine_first, level_is}
use Rattle.rules.proofs.Tree.Sane.{sane_kept, sane_first, frame}
use Rattle.rules.proofs.Fold.Folds.{position_good, load_good}

-- no operand is the empty mark, in a graph of no more pins than that number
pub mark : (g : List Node) (r : ℕ → ℕ) → Graph g r → length g ≤ empty → (n a b : ℕ) → get_or g n leaf ≡ gate a b → (filled (pin_of a) ≡ true) × (filled (pin_of b) ≡ true)
unfolding operands mem filled
mark g r G small n a b e =
    let x : pin_of a < length g = G.inside n (pin_of a) (in_below g [] n (pin_of a) refl (rw e (in_here (pin_of a) (pin_of b ∷ [])))) in
    let y : pin_of b < length g = G.inside n (pin_of b) (in_below g [] n (pin_of b) refl (rw e (in_there (pin_of b) (pin_of a) (pin_of b ∷ []) (in_here (pin_of b) [])))) in (
      split (eqb (pin_of a) empty) (λ d. absurd (omega (arith, eqb_true (pin_of a) empty d))) (λ d. rw d),
      split (eqb (pin_of b) empty) (λ d. absurd (omega (arith, eqb_true (pin_of b) empty d))) (λ d. rw d),
    )

-- a listed pin of level 0 is to stop at, or a leaf
pub level_zero : (X : Setting) (r : ℕ → ℕ) (f : ℕ) (S : Sound X r f) (n : ℕ) → In n X.seen → level_at X n ≡ 0 → In n X.done ⊎ (get_or X.g n leaf ≡ leaf)
unfolding operands
level_zero X r f S n i z = split (mem n X.done) (λ e. inl e)
    (λ e. node (get_or X.g n leaf) (λ c. inr c)
    (λ a b c. absurd (omega (arith, level_is X r f S n i, over_above (depth f X.g X.done) (below X.g X.done n) (pin_of a) (in_below X.g X.done n (pin_of a) e (rw c (in_here (pin_of a) (pin_of b ∷ []))))))))

-- position 0 stays empty
pub zero_kept : (X : Setting) (pl : List ℕ) (h p n : ℕ) → length pl ≡ 2 ^ (X.K + 1) → filled (get_or pl 0 empty) ≡ false → Placeable X pl h p n → filled (get_or (place X h (row_at X.K h) p n pl) 0 empty) ≡ false
unfolding row_at
zero_kept X pl h p n l k a = rw (frame X h (row_at X.K h) p n pl 0 (λ i e. omega (arith, a.row, one-le-pow (X.K - h) 2 (omega arith)))) k

-- where position 0 is empty, a pin that stands somewhere stands above it
pub above_zero : (pl : List ℕ) (i n : ℕ) → filled (get_or pl 0 empty) ≡ false → get_or pl i empty ≡ n → filled n ≡ true → 1 ≤ i
above_zero pl zero n z e k = true_false k (rw e at z)
above_zero pl (suc i) n z e k = omega arith

module _ (rule : WordRule) (K : ℕ) (g : List Node) (r : ℕ → ℕ) (G : Graph g r) (tall : 6 ≤ K) (small : length g ≤ empty) (given bits : List ℕ) where
  low : 1 ≤ K
  low = omega arith

  abbrev graph_value : ℕ → Bool
  graph_value n = value (length g) g given bits n

  -- a stage's plan and what it loads: all its filled cells, and what the next stage loads of it
  pub record Folded (plan2 realised : List ℕ) (load : ℕ → Bool) : Type 0 where
    pub cells : (p : ℕ) → 1 ≤ p → p < 2 ^ (K + 1) → filled (get_or plan2 p empty) ≡ true → bit_at K g plan2 load p ≡ graph_value (get_or plan2 p empty)
    pub next : (n : ℕ) → In n realised → load_from K g plan2 load n ≡ graph_value n

  -- a completed stage folds right, and hands right values on, if what it loads at level 0 is right
  pub folded : (done waiting : List ℕ) → Ready g r waiting → Sub given done → (room : ℕ) (plan2 words realised waiting2 : List ℕ) → one_stage rule K g done waiting room ≡ stage plan2 words realised waiting2 →
      (load : ℕ → Bool) → ((n : ℕ) → In n (setting rule K g done waiting).seen → level_at (setting rule K g done waiting) n ≡ 0 → load n ≡ graph_value n) → Folded plan2 realised load
  unfolding setting
  folded done waiting R some room plan2 words realised waiting2 e load right =
      let X : Setting = setting rule K g done waiting in
      let S : Sound X r (length g) = setting_sound rule K g r G done waiting R.bounded in
      let M : Marked X = mark g r G small in
      let E : Ended X _ plan2 realised waiting2 = the_end rule K g r G low small done waiting R.bounded room plan2 words realised waiting2 e in
      let fine = final X r (length g) S low (Fine X r (length g) S) (fine_kept X r (length g) S) (fine_first X r (length g) S (2 ^ (K + 1))) plan2 E.rested in
      let sane = final X r (length g) S low (Sane X (λ q. ⊥)) (sane_kept X r (length g) S M) (sane_first X r (length g) S M (2 ^ (K + 1))) plan2 E.rested in
      let zeroth = final X r (length g) S low (λ pl. filled (get_or pl 0 empty) ≡ false) (zero_kept X) (blank_replicate (2 ^ (K + 1)) 0) plan2 E.rested in
      record {
        cells = position_good X r (length g) S G M given bits some plan2 sane.1 fine.1 load right;
        next = λ n i.
            let t = tree_in K plan2 n (rw E.realises at i) in
            load_good X r (length g) S G M given bits some plan2 sane.1 fine.1 load right fine.0 n t.0
            (above_zero plan2 t.0 n zeroth.1 t.3 t.4) t.1 t.3 t.4;
      }
