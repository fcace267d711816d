-- The fold of a flat plan, stage by stage and position by position. Assumes nothing.
use Prim.Native.Nat.{ℕ, zero, suc, ◌+◌, ◌*◌, ◌^◌, ◌≤◌, ◌<◌}
use mathlib.Core.Path.{◌≡◌, refl, sym, ◌∙◌, ap}
use mathlib.Core.Bool.{Bool, true, false}
use mathlib.Core.List.{List, [], ◌∷◌, ◌++◌, append_assoc}
use native.Mathlib.Omega.{arith}
use native.Mathlib.Nat.{suc-mul}
use lib.ListN.{length, get_or, take, drop, get_or-append}
use lib.Seq.{get_or-take, get_or-append-add, take-append_seam, drop-append_seam}
use Rattle.rules.specs.Lists.{mem, In}
use Rattle.rules.specs.Cells.{filled, empty}
use Rattle.rules.specs.Graph.{Node, leaf, pin_of, own_bit, value}
use Rattle.rules.specs.Placing.{tree}
use Rattle.rules.specs.Build.{Stage, stage_of, cells_of}
use Rattle.rules.specs.Fold.{as_number, stage_bits, fold_from, load_from}
use Rattle.rules.proofs.Lists.Members.{split}
use Rattle.rules.proofs.Build.Lengths.{length-stage_bits}
use Rattle.rules.proofs.Fold.Bits.{get_or-stage_bits}
use Rattle.rules.proofs.Tree.Held.{node}
use Rattle.rules.specs.Loops.{Valid}
use Rattle.rules.proofs.Demand.{Right}

-- ---- numbers behind the pins' bits count for nothing

own_take : (n : ℕ) (bits : List ℕ) (p : ℕ) → p < n → own_bit (take n bits) p ≡ own_bit bits p
unfolding own_bit
own_take n bits zero h = refl
own_take n bits (suc p) h = rw (get_or-take n bits (suc p) 0 h)

-- bits past those of the graph's pins change no graph value
pub value_take : (g : List Node) → Valid g → (given bits : List ℕ) (n : ℕ) → length g ≤ n → (f p : ℕ) → p < n → value f g given (take n bits) p ≡ value f g given bits p
unfolding value
value_take g ok given bits n w zero p h = refl
value_take g ok given bits n w (suc f) p h = split (mem p given)
    (λ a. rw (a, value) (own_take n bits p h))
    (λ a. node (get_or g p leaf)
    (λ c. rw (a, c, value) (own_take n bits p h))
    (λ x y c.
    let l = ok.inside p x y c in
    rw (a, c, value, value_take g ok given bits n w f (pin_of x) (omega (arith, l.0)), value_take g ok given bits n w f (pin_of y) (omega (arith, l.1)))))

-- ---- a cell of a stage stands in the flat plan, and its bit in the flat fold

module _ (K : ℕ) (g : List Node) (given bits : List ℕ) where
  module _ (load : ℕ → Bool) (s : Stage) (l : length s.plan ≡ 2 ^ (K + 1)) (more : List ℕ) where
    fold_step : (n : ℕ) → fold_from (suc n) K g load (s.plan ++ more) ≡ stage_bits K g s.plan load ++ fold_from n K g (load_from K g s.plan load) more
    unfolding fold_from
    fold_step n =
        let t : take (2 ^ (K + 1)) (s.plan ++ more) ≡ s.plan = ap (λ (k : ℕ). take k (s.plan ++ more)) (sym l) ∙ take-append_seam s.plan more in
        let d : drop (2 ^ (K + 1)) (s.plan ++ more) ≡ more = ap (λ (k : ℕ). drop k (s.plan ++ more)) (sym l) ∙ drop-append_seam s.plan more in
        rw (t, d)

  -- in the fold of a right plan, the bit of every filled cell is its pin's graph value
  pub folded_bit : (load : ℕ → Bool) (held : ℕ → Type 0) (ss : List Stage) → Right K g given bits load held ss → (n : ℕ) → length ss ≤ n → (more : List ℕ) (i p : ℕ) → i < length ss → 1 ≤ p → p < 2 ^ (K + 1) →
      filled (get_or (stage_of ss i).plan p empty) ≡ true → get_or (fold_from n K g load (cells_of ss ++ more)) (i * 2 ^ (K + 1) + p) 0 ≡ as_number (value (length g) g given bits (get_or (stage_of ss i).plan p empty))
  unfolding stage_of cells_of
  folded_bit load held [] R n h more i p b low high f = absurd (omega arith)
  folded_bit load held (s ∷ ss) R zero h more i p b low high f = absurd (omega arith)
  folded_bit load held (s ∷ ss) R (suc n) h more zero p b low high f =
      let z : 0 * 2 ^ (K + 1) + p ≡ p = omega arith in
      rw (z, append_assoc, fold_step load s R.0.size (cells_of ss ++ more) n)
      (get_or-append (stage_bits K g s.plan load) _ 0 p (omega (arith, length-stage_bits K g s.plan load)) ∙ get_or-stage_bits K g s.plan load p high ∙ ap as_number (R.0.folds p low high f))
  folded_bit load held (s ∷ ss) R (suc n) h more (suc i) p b low high f =
      let z : suc i * 2 ^ (K + 1) + p ≡ length (stage_bits K g s.plan load) + (i * 2 ^ (K + 1) + p) = omega (arith, length-stage_bits K g s.plan load, suc-mul i (2 ^ (K + 1))) in
      rw (append_assoc, fold_step load s R.0.size (cells_of ss ++ more) n, z)
      (get_or-append-add (stage_bits K g s.plan load) _ (i * 2 ^ (K + 1) + p) 0 ∙ folded_bit (load_from K g s.plan load) _ ss R.1 n (omega arith) more i p (omega arith) low high f)

  -- ---- a stage by its number

  -- every filled cell of stage i holds a pin of the graph
  pub named_at : (load : ℕ → Bool) (held : ℕ → Type 0) (ss : List Stage) → Right K g given bits load held ss → (i : ℕ) → i < length ss → (q : ℕ) → filled (get_or (stage_of ss i).plan q empty) ≡ true → get_or (stage_of ss i).plan q empty < length g
  unfolding stage_of
  named_at load held [] R i b = absurd (omega arith)
  named_at load held (s ∷ ss) R zero b = R.0.names
  named_at load held (s ∷ ss) R (suc i) b = named_at (load_from K g s.plan load) _ ss R.1 i (omega arith)

  -- position 0 of stage i is empty
  pub zeroth_at : (load : ℕ → Bool) (held : ℕ → Type 0) (ss : List Stage) → Right K g given bits load held ss → (i : ℕ) → i < length ss → filled (get_or (stage_of ss i).plan 0 empty) ≡ false
  unfolding stage_of
  zeroth_at load held [] R i b = absurd (omega arith)
  zeroth_at load held (s ∷ ss) R zero b = R.0.zeroth
  zeroth_at load held (s ∷ ss) R (suc i) b = zeroth_at (load_from K g s.plan load) _ ss R.1 i (omega arith)

  -- what the first stage loads, and a later one
  pub first_loaded : (load : ℕ → Bool) (held : ℕ → Type 0) (ss : List Stage) → Right K g given bits load held ss → 0 < length ss → (q : ℕ) → 2 ^ K ≤ q → filled (get_or (stage_of ss 0).plan q empty) ≡ true → held (get_or (stage_of ss 0).plan q empty)
  unfolding stage_of
  first_loaded load held [] R b = absurd (omega arith)
  first_loaded load held (s ∷ ss) R b = R.0.loads

  -- each pin that a later stage loads stands above level 0 in the stage before it
  pub later_loaded : (load : ℕ → Bool) (held : ℕ → Type 0) (ss : List Stage) → Right K g given bits load held ss → (i : ℕ) → suc i < length ss → (q : ℕ) → 2 ^ K ≤ q →
      filled (get_or (stage_of ss (suc i)).plan q empty) ≡ true → In (get_or (stage_of ss (suc i)).plan q empty) (tree K (stage_of ss i).plan)
  unfolding stage_of
  later_loaded load held [] R i b = absurd (omega arith)
  later_loaded load held (s ∷ ss) R zero b = first_loaded _ _ ss R.1 (omega arith)
  later_loaded load held (s ∷ ss) R (suc i) b = later_loaded (load_from K g s.plan load) _ ss R.1 i (omega arith)
