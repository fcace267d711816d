-- Over several stages: without a fault every filled cell of every stage folds to its pin's graph value. Assumes nothing.
use Prim.Native.Nat.{ℕ, zero, suc, ◌+◌, ◌-◌, ◌*◌, ◌^◌, ◌≤◌, ◌<◌}
use mathlib.Core.Path.{◌≡◌, sym, ◌∙◌, ap}
use mathlib.Core.Bool.{Bool, true, false, not, ◌&&◌}
use mathlib.Core.List.{List, [], ◌∷◌, ◌++◌}
use native.Mathlib.Omega.{arith}
use native.Mathlib.Nat.{suc-mul}
use lib.Dec.{leb}
use lib.ListN.{length, get_or, take, drop, get_or-append}
use lib.Seq.{get_or-take, get_or-drop, get_or-append-add}
use borrow.Author.Tests.{ltb-true, not-true}
use Rattle.rules.specs.Lists.{nothing, found, every, In}
use Rattle.rules.specs.Cells.{filled, empty, stage_size, word_limit, word_fits, row, first_empty}
use Rattle.rules.specs.Graph.{Node}
use Rattle.rules.specs.Build.{Stage}
use Rattle.rules.specs.Fold.{as_number}
use Rattle.rules.proofs.Lists.Members.{split, and_true, every_in}
use Rattle.rules.proofs.Stage.Puts.{cell}
use Rattle.rules.specs.Loops.{Valid}
use Rattle.rules.specs.Coded.{cell_pin, bit_of, load_of, cell_bits, fold_stages}
use Rattle.rules.specs.Faults.{faultless, fault_at, is_found, right_at, first_not, end_right, held_in, fault_from, cut}
use Rattle.coded.specs.Faults.{Checked}
use Rattle.coded.proofs.Bits.{length-cell_bits, get_or-cell_bits}
use Rattle.coded.proofs.Tests.{Fit, Passes, right_fits, none_fails}
use Rattle.coded.proofs.Sound.{val, folds, next_right}

-- where no fault is found the first stage passes, and the others have none
pub passed : (K : ℕ) (g : List Node) (given : List ℕ) (may : ℕ → Bool) (room k : ℕ) (s : Stage) (ss : List Stage) → fault_from K g given may room k (s ∷ ss) ≡ faultless →
    Checked K g given may room s × (fault_from K g given (held_in K s.plan) (room - length s.words) (suc k) ss ≡ faultless)
unfolding fault_from
passed K g given may room k s ss e = cell (first_not (right_at K g given may s.plan) (stage_size K - 1) 1)
    (λ d. split (end_right K room s)
    (λ t. (record { cells = λ p a b. none_fails (right_at K g given may s.plan) (stage_size K - 1) 1 d p a (omega arith); end = t }, rw (d, t, fault_from) at e))
    (λ t. absurd (let z : fault_at k 0 ≡ faultless = rw (d, t, fault_from) at e in let y : ◌≡◌ {A = ℕ} 0 1 = cc in omega arith)))
    (λ p d. absurd (let z : fault_at k p ≡ faultless = rw (d, fault_from) at e in let y : ◌≡◌ {A = ℕ} 0 1 = cc in omega arith))

-- what a stage's end says: position 0 is empty and its words are below W
pub record Ends (K : ℕ) (s : Stage) : Type 0 where
  pub zeroth : filled (get_or s.plan 0 empty) ≡ false
  pub words : (w : ℕ) → In w s.words → w < word_limit K

-- a stage's end that passes
pub end_says : (K room : ℕ) (s : Stage) → end_right K room s ≡ true → Ends K s
unfolding end_right word_fits
end_says K room s e =
    let a = and_true (not (filled (get_or s.plan 0 empty))) (is_found (first_empty 0 (row K 1 s.plan)) && (every (word_fits K) s.words && leb (length s.words) room)) e in
    let b = and_true (is_found (first_empty 0 (row K 1 s.plan))) (every (word_fits K) s.words && leb (length s.words) room) a.1 in
    let c = and_true (every (word_fits K) s.words) (leb (length s.words) room) b.1 in
    record { zeroth = not-true (filled (get_or s.plan 0 empty)) a.0; words = λ w i. ltb-true w (word_limit K) (every_in (word_fits K) w s.words c.0 i) }

module _ (K : ℕ) (g : List Node) (ok : Valid g) (few : length g ≤ 65536) (given bits : List ℕ) where
  -- every filled cell of a stage folds to its pin's graph value
  abbrev pub FoldsRight : (ℕ → Bool) → List ℕ → Type 0
  FoldsRight load cl = (p : ℕ) → 1 ≤ p → p < 2 ^ (K + 1) → filled (get_or cl p empty) ≡ true → bit_of K cl load p ≡ val K g ok few given bits (cell_pin (get_or cl p empty))

  -- and so of every stage in turn
  abbrev pub Folded : (ℕ → Bool) → List Stage → Type 0
  Folded load [] = Unit {0}
  Folded load (s ∷ ss) = FoldsRight load s.plan × Ends K s × Folded (load_of K s.plan load) ss

  -- stages without a fault fold right, if the first one's loads are right
  pub all_folded : (may load : ℕ → Bool) → ((n : ℕ) → n < length g → may n ≡ true → load n ≡ val K g ok few given bits n) → (room k : ℕ) (ss : List Stage) → fault_from K g given may room k ss ≡ faultless → Folded load ss
  all_folded may load right room k [] e = tt
  all_folded may load right room k (s ∷ ss) e =
      let t = passed K g given may room k s ss e in
      let n = end_says K room s t.0.end in
      let fits : (p : ℕ) → 1 ≤ p → p < 2 ^ (K + 1) → filled (get_or s.plan p empty) ≡ true → Fit K g given (Passes may) s.plan p = λ p a b f. right_fits K g given may s.plan p f (t.0.cells p a b) in (
        folds K g ok few given bits (Passes may) s.plan load fits right,
        n,
        all_folded (held_in K s.plan) (load_of K s.plan load) (next_right K g ok few given bits (Passes may) s.plan load fits right) (room - length s.words) (suc k) ss t.1,
      )

  -- ---- in the lent areas

  -- the bit of a filled cell, where it stands in the fold of a whole plan
  pub folded_bit : (n m : ℕ) (load : ℕ → Bool) (plan words counts : List ℕ) → Folded load (cut n K plan words counts) → n ≤ m → (i p : ℕ) → i < n → 1 ≤ p → p < 2 ^ (K + 1) →
      filled (get_or plan (i * 2 ^ (K + 1) + p) empty) ≡ true → get_or (fold_stages m K load plan) (i * 2 ^ (K + 1) + p) 0 ≡ as_number (val K g ok few given bits (cell_pin (get_or plan (i * 2 ^ (K + 1) + p) empty)))
  unfolding cut fold_stages
  folded_bit zero m load plan words counts F h i p b low high f = absurd (omega arith)
  folded_bit (suc n) zero load plan words counts F h i p b low high f = absurd (omega arith)
  folded_bit (suc n) (suc m) load plan words counts F h zero p b low high f =
      let z : 0 * 2 ^ (K + 1) + p ≡ p = omega arith in
      let cl : List ℕ = take (2 ^ (K + 1)) plan in
      let c : get_or cl p empty ≡ get_or plan p empty = get_or-take (2 ^ (K + 1)) plan p empty high in
      let k : filled (get_or cl p empty) ≡ true = rw c (rw z at f) in
      rw z (get_or-append (cell_bits K cl load) _ 0 p (omega (arith, length-cell_bits K cl load)) ∙ get_or-cell_bits K cl load p high
      ∙ ap as_number (F.0 p low high k ∙ ap (λ (x : ℕ). val K g ok few given bits (cell_pin x)) c))
  folded_bit (suc n) (suc m) load plan words counts F h (suc i) p b low high f =
      let cl : List ℕ = take (2 ^ (K + 1)) plan in
      let z : suc i * 2 ^ (K + 1) + p ≡ length (cell_bits K cl load) + (i * 2 ^ (K + 1) + p) = omega (arith, length-cell_bits K cl load, suc-mul i (2 ^ (K + 1))) in
      let y : suc i * 2 ^ (K + 1) + p ≡ 2 ^ (K + 1) + (i * 2 ^ (K + 1) + p) = omega (arith, suc-mul i (2 ^ (K + 1))) in
      let c : get_or (drop (2 ^ (K + 1)) plan) (i * 2 ^ (K + 1) + p) empty ≡ get_or plan (suc i * 2 ^ (K + 1) + p) empty = get_or-drop (2 ^ (K + 1)) plan (i * 2 ^ (K + 1) + p) empty ∙ ap (λ (x : ℕ). get_or plan x empty) (sym y) in
      ap (λ (x : ℕ). get_or (cell_bits K cl load ++ fold_stages m K (load_of K cl load) (drop (2 ^ (K + 1)) plan)) x 0) z
      ∙ get_or-append-add (cell_bits K cl load) _ (i * 2 ^ (K + 1) + p) 0
      ∙ folded_bit n m (load_of K cl load) (drop (2 ^ (K + 1)) plan) _ _ F.2 (omega arith) i p (omega arith) low high (rw c f)
      ∙ ap (λ (x : ℕ). as_number (val K g ok few given bits (cell_pin x))) c
