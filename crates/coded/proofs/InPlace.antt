-- Any plan of pins decodes to itself, and a stage can be coded in place by rising positions, since lower cells stand behind. Assumes nothing.
use Prim.Native.Nat.{ℕ, zero, suc, ◌+◌, ◌-◌, ◌^◌, ◌≤◌, ◌<◌}
use mathlib.Core.Path.{◌≡◌, refl, sym, ◌∙◌, ap}
use mathlib.Core.Bool.{true}
use mathlib.Core.List.{List, [], ◌∷◌, ◌++◌}
use native.Mathlib.Omega.{arith}
use lib.Dec.{eqb, ltb}
use lib.ListN.{length, get_or, set, take, drop, length-map, length-take, length-drop, length-append, length-set, get_or-map, get_or-append}
use lib.Seq.{ext_get_or, get_or-take, get_or-drop, get_or-append-add, get_or-set_same, get_or-set_other}
use borrow.Author.Tests.{ltb-true, ltb-false}
use Rattle.rules.specs.Lists.{up_to}
use Rattle.rules.specs.Cells.{filled, empty, width, stage_size, row_start, first_lower}
use Rattle.rules.specs.Graph.{Node, leaf}
use Rattle.rules.proofs.Lists.Members.{split, eqb_true, eqb_false}
use Rattle.rules.specs.Coded.{cell_pin, coded_cell, coded_at, coded, pins}
use Rattle.coded.proofs.Cells.{pin_empty, pin_plain, pin_any}
use Rattle.rules.proofs.Fold.Bits.{get_or-up_to}
use Rattle.coded.proofs.Bits.{pin_at}
use Rattle.rules.proofs.Build.Coding.{length_coded}
use Rattle.coded.proofs.Coding.{not_filled}

-- what stands inside a list does not depend on what stands for the outside
pub default_same : (xs : List ℕ) (i d e : ℕ) → i < length xs → get_or xs i d ≡ get_or xs i e
default_same [] i d e h = absurd (omega arith)
default_same (x ∷ xs) zero d e h = refl
default_same (x ∷ xs) (suc i) d e h = default_same xs i d e (omega arith)

module _ (K : ℕ) (g : List Node) (pl : List ℕ) where
  -- a cell of a coded plan
  pub coded_cell_lem : (p : ℕ) → p < 2 ^ (K + 1) → get_or (coded K g pl) p empty ≡ coded_at K g pl p
  unfolding coded
  coded_cell_lem p h =
      default_same (coded K g pl) p empty (coded_at K g pl 0) (omega (arith, length_coded K g pl)) ∙ get_or-map (coded_at K g pl) (up_to (stage_size K) 0) p 0
      ∙ ap (coded_at K g pl) (get_or-up_to (stage_size K) 0 p 0 h ∙ omega arith)

  -- decoding gives back any plan of pins, as a sheet 1 has it
  pin_back : ((p : ℕ) → filled (get_or pl p empty) ≡ true → get_or pl p empty < 65536) → (p : ℕ) → cell_pin (coded_at K g pl p) ≡ get_or pl p empty
  unfolding coded_at coded_cell filled empty
  pin_back h p = split (filled (get_or pl p empty))
      (λ k. split (ltb p (width K))
      (λ a. split (eqb (get_or pl (first_lower p) empty) (get_or pl p empty))
      (λ b. rw (k, a, b, coded_cell) (pin_plain (get_or pl p empty) (h p k)))
      (λ b. rw (k, a, b, coded_cell) (pin_any (get_or pl p empty) (h p k) (get_or g (get_or pl p empty) leaf))))
      (λ a. rw (k, a, coded_cell) (pin_plain (get_or pl p empty) (h p k))))
      (λ k. rw (k, coded_cell) (pin_empty empty refl ∙ sym (not_filled (get_or pl p empty) k)))

  -- so a whole stage of pins comes back
  pub pins_back : length pl ≡ 2 ^ (K + 1) → ((p : ℕ) → filled (get_or pl p empty) ≡ true → get_or pl p empty < 65536) → pins (coded K g pl) ≡ pl
  unfolding pins
  pins_back l h = ext_get_or empty (pins (coded K g pl)) pl (length-map (coded K g pl) cell_pin ∙ length_coded K g pl ∙ sym l)
      (λ p b.
      let c : p < 2 ^ (K + 1) = omega (arith, length-map (coded K g pl) cell_pin, length_coded K g pl) in
      pin_at (coded K g pl) p ∙ ap cell_pin (coded_cell_lem p c) ∙ pin_back h p)

-- ---- in place

-- the first i cells coded, the others pins still
unfoldable pub partly : ℕ → List Node → List ℕ → ℕ → List ℕ
partly K g pl i = take i (coded K g pl) ++ drop i pl

module _ (K : ℕ) (g : List Node) (pl : List ℕ) (l : length pl ≡ 2 ^ (K + 1)) (i : ℕ) where
  front : i ≤ 2 ^ (K + 1) → length (take i (coded K g pl)) ≡ i
  front h = length-take i (coded K g pl) ∙ omega (arith, length_coded K g pl)

  -- a cell a position
  pub partly_length : i ≤ 2 ^ (K + 1) → length (partly K g pl i) ≡ 2 ^ (K + 1)
  unfolding partly
  partly_length h = length-append (take i (coded K g pl)) (drop i pl) ∙ omega (arith, front h, length-drop i pl)

  -- from position i on nothing is changed
  pub still_pins : i ≤ 2 ^ (K + 1) → (j : ℕ) → i ≤ j → get_or (partly K g pl i) j empty ≡ get_or pl j empty
  unfolding partly
  still_pins h j b =
      let z : length (take i (coded K g pl)) + (j - i) ≡ j = omega (arith, front h) in
      let y : i + (j - i) ≡ j = omega arith in
      ap (λ (x : ℕ). get_or (take i (coded K g pl) ++ drop i pl) x empty) (sym z) ∙ get_or-append-add (take i (coded K g pl)) (drop i pl) (j - i) empty
      ∙ get_or-drop i pl (j - i) empty ∙ ap (λ (x : ℕ). get_or pl x empty) y

  -- before it all is coded
  pub coded_before : i ≤ 2 ^ (K + 1) → (j : ℕ) → j < i → get_or (partly K g pl i) j empty ≡ get_or (coded K g pl) j empty
  unfolding partly
  coded_before h j b = get_or-append (take i (coded K g pl)) (drop i pl) empty j (omega (arith, front h)) ∙ get_or-take i (coded K g pl) j empty b

  -- so the cell at i is coded from pins: its own and its first lower cell's
  pub coded_next : i ≤ 2 ^ (K + 1) → coded_at K g (partly K g pl i) i ≡ coded_at K g pl i
  unfolding coded_at first_lower
  coded_next h =
      let a : get_or (partly K g pl i) i empty ≡ get_or pl i empty = still_pins h i (omega arith) in
      let b : get_or (partly K g pl i) (i + row_start i) empty ≡ get_or pl (i + row_start i) empty = still_pins h (i + row_start i) (omega arith) in
      λ x. coded_cell K g i (a x) (b x)

-- one turn of the loop
pub partly_turn : (K : ℕ) (g : List Node) (pl : List ℕ) → length pl ≡ 2 ^ (K + 1) → (i : ℕ) → i < 2 ^ (K + 1) → set (partly K g pl i) i (coded_at K g (partly K g pl i) i) ≡ partly K g pl (suc i)
partly_turn K g pl l i h =
    let n : length (partly K g pl i) ≡ 2 ^ (K + 1) = partly_length K g pl l i (omega arith) in
    let m : length (partly K g pl (suc i)) ≡ 2 ^ (K + 1) = partly_length K g pl l (suc i) h in
    let v : ℕ = coded_at K g (partly K g pl i) i in
    ext_get_or empty (set (partly K g pl i) i v) (partly K g pl (suc i)) (length-set (partly K g pl i) i v ∙ n ∙ sym m)
    (λ j b. split (eqb j i)
    (λ e. let z : j ≡ i = eqb_true j i e in
    rw z (get_or-set_same (partly K g pl i) i v empty (omega arith) ∙ coded_next K g pl l i (omega arith) ∙ sym (coded_before K g pl l (suc i) h i (omega arith) ∙ coded_cell_lem K g pl i h)))
    (λ e. let z : get_or (set (partly K g pl i) i v) j empty ≡ get_or (partly K g pl i) j empty = get_or-set_other (partly K g pl i) i j v empty (eqb_false j i e) in
    z ∙ split (ltb j i)
    (λ t. coded_before K g pl l i (omega arith) j (ltb-true j i t) ∙ sym (coded_before K g pl l (suc i) h j (omega (arith, ltb-true j i t))))
    (λ t. still_pins K g pl l i (omega arith) j (ltb-false j i t) ∙ sym (still_pins K g pl l (suc i) h j (later j i (eqb_false j i e) (ltb-false j i t))))))
  where
    later : (j i : ℕ) → (j ≡ i → ⊥) → i ≤ j → suc i ≤ j
    later j i n b = split (ltb i j) (λ t. ltb-true i j t) (λ t. absurd (n (omega (arith, ltb-false i j t))))
