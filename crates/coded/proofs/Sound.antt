-- The cells of a stage without a fault fold to their pins' graph values. Assumes nothing.
use Prim.Native.Nat.{ℕ, zero, suc, ◌+◌, ◌-◌, ◌*◌, ◌%◌, ◌^◌, ◌≤◌, ◌<◌}
use mathlib.Core.Path.{◌≡◌, refl, sym, ◌∙◌, ap}
use mathlib.Core.Logic.{inl, inr}
use mathlib.Core.Bool.{Bool, true, false, ◌&&◌}
use mathlib.Core.List.{List}
use native.Mathlib.Omega.{arith}
use native.Mathlib.Nat.{pow-succ'}
use lib.ListN.{length, get_or}
use Rattle.rules.specs.Lists.{mem}
use Rattle.rules.specs.Cells.{filled, empty, level_of, row_start, first_lower, second_lower}
use Rattle.rules.specs.Graph.{Node, leaf, pin_of, inversion_of, own_bit, literal_bit, value}
use Rattle.rules.specs.Fold.{is_leaf, lowest}
use Rattle.rules.proofs.Lists.Members.{or_true, true_false}
use Rattle.rules.proofs.Cells.Positions.{position_placed}
use Rattle.rules.proofs.Tree.Loads.{wide}
use Rattle.rules.proofs.Tree.Held.{node}
use Rattle.rules.proofs.Stage.Staged.{two_step}
use Rattle.rules.proofs.Fold.Bits.{lower_cells, lowest_stands}
use Rattle.rules.proofs.Fold.Folds.{value_gate, value_own}
use Rattle.rules.specs.Loops.{Valid}
use Rattle.rules.specs.Inside.Walks.{rank}
use Rattle.rules.proofs.Demand.{graph, graph_few}
use Rattle.rules.specs.Coded.{cell_pin, ands, first_inversion, second_inversion, pins, bit_of, load_of}
use Rattle.rules.specs.Faults.{first_may, held_in}
use Rattle.coded.proofs.Cells.{small_filled, filled_pin, ands_plain, ands_and, first_and, second_and}
use Rattle.coded.proofs.Bits.{bit_load, bit_copies, bit_ands, load_found, pin_at}
use Rattle.coded.proofs.Tests.{Does, loads, copies, joins, Fit, is_found_lem}

-- the level of a position
level_low : (K p : ℕ) → 1 ≤ p → p < 2 ^ (K + 1) → level_of K p ≡ 0 → 2 ^ K ≤ p
level_low K p a b e =
    let t = position_placed K p a b in
    let r : row_start p * 2 ^ 0 ≡ 2 ^ K = rw e at t.rows in
    omega (arith, t.row)

level_high : (K p h : ℕ) → 1 ≤ p → p < 2 ^ (K + 1) → level_of K p ≡ suc h → p < 2 ^ K
level_high K p h a b e =
    let t = position_placed K p a b in
    let r : row_start p * 2 ^ suc h ≡ 2 ^ K = rw e at t.rows in
    let s : row_start p * (2 * 2 ^ h) ≡ 2 ^ K = rw (pow-succ' 2 h) at r in
    omega (arith, t.end, wide (row_start p) h)

same_inversion : (l m : ℕ) (b : Bool) → m ≡ inversion_of l → literal_bit m b ≡ literal_bit l b
unfolding literal_bit inversion_of
same_inversion l m b e = let z : m % 2 ≡ l % 2 = rw e (omega arith) in rw (z, literal_bit)

module _ (K : ℕ) (g : List Node) (ok : Valid g) (few : length g ≤ 65536) (given bits : List ℕ) where
  -- the graph value of a pin
  abbrev pub val : ℕ → Bool
  val n = value (length g) g given bits n

  module _ (may : ℕ → Type 0) (cl : List ℕ) (load : ℕ → Bool) (fits : (p : ℕ) → 1 ≤ p → p < 2 ^ (K + 1) → filled (get_or cl p empty) ≡ true → Fit K g given may cl p)
      (right : (n : ℕ) → n < length g → may n → load n ≡ val n) where
    pin_filled : (p q : ℕ) → cell_pin (get_or cl p empty) ≡ q → q < length g → filled (get_or cl p empty) ≡ true
    pin_filled p q e h = sym (filled_pin (get_or cl p empty)) ∙ rw e (small_filled q (omega arith))

    fold_level : (h p : ℕ) → level_of K p ≡ h → 1 ≤ p → p < 2 ^ (K + 1) → filled (get_or cl p empty) ≡ true → bit_of K cl load p ≡ val (cell_pin (get_or cl p empty))
    fold_level zero p e a b k = go (fits p a b k).does
      where
        go : Does K g given may cl p → bit_of K cl load p ≡ val (cell_pin (get_or cl p empty))
        go (loads l c m) = bit_load K cl load p l b k ∙ right (cell_pin (get_or cl p empty)) (fits p a b k).below m
        go (copies l c x) = absurd (omega (arith, level_low K p a b e))
        go (joins i j l o d c x y) = absurd (omega (arith, level_low K p a b e))
    fold_level (suc h) p e a b k =
        let u : p < 2 ^ K = level_high K p h a b e in
        let L = lower_cells K p a u in
        let z : L.h ≡ h = let q : suc L.h ≡ suc h = sym L.level ∙ e in omega arith in
        go u (λ f. fold_level h (first_lower p) (L.first_level ∙ z) (omega (arith, L.above)) (omega (arith, L.next, L.inside)) f)
        (λ f. fold_level h (second_lower p) (L.second_level ∙ z) (omega (arith, L.above, L.next)) L.inside f) (fits p a b k).does
      where
        go : p < 2 ^ K → (filled (get_or cl (first_lower p) empty) ≡ true → bit_of K cl load (first_lower p) ≡ val (cell_pin (get_or cl (first_lower p) empty))) →
            (filled (get_or cl (second_lower p) empty) ≡ true → bit_of K cl load (second_lower p) ≡ val (cell_pin (get_or cl (second_lower p) empty))) → Does K g given may cl p → bit_of K cl load p ≡ val (cell_pin (get_or cl p empty))
        go u one two (loads l d m) = absurd (omega arith)
        go u one two (copies l d x) =
            let n : ands (get_or cl p empty) ≡ false = rw d (ands_plain (cell_pin (get_or cl p empty)) (omega (arith, (fits p a b k).below))) in
            bit_copies K cl load p a u k n ∙ one (pin_filled (first_lower p) (cell_pin (get_or cl p empty)) x (fits p a b k).below) ∙ ap val x
        go u one two (joins i j l o d m x y) =
            let n : cell_pin (get_or cl p empty) < 65536 = omega (arith, (fits p a b k).below) in
            let v = ok.inside (cell_pin (get_or cl p empty)) i j d in
            let f1 = pin_filled (first_lower p) (pin_of i) x v.0 in
            let f2 = pin_filled (second_lower p) (pin_of j) y v.1 in
            let t : ands (get_or cl p empty) ≡ true = rw m (ands_and (cell_pin (get_or cl p empty)) i j n) in
            let i1 : first_inversion (get_or cl p empty) ≡ inversion_of i = ap first_inversion m ∙ first_and (cell_pin (get_or cl p empty)) i j n in
            let i2 : second_inversion (get_or cl p empty) ≡ inversion_of j = ap second_inversion m ∙ second_and (cell_pin (get_or cl p empty)) i j n in
            let b1 : bit_of K cl load (first_lower p) ≡ val (pin_of i) = one f1 ∙ ap val x in
            let b2 : bit_of K cl load (second_lower p) ≡ val (pin_of j) = two f2 ∙ ap val y in
            bit_ands K cl load p a u k t f1 f2
            ∙ (λ w. same_inversion i (first_inversion (get_or cl p empty)) (b1 w) i1 w && same_inversion j (second_inversion (get_or cl p empty)) (b2 w) i2 w)
            ∙ sym (value_gate g (rank g) (graph g ok) given bits (length g) (cell_pin (get_or cl p empty)) i j (graph_few g ok (cell_pin (get_or cl p empty)) (fits p a b k).below) o d)

    -- every filled cell of a stage without a fault folds to its pin's graph value
    pub folds : (p : ℕ) → 1 ≤ p → p < 2 ^ (K + 1) → filled (get_or cl p empty) ≡ true → bit_of K cl load p ≡ val (cell_pin (get_or cl p empty))
    folds p a b k = fold_level (level_of K p) p refl a b k

    -- so the next stage loads graph values
    pub next_right : (n : ℕ) → n < length g → held_in K cl n ≡ true → load_of K cl load n ≡ val n
    unfolding held_in
    next_right n h e =
        let t = is_found_lem (lowest K (pins cl) n) e in
        let s = lowest_stands K (pins cl) n t.0 t.1 in
        let z : cell_pin (get_or cl t.0 empty) ≡ n = sym (pin_at cl t.0) ∙ s.pin in
        load_found K cl load n t.0 t.1 ∙ folds t.0 s.low (omega (arith, s.high, two_step K)) (pin_filled t.0 n z h) ∙ ap val z

  -- and so does the first
  pub first_right : (n : ℕ) → n < length g → first_may g given n ≡ true → own_bit bits n ≡ val n
  unfolding first_may is_leaf
  first_right n h e = sym (value_own g (rank g) (graph g ok) given bits (length g) n (omega arith)
      (elim (or_true (mem n given) (is_leaf (get_or g n leaf)) e) [ inl a ↦ inl a | inr a ↦ node (get_or g n leaf) (λ d. inr d) (λ i j d. true_false (rw d at a) refl) ]))
