-- Loads: a cell's, level 0's, and the pins that stand above it. Assumes nothing.
use Prim.Native.Nat.{ℕ, zero, suc, ◌+◌, ◌-◌, ◌^◌, ◌≤◌, ◌<◌}
use mathlib.Core.Path.{◌≡◌, refl, sym, ◌∙◌, ap}
use mathlib.Core.Bool.{Bool, true, false, not}
use mathlib.Core.List.{List, ◌∷◌}
use native.Mathlib.Omega.{arith}
use lib.Dec.{eqb}
use lib.ListN.{length, get_or, set, take, drop, length-set, length-map, get_or-eq_default}
use lib.Seq.{get_or-set_same, get_or-set_other, drop-cons}
use borrow.Author.Tests.{eq-eqb, ne_eqb}
use Rattle.rules.specs.Lists.{found}
use Rattle.rules.specs.Cells.{empty, filled}
use Rattle.rules.specs.Graph.{own_bit}
use Rattle.rules.specs.Fold.{as_number, first_at, lowest}
use Rattle.rules.specs.Coded.{cell_pin, pins}
use Rattle.rules.proofs.Lists.Members.{split, eqb_true, eqb_false}
use Rattle.fold_stage.specs.Bits.{StageAt, RightFrom, UpAt}
use Rattle.fold_stage.proofs.Laws.Cells.{get_or_inside}
use Rattle.coded.proofs.Bits.{bit_empty, bit_load, pin_at}
use Rattle.fold_stage.specs.Loads.{held, seen, load_cell, Loads, Spread}

-- ---- a load

module _ (l : List ℕ) (n p : ℕ) (e : p ≡ n) where
  -- a pin past the numbers loads 0
  pub held_past : length l ≤ p → false ≡ held l n
  unfolding held
  held_past h = rw (get_or-eq_default l 0 {n = n} (omega arith))

  -- any pin loads its number
  pub held_there : not (eqb (get_or l p 0) 0) ≡ held l n
  unfolding held
  held_there = rw e

-- ---- stage 1

-- pin 0's own bit is 0
pub own_constant : (bits : List ℕ) (p : ℕ) → p ≡ 0 → false ≡ own_bit bits p
unfolding own_bit
own_constant bits p e = rw e

-- any other pin's own bit is the one handed in, 0 past them
pub own_other : (bits : List ℕ) (p : ℕ) → (p ≡ 0 → ⊥) → held bits p ≡ own_bit bits p
unfolding own_bit held
own_other bits zero n = absurd (n refl)
own_other bits (suc p) n = refl

-- an empty cell loads 0
pub load_empty : (load : ℕ → Bool) (c : ℕ) → filled c ≡ false → false ≡ load_cell load c
unfolding load_cell
load_empty load c e = rw (e, load_cell)

-- a filled one what its pin loads
pub load_filled : (load : ℕ → Bool) (c : ℕ) → filled c ≡ true → (p : ℕ) → p ≡ cell_pin c → (r : Bool) → r ≡ load p → r ≡ load_cell load c
unfolding load_cell
load_filled load c e p d r f = rw (e, load_cell) (f ∙ ap load d)

-- ---- level 0

-- level 0 loaded up to a position
pub record LoadsTo (K : ℕ) (cells : List ℕ) (load : ℕ → Bool) (bits : List ℕ) (q : ℕ) (now : List ℕ) : Type 0 where
  pub len : length now ≡ length bits
  pub low : 2 ^ K ≤ q
  pub row : (x : ℕ) → 2 ^ K ≤ x → x < q → get_or now x 0 ≡ as_number (load_cell load (get_or cells x empty))

module _ (K : ℕ) (cells : List ℕ) (load : ℕ → Bool) (bits : List ℕ) (U : UpAt K cells bits) where
  -- at the start of level 0 nothing is loaded yet
  pub loads_none : (q : ℕ) → q ≡ 2 ^ K → LoadsTo K cells load bits q bits
  loads_none q e = record { len = refl; low = omega arith; row = λ x a b. absurd (omega arith) }

  module _ (q : ℕ) (now : List ℕ) (r : LoadsTo K cells load bits q now) (h : q < length cells) where
    -- the next position has a bit
    pub loads_inside : q < length now
    loads_inside = omega (arith, r.len, U.same)

    -- one more position takes what its cell loads
    pub loads_more : (x : Bool) → x ≡ load_cell load (get_or cells q 0) → (v : ℕ) → v ≡ as_number x → LoadsTo K cells load bits (q + 1) (set now q v)
    loads_more x ex v ev = record {
      len = length-set now q v ∙ r.len;
      low = omega (arith, r.low);
      row = λ y a b. split (eqb y q)
          (λ t. let e = eqb_true y q t in rw (e, get_or-set_same now q v 0 loads_inside) (ev ∙ ap as_number (ex ∙ ap (load_cell load) (get_or_inside cells q 0 empty h))))
          (λ t. get_or-set_other now q y v 0 (eqb_false y q t) ∙ r.row y a (omega (arith, eqb_false y q t)));
    }

  -- all of level 0 is loaded
  pub loads_done : (q : ℕ) (now : List ℕ) → LoadsTo K cells load bits q now → length cells ≤ q → Loads K cells load bits now
  loads_done q now r h = record { len = r.len; row = λ x a b. r.row x a (omega (arith, U.stage.size)) }

-- level 0, loaded, has its bits
pub row_right : (K : ℕ) (cells : List ℕ) (load : ℕ → Bool) (bits bits' : List ℕ) → Loads K cells load bits bits' → RightFrom K cells load (2 ^ K) bits'
unfolding load_cell
row_right K cells load bits bits' R = record {
  bit = λ q a b. R.row q a b ∙ ap as_number (split (filled (get_or cells q empty))
      (λ t. rw (t, load_cell) (sym (bit_load K cells load q a b t)))
      (λ t. rw (t, load_cell) (sym (bit_empty K cells load q t))));
}

-- ---- the pins of a stage

-- a stage's pins are as many
pub pins_stage : (K : ℕ) (cells : List ℕ) → StageAt K cells → StageAt K (pins cells)
unfolding pins
pins_stage K cells S = record { height = S.height; low = S.low; high = S.high; double = S.double; size = length-map cells cell_pin ∙ S.size }

-- the pin at a position, as the code reads it
pub pin_read : (cells : List ℕ) (q c x : ℕ) → q < length cells → c ≡ x → x ≡ cell_pin (get_or cells q 0) → c ≡ get_or (pins cells) q 0
unfolding pins
pin_read cells q c x h e d =
    e ∙ d ∙ ap cell_pin (get_or_inside cells q 0 empty h) ∙ sym (pin_at cells q) ∙ get_or_inside (pins cells) q empty 0 (omega (arith, length-map cells cell_pin))

-- the positions from p on, above level 0, have stored their pins' numbers, the lowest last
pub record SpreadFrom (K : ℕ) (cells : List ℕ) (f : ℕ → ℕ) (l : List ℕ) (p : ℕ) (now : List ℕ) : Type 0 where
  pub len : length now ≡ length l
  pub low : 1 ≤ p
  pub high : p ≤ 2 ^ K
  pub each : (n : ℕ) → n < length l → get_or now n 0 ≡ seen (first_at n p (take (2 ^ K - p) (drop p cells))) f (get_or l n 0)

module _ (K : ℕ) (cells : List ℕ) (S : StageAt K cells) (f : ℕ → ℕ) (l : List ℕ) where
  -- at level 0 nothing is stored yet
  pub spread_none : (p : ℕ) → p ≡ 2 ^ K → SpreadFrom K cells f l p l
  unfolding seen first_at
  spread_none p e =
      let z : 2 ^ K - p ≡ 0 = omega arith in
      record { len = refl; low = omega (arith, S.low); high = omega arith; each = λ n h. rw z }

  -- the next position down
  module _ (p : ℕ) (now : List ℕ) (r : SpreadFrom K cells f l p now) (q : ℕ) (eq : p ≡ q + 1) (h : 1 ≤ q) (c : ℕ) (ec : c ≡ get_or cells q 0) where
    cells_back : take (2 ^ K - q) (drop q cells) ≡ c ∷ take (2 ^ K - p) (drop p cells)
    cells_back =
        let e : 2 ^ K - q ≡ suc (2 ^ K - p) = omega (arith, r.high) in
        let s : suc q ≡ p = omega arith in
        rw (e, drop-cons cells q 0 (omega (arith, r.high, S.size, S.double)), ec, s)

    first_here : (n : ℕ) → n ≡ c → first_at n q (take (2 ^ K - q) (drop q cells)) ≡ found q
    unfolding first_at
    first_here n e = rw (cells_back, first_at, eq-eqb c n (sym e))

    first_later : (n : ℕ) → (n ≡ c → ⊥) → first_at n q (take (2 ^ K - q) (drop q cells)) ≡ first_at n p (take (2 ^ K - p) (drop p cells))
    unfolding first_at
    first_later n e = let s : suc q ≡ p = omega arith in rw (cells_back, first_at, ne_eqb c n (λ d. e (sym d)), s)

    -- a cell without a pin of the graph stores nothing
    pub spread_pass : length now ≤ c → SpreadFrom K cells f l q now
    spread_pass b = record {
      len = r.len;
      low = h;
      high = omega (arith, r.high);
      each = λ n k. r.each n k ∙ rw (first_later n (λ e. omega (arith, r.len)));
    }

    -- a cell stores its number at its pin, over that of a higher position
    pub spread_more : c < length now → (v : ℕ) → v ≡ f q → SpreadFrom K cells f l q (set now c v)
    unfolding seen
    spread_more b v ev = record {
      len = length-set now c v ∙ r.len;
      low = h;
      high = omega (arith, r.high);
      each = λ n k. split (eqb n c)
          (λ t. let e = eqb_true n c t in rw (first_here n e, e, get_or-set_same now c v 0 b) ev)
          (λ t. let e = eqb_false n c t in rw (first_later n e, get_or-set_other now c n v 0 e) (r.each n k));
    }

  -- at position 1 each pin has the number of its lowest position
  pub spread_done : (p : ℕ) (now : List ℕ) → SpreadFrom K cells f l p now → p ≤ 1 → Spread K cells f l now
  unfolding lowest
  spread_done p now r h = let e : p ≡ 1 = omega (arith, r.low) in record { len = r.len; each = λ n k. rw e at (r.each n k) }
