-- What a coded cell says. Assumes nothing.
use Prim.Native.Nat.{ℕ, ◌+◌, ◌*◌, ◌/◌, ◌%◌, ◌<◌}
use mathlib.Core.Path.{◌≡◌, ◌∙◌}
use mathlib.Core.Bool.{true, false}
use native.Mathlib.Omega.{arith}
use lib.Dec.{eqb}
use Rattle.rules.specs.Cells.{empty, filled}
use Rattle.rules.specs.Graph.{Node, leaf, gate, inversion_of}
use Rattle.rules.proofs.Lists.Members.{split, eqb_true, eqb_same}
use Rattle.rules.specs.Coded.{cell_pin, ands, first_inversion, second_inversion, and_of, and_cell}

-- a filled cell's pin stands in its low 16 bits
pub pin_filled : (c : ℕ) → filled c ≡ true → cell_pin c ≡ c % 65536
unfolding cell_pin
pin_filled c e = rw (e, cell_pin)

-- an empty cell has none
pub pin_empty : (c : ℕ) → filled c ≡ false → cell_pin c ≡ empty
unfolding cell_pin
pin_empty c e = rw (e, cell_pin)

-- a number that a cell may be is not the empty mark
pub small_filled : (n : ℕ) → n < 524288 → filled n ≡ true
unfolding filled empty
small_filled n h = split (eqb n empty) (λ e. absurd (omega (arith, eqb_true n empty e))) (λ e. rw e)

-- a cell is filled where its pin is no empty mark
pub filled_pin : (c : ℕ) → filled (cell_pin c) ≡ filled c
unfolding filled
filled_pin c = split (filled c) (λ e. rw (pin_filled c e, e) (small_filled (c % 65536) (omega arith))) (λ e. rw (pin_empty c e, e) (rw eqb_same))

-- a load or a copy is its pin
pub pin_plain : (n : ℕ) → n < 65536 → cell_pin n ≡ n
pin_plain n h = pin_filled n (small_filled n (omega arith)) ∙ omega arith

-- and does not AND
pub ands_plain : (n : ℕ) → n < 65536 → ands n ≡ false
unfolding ands
ands_plain n h = let e : n / 65536 % 2 ≡ 0 = omega arith in rw e

-- an AND
module _ (n a b : ℕ) (h : n < 65536) where
  and_small : and_cell n (gate a b) < 524288
  unfolding and_cell and_of inversion_of
  and_small = omega arith

  -- an AND is filled
  pub and_filled : filled (and_cell n (gate a b)) ≡ true
  and_filled = small_filled (and_cell n (gate a b)) and_small

  -- with its pin
  pub pin_and : cell_pin (and_cell n (gate a b)) ≡ n
  unfolding and_cell and_of inversion_of
  pin_and = pin_filled (and_cell n (gate a b)) and_filled ∙ omega arith

  -- it ANDs
  pub ands_and : ands (and_cell n (gate a b)) ≡ true
  unfolding ands and_cell and_of inversion_of
  ands_and = let e : (n + 65536 + 131072 * (a % 2) + 262144 * (b % 2)) / 65536 % 2 ≡ 1 = omega arith in rw e

  -- with its gate's inversions, the first
  pub first_and : first_inversion (and_cell n (gate a b)) ≡ inversion_of a
  unfolding first_inversion and_cell and_of inversion_of
  first_and = omega arith

  -- and the second
  pub second_and : second_inversion (and_cell n (gate a b)) ≡ inversion_of b
  unfolding second_inversion and_cell and_of inversion_of
  second_and = omega arith

-- an AND is more than its pin
pub and_wide : (n a b : ℕ) → n < and_cell n (gate a b)
unfolding and_cell and_of
and_wide n a b = omega arith

-- whatever drives the pin, an AND holds it
pub pin_any : (n : ℕ) → n < 65536 → (x : Node) → cell_pin (and_cell n x) ≡ n
unfolding and_cell and_of
pin_any n h leaf = pin_filled (and_of n 0 0) (small_filled (and_of n 0 0) (omega arith)) ∙ omega arith
pin_any n h (gate a b) = pin_and n a b h
