-- The empty mark, by what the code tests, a cell's pin, and which numbers are cells. Assumes nothing.
use Prim.Native.Nat.{ℕ, ◌/◌, ◌%◌, ◌<◌, ◌≤◌}
use mathlib.Core.Path.{◌≡◌, sym}
use mathlib.Core.Bool.{Bool, true, false, not, ◌&&◌, ◌||◌}
use native.Mathlib.Omega.{arith}
use lib.Dec.{ltb, eqb}
use borrow.Author.Tests.{lt-ltb, le-ltb, eq-eqb, ne_eqb, eqb-true, eqb-false}
use Rattle.rules.specs.Fold.{as_number}
use Rattle.rules.specs.Cells.{empty, filled}
use Rattle.rules.specs.Coded.{cell_pin, ands}
use Rattle.rules.proofs.Lists.Members.{split}
use Rattle.rules.proofs.Bools.{and_none}

-- what is tested is whether a cell is empty
pub empty_tested : (c : ℕ) → eqb c 4294967295 ≡ not (filled c)
unfolding filled empty
empty_tested c = split (eqb c 4294967295) (λ e. rw e) (λ e. rw e)

-- the empty mark fills no cell
pub mark_empty : (c : ℕ) → c ≡ 4294967295 → filled c ≡ false
unfolding filled empty
mark_empty c e = rw (eq-eqb c 4294967295 e)

-- any other number does
pub other_filled : (c : ℕ) → (c ≡ 4294967295 → ⊥) → filled c ≡ true
unfolding filled empty
other_filled c e = rw (ne_eqb c 4294967295 e)

-- an empty cell's pin is the empty mark
pub pin_none_lem : (c : ℕ) → c ≡ 4294967295 → 4294967295 ≡ cell_pin c
unfolding cell_pin empty
pin_none_lem c e = rw (mark_empty c e, cell_pin)

-- a filled cell's stands in its low 16 bits
pub pin_some : (c : ℕ) → (c ≡ 4294967295 → ⊥) → c % 65536 ≡ cell_pin c
unfolding cell_pin
pin_some c e = rw (other_filled c e, cell_pin)

-- an AND as a bit
pub and_number : (c : ℕ) → as_number (ands c) ≡ c / 65536 % 2
unfolding ands as_number
and_number c = split (eqb (c / 65536 % 2) 1) (λ t. rw (t, eqb-true (c / 65536 % 2) 1 t)) (λ t. rw t (let h = eqb-false (c / 65536 % 2) 1 t in omega arith))

-- ---- is a number a filled cell

abbrev tested : ℕ → Bool
tested c = ltb 0 (cell_pin c) && ltb c 524288 && (ltb c 65536 || ands c)

-- none from 2^19 on is
pub cell_great : (c : ℕ) → 524288 ≤ c → false ≡ tested c
cell_great c h = sym (rw (le-ltb c 524288 h, and_none (ltb 0 (cell_pin c))))

module _ (c : ℕ) (h : c < 524288) where
  pin_is : cell_pin c ≡ c % 65536
  pin_is = sym (pin_some c (λ z. omega arith))

  -- none of pin 0 is
  pub cell_none : c % 65536 ≡ 0 → false ≡ tested c
  cell_none z = sym (rw (pin_is, z))

  module _ (n : c % 65536 ≡ 0 → ⊥) where
    some : ltb 0 (cell_pin c) ≡ true
    some = rw pin_is (lt-ltb 0 (c % 65536) (split (eqb (c % 65536) 0) (λ t. absurd (n (eqb-true (c % 65536) 0 t))) (λ t. let k = eqb-false (c % 65536) 0 t in omega arith)))

    -- a pin alone is
    pub cell_plain : c < 65536 → true ≡ tested c
    cell_plain k = sym (rw (some, lt-ltb c 524288 h, lt-ltb c 65536 k))

    -- any other is if it ANDs
    pub cell_ands : 65536 ≤ c → eqb (c / 65536 % 2) 1 ≡ tested c
    unfolding ands
    cell_ands k = sym (rw (some, lt-ltb c 524288 h, le-ltb c 65536 k))
