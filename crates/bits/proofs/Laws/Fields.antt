-- A bit of bytes, and a number bit after bit. Assumes nothing.
use mathlib.Core.Path.{◌≡◌, refl}
use mathlib.Core.Bool.{true, false}
use mathlib.Core.List.{List, [], ◌∷◌, ◌++◌}
use Prim.Native.Nat.{ℕ, zero, suc, ◌+◌, ◌-◌, ◌*◌, ◌/◌, ◌%◌, ◌^◌, ◌<◌, ◌≤◌}
use native.Mathlib.Omega.{arith}
use native.Mathlib.Numerals.{add-one}
use lib.ListN.{length, get_or, take, drop, length-drop}
use lib.Seq.{take-suc, get_or-drop, drop-drop, length-take-le}
use lib.Dec.{leb}
use borrow.Author.Tests.{le-leb, lt-leb}
use lib.Pow.{pow_mono}
use Rattle.rules.specs.Lists.{gather}
use Rattle.rules.specs.Job.{bits_of, number_of, cut, got, field}
use Rattle.rules.proofs.Job.Bits.{Bits, bits_gather, bits_take, bits_drop, number_below, gather_width}
use Rattle.bits.specs.Fields.{bits_in, FieldAt, FieldIs}

-- what the bytes hold are bits, 0 or 1
pub bits_bits : (xs : List ℕ) → Bits (bits_in xs)
unfolding bits_in
bits_bits xs = bits_gather 8 xs

-- every byte has eight bits
pub bits_length : (xs : List ℕ) → length (bits_in xs) ≡ 8 * length xs
unfolding bits_in
bits_length xs = gather_width 8 xs

-- the bit at an index is in the byte at an eighth of it
pub bit_at : (xs : List ℕ) (at : ℕ) → at < 8 * length xs → get_or (bits_in xs) at 0 ≡ get_or xs (at / 8) 0 / 2 ^ (7 - at % 8) % 2
unfolding bits_in gather bits_of
bit_at [] at h = absurd (omega arith)
bit_at (x ∷ xs) zero h = refl
bit_at (x ∷ xs) (suc zero) h = refl
bit_at (x ∷ xs) (suc (suc zero)) h = refl
bit_at (x ∷ xs) (suc (suc (suc zero))) h = refl
bit_at (x ∷ xs) (suc (suc (suc (suc zero)))) h = refl
bit_at (x ∷ xs) (suc (suc (suc (suc (suc zero))))) h = refl
bit_at (x ∷ xs) (suc (suc (suc (suc (suc (suc zero)))))) h = refl
bit_at (x ∷ xs) (suc (suc (suc (suc (suc (suc (suc zero))))))) h = refl
bit_at (x ∷ xs) (suc (suc (suc (suc (suc (suc (suc (suc at)))))))) h =
    let q : suc (suc (suc (suc (suc (suc (suc (suc at))))))) / 8 ≡ suc (at / 8) = omega arith in
    let r : suc (suc (suc (suc (suc (suc (suc (suc at))))))) % 8 ≡ at % 8 = omega arith in
    rw (q, r) (bit_at xs at (omega arith))

number_end : (bs : List ℕ) (b m : ℕ) → number_of (bs ++ (b ∷ [])) m ≡ 2 * number_of bs m + b
unfolding number_of
number_end [] b m = refl
number_end (x ∷ bs) b m = number_end bs b (2 * m + x)

-- the number of the first i bits
pub record Summed (at w : ℕ) (xs : List ℕ) (i n : ℕ) : Type 0 where
  pub upto : i ≤ w
  pub is : n ≡ number_of (take i (drop at (bits_in xs))) 0
  pub below : n < 2 ^ i
  pub small : n < 2 ^ 17

module _ {at w : ℕ} {xs : List ℕ} (A : FieldAt at w xs) where
  summed : (i n : ℕ) → i ≤ w → n ≡ number_of (take i (drop at (bits_in xs))) 0 → Summed at w xs i n
  summed i n h e =
      let bs = drop at (bits_in xs) in
      let a = A.inside in
      let l : length (take i bs) ≡ i = length-take-le i bs (omega (arith, length-drop at (bits_in xs), bits_length xs)) in
      let b : n < 2 ^ i = rw (l, ← e) at (number_below (take i bs) (bits_take i bs (bits_drop at (bits_bits xs)))) in
      let p : 2 ^ i ≤ 2 ^ 17 = pow_mono {i = i} {j = 17} (let s = A.short in omega arith) in
      record { upto = h; is = e; below = b; small = omega arith }

  -- before the first bit the number is 0
  pub summed_none : Summed at w xs 0 0
  unfolding number_of
  summed_none = summed 0 0 (omega arith) refl

  module _ {i n : ℕ} (S : Summed at w xs i n) where
    -- the next bit doubles the number and is added to it
    pub summed_more : i < w → (b : ℕ) → b ≡ get_or (bits_in xs) (at + i) 0 → Summed at w xs (i + 1) (2 * n + b)
    summed_more h b e =
        let bs = drop at (bits_in xs) in
        let a = A.inside in
        let t : take (i + 1) bs ≡ take i bs ++ (get_or bs i 0 ∷ []) = rw (add-one i) (take-suc bs i 0 (omega (arith, length-drop at (bits_in xs), bits_length xs))) in
        summed (i + 1) (2 * n + b) (omega arith) (rw (t, number_end (take i bs) (get_or bs i 0) 0, ← S.is, e, get_or-drop at (bits_in xs) i 0))

    -- once all w bits are read the number is the field's
    pub summed_done : w ≤ i → FieldIs at w xs n
    summed_done h = let e : i ≡ w = let u = S.upto in omega arith in record { is = rw e at S.is; below = rw e at S.below }

-- the field that stands at an index, or is cut there
pub field_there : (at w : ℕ) (xs : List ℕ) (n : ℕ) → FieldIs at w xs n → at + w ≤ 8 * length xs → field w (drop at (bits_in xs)) ≡ got n (drop (at + w) (bits_in xs))
unfolding field
field_there at w xs n F h =
    let bs = drop at (bits_in xs) in
    let t : leb w (length bs) ≡ true = le-leb w (length bs) (omega (arith, length-drop at (bits_in xs), bits_length xs)) in
    rw (t, field, ← F.is, drop-drop w at (bits_in xs))

-- a field that reaches past the last byte is cut
pub field_lost : (at w : ℕ) (xs : List ℕ) → 8 * length xs - at < w → field w (drop at (bits_in xs)) ≡ cut
unfolding field
field_lost at w xs h =
    let bs = drop at (bits_in xs) in
    let t : leb w (length bs) ≡ false = lt-leb w (length bs) (omega (arith, length-drop at (bits_in xs), bits_length xs)) in
    rw (t, field)
