-- Bits put into bytes, one behind the other. Assumes nothing.
use mathlib.Core.Path.{◌≡◌, refl, sym, ap, ◌∙◌}
use mathlib.Core.List.{List, [], ◌∷◌, ◌++◌}
use Prim.Native.Nat.{ℕ, zero, suc, ◌+◌, ◌-◌, ◌*◌, ◌/◌, ◌%◌, ◌^◌, ◌<◌, ◌≤◌}
use native.Mathlib.Nat.{add-zero, pow-suc, add-mul, mul_assoc, mod-eq_of_lt}
use native.Mathlib.Omega.{arith}
use lib.ListN.{length, get_or, set, length-set, length-append}
use lib.Seq.{sets, set_out, set-append_left}
use lib.Pow.{pow_pos, pow_mono}
use Rattle.rules.specs.Lists.{gather}
use Rattle.rules.specs.Job.{bits_of, number_of}
use Rattle.rules.proofs.Lists.Parts.{sets_append}
use Rattle.rules.proofs.Job.Bits.{Bits, bits_of_lem, bits_cons, bits_tail, bits_number, number_below, number_of_lem, width}
use Rattle.bits.specs.Fields.{bits_in}
use Rattle.bits.specs.Putting.{BitAt, WithBit, Put}
use Rattle.bits.proofs.Laws.Fields.{bits_length}

-- ---- one bit of a byte

bits_set : (bs : List ℕ) (i b : ℕ) → b < 2 → Bits bs → Bits (set bs i b)
bits_set [] i b h B = B
bits_set (x ∷ bs) zero b h B = bits_cons h (bits_tail B)
bits_set (x ∷ bs) (suc i) b h B = bits_cons (B.at 0) (bits_set bs i b h (bits_tail B))

number_from : (bs : List ℕ) (m : ℕ) → number_of bs m ≡ m * 2 ^ length bs + number_of bs 0
unfolding number_of
number_from [] m = omega arith
number_from (b ∷ bs) m =
    let P = 2 ^ length bs in
    let e : (2 * m + b) * P + number_of bs 0 ≡ m * 2 ^ suc (length bs) + ((2 * 0 + b) * P + number_of bs 0) =
    rw (pow-suc 2 (length bs)) (omega (arith, add-mul (2 * m) b P, mul_assoc 2 m P, mul_assoc m P 2)) in
    number_from bs (2 * m + b) ∙ e ∙ ap (λ (z : ℕ). m * 2 ^ suc (length bs) + z) (sym (number_from bs (2 * 0 + b)))

-- another bit in the place of the i-th, by the weight of the place
number_set : (bs : List ℕ) (i b m : ℕ) → i < length bs → number_of (set bs i b) m + get_or bs i 0 * 2 ^ (length bs - 1 - i) ≡ number_of bs m + b * 2 ^ (length bs - 1 - i)
unfolding number_of
number_set [] i b m h = absurd (omega arith)
number_set (x ∷ bs) zero b m h =
    let P = 2 ^ length bs in
    let e : suc (length bs) - 1 - 0 ≡ length bs = omega arith in
    rw e (omega (arith, number_from bs (2 * m + b), number_from bs (2 * m + x), add-mul (2 * m) b P, add-mul (2 * m) x P))
number_set (x ∷ bs) (suc i) b m h =
    let e : suc (length bs) - 1 - suc i ≡ length bs - 1 - i = omega arith in
    rw e (number_set bs i b (2 * m + x) (omega arith))

bit_of : (x i : ℕ) → i < 8 → get_or (bits_of 8 x) i 0 ≡ x / 2 ^ (7 - i) % 2
unfolding bits_of
bit_of x zero h = refl
bit_of x (suc zero) h = refl
bit_of x (suc (suc zero)) h = refl
bit_of x (suc (suc (suc zero))) h = refl
bit_of x (suc (suc (suc (suc zero)))) h = refl
bit_of x (suc (suc (suc (suc (suc zero))))) h = refl
bit_of x (suc (suc (suc (suc (suc (suc zero)))))) h = refl
bit_of x (suc (suc (suc (suc (suc (suc (suc zero))))))) h = refl
bit_of x (suc (suc (suc (suc (suc (suc (suc (suc i)))))))) h = absurd (omega arith)

product : (b p : ℕ) → b < 2 → p ≤ 128 → b * p ≤ 128
product zero p h k = omega arith
product (suc zero) p h k = omega arith
product (suc (suc b)) p h k = absurd (omega arith)

-- what changing bit i adds and takes away, and that no step leaves a byte's range
pub record Weighed (x i b p : ℕ) : Type 0 where
  pub some : 0 < p
  pub new : b * p ≤ 128
  pub old : x / p % 2 * p ≤ 128
  pub less : x / p % 2 * p ≤ x + b * p
  pub is : number_of (set (bits_of 8 x) i b) 0 ≡ x + b * p - x / p % 2 * p

weighed : (x i b : ℕ) → x < 256 → i < 8 → b < 2 → Weighed x i b (2 ^ (7 - i))
weighed x i b h k l =
    let p = 2 ^ (7 - i) in
    let light : p ≤ 128 = pow_mono {i = 7 - i} {j = 7} (omega arith) in
    let e : number_of (set (bits_of 8 x) i b) 0 + x / p % 2 * p ≡ x + b * p = rw (width 8 x, bit_of x i k, number_of_lem 8 x h) at (number_set (bits_of 8 x) i b 0 (omega (arith, width 8 x))) in
    record { some = pow_pos (7 - i); new = product b p l light; old = product (x / p % 2) p (omega arith) light; less = omega arith; is = omega arith }

module _ {x i b p : ℕ} (A : BitAt x i b) (e : p ≡ 2 ^ (7 - i)) where
  -- the weight of place i is the power of two that the code shifts to
  pub weigh : Weighed x i b p
  weigh = rw e (weighed x i b A.byte A.inside A.bit)

  -- the byte that the code computes has the new bit in place i, the others as they were
  pub with_bit : WithBit x i b (x + b * p - x / p % 2 * p)
  with_bit =
      let bs = set (bits_of 8 x) i b in
      let B : Bits bs = bits_set (bits_of 8 x) i b A.bit (bits_of_lem 8 x) in
      let l : length bs ≡ 8 = length-set (bits_of 8 x) i b ∙ width 8 x in
      rw (← weigh.is) (record { byte = rw l at (number_below bs B); is = rw l at (bits_number bs B 0) })

-- ---- one bit of bytes

seam : (xs ys : List ℕ) (j b : ℕ) → set (xs ++ ys) (length xs + j) b ≡ xs ++ set ys j b
seam [] ys j b = let e : 0 + j ≡ j = omega arith in rw e
seam (x ∷ xs) ys j b = let e : suc (length xs) + j ≡ suc (length xs + j) = omega arith in rw e (ap (λ (r : List ℕ). x ∷ r) (seam xs ys j b))

set_byte : (xs : List ℕ) (q i b y : ℕ) → q < length xs → i < 8 → bits_of 8 y ≡ set (bits_of 8 (get_or xs q 0)) i b → bits_in (set xs q y) ≡ set (bits_in xs) (8 * q + i) b
unfolding bits_in gather
set_byte [] q i b y h k e = absurd (omega arith)
set_byte (x ∷ xs) zero i b y h k e =
    let d : 8 * 0 + i ≡ i = omega arith in
    rw (e, d) (sym (set-append_left (bits_of 8 x) (gather (bits_of 8) xs) i b (omega (arith, width 8 x))))
set_byte (x ∷ xs) (suc q) i b y h k e =
    let d : 8 * suc q + i ≡ length (bits_of 8 x) + (8 * q + i) = omega (arith, width 8 x) in
    rw (d, seam (bits_of 8 x) (gather (bits_of 8) xs) (8 * q + i) b) (ap (λ (r : List ℕ). bits_of 8 x ++ r) (set_byte xs q i b y (omega arith) k e))

-- a byte stored with another bit is that one bit stored among all bits
pub bit_put : (xs : List ℕ) (at b y : ℕ) → at / 8 < length xs → WithBit (get_or xs (at / 8) 0) (at % 8) b y → bits_in (set xs (at / 8) y) ≡ set (bits_in xs) at b
bit_put xs at b y h W = let e : 8 * (at / 8) + at % 8 ≡ at = omega arith in rw e at (set_byte xs (at / 8) (at % 8) b y h (omega arith) W.is)

-- a bit past the last byte is put nowhere
pub bit_past : (xs : List ℕ) (at b : ℕ) → length xs ≤ at / 8 → bits_in xs ≡ set (bits_in xs) at b
bit_past xs at b h = sym (set_out (bits_in xs) at b (omega (arith, bits_length xs)))

-- ---- bits behind bits

-- what is left to put gives what was to be put
pub record Left (whole rest xs xs' : List ℕ) (at at' : ℕ) : Type 0 where
  pub len : length xs' ≡ length xs
  pub is : sets (bits_in xs') at' rest ≡ sets (bits_in xs) at whole
  pub ends : at' + length rest ≡ at + length whole

-- at the start all is left to put
pub left_all : {whole xs : List ℕ} {at : ℕ} → Left whole whole xs xs at at
left_all = record { len = refl; is = refl; ends = refl }

module _ {whole rest xs xs₁ : List ℕ} {at at₁ : ℕ} where
  -- one bit put, the others are left
  pub left_bit : {b : ℕ} {xs₂ : List ℕ} → Left whole (b ∷ rest) xs xs₁ at at₁ → bits_in xs₂ ≡ set (bits_in xs₁) at₁ b → Left whole rest xs xs₂ at (at₁ + 1)
  left_bit {b} {xs₂} L e =
      let l : length xs₂ ≡ length xs₁ = omega (arith, bits_length xs₂, bits_length xs₁, ap length e, length-set (bits_in xs₁) at₁ b) in
      let s : at₁ + 1 ≡ suc at₁ = omega arith in
      record { len = l ∙ L.len; is = rw (e, s) L.is; ends = omega (arith, L.ends) }

  -- some bits put, those behind them are left
  pub left_step : {bs xs₂ : List ℕ} {at₂ : ℕ} → Left whole (bs ++ rest) xs xs₁ at at₁ → Put bs xs₁ xs₂ at₁ at₂ → Left whole rest xs xs₂ at at₂
  left_step {bs} L P = record { len = P.len ∙ L.len; is = rw (P.is, P.behind, sets_append (bits_in xs₁) at₁ bs rest) L.is; ends = omega (arith, L.ends, P.behind, length-append bs rest) }

-- when nothing is left all bits stand
pub left_none : {whole xs xs₁ : List ℕ} {at at₁ : ℕ} → Left whole [] xs xs₁ at at₁ → Put whole xs xs₁ at at₁
left_none L = record { len = L.len; is = L.is; behind = omega (arith, L.ends) }

-- one list of bits behind the other is both put
pub put_then : {bs cs xs xs₁ xs₂ : List ℕ} {at at₁ at₂ : ℕ} → Put bs xs xs₁ at at₁ → Put cs xs₁ xs₂ at₁ at₂ → Put (bs ++ cs) xs xs₂ at at₂
put_then {bs} {cs} {xs} {xs₁} {xs₂} {at} P Q = record { len = Q.len ∙ P.len; is = rw (Q.is, P.is, P.behind) (sets_append (bits_in xs) at bs cs); behind = omega (arith, P.behind, Q.behind, length-append bs cs) }

-- ---- a field, bit by bit

-- a field while it is put: so many of its low bits are left
pub record Going (n w left from at : ℕ) (xs xs' : List ℕ) : Type 0 where
  pub upto : left ≤ w
  pub here : at + left ≡ from + w
  pub rest : Left (bits_of w n) (bits_of left n) xs xs' from at

-- at the start all bits of the field are left
pub going_all : {n w from : ℕ} {xs : List ℕ} → Going n w w from from xs xs
going_all = record { upto = omega arith; here = refl; rest = left_all }

-- the highest bit that is left is put next
pub going_bit : {n w left from at : ℕ} {xs xs₁ xs₂ : List ℕ} → 0 < left → Going n w left from at xs xs₁ → bits_in xs₂ ≡ set (bits_in xs₁) at (n / 2 ^ (left - 1) % 2) → Going n w (left - 1) from (at + 1) xs xs₂
unfolding bits_of
going_bit {left = zero} h G e = absurd (omega arith)
going_bit {left = suc left} h G e = let s : suc left - 1 ≡ left = omega arith in rw s (record { upto = omega (arith, G.upto); here = omega (arith, G.here); rest = left_bit G.rest (rw s at e) })

-- when no bit is left the field stands
pub going_none : {n w left from at : ℕ} {xs xs₁ : List ℕ} → left ≤ 0 → Going n w left from at xs xs₁ → Put (bits_of w n) xs xs₁ from at
unfolding bits_of
going_none {left = zero} h G = left_none G.rest
going_none {left = suc left} h G = absurd (omega arith)

-- a shifted 1 is the weight of place i, within 32 bits
pub shifted : (i : ℕ) → i < 8 → 1 * 2 ^ (7 - i) % 2 ^ 32 ≡ 2 ^ (7 - i)
shifted i h = let l : 2 ^ (7 - i) ≤ 2 ^ 7 = pow_mono {i = 7 - i} {j = 7} (omega arith) in let small : 2 ^ (7 - i) < 2 ^ 32 = omega arith in omega (arith, mod-eq_of_lt small)

-- an empty part comes back as it was
pub none_back : (ys gs : List ℕ) → length ys ≡ 0 → ys ++ gs ≡ gs
none_back [] gs e = refl
none_back (y ∷ ys) gs e = absurd (omega arith)
