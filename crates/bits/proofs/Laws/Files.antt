-- Bits filled up to a whole byte, and whole bytes put over the front of others. Assumes nothing.
use mathlib.Core.Path.{◌≡◌, refl, sym, ap, ◌∙◌}
use mathlib.Core.List.{List, [], ◌∷◌, ◌++◌}
use Prim.Native.Nat.{ℕ, zero, suc, ◌+◌, ◌-◌, ◌*◌, ◌/◌, ◌%◌, ◌^◌, ◌≤◌}
use native.Mathlib.Nat.{div-lt_iff_lt-mul}
use native.Mathlib.Omega.{arith}
use lib.ListN.{length, drop, replicate}
use lib.Pow.{pow_pos}
use lib.Seq.{sets-eq, get_or-drop, drop_at, drop-drop}
use Rattle.rules.specs.Lists.{gather, laid_over}
use Rattle.rules.specs.Job.{bits_of, to_byte, bytes_of}
use Rattle.rules.proofs.Job.Bits.{Bytes, width, bytes_append, bytes_length, bits_bytes}
use Rattle.bits.specs.Fields.{bits_in}
use Rattle.bits.specs.Putting.{Put}
use Rattle.bits.proofs.Laws.Fields.{bits_length}
use Rattle.bits.proofs.Laws.Putting.{put_then}

zero_bits : (n : ℕ) → bits_of n 0 ≡ replicate n 0
unfolding bits_of
zero_bits zero = refl
zero_bits (suc n) = let z : 0 / 2 ^ n % 2 ≡ 0 = omega (arith, (div-lt_iff_lt-mul {x = 0} {y = 1} (pow_pos n)).1 (omega (arith, pow_pos n))) in rw (z, zero_bits n)

-- bits from the front on, and zero bits up to a byte
pub put_padded : {bs x y z : List ℕ} {r s : ℕ} → Put bs x y 0 r → Put (bits_of ((8 - r % 8) % 8) 0) y z r s → Put (to_byte bs) x z 0 s
unfolding to_byte
put_padded {bs} {r = r} P Z = let e : length bs ≡ r = omega (arith, P.behind) in rw (e, ← zero_bits ((8 - r % 8) % 8)) (put_then P Z)

back : (xs : List ℕ) → Bytes xs → bytes_of (bits_in xs) ≡ xs
unfolding bits_in
back xs B = bits_bytes xs B

bytes_drop : (k : ℕ) {xs : List ℕ} → Bytes xs → Bytes (drop k xs)
bytes_drop k {xs} B = record { at = λ i. rw (get_or-drop k xs i 0) (B.at (k + i)) }

drop_bits : (k : ℕ) (xs : List ℕ) → drop (8 * k) (bits_in xs) ≡ bits_in (drop k xs)
unfolding bits_in gather
drop_bits zero xs = refl
drop_bits (suc k) [] = let e : 8 * suc k ≡ suc (8 * k + 7) = omega arith in rw e
drop_bits (suc k) (x ∷ xs) =
    let e : 8 * suc k ≡ 8 + 8 * k = omega arith in
    rw (e, ← drop-drop (8 * k) 8 (bits_of 8 x ++ gather (bits_of 8) xs), drop_at (bits_of 8 x) (gather (bits_of 8) xs) 8 (width 8 x)) (drop_bits k xs)

-- the bits of whole bytes, put from the front on, are these bytes over the front
pub bits_laid : (bs : List ℕ) → length bs % 8 ≡ 0 → {xs xs₁ : List ℕ} {m : ℕ} → Put bs xs xs₁ 0 m → Bytes xs → Bytes xs₁ → length bs / 8 ≤ length xs → xs₁ ≡ laid_over (bytes_of bs) xs
unfolding laid_over
bits_laid bs w {xs} {xs₁} P B B₁ room =
    let k = length bs / 8 in
    let e : 0 + length bs ≡ 8 * k = omega arith in
    let s : bits_in xs₁ ≡ bs ++ bits_in (drop k xs) = P.is ∙ sets-eq bs (bits_in xs) 0 (omega (arith, bits_length xs)) ∙ rw e (ap (λ (r : List ℕ). bs ++ r) (drop_bits k xs)) in
    let l : length (bytes_of bs) ≡ k = bytes_length bs in
    sym (back xs₁ B₁) ∙ ap bytes_of s ∙ bytes_append bs (bits_in (drop k xs)) w ∙ rw l (ap (λ (r : List ℕ). bytes_of bs ++ r) (back (drop k xs) (bytes_drop k B)))
