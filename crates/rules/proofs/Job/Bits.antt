-- Numbers in bits and bytes, and back. Assumes nothing.
use Prim.Native.Nat.{ℕ, zero, suc, ◌+◌, ◌*◌, ◌/◌, ◌%◌, ◌^◌, ◌<◌}
use mathlib.Core.Path.{◌≡◌, refl, sym, ap, ◌∙◌}
use mathlib.Core.List.{List, [], ◌∷◌, ◌++◌, map, append-nil, append_assoc}
use native.Mathlib.Nat.{div-one, pow-suc, div-div-eq-div-mul, mod-eq_of_lt, div-lt_iff_lt-mul, add-mul, mul_assoc, mul_comm}
use native.Mathlib.Numerals.{one-add}
use native.Mathlib.Omega.{arith}
use lib.ListN.{length, get_or, take, drop, length-append, length-drop, take-append-drop}
use lib.Seq.{get_or-drop, drop-drop, take_at, drop_at, length-take-le}
use lib.Pow.{pow_pos, pow-add, mod-pow-add}
use Rattle.rules.specs.Lists.{gather, up_to}
use Rattle.rules.specs.Job.{bits_of, number_of, bytes_of}

-- every number of a list is a bit
pub record Bits (bs : List ℕ) : Type 0 where
  pub at : (i : ℕ) → get_or bs i 0 < 2

-- a list of nothing is one of bits
pub bits_none : Bits []
bits_none = record { at = λ i. omega arith }

-- bits without their first are bits
pub bits_tail : {b : ℕ} {bs : List ℕ} → Bits (b ∷ bs) → Bits bs
bits_tail B = record { at = λ i. B.at (suc i) }

-- and so without their first n
pub bits_drop : (n : ℕ) {bs : List ℕ} → Bits bs → Bits (drop n bs)
bits_drop n {bs} B = record { at = λ i. rw (get_or-drop n bs i 0) (B.at (n + i)) }

cons_at : (b : ℕ) (bs : List ℕ) → b < 2 → Bits bs → (i : ℕ) → get_or (b ∷ bs) i 0 < 2
cons_at b bs h B zero = h
cons_at b bs h B (suc i) = B.at i

-- one bit more in front of bits
pub bits_cons : {b : ℕ} {bs : List ℕ} → b < 2 → Bits bs → Bits (b ∷ bs)
bits_cons {b} {bs} h B = record { at = cons_at b bs h B }

-- the first n of some bits are bits
pub bits_take : (n : ℕ) (bs : List ℕ) → Bits bs → Bits (take n bs)
bits_take zero bs B = bits_none
bits_take (suc n) [] B = bits_none
bits_take (suc n) (b ∷ bs) B = bits_cons (B.at 0) (bits_take n bs (bits_tail B))

-- bits behind bits are bits
pub bits_append : (bs cs : List ℕ) → Bits bs → Bits cs → Bits (bs ++ cs)
bits_append [] cs B C = C
bits_append (b ∷ bs) cs B C = bits_cons (B.at 0) (bits_append bs cs (bits_tail B) C)

-- a number is written in bits
pub bits_of_lem : (w n : ℕ) → Bits (bits_of w n)
unfolding bits_of
bits_of_lem zero n = bits_none
bits_of_lem (suc w) n = bits_cons (omega arith) (bits_of_lem w n)

-- and so are several
pub bits_gather : (w : ℕ) (xs : List ℕ) → Bits (gather (bits_of w) xs)
unfolding gather
bits_gather w [] = bits_none
bits_gather w (x ∷ xs) = bits_append (bits_of w x) (gather (bits_of w) xs) (bits_of_lem w x) (bits_gather w xs)

-- a number in w bits has w of them
pub width : (w n : ℕ) → length (bits_of w n) ≡ w
unfolding bits_of
width zero n = refl
width (suc w) n = ap suc (width w n)

-- several numbers in w bits have w each
pub gather_width : (w : ℕ) (xs : List ℕ) → length (gather (bits_of w) xs) ≡ w * length xs
unfolding gather
gather_width w [] = omega arith
gather_width w (x ∷ xs) = length-append (bits_of w x) (gather (bits_of w) xs) ∙ rw (width w x, gather_width w xs) (omega arith)

-- the number before the bits is what is left when they are shifted out
pub number_high : (bs : List ℕ) → Bits bs → (m : ℕ) → number_of bs m / 2 ^ length bs ≡ m
unfolding number_of
number_high [] B m = div-one m
number_high (b ∷ bs) B m =
    let h = B.at 0 in
    rw (pow-suc 2 (length bs), ← div-div-eq-div-mul (number_of bs (2 * m + b)) (2 ^ length bs) 2, number_high bs (bits_tail B) (2 * m + b)) (omega arith)

-- n bits make a number below 2^n
pub number_below : (bs : List ℕ) → Bits bs → number_of bs 0 < 2 ^ length bs
number_below bs B = let e = number_high bs B 0 in let h = (div-lt_iff_lt-mul {x = number_of bs 0} {y = 1} (pow_pos (length bs))).0 (omega arith) in omega (arith, h)

-- bits, their number, and its bits
pub bits_number : (bs : List ℕ) → Bits bs → (m : ℕ) → bits_of (length bs) (number_of bs m) ≡ bs
unfolding number_of bits_of
bits_number [] B m = refl
bits_number (b ∷ bs) B m =
    let h = B.at 0 in
    let e : (2 * m + b) % 2 ≡ b = omega arith in
    rw (number_high bs (bits_tail B) (2 * m + b), e, bits_number bs (bits_tail B) (2 * m + b))

-- a number, its bits, and their number
pub number_bits : (w n m : ℕ) (bs : List ℕ) → number_of (bits_of w n ++ bs) m ≡ number_of bs (m * 2 ^ w + n % 2 ^ w)
unfolding number_of bits_of
number_bits zero n m bs = let e : m ≡ m * 1 + n % 1 = omega arith in ap (number_of bs) e
number_bits (suc w) n m bs =
    let d = n / 2 ^ w % 2 in
    let e : (2 * m + d) * 2 ^ w + n % 2 ^ w ≡ m * 2 ^ suc w + n % 2 ^ suc w =
    rw (← one-add w, mod-pow-add n 1 w, pow-add 2 1 w) (omega (arith, add-mul (2 * m) d (2 ^ w), mul_assoc 2 m (2 ^ w), mul_assoc m 2 (2 ^ w), mul_comm m 2)) in
    number_bits w n (2 * m + d) bs ∙ ap (number_of bs) e

-- a number that fits in w bits is read back from them
pub number_of_lem : (w n : ℕ) → n < 2 ^ w → number_of (bits_of w n) 0 ≡ n
unfolding number_of
number_of_lem w n h =
    let e : 0 * 2 ^ w + n % 2 ^ w ≡ n = omega (arith, mod-eq_of_lt h) in
    ap (λ (bs : List ℕ). number_of bs 0) (sym (append-nil (bits_of w n))) ∙ number_bits w n 0 [] ∙ e

-- whole bytes: the first, and those behind it
blocks : ℕ → List ℕ → List ℕ
blocks zero bs = []
blocks (suc n) bs = number_of (take 8 bs) 0 ∷ blocks n (drop 8 bs)

blocks_from : (n i : ℕ) (bs : List ℕ) → map (λ j. number_of (take 8 (drop (8 * j) bs)) 0) (up_to n i) ≡ blocks n (drop (8 * i) bs)
unfolding up_to blocks
blocks_from zero i bs = refl
blocks_from (suc n) i bs =
    let e : 8 * i + 8 ≡ 8 * suc i = omega arith in
    rw (drop-drop 8 (8 * i) bs, e, blocks_from n (suc i) bs)

blocks_of : (bs : List ℕ) → bytes_of bs ≡ blocks (length bs / 8) bs
unfolding bytes_of
blocks_of bs = blocks_from (length bs / 8) 0 bs

-- the bits of whole bytes are the bits that they were made of
blocks_bits : (n : ℕ) (bs : List ℕ) → Bits bs → length bs ≡ 8 * n → gather (bits_of 8) (blocks n bs) ≡ bs
unfolding gather blocks
blocks_bits zero [] B e = refl
blocks_bits zero (b ∷ bs) B e = absurd (omega arith)
blocks_bits (suc n) bs B e =
    let l : length (take 8 bs) ≡ 8 = length-take-le 8 bs (omega arith) in
    let d : bits_of 8 (number_of (take 8 bs) 0) ≡ take 8 bs = rw l at (bits_number (take 8 bs) (bits_take 8 bs B) 0) in
    rw (d, blocks_bits n (drop 8 bs) (bits_drop 8 B) (omega (arith, length-drop 8 bs))) (take-append-drop 8 bs)

-- bits that fill whole bytes, packed and unpacked, are the same
pub bytes_bits : (bs : List ℕ) → Bits bs → length bs % 8 ≡ 0 → gather (bits_of 8) (bytes_of bs) ≡ bs
bytes_bits bs B e = rw (blocks_of bs) (blocks_bits (length bs / 8) bs B (omega arith))

-- bits behind whole bytes make bytes behind bytes
blocks_append : (n m : ℕ) (bs cs : List ℕ) → length bs ≡ 8 * n → blocks (n + m) (bs ++ cs) ≡ blocks n bs ++ blocks m cs
unfolding blocks
blocks_append zero m [] cs e = let d : 0 + m ≡ m = omega arith in rw d
blocks_append zero m (b ∷ bs) cs e = absurd (omega arith)
blocks_append (suc n) m bs cs e =
    let d : suc n + m ≡ suc (n + m) = omega arith in
    let l : length (take 8 bs) ≡ 8 = length-take-le 8 bs (omega arith) in
    let f : bs ++ cs ≡ take 8 bs ++ (drop 8 bs ++ cs) = ap (λ (r : List ℕ). r ++ cs) (sym (take-append-drop 8 bs)) ∙ append_assoc (take 8 bs) (drop 8 bs) cs in
    rw (d, f, take_at (take 8 bs) (drop 8 bs ++ cs) 8 l, drop_at (take 8 bs) (drop 8 bs ++ cs) 8 l) (ap (λ (r : List ℕ). number_of (take 8 bs) 0 ∷ r) (blocks_append n m (drop 8 bs) cs (omega (arith, length-drop 8 bs))))

-- bits behind whole bytes are packed by themselves
pub bytes_append : (bs cs : List ℕ) → length bs % 8 ≡ 0 → bytes_of (bs ++ cs) ≡ bytes_of bs ++ bytes_of cs
bytes_append bs cs e =
    let d : length (bs ++ cs) / 8 ≡ length bs / 8 + length cs / 8 = omega (arith, length-append bs cs) in
    rw (blocks_of (bs ++ cs), blocks_of bs, blocks_of cs, d) (blocks_append (length bs / 8) (length cs / 8) bs cs (omega arith))

blocks_length : (n : ℕ) (bs : List ℕ) → length (blocks n bs) ≡ n
unfolding blocks
blocks_length zero bs = refl
blocks_length (suc n) bs = ap suc (blocks_length n (drop 8 bs))

-- every eight bits make a byte
pub bytes_length : (bs : List ℕ) → length (bytes_of bs) ≡ length bs / 8
bytes_length bs = rw (blocks_of bs) (blocks_length (length bs / 8) bs)

-- the bytes of the bits of bytes
pub record Bytes (xs : List ℕ) : Type 0 where
  pub at : (i : ℕ) → get_or xs i 0 < 256

blocks_bytes : (xs : List ℕ) → Bytes xs → blocks (length xs) (gather (bits_of 8) xs) ≡ xs
unfolding gather blocks
blocks_bytes [] B = refl
blocks_bytes (x ∷ xs) B =
    let t : take 8 (bits_of 8 x ++ gather (bits_of 8) xs) ≡ bits_of 8 x = take_at (bits_of 8 x) (gather (bits_of 8) xs) 8 (width 8 x) in
    let d : drop 8 (bits_of 8 x ++ gather (bits_of 8) xs) ≡ gather (bits_of 8) xs = drop_at (bits_of 8 x) (gather (bits_of 8) xs) 8 (width 8 x) in
    rw (t, d, number_of_lem 8 x (B.at 0), blocks_bytes xs (record { at = λ i. B.at (suc i) }))

-- bytes, unpacked and packed again, are the same
pub bits_bytes : (xs : List ℕ) → Bytes xs → bytes_of (gather (bits_of 8) xs) ≡ xs
bits_bytes xs B =
    let e : length (gather (bits_of 8) xs) / 8 ≡ length xs = omega (arith, gather_width 8 xs) in
    rw (blocks_of (gather (bits_of 8) xs), e) (blocks_bytes xs B)
