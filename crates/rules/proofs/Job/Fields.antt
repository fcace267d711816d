-- Fields: a reader takes exactly the bits that the writer makes. Assumes nothing.
use Prim.Native.Nat.{ℕ, zero, suc, ◌^◌, ◌<◌}
use mathlib.Core.Path.{◌≡◌, refl, sym, ap, ◌∙◌}
use mathlib.Core.Bool.{Bool, true}
use mathlib.Core.List.{List, [], ◌∷◌, ◌++◌, append_assoc}
use native.Mathlib.Omega.{arith}
use lib.Dec.{leb, ltb}
use lib.ListN.{length, take, drop, length-append, take-append-drop}
use lib.Seq.{take_at, drop_at, length-take-le}
use borrow.Author.Tests.{le-leb, leb-true, lt-ltb, ltb-true}
use Rattle.rules.specs.Lists.{every, gather}
use Rattle.rules.specs.Job.{bits_of, number_of, Read, cut, got, next, field, fields}
use Rattle.rules.proofs.Lists.Members.{split, true_false}
use Rattle.rules.proofs.Job.Bits.{Bits, bits_drop, bits_take, bits_number, number_below, number_of_lem, width}

-- a test of every entry, at a list with a head
pub every_cons : (f : ℕ → Bool) (x : ℕ) (xs : List ℕ) → f x ≡ true → every f xs ≡ true → every f (x ∷ xs) ≡ true
unfolding every
every_cons f x xs h e = rw (h, every) e

-- and back: the head passes, and so do all the others
pub every_parts : (f : ℕ → Bool) (x : ℕ) (xs : List ℕ) → every f (x ∷ xs) ≡ true → (f x ≡ true) × (every f xs ≡ true)
unfolding every
every_parts f x xs e = split (f x) (λ t. (t, rw (t, every) at e)) (λ t. true_false e (rw (t, every)))

-- what was read came through both steps
pub record Through {A B : Type 0} (r : Read A) (f : A → List ℕ → Read B) (y : B) (c : List ℕ) : Type 0 where
  pub a : A
  pub b : List ℕ
  pub first : r ≡ got a b
  pub second : f a b ≡ got y c

-- what is cut is not read
pub no_cut : {A P : Type 0} {a : A} {b : List ℕ} → cut ≡ got a b → P
no_cut e = absurd (let z : ◌≡◌ {A = ℕ} 0 1 = cc in omega arith)

-- what two steps in a row read came through both
pub through : {A B : Type 0} (r : Read A) (f : A → List ℕ → Read B) {y : B} {c : List ℕ} → next r f ≡ got y c → Through r f y c
unfolding next
through cut f e = no_cut e
through (got a b) f e = record { a = a; b = b; first = refl; second = e }

-- what holds of something read holds of what equals it
pub same_got : {A : Type 0} (P : A → List ℕ → Type 0) {a a' : A} {b b' : List ℕ} → got a b ≡ got a' b' → P a b → P a' b'
same_got P {a} {a'} {b} {b'} e p =
    let ea : a ≡ a' = cc in
    let eb : b ≡ b' = cc in
    rw (← ea, ← eb) p

-- bits behind bits
pub joined : {bs cs : List ℕ} (xs ys rest : List ℕ) → bs ≡ xs ++ cs → cs ≡ ys ++ rest → bs ≡ xs ++ ys ++ rest
joined xs ys rest e d = e ∙ ap (λ (r : List ℕ). xs ++ r) d ∙ sym (append_assoc xs ys rest)

-- ---- one field

-- a number that fits is read back from its bits, and the bits behind it are left
pub field_got : (w n : ℕ) (rest : List ℕ) → n < 2 ^ w → field w (bits_of w n ++ rest) ≡ got n rest
unfolding field
field_got w n rest h =
    let bs = bits_of w n ++ rest in
    let t : leb w (length bs) ≡ true = le-leb w (length bs) (omega (arith, length-append (bits_of w n) rest, width w n)) in
    rw (t, field, take_at (bits_of w n) rest w (width w n), drop_at (bits_of w n) rest w (width w n), number_of_lem w n h)

-- a field took exactly the bits of a number that fits, and bits are left
pub record Taken (w : ℕ) (bs : List ℕ) (n : ℕ) (rest : List ℕ) : Type 0 where
  pub is : bs ≡ bits_of w n ++ rest
  pub below : n < 2 ^ w
  pub bits : Bits rest

-- and a field that is read took nothing else
pub field_only : (w : ℕ) (bs : List ℕ) {n : ℕ} {rest : List ℕ} → Bits bs → field w bs ≡ got n rest → Taken w bs n rest
unfolding field
field_only w bs {n} {rest} B e = split (leb w (length bs))
    (λ t.
    let d : got (number_of (take w bs) 0) (drop w bs) ≡ got n rest = rw (t, field) at e in
    let en : number_of (take w bs) 0 ≡ n = cc in
    let er : drop w bs ≡ rest = cc in
    let l : length (take w bs) ≡ w = length-take-le w bs (leb-true w (length bs) t) in
    let u : bits_of w n ≡ take w bs = rw (l, en) at (bits_number (take w bs) (bits_take w bs B) 0) in
    record {
      is = rw (u, ← er) (sym (take-append-drop w bs));
      below = rw (en, l) at (number_below (take w bs) (bits_take w bs B));
      bits = rw (← er) (bits_drop w B);
    })
    (λ t. no_cut (rw (t, field) at e))

-- ---- fields in a row

-- does a number fit in w bits
abbrev pub fits_in : ℕ → ℕ → Bool
fits_in w x = ltb x (2 ^ w)

-- numbers that fit, one behind the other, are read back
pub fields_got : (w : ℕ) (xs rest : List ℕ) → every (fits_in w) xs ≡ true → fields (length xs) w (gather (bits_of w) xs ++ rest) ≡ got xs rest
unfolding fields gather next
fields_got w [] rest e = refl
fields_got w (x ∷ xs) rest e =
    let h = every_parts (fits_in w) x xs e in
    let f = field_got w x (gather (bits_of w) xs ++ rest) (ltb-true x (2 ^ w) h.0) in
    rw (append_assoc (bits_of w x) (gather (bits_of w) xs) rest, f, next, fields_got w xs rest h.1)

-- n fields took exactly the bits of n numbers that fit, and bits are left
pub record AllTaken (n w : ℕ) (bs xs rest : List ℕ) : Type 0 where
  pub is : bs ≡ gather (bits_of w) xs ++ rest
  pub count : length xs ≡ n
  pub below : every (fits_in w) xs ≡ true
  pub bits : Bits rest

-- and fields that are read took nothing else
pub fields_only : (n w : ℕ) (bs : List ℕ) {xs rest : List ℕ} → Bits bs → fields n w bs ≡ got xs rest → AllTaken n w bs xs rest
unfolding fields gather every
fields_only zero w bs B e = same_got (AllTaken zero w bs) e (record { is = refl; count = refl; below = refl; bits = B })
fields_only (suc n) w bs B e =
    let t = through (field w bs) (λ x cs. next (fields n w cs) (λ ys ds. got (x ∷ ys) ds)) e in
    let f = field_only w bs B t.first in
    let u = through (fields n w t.b) (λ ys ds. got (t.a ∷ ys) ds) t.second in
    let g = fields_only n w t.b f.bits u.first in
    same_got (AllTaken (suc n) w bs) u.second (record {
      is = joined (bits_of w t.a) (gather (bits_of w) u.a) u.b f.is g.is;
      count = ap suc g.count;
      below = every_cons (fits_in w) t.a u.a (lt-ltb t.a (2 ^ w) f.below) g.below;
      bits = g.bits;
    })
