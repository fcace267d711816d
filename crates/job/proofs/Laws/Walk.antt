-- The walk through a whole job file. Assumes nothing.
use mathlib.Core.Path.{◌≡◌, refl, sym, ap, ◌∙◌}
use mathlib.Core.Bool.{Bool, true, false, ◌&&◌}
use mathlib.Core.List.{List, [], ◌∷◌, ◌++◌}
use Prim.Native.Nat.{ℕ, ◌+◌, ◌-◌, ◌*◌, ◌<◌, ◌≤◌}
use native.Mathlib.Omega.{arith}
use lib.Dec.{eqb}
use lib.ListN.{length, set, take, drop, length-set, length-drop}
use lib.Seq.{sets, take_all}
use borrow.Author.Tests.{le-leb, lt-ltb, le-ltb, eq-eqb, ne_eqb}
use Rattle.rules.specs.Cells.{empty}
use Rattle.rules.specs.Lists.{every}
use Rattle.rules.specs.Job.{Job, Read, cut, got, next, field, fields, number_of, read_pins, read_records, read_fields, is_padding}
use Rattle.rules.proofs.Lists.Members.{split, eqb_true, eqb_false}
use Rattle.rules.proofs.Bools.{and_right}
use Rattle.bits.specs.Fields.{bits_in, FieldIs}
use Rattle.bits.proofs.Laws.Fields.{field_there, field_lost, bits_length}
use Rattle.bits.proofs.Laws.Putting.{none_back}
use Rattle.job.specs.Steps.{counted, Took}
use Rattle.std.specs.Prelude.{Option, Some, None}
use Rattle.job.specs.declared.walk.Extent.{Extent}
use Rattle.job.specs.Walk.{Met, MeasuredIn, Walked, WalkedAs, sized, accepts}

-- ---- the fields, section by section

next_assoc : {A B C : Type 0} (r : Read A) (f : A → List ℕ → Read B) (g : B → List ℕ → Read C) → next (next r f) g ≡ next r (λ a b. next (f a b) g)
unfolding next
next_assoc cut f g = refl
next_assoc (got a b) f g = refl

next_got : {A B : Type 0} (a : A) (b : List ℕ) (f : A → List ℕ → Read B) → next (got a b) f ≡ f a b
unfolding next
next_got a b f = refl

abbrev made : ℕ → List ℕ → List ℕ → List ℕ → Job
made K gates given records = record { height = K; gates = empty ∷ empty ∷ gates; given = given; records = records }

-- the fields of a job file: height, pins, given pins, groups
pub sections : (bs : List ℕ) {K : ℕ} {b1 : List ℕ} → field 4 bs ≡ got K b1 →
    read_fields bs ≡ next (counted read_pins b1) (λ g b3. next (counted (λ n. fields n 16) b3) (λ v b5. next (counted read_records b5) (λ c b7. got (made K g v c) b7)))
unfolding read_fields counted
sections bs e = rw e (simp (next_got, next_assoc))

-- a walk that met a cut
walked_cut : {xs g v c g' v' c' : List ℕ} → length g' ≡ length g → length v' ≡ length v → length c' ≡ length c → read_fields (bits_in xs) ≡ cut → Walked xs g v c g' v' c' (8 * length xs + 1) 0 0 0 0
walked_cut {xs} a b d e = record { gates = a; given = b; records = d; measured = record { lost = λ _. e; read = λ k. absurd (omega arith) }; stored = λ k. absurd (omega arith) }

module _ {xs : List ℕ} {K : ℕ} (F : FieldIs 0 4 xs K) (h : 4 ≤ 8 * length xs) where
  first : field 4 (bits_in xs) ≡ got K (drop 4 (bits_in xs))
  first = field_there 0 4 xs K F (omega arith)

  lost_pins : counted read_pins (drop 4 (bits_in xs)) ≡ cut → read_fields (bits_in xs) ≡ cut
  unfolding next
  lost_pins e = sections (bits_in xs) first ∙ rw e

  lost_given : {g b3 : List ℕ} → counted read_pins (drop 4 (bits_in xs)) ≡ got g b3 → counted (λ n. fields n 16) b3 ≡ cut → read_fields (bits_in xs) ≡ cut
  unfolding next
  lost_given e d = sections (bits_in xs) first ∙ rw (e, next, d)

  lost_records : {g b3 v b5 : List ℕ} → counted read_pins (drop 4 (bits_in xs)) ≡ got g b3 → counted (λ n. fields n 16) b3 ≡ got v b5 → counted read_records b5 ≡ cut → read_fields (bits_in xs) ≡ cut
  unfolding next
  lost_records e d c = sections (bits_in xs) first ∙ rw (e, next, d, next, c)

  none_lost : {g b3 v b5 c b7 : List ℕ} → counted read_pins (drop 4 (bits_in xs)) ≡ got g b3 → counted (λ n. fields n 16) b3 ≡ got v b5 → counted read_records b5 ≡ got c b7 → read_fields (bits_in xs) ≡ got (made K g v c) b7
  unfolding next
  none_lost e d c = sections (bits_in xs) first ∙ rw (e, next, d, next, c, next)

  module _ (g v c : List ℕ) {g₁ g₂ : List ℕ} (e₁ : g₁ ≡ set g 0 empty) (e₂ : g₂ ≡ set g₁ 1 empty) where
    marked_len : length g₂ ≡ length g
    marked_len = ap length e₂ ∙ length-set g₁ 1 empty ∙ ap length e₁ ∙ length-set g 0 empty

    -- pins that are cut cut the file
    pub pins_cut : {g₃ : List ℕ} → Took (counted read_pins) xs 4 2 g₂ g₃ (8 * length xs + 1) 0 → Walked xs g v c g₃ v c (8 * length xs + 1) 0 0 0 0
    pins_cut P = walked_cut (P.len ∙ marked_len) refl refl (lost_pins (P.lost (omega arith) h))

    module _ {g₃ : List ℕ} {at₁ n₁ : ℕ} (P : Took (counted read_pins) xs 4 2 g₂ g₃ at₁ n₁) (h₁ : at₁ ≤ 8 * length xs) where
      -- and so do given pins
      pub given_cut : {v₁ : List ℕ} → Took (counted (λ n. fields n 16)) xs at₁ 0 v v₁ (8 * length xs + 1) 0 → Walked xs g v c g₃ v₁ c (8 * length xs + 1) 0 0 0 0
      given_cut D = walked_cut (P.len ∙ marked_len) D.len refl (lost_given (P.read h₁).is (D.lost (omega arith) h₁))

      module _ {v₁ : List ℕ} {at₂ n₂ : ℕ} (D : Took (counted (λ n. fields n 16)) xs at₁ 0 v v₁ at₂ n₂) (h₂ : at₂ ≤ 8 * length xs) where
        -- and records
        pub records_cut : {c₁ : List ℕ} → Took (counted read_records) xs at₂ 0 c c₁ (8 * length xs + 1) 0 → Walked xs g v c g₃ v₁ c₁ (8 * length xs + 1) 0 0 0 0
        records_cut C = walked_cut (P.len ∙ marked_len) D.len C.len (lost_records (P.read h₁).is (D.read h₂).is (C.lost (omega arith) h₂))

        module _ {c₁ : List ℕ} {at₃ n₃ : ℕ} (C : Took (counted read_records) xs at₂ 0 c c₁ at₃ n₃) (h₃ : at₃ ≤ 8 * length xs) where
          walk_met : Met xs at₃ K n₁ n₂ n₃
          walk_met =
              let p = P.read h₁ in
              let d = D.read h₂ in
              let r = C.read h₃ in
              record {
                J = made K p.these d.these r.these;
                is = none_lost p.is d.is r.is;
                height = refl;
                gates = omega (arith, p.count);
                given = omega (arith, d.count);
                records = omega (arith, r.count);
              }

          -- the sections one after the other are the walk through the whole file
          pub walked : Walked xs g v c g₃ v₁ c₁ at₃ K n₁ n₂ n₃
          unfolding walk_met
          walked = record {
            gates = P.len ∙ marked_len;
            given = D.len;
            records = C.len;
            measured = record { lost = λ k. absurd (omega arith); read = λ _. walk_met };
            stored = λ _.
                let p = P.read h₁ in
                record { gates = p.area ∙ ap (λ (l : List ℕ). sets l 2 p.these) (e₂ ∙ ap (λ (l : List ℕ). set l 1 empty) e₁); given = (D.read h₂).area; records = (C.read h₃).area };
          }

-- too few bits for a height: cut at once
pub walked_none : {xs g v c : List ℕ} → 8 * length xs < 4 → Walked xs g v c g v c (8 * length xs + 1) 0 0 0 0
unfolding read_fields next
walked_none {xs} h =
    let f : field 4 (bits_in xs) ≡ cut = field_lost 0 4 xs (omega arith) in
    walked_cut refl refl refl (rw f)

-- ---- padding and sizes

zero_number : (bs : List ℕ) (m : ℕ) → eqb (number_of bs m) 0 ≡ eqb m 0 && every (λ b. eqb b 0) bs
unfolding number_of every
zero_number [] m = sym (and_right (eqb m 0))
zero_number (b ∷ bs) m = zero_number bs (2 * m + b) ∙ split (eqb m 0)
    (λ t. split (eqb b 0)
    (λ u. let z : 2 * m + b ≡ 0 = omega (arith, eqb_true m 0 t, eqb_true b 0 u) in rw (t, u, every, eq-eqb (2 * m + b) 0 z))
    (λ u. rw (t, u, every, ne_eqb (2 * m + b) 0 (λ z. eqb_false b 0 u (omega arith)))))
    (λ t. rw (t, ne_eqb (2 * m + b) 0 (λ z. eqb_false m 0 t (omega arith))))

-- eight bits or more are no padding
pub padding_long : (at : ℕ) (xs : List ℕ) → 8 ≤ 8 * length xs - at → false ≡ is_padding (drop at (bits_in xs))
unfolding is_padding
padding_long at xs h = sym (rw (le-ltb (length (drop at (bits_in xs))) 8 (omega (arith, length-drop at (bits_in xs), bits_length xs))))

-- fewer are padding where their number is 0
pub padding_is : {at : ℕ} {xs : List ℕ} {n : ℕ} → 8 * length xs - at < 8 → FieldIs at (8 * length xs - at) xs n → eqb n 0 ≡ is_padding (drop at (bits_in xs))
unfolding is_padding
padding_is {at} {xs} {n} h F =
    let bs = drop at (bits_in xs) in
    let l = length-drop at (bits_in xs) in
    let t : take (8 * length xs - at) bs ≡ bs = take_all (8 * length xs - at) bs (omega (arith, bits_length xs)) in
    rw (F.is, t, zero_number bs 0, lt-ltb (length bs) 8 (omega (arith, bits_length xs)))

-- a file with more than padding behind its fields is not accepted
pub accepts_more : (xs : List ℕ) (at K ng nc : ℕ) → at ≤ 8 * length xs → is_padding (drop at (bits_in xs)) ≡ false → false ≡ accepts xs at K ng nc
unfolding accepts
accepts_more xs at K ng nc h e = sym (rw (le-leb at (8 * length xs) h, e))

-- with neither cut nor more than padding, the sizes decide
pub accepts_is : (xs : List ℕ) (at K ng nc : ℕ) {b : Bool} → at ≤ 8 * length xs → is_padding (drop at (bits_in xs)) ≡ true → b ≡ sized K ng nc → b ≡ accepts xs at K ng nc
unfolding accepts
accepts_is xs at K ng nc h e d = d ∙ sym (rw (le-leb at (8 * length xs) h, e))

-- ---- an empty part comes back as it was

-- a walk over empty parts changes no area, and measures the file
pub measured_in : (xs g v c g' v' c' : List ℕ) (r : Option Extent) → WalkedAs (Walked xs [] [] [] g' v' c') xs r → WalkedAs (MeasuredIn xs g v c (g' ++ g) (v' ++ v) (c' ++ c)) xs r
measured_in xs g v c g' v' c' None W = record { measured = W.measured; gates = none_back g' g W.gates; given = none_back v' v W.given; records = none_back c' c W.records }
measured_in xs g v c g' v' c' (Some _) T = let W = T.0 in (record { measured = W.measured; gates = none_back g' g W.gates; given = none_back v' v W.given; records = none_back c' c W.records }, T.1)
