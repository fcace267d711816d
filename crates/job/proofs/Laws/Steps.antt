-- One field, one pin, one record, one count. Assumes nothing.
use mathlib.Core.Path.{◌≡◌, refl, ap, ◌∙◌}
use mathlib.Core.List.{List, [], ◌∷◌}
use Prim.Native.Nat.{ℕ, ◌+◌, ◌-◌, ◌*◌, ◌<◌, ◌≤◌}
use native.Mathlib.Numerals.{add-one}
use native.Mathlib.Omega.{arith}
use lib.Dec.{eqb}
use lib.ListN.{length, set, drop, length-set}
use borrow.Author.Tests.{eq-eqb, ne_eqb}
use Rattle.rules.specs.Cells.{empty}
use Rattle.rules.specs.Records.{size_of}
use Rattle.rules.specs.Job.{got, next, fields, number_width, read_pin, read_record}
use Rattle.bits.specs.Fields.{bits_in, FieldIs}
use Rattle.bits.proofs.Laws.Fields.{field_there, field_lost}
use Rattle.std.specs.Prelude.{Option, Some, None}
use Rattle.job.specs.declared.steps.Step.{Step}
use Rattle.job.specs.Steps.{one_field, At, FieldsAt, Took, TookAs, Counted}
use Rattle.rules.proofs.Lists.Members.{split}
use Rattle.job.proofs.Laws.Many.{took_lost}

-- ---- a field

module _ {at w s : ℕ} {xs : List ℕ} (A : FieldsAt at w s xs) where
  -- too few bits left for a field: cut
  pub one_lost : 8 * length xs - at < w → {a : List ℕ} → Took (one_field w) xs at s a a (8 * length xs + 1) 0
  unfolding one_field next
  one_lost h = took_lost refl (rw (field_lost at w xs h))

  -- a field that is there is stored, and the walk goes w bits on
  pub one_took : w ≤ 8 * length xs - at → {n : ℕ} → FieldIs at w xs n → {a a' : List ℕ} → a' ≡ set a s n → Took (one_field w) xs at s a a' (at + w) (s + 1)
  unfolding one_field next
  one_took h {n} F {a} {a'} e =
      let i = A.inside in
      let o = A.some in
      record {
        len = ap length e ∙ length-set a s n;
        lost = λ k _. absurd (omega arith);
        read = λ _. record { from = i; these = n ∷ []; is = rw (field_there at w xs n F (omega arith)); area = e; count = refl; few = omega arith };
      }

-- ---- a pin

module _ {at s : ℕ} {xs : List ℕ} (A : At at s xs) where
  -- no bit left for a pin: cut
  pub pin_lost : 8 * length xs ≤ at → {a : List ℕ} → Took read_pin xs at s a a (8 * length xs + 1) 0
  unfolding read_pin next
  pin_lost h = took_lost refl (rw (field_lost at 1 xs (omega arith)))

  module _ (h : at < 8 * length xs) {n : ℕ} (F : FieldIs at 1 xs n) where
    -- a bit of 1 is a gate, with its two literals behind it
    pin_gate : n ≡ 1 → {a a' : List ℕ} {at' s' : ℕ} → Took (fields 2 17) xs (at + 1) s a a' at' s' → Took read_pin xs at s a a' at' s'
    unfolding read_pin next
    pin_gate e T =
        let i : read_pin (drop at (bits_in xs)) ≡ fields 2 17 (drop (at + 1) (bits_in xs)) = rw (field_there at 1 xs n F (omega arith), next, eq-eqb n 1 e) in
        record {
          len = T.len;
          lost = λ k _. i ∙ T.lost k (omega arith);
          read = λ k. let R = T.read k in record { from = omega arith; these = R.these; is = i ∙ R.is; area = R.area; count = R.count; few = omega (arith, R.few) };
        }

    -- or none, where they are cut
    pub pin_gate_as : n ≡ 1 → (a a' : List ℕ) (r : Option Step) → TookAs (Took (fields 2 17) xs (at + 1) s a a') xs r → TookAs (Took read_pin xs at s a a') xs r
    pin_gate_as e a a' None T = pin_gate e T
    pin_gate_as e a a' (Some _) T = (pin_gate e T.0, T.1)

    -- a bit of 0 is a leaf, stored as two empty marks
    pub pin_leaf : (n ≡ 1 → ⊥) → {a a₁ a₂ : List ℕ} → a₁ ≡ set a s empty → a₂ ≡ set a₁ (s + 1) empty → Took read_pin xs at s a a₂ (at + 1) (s + 2)
    unfolding read_pin next
    pin_leaf e {a} {a₁} {a₂} e₁ e₂ =
        let i : read_pin (drop at (bits_in xs)) ≡ got (empty ∷ empty ∷ []) (drop (at + 1) (bits_in xs)) = rw (field_there at 1 xs n F (omega arith), next, ne_eqb n 1 e) in
        record {
          len = ap length e₂ ∙ length-set a₁ (s + 1) empty ∙ ap length e₁ ∙ length-set a s empty;
          lost = λ k _. absurd (omega arith);
          read = λ _. record { from = omega arith; these = empty ∷ empty ∷ []; is = i; area = rw (← add-one s, ← e₁) e₂; count = refl; few = omega arith };
        }

-- ---- a record

module _ {at s : ℕ} {xs : List ℕ} (A : At at s xs) where
  -- too few bits left for a kind: cut
  pub record_lost : 8 * length xs - at < 3 → {a : List ℕ} → Took read_record xs at s a a (8 * length xs + 1) 0
  unfolding read_record next
  record_lost h = took_lost refl (rw (field_lost at 3 xs h))

  module _ (h : 3 ≤ 8 * length xs - at) {k : ℕ} (F : FieldIs at 3 xs k) where
    -- a record of an unknown kind counts as cut
    pub record_unknown : size_of k ≡ 0 → {a : List ℕ} → Took read_record xs at s a a (8 * length xs + 1) 0
    unfolding read_record next
    record_unknown e = took_lost refl (let i = A.inside in rw (field_there at 3 xs k F (omega arith), next, eq-eqb (size_of k) 0 e))

    -- behind a known kind its numbers may be read
    pub record_at : FieldsAt (at + 3) (number_width k) (s + 1) xs
    unfolding number_width
    record_at =
        let i = A.inside in
        let r = A.room in
        split (eqb k 4)
        (λ t. rw (t, number_width) (record { small = A.small; inside = omega arith; room = omega arith; some = omega arith; short = omega arith }))
        (λ t. rw (t, number_width) (record { small = A.small; inside = omega arith; room = omega arith; some = omega arith; short = omega arith }))

    -- a kind and its numbers are a record
    record_took : {size w : ℕ} → size ≡ size_of k → w ≡ number_width k → (size ≡ 0 → ⊥) →
        {a a₁ a' : List ℕ} {at' s' : ℕ} → a₁ ≡ set a s k → Took (fields size w) xs (at + 3) (s + 1) a₁ a' at' s' → Took read_record xs at s a a' at' s'
    unfolding read_record next
    record_took {size} {w} es ew ne {a} {a₁} {a'} {at'} {s'} e₁ T₁ =
        let T : Took (fields (size_of k) (number_width k)) xs (at + 3) (s + 1) a₁ a' at' s' = rw (es, ew) at T₁ in
        let e : size_of k ≡ 0 → ⊥ = λ z. ne (es ∙ z) in
        let i = A.inside in
        let f = field_there at 3 xs k F (omega arith) in
        let z = ne_eqb (size_of k) 0 e in
        record {
          len = T.len ∙ ap length e₁ ∙ length-set a s k;
          lost = λ l _. rw (f, next, z, T.lost l (omega arith));
          read = λ l.
              let R = T.read l in
              record {
                from = omega arith;
                these = k ∷ R.these;
                is = rw (f, next, z, R.is);
                area = rw (← add-one s, ← e₁) R.area;
                count = omega (arith, R.count);
                few = omega (arith, R.few);
              };
        }

    -- or none, where they are cut
    pub record_as : {size w : ℕ} → size ≡ size_of k → w ≡ number_width k → (size ≡ 0 → ⊥) → (a : List ℕ) {a₁ : List ℕ} → a₁ ≡ set a s k →
        (a' : List ℕ) (r : Option Step) → TookAs (Took (fields size w) xs (at + 3) (s + 1) a₁ a') xs r → TookAs (Took read_record xs at s a a') xs r
    record_as es ew ne a e₁ a' None T = record_took es ew ne e₁ T
    record_as es ew ne a e₁ a' (Some _) T = (record_took es ew ne e₁ T.0, T.1)

-- ---- a count

-- too few bits left for a count: cut
pub count_lost : {at : ℕ} {xs : List ℕ} {n : ℕ} → 8 * length xs - at < 16 → Counted xs at (8 * length xs + 1) n
count_lost {at} {xs} h = record { lost = λ k l. field_lost at 16 xs h; read = λ k. absurd (omega arith) }

-- a count that is there is read, and the walk goes 16 bits on
pub count_is : {at : ℕ} {xs : List ℕ} {n m : ℕ} → at ≤ 8 * length xs → 16 ≤ 8 * length xs - at → FieldIs at 16 xs n → m ≡ n → Counted xs at (at + 16) m
count_is {at} {xs} {n} {m} i h F e = record {
  lost = λ k l. absurd (omega arith);
  read = λ k. record { from = i; is = rw e (field_there at 16 xs n F (omega arith)); behind = refl };
}
