-- So many readings one behind the other, with what they read stored in an area. Assumes nothing.
use mathlib.Core.Path.{◌≡◌, refl, sym, ap, ◌∙◌}
use mathlib.Core.List.{List, [], ◌∷◌, ◌++◌, append_assoc, append-nil}
use Prim.Native.Nat.{ℕ, zero, suc, ◌+◌, ◌-◌, ◌*◌, ◌<◌, ◌≤◌}
use native.Mathlib.Omega.{arith}
use lib.ListN.{length, drop, length-append}
use lib.Seq.{sets}
use Rattle.rules.specs.Job.{Read, cut, got, next, field, fields, read_pin, read_pins, read_record, read_records}
use Rattle.bits.specs.Fields.{bits_in}
use Rattle.rules.proofs.Lists.Parts.{sets_append}
use Rattle.std.specs.Prelude.{Option, Some, None}
use Rattle.job.specs.declared.steps.Step.{Step}
use Rattle.job.specs.Steps.{one_field, counted, Took, TookAs, Counted}

-- what reads some numbers from bits, or finds them cut
abbrev pub Reader : Type 0
Reader = List ℕ → Read (List ℕ)

-- ---- n readings

-- n readings one behind the other
unfoldable pub many : Reader → ℕ → List ℕ → Read (List ℕ)
many one zero bs = got [] bs
many one (suc n) bs = next (one bs) (λ x cs. next (many one n cs) (λ xs ds. got (x ++ xs) ds))

-- some numbers in front of what is read
pub before : List ℕ → Read (List ℕ) → Read (List ℕ)
before xs r = next r (λ ys ds. got (xs ++ ys) ds)

before_none : (r : Read (List ℕ)) → r ≡ before [] r
unfolding before next
before_none cut = refl
before_none (got x bs) = refl

before_twice : (xs ys : List ℕ) (r : Read (List ℕ)) → before xs (before ys r) ≡ before (xs ++ ys) r
unfolding before next
before_twice xs ys cut = refl
before_twice xs ys (got zs bs) = ap (λ (l : List ℕ). got l bs) (sym (append_assoc xs ys zs))

before_cut : (xs : List ℕ) → before xs cut ≡ cut
unfolding before next
before_cut xs = refl

before_end : (xs bs : List ℕ) → before xs (got [] bs) ≡ got xs bs
unfolding before next
before_end xs bs = ap (λ (l : List ℕ). got l bs) (append-nil xs)

many_step : (one : Reader) (n : ℕ) (bs : List ℕ) {ys cs : List ℕ} → one bs ≡ got ys cs → many one (suc n) bs ≡ before ys (many one n cs)
unfolding many before next
many_step one n bs e = rw e

many_cut : (one : Reader) (n : ℕ) (bs : List ℕ) → one bs ≡ cut → many one (suc n) bs ≡ cut
unfolding many next
many_cut one n bs e = rw e

-- the three kinds
field_first : (n w : ℕ) (r : Read ℕ) → ((bs : List ℕ) → fields n w bs ≡ many (one_field w) n bs) →
    next r (λ x cs. next (fields n w cs) (λ xs ds. got (x ∷ xs) ds)) ≡ next (next r (λ x cs. got (x ∷ []) cs)) (λ x cs. next (many (one_field w) n cs) (λ xs ds. got (x ++ xs) ds))
unfolding next
field_first n w cut e = refl
field_first n w (got x cs) e = rw (e cs)

-- so many fields are so many readings of one
pub fields_many : (n w : ℕ) (bs : List ℕ) → fields n w bs ≡ many (one_field w) n bs
unfolding fields many one_field
fields_many zero w bs = refl
fields_many (suc n) w bs = field_first n w (field w bs) (fields_many n w)

same_first : (f g : ℕ → Reader) (n : ℕ) (r : Read (List ℕ)) → ((bs : List ℕ) → f n bs ≡ g n bs) →
    next r (λ x cs. next (f n cs) (λ xs ds. got (x ++ xs) ds)) ≡ next r (λ x cs. next (g n cs) (λ xs ds. got (x ++ xs) ds))
unfolding next
same_first f g n cut e = refl
same_first f g n (got x cs) e = rw (e cs)

-- so many pins are so many readings of one
pub pins_many : (n : ℕ) (bs : List ℕ) → read_pins n bs ≡ many read_pin n bs
unfolding read_pins many
pins_many zero bs = refl
pins_many (suc n) bs = same_first read_pins (many read_pin) n (read_pin bs) (pins_many n)

-- so many records are so many readings of one
pub records_many : (n : ℕ) (bs : List ℕ) → read_records n bs ≡ many read_record n bs
unfolding read_records many
records_many zero bs = refl
records_many (suc n) bs = same_first read_records (many read_record) n (read_record bs) (records_many n)

-- ---- after i of them

-- i of n readings are done, and what they read stands in the area
pub record Going (one : Reader) (xs : List ℕ) (n i from s : ℕ) (a a' : List ℕ) (at count : ℕ) : Type 0 where
  pub upto : i ≤ n
  pub len : length a' ≡ length a
  pub start : from ≤ 8 * length xs
  pub inside : at ≤ 8 * length xs
  pub few : count + 2 * from ≤ s + 2 * at
  pub these : List ℕ
  pub left : many one n (drop from (bits_in xs)) ≡ before these (many one (n - i) (drop at (bits_in xs)))
  pub area : a' ≡ sets a s these
  pub counts : count ≡ s + length these

-- at the start no reading is done
pub going_none : {one : Reader} {xs : List ℕ} {n from s : ℕ} {a : List ℕ} → from ≤ 8 * length xs → Going one xs n 0 from s a a from s
going_none {one} {xs} {n} {from} {s} {a} h =
    let e : n - 0 ≡ n = omega arith in
    record { upto = omega arith; len = refl; start = h; inside = h; few = omega arith; these = []; left = rw e (before_none (many one n (drop from (bits_in xs)))); area = refl; counts = omega arith }

module _ {one : Reader} {xs : List ℕ} {n i from s : ℕ} {a a₁ : List ℕ} {at count : ℕ} (G : Going one xs n i from s a a₁ at count) where
  module _ (h : i < n) {a₂ : List ℕ} {at₂ count₂ : ℕ} (T : Took one xs at count a₁ a₂ at₂ count₂) where
    -- one reading more is done
    pub going_more : at₂ ≤ 8 * length xs → Going one xs n (i + 1) from s a a₂ at₂ count₂
    going_more k =
        let A = T.read k in
        let e : n - i ≡ suc (n - (i + 1)) = omega arith in
        let ys = A.these in
        let st : many one (n - i) (drop at (bits_in xs)) ≡ before ys (many one (n - (i + 1)) (drop at₂ (bits_in xs))) = rw e (many_step one (n - (i + 1)) (drop at (bits_in xs)) A.is) in
        record {
          upto = omega arith;
          len = T.len ∙ G.len;
          start = G.start;
          inside = k;
          few = omega (arith, A.few, G.few);
          these = G.these ++ ys;
          left = G.left ∙ ap (before G.these) st ∙ before_twice G.these ys (many one (n - (i + 1)) (drop at₂ (bits_in xs)));
          area = A.area ∙ rw (G.area, G.counts) (sets_append a s G.these ys);
          counts = omega (arith, A.count, G.counts, length-append G.these ys);
        }

    -- one that is cut cuts them all
    pub going_lost : 8 * length xs < at₂ → (R : Reader) → ((bs : List ℕ) → R bs ≡ many one n bs) → Took R xs from s a a₂ at₂ count₂
    going_lost k R same =
        let e : n - i ≡ suc (n - (i + 1)) = omega arith in
        let c : many one (n - i) (drop at (bits_in xs)) ≡ cut = rw e (many_cut one (n - (i + 1)) (drop at (bits_in xs)) (T.lost k G.inside)) in
        record {
          len = T.len ∙ G.len;
          lost = λ _ _. same (drop from (bits_in xs)) ∙ G.left ∙ ap (before G.these) c ∙ before_cut G.these;
          read = λ l. absurd (omega arith);
        }

  -- all n readings are done
  pub going_done : n ≤ i → (R : Reader) → ((bs : List ℕ) → R bs ≡ many one n bs) → Took R xs from s a a₁ at count
  unfolding many
  going_done h R same =
      let e : n - i ≡ zero = omega arith in
      let l : many one n (drop from (bits_in xs)) ≡ before G.these (many one zero (drop at (bits_in xs))) = rw e at G.left in
      record {
        len = G.len;
        lost = λ k _. absurd (omega (arith, G.inside));
        read = λ _. record {
          from = G.start;
          these = G.these;
          is = same (drop from (bits_in xs)) ∙ l ∙ before_end G.these (drop at (bits_in xs));
          area = G.area;
          count = G.counts;
          few = G.few;
        };
      }

-- ---- a step that met a cut

-- a cut is told by a place past the end
pub took_lost : {one : Reader} {xs : List ℕ} {at s : ℕ} {a a' : List ℕ} {s' : ℕ} → length a' ≡ length a → one (drop at (bits_in xs)) ≡ cut → Took one xs at s a a' (8 * length xs + 1) s'
took_lost {one} {xs} l e = record { len = l; lost = λ _ _. e; read = λ h. absurd (omega arith) }

-- ---- a count and so many

module _ (f : ℕ → Reader) {xs : List ℕ} {at at₁ n s : ℕ} (C : Counted xs at at₁ n) where
  -- a count that is cut cuts what it counts
  pub counted_lost : 8 * length xs < at₁ → {a : List ℕ} {s₁ : ℕ} → Took (counted f) xs at s a a at₁ s₁
  unfolding counted next
  counted_lost h = record { len = refl; lost = λ k l. rw (C.lost k l); read = λ k. absurd (omega arith) }

  -- a count and so many readings are one step
  counted_took : at₁ ≤ 8 * length xs → {a a' : List ℕ} {at₂ s₂ : ℕ} → Took (f n) xs at₁ s a a' at₂ s₂ → Took (counted f) xs at s a a' at₂ s₂
  unfolding counted next
  counted_took h T =
      let I = C.read h in
      record {
        len = T.len;
        lost = λ k _. rw I.is (T.lost k h);
        read = λ k. let A = T.read k in record { from = I.from; these = A.these; is = rw I.is A.is; area = A.area; count = A.count; few = omega (arith, A.few, I.behind) };
      }

-- and one step or none
pub counted_as : (f : ℕ → Reader) {xs : List ℕ} {at at₁ n : ℕ} → Counted xs at at₁ n → at₁ ≤ 8 * length xs →
    (s : ℕ) (a a' : List ℕ) (r : Option Step) → TookAs (Took (f n) xs at₁ s a a') xs r → TookAs (Took (counted f) xs at s a a') xs r
counted_as f C h s a a' None T = counted_took f C h T
counted_as f C h s a a' (Some _) T = (counted_took f C h T.0, T.1)
