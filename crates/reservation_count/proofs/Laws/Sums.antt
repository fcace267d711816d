-- Duplicates as a sum over all pins. Assumes nothing.
use Prim.Native.Nat.{ℕ, zero, suc, pred, ◌+◌, ◌<◌}
use mathlib.Core.Path.{◌≡◌, refl, sym, ◌∙◌, ap}
use mathlib.Core.Logic.{inl, inr}
use mathlib.Core.Bool.{true, false}
use mathlib.Core.List.{List, [], ◌∷◌, map}
use native.Mathlib.Omega.{arith}
use lib.Dec.{eqb}
use lib.ListN.{length}
use Rattle.rules.specs.Lists.{mem, distinct, In, Out, Once, nobody, one}
use Rattle.rules.specs.Graph.{pin_of}
use Rattle.rules.specs.Records.{Group, output, flip_flop, memory, staged_pin, endpoints_of, Ends, first, later}
use Rattle.rules.specs.Reservation.{Activation, activations, codes_at, extra_at, duplicates}
use Rattle.rules.specs.Inside.Counts.{pins_met, repeats}
use Rattle.rules.proofs.Lists.Members.{split, true_false, eqb_true, eqb_false, in_here, in_there, in_cons, in_nil, mem_other, in_distinct, distinct_in}
use Rattle.rules.proofs.Written.Words.{once_insert_all}
use Rattle.rules.proofs.Reservation.Counting.{codes_none, duplicates_repeats}

-- the sum of the first n values
unfoldable pub total : (ℕ → ℕ) → ℕ → ℕ
total f zero = 0
total f (suc n) = total f n + f n

total_same : (f g : ℕ → ℕ) (n : ℕ) → ((q : ℕ) → q < n → f q ≡ g q) → total f n ≡ total g n
unfolding total
total_same f g zero h = refl
total_same f g (suc n) h = omega (arith, total_same f g n (λ q b. h q (omega arith)), h n (omega arith))

total_zero : (n : ℕ) → total (λ (q : ℕ). 0) n ≡ 0
unfolding total
total_zero zero = refl
total_zero (suc n) = omega (arith, total_zero n)

-- one value differs
total_one : (f g : ℕ → ℕ) (p n : ℕ) → p < n → ((q : ℕ) → (q ≡ p → ⊥) → g q ≡ f q) → total g n + f p ≡ total f n + g p
unfolding total
total_one f g p zero b h = absurd (omega arith)
total_one f g p (suc n) b h = split (eqb n p)
    (λ t.
    let e = eqb_true n p t in
    let s : total g n ≡ total f n = total_same g f n (λ q l. h q (λ d. omega arith)) in
    omega (arith, ap f e, ap g e))
    (λ t. omega (arith, total_one f g p n (omega (arith, eqb_false n p t)) h, h n (eqb_false n p t)))

-- ---- over the pins that are met

-- the activations beyond a pin's first
abbrev pub extra : List Activation → ℕ → ℕ
extra ys q = pred (length (codes_at q ys []))

unfoldable picked : List ℕ → (ℕ → ℕ) → ℕ → ℕ
picked ps f q = elim (mem q ps) [ true ↦ f q | false ↦ 0 ]

picked_in : (ps : List ℕ) (f : ℕ → ℕ) (q : ℕ) → mem q ps ≡ true → picked ps f q ≡ f q
unfolding picked
picked_in ps f q e = rw (e, picked)

picked_out : (ps : List ℕ) (f : ℕ → ℕ) (q : ℕ) → mem q ps ≡ false → picked ps f q ≡ 0
unfolding picked
picked_out ps f q e = rw (e, picked)

picked_other : (p : ℕ) (ps : List ℕ) (f : ℕ → ℕ) (q : ℕ) → (q ≡ p → ⊥) → picked (p ∷ ps) f q ≡ picked ps f q
unfolding picked
picked_other p ps f q n = rw (mem_other q p ps n, picked)

extra_total : (ys : List Activation) (m : ℕ) {ps : List ℕ} → Once ps → ((q : ℕ) → In q ps → q < m) → extra_at ps ys ≡ total (picked ps (extra ys)) m
unfolding extra_at picked mem
extra_total ys m nobody b = sym (total_same (picked [] (extra ys)) (λ (q : ℕ). 0) m (λ q l. refl) ∙ total_zero m)
extra_total ys m (one {x = p} {xs = ps} o k) b =
    let r = extra_total ys m k (λ q i. b q (in_there q p ps i)) in
    let t = total_one (picked ps (extra ys)) (picked (p ∷ ps) (extra ys)) p m (b p (in_here p ps)) (λ q n. picked_other p ps (extra ys) q n) in
    omega (arith, picked_out ps (extra ys) p o, picked_in (p ∷ ps) (extra ys) p (in_here p ps))

module _ (ys : List Activation) (m : ℕ) (named : (q : ℕ) → In q (map (λ (a : Activation). a.pin) ys) → q < m) where
  none_extra : (q : ℕ) → mem q (pins_met ys) ≡ false → extra ys q ≡ 0
  none_extra q e =
      let o : Out q (map (λ (a : Activation). a.pin) ys) = split (mem q (map (λ (a : Activation). a.pin) ys)) (λ i. true_false (in_distinct q (map (λ (a : Activation). a.pin) ys) i) e) (λ i. i) in
      rw (codes_none q ys [] o)

  -- over all pins
  pub repeats_total : repeats ys ≡ total (extra ys) m
  unfolding distinct
  repeats_total =
      extra_total ys m (once_insert_all (map (λ (a : Activation). a.pin) ys) nobody) (λ q i. named q (distinct_in q (map (λ (a : Activation). a.pin) ys) i))
      ∙ total_same (picked (pins_met ys) (extra ys)) (extra ys) m (λ q l. split (mem q (pins_met ys)) (λ e. picked_in (pins_met ys) (extra ys) q e) (λ e. picked_out (pins_met ys) (extra ys) q e ∙ sym (none_extra q e)))

-- ---- the activations' pins are the groups'

pins_end : (q : ℕ) (gs : List Group) → In q (map (λ (a : Activation). a.pin) (activations gs)) → Ends q gs
unfolding activations endpoints_of
pins_end q [] i = in_nil q i
pins_end q (output l ∷ gs) i = elim (in_cons q (pin_of l) (map (λ (a : Activation). a.pin) (activations gs)) i) [
  | inl e ↦ let j : In q (pin_of l ∷ []) = rw e (in_here (pin_of l) []) in first j
  | inr e ↦ later (pins_end q gs e)
]
pins_end q (flip_flop a d ∷ gs) i = elim (in_cons q (pin_of d) (map (λ (a : Activation). a.pin) (activations gs)) i) [
  | inl e ↦ let j : In q (pin_of a ∷ pin_of d ∷ []) = rw e (in_there (pin_of d) (pin_of a) (pin_of d ∷ []) (in_here (pin_of d) [])) in first j
  | inr e ↦ later (pins_end q gs e)
]
pins_end q (memory ls ∷ gs) i = later (pins_end q gs i)
pins_end q (staged_pin p ∷ gs) i = elim (in_cons q p (map (λ (a : Activation). a.pin) (activations gs)) i) [
  | inl e ↦ let j : In q (p ∷ []) = rw e (in_here p []) in first j
  | inr e ↦ later (pins_end q gs e)
]

-- the duplicates of some records over all pins
pub duplicates_total : (gs : List Group) (m : ℕ) → ((q : ℕ) → Ends q gs → q < m) → duplicates gs ≡ total (extra (activations gs)) m
duplicates_total gs m named = duplicates_repeats gs ∙ repeats_total (activations gs) m (λ q i. named q (pins_end q gs i))
