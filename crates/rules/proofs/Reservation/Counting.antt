-- The reservation one record after another: what one more activation adds to the duplicates. Assumes nothing.
use Prim.Native.Nat.{ℕ, suc, pred, ◌+◌, ◌≤◌, ◌<◌}
use mathlib.Core.Path.{◌≡◌, refl, sym, ◌∙◌, ap}
use mathlib.Core.Logic.{inl, inr}
use mathlib.Core.Bool.{false}
use mathlib.Core.List.{List, [], ◌∷◌, ◌++◌, map, append-nil, append_assoc}
use native.Mathlib.Omega.{arith}
use lib.Dec.{eqb, ltb}
use lib.ListN.{length, length-append}
use Rattle.rules.specs.Inside.Counts.{pins_met, repeats}
use Rattle.rules.specs.Lists.{mem, keep, insert, insert_all, distinct, In, Out, Once, nobody, one}
use Rattle.rules.specs.Records.{Group, output, flip_flop, memory, staged_pin, endpoints_of, waiting_of}
use Rattle.rules.specs.Reservation.{Activation, activations, codes_at, extra_at, duplicates, memories}
use Rattle.rules.proofs.Lists.Members.{split, eqb_true, eqb_same, eqb_false, true_false, in_cons, in_nil, out_head, out_tail, in_distinct}
use Rattle.rules.proofs.Written.Words.{once_insert_all}

-- ---- lists

-- of several numbers put behind a list the last comes last
pub insert_all-snoc : (xs : List ℕ) (x : ℕ) (ys : List ℕ) → insert_all (xs ++ (x ∷ [])) ys ≡ insert x (insert_all xs ys)
unfolding insert_all
insert_all-snoc [] x ys = refl
insert_all-snoc (y ∷ xs) x ys = insert_all-snoc xs x (insert y ys)

-- one more entry behind a list gives one more behind what it gives
pub map_snoc : {A B : Type 0} (f : A → B) (xs : List A) (x : A) → map f (xs ++ (x ∷ [])) ≡ map f xs ++ (f x ∷ [])
map_snoc f [] x = refl
map_snoc f (y ∷ xs) x = ap (λ (l : List _). f y ∷ l) (map_snoc f xs x)

-- ---- the numbers at a pin

module _ (a : Activation) where
  -- one more activation puts its number behind those at its own pin
  pub codes_same : (p : ℕ) (ys : List Activation) (cs : List ℕ) → a.pin ≡ p → codes_at p (ys ++ (a ∷ [])) cs ≡ insert a.code (codes_at p ys cs)
  unfolding codes_at
  codes_same p [] cs e = rw (e, eqb_same p, codes_at) refl
  codes_same p (y ∷ ys) cs e = split (eqb y.pin p) (λ b. rw (b, codes_at) (codes_same p ys (insert y.code cs) e)) (λ b. rw (b, codes_at) (codes_same p ys cs e))

  -- and leaves those at another pin
  pub codes_other : (p : ℕ) (ys : List Activation) (cs : List ℕ) → eqb a.pin p ≡ false → codes_at p (ys ++ (a ∷ [])) cs ≡ codes_at p ys cs
  unfolding codes_at
  codes_other p [] cs e = rw (e, codes_at) refl
  codes_other p (y ∷ ys) cs e = split (eqb y.pin p) (λ b. rw (b, codes_at) (codes_other p ys (insert y.code cs) e)) (λ b. rw (b, codes_at) (codes_other p ys cs e))

  extra_out : (ps : List ℕ) (ys : List Activation) → Out a.pin ps → extra_at ps (ys ++ (a ∷ [])) ≡ extra_at ps ys
  unfolding extra_at
  extra_out [] ys o = refl
  extra_out (p ∷ ps) ys o =
      let n : eqb a.pin p ≡ false = split (eqb a.pin p) (λ b. absurd (out_head a.pin p ps o (eqb_true a.pin p b))) (λ b. b) in
      rw (codes_other p ys [] n, extra_out ps ys (out_tail a.pin p ps o))

  -- among some pins, each once
  extra_in : {ps : List ℕ} → Once ps → (ys : List Activation) → In a.pin ps →
      extra_at ps (ys ++ (a ∷ [])) + pred (length (codes_at a.pin ys [])) ≡ extra_at ps ys + pred (length (insert a.code (codes_at a.pin ys [])))
  unfolding extra_at
  extra_in nobody ys i = in_nil a.pin i
  extra_in (one {x = p} {xs = ps} o k) ys i = split (eqb a.pin p)
      (λ b.
      let e : a.pin ≡ p = eqb_true a.pin p b in
      let n : Out a.pin ps = rw e o in
      rw (← e, codes_same a.pin ys [] refl, extra_out ps ys n) (omega arith))
      (λ b. elim (in_cons a.pin p ps i) [
        | inl e ↦ absurd (eqb_false a.pin p b e)
        | inr e ↦ rw (codes_other p ys [] b) (omega (arith, extra_in k ys e))
      ])

-- ---- the pins met

pins_snoc : (ys : List Activation) (a : Activation) → pins_met (ys ++ (a ∷ [])) ≡ insert a.pin (pins_met ys)
unfolding distinct
pins_snoc ys a = ap (λ (l : List ℕ). insert_all l []) (map_snoc (λ (b : Activation). b.pin) ys a) ∙ insert_all-snoc (map (λ (b : Activation). b.pin) ys) a.pin []

pins_once : (ys : List Activation) → Once (pins_met ys)
unfolding distinct
pins_once ys = once_insert_all (map (λ (b : Activation). b.pin) ys) nobody

-- a pin that no activation names has no numbers
pub codes_none : (p : ℕ) (ys : List Activation) (cs : List ℕ) → Out p (map (λ (b : Activation). b.pin) ys) → codes_at p ys cs ≡ cs
unfolding codes_at
codes_none p [] cs o = refl
codes_none p (y ∷ ys) cs o =
    let n : eqb y.pin p ≡ false = split (eqb y.pin p) (λ b. absurd (out_head p y.pin (map (λ (b : Activation). b.pin) ys) o (sym (eqb_true y.pin p b)))) (λ b. b) in
    rw (n, codes_at) (codes_none p ys cs (out_tail p y.pin (map (λ (b : Activation). b.pin) ys) o))

-- ---- the duplicates of some activations

extra_snoc : (ps : List ℕ) (p : ℕ) (ys : List Activation) → extra_at (ps ++ (p ∷ [])) ys ≡ extra_at ps ys + pred (length (codes_at p ys []))
unfolding extra_at
extra_snoc [] p ys = omega arith
extra_snoc (q ∷ ps) p ys = omega (arith, extra_snoc ps p ys)

module _ (a : Activation) (ys : List Activation) where
  abbrev codes : List ℕ
  codes = codes_at a.pin ys []

  -- in general
  met : In a.pin (pins_met ys) → repeats (ys ++ (a ∷ [])) + pred (length codes) ≡ repeats ys + pred (length (insert a.code codes))
  unfolding insert
  met i = rw (pins_snoc ys a, i, insert) (extra_in a (pins_once ys) ys i)

  -- the pin's first activation adds nothing
  pub repeats_first : Out a.pin (pins_met ys) → repeats (ys ++ (a ∷ [])) ≡ repeats ys
  unfolding insert mem
  repeats_first o =
      let n : Out a.pin (map (λ (b : Activation). b.pin) ys) = split (mem a.pin (map (λ (b : Activation). b.pin) ys)) (λ e. true_false (in_distinct a.pin (map (λ (b : Activation). b.pin) ys) e) o) (λ e. e) in
      let y : codes_at a.pin (ys ++ (a ∷ [])) [] ≡ a.code ∷ [] = codes_same a a.pin ys [] refl ∙ rw (codes_none a.pin ys [] n) refl in
      rw (pins_snoc ys a, o, insert, extra_snoc (pins_met ys) a.pin (ys ++ (a ∷ [])), y, extra_out a (pins_met ys) ys o) (omega arith)

  -- one that is there already adds nothing
  pub repeats_old : In a.pin (pins_met ys) → In a.code codes → repeats (ys ++ (a ∷ [])) ≡ repeats ys
  unfolding insert
  repeats_old i j = let e : insert a.code codes ≡ codes = rw (j, insert) refl in omega (arith, rw e at (met i))

  -- another one adds one
  pub repeats_more : In a.pin (pins_met ys) → Out a.code codes → 0 < length codes → repeats (ys ++ (a ∷ [])) ≡ suc (repeats ys)
  unfolding insert
  repeats_more i j b =
      let e : insert a.code codes ≡ codes ++ (a.code ∷ []) = rw (j, insert) refl in
      omega (arith, rw (e, length-append codes (a.code ∷ [])) at (met i))

  -- so there are no fewer
  pub repeats_grow : repeats ys ≤ repeats (ys ++ (a ∷ []))
  unfolding insert
  repeats_grow = split (mem a.pin (pins_met ys))
      (λ i. split (mem a.code codes) (λ j. omega (arith, repeats_old i j))
      (λ j. let e : insert a.code codes ≡ codes ++ (a.code ∷ []) = rw (j, insert) refl in omega (arith, rw (e, length-append codes (a.code ∷ [])) at (met i))))
      (λ o. omega (arith, repeats_first o))

-- ---- one record more

-- one more record adds one if it is a memory
pub memories_snoc : (xs : List Group) (x : Group) → memories (xs ++ (x ∷ [])) ≡ memories xs + memories (x ∷ [])
unfolding memories
memories_snoc [] x = omega arith
memories_snoc (output l ∷ xs) x = memories_snoc xs x
memories_snoc (flip_flop e d ∷ xs) x = memories_snoc xs x
memories_snoc (memory ls ∷ xs) x = omega (arith, memories_snoc xs x)
memories_snoc (staged_pin p ∷ xs) x = memories_snoc xs x

-- the duplicates of records are those of their activations
pub duplicates_repeats : (xs : List Group) → duplicates xs ≡ repeats (activations xs)
unfolding duplicates
duplicates_repeats xs = refl

-- more records have no fewer duplicates and memories
grow : (ys zs : List Activation) → repeats ys ≤ repeats (ys ++ zs)
grow ys [] = rw (append-nil ys) (omega arith)
grow ys (z ∷ zs) = let e : ys ++ (z ∷ zs) ≡ (ys ++ (z ∷ [])) ++ zs = sym (append_assoc ys (z ∷ []) zs) in rw e (omega (arith, repeats_grow z ys, grow (ys ++ (z ∷ [])) zs))

-- records behind records: activations behind activations
pub activations_append : (xs ys : List Group) → activations (xs ++ ys) ≡ activations xs ++ activations ys
unfolding activations
activations_append [] ys = refl
activations_append (output l ∷ xs) ys = rw (activations_append xs ys)
activations_append (flip_flop e d ∷ xs) ys = rw (activations_append xs ys)
activations_append (memory ls ∷ xs) ys = activations_append xs ys
activations_append (staged_pin p ∷ xs) ys = rw (activations_append xs ys)

-- more records have no fewer duplicates
pub duplicates_grow : (xs ys : List Group) → duplicates xs ≤ duplicates (xs ++ ys)
duplicates_grow xs ys = rw (duplicates_repeats xs, duplicates_repeats (xs ++ ys), activations_append xs ys) (grow (activations xs) (activations ys))

-- and no fewer memories
pub memories_grow : (xs ys : List Group) → memories xs ≤ memories (xs ++ ys)
unfolding memories
memories_grow [] ys = omega arith
memories_grow (output l ∷ xs) ys = memories_grow xs ys
memories_grow (flip_flop e d ∷ xs) ys = memories_grow xs ys
memories_grow (memory ls ∷ xs) ys = omega (arith, memories_grow xs ys)
memories_grow (staged_pin p ∷ xs) ys = memories_grow xs ys

-- one more record puts its pins behind the waiting list, pin 0 and those present left out
pub waiting_of-snoc : (xs : List Group) (x : Group) (ws : List ℕ) → waiting_of (xs ++ (x ∷ [])) ws ≡ insert_all (keep (ltb 0) (endpoints_of x)) (waiting_of xs ws)
unfolding waiting_of
waiting_of-snoc [] x ws = refl
waiting_of-snoc (y ∷ xs) x ws = waiting_of-snoc xs x (insert_all (keep (ltb 0) (endpoints_of y)) ws)
