-- A tape's bits, entry after entry. Assumes nothing.
use Prim.Native.Nat.{ℕ, zero, suc, ◌+◌, ◌*◌, ◌/◌, ◌%◌, ◌≤◌, ◌<◌}
use mathlib.Core.Path.{◌≡◌, refl, sym, ◌∙◌, ap, ap₂}
use mathlib.Core.Bool.{Bool, true, false, ◌&&◌}
use mathlib.Core.List.{List, [], ◌∷◌, ◌++◌}
use native.Mathlib.Omega.{arith}
use native.Mathlib.Numerals.{add-one}
use lib.Dec.{eqb, ltb}
use lib.ListN.{length, get_or, set, take, drop, length-set, length-append, take-append-drop, get_or-append}
use lib.Seq.{get_or-take, length-take-le, drop-cons, set_at, append_snoc, get_or-append_seam, get_or-set_other, get_or-set_same}
use borrow.Author.Tests.{ltb-true, ltb-false}
use Rattle.rules.specs.Lists.{laid_over}
use Rattle.rules.specs.Graph.{gate, pin_of, inversion_of, literal_bit}
use Rattle.rules.specs.Fold.{as_number}
use Rattle.rules.proofs.Lists.Members.{split, eqb_true, eqb_false}
use Rattle.replay_form.specs.Clocks.{is_one}
use Rattle.replay_form.specs.Tape.{slot_bit, entry_bit, run_tape}
use Rattle.replay_form.proofs.Tape.{length_run, run_append}
use Rattle.replay_tape.specs.Running.{entries_of, Below, RunAt}

-- ---- bits as numbers

-- a bit is at most 1
pub number_small : (b : Bool) → as_number b ≤ 1
unfolding as_number
number_small true = omega arith
number_small false = omega arith

odd : (a : ℕ) → (a % 2 ≡ 0 → ⊥) → a % 2 ≡ 1
odd a h = split (eqb (a % 2) 1) (λ t. eqb_true (a % 2) 1 t) (λ t. absurd (h (omega (arith, eqb_false (a % 2) 1 t))))

-- a literal's bit
pub literal_number : (a x : ℕ) → x ≤ 1 → (a + x) % 2 ≡ as_number (literal_bit a (is_one x))
unfolding literal_bit inversion_of is_one as_number
literal_number a zero h = split (eqb (a % 2) 0)
    (λ t. rw (t, literal_bit) (omega (arith, eqb_true (a % 2) 0 t)))
    (λ t. rw (t, literal_bit) (omega (arith, odd a (eqb_false (a % 2) 0 t))))
literal_number a (suc zero) h = split (eqb (a % 2) 0)
    (λ t. rw (t, literal_bit) (omega (arith, eqb_true (a % 2) 0 t)))
    (λ t. rw (t, literal_bit) (omega (arith, odd a (eqb_false (a % 2) 0 t))))
literal_number a (suc (suc x)) h = absurd (omega arith)

-- and both
pub both_number : (u v : Bool) → (as_number u + as_number v) / 2 ≡ as_number (u && v)
unfolding as_number
both_number true true = refl
both_number true false = refl
both_number false true = refl
both_number false false = refl

-- ---- entries

-- as many entries
pub length_entries : (n : ℕ) (area : List ℕ) → length (entries_of n area) ≡ n
unfolding entries_of
length_entries zero area = refl
length_entries (suc n) area = length-append (entries_of n area) _ ∙ omega (arith, length_entries n area)

-- a store behind them
pub entries_set : (n : ℕ) (area : List ℕ) (i v : ℕ) → 2 * n ≤ i → entries_of n (set area i v) ≡ entries_of n area
unfolding entries_of
entries_set zero area i v h = refl
entries_set (suc n) area i v h = rw (entries_set n area i v (omega arith), get_or-set_other area i (2 * n) v 0 (λ e. omega arith), get_or-set_other area i (2 * n + 1) v 0 (λ e. omega arith))

-- ---- running

-- the bits after k entries
abbrev pub after : ℕ → (area bits : List ℕ) → ℕ → List ℕ
after pins area bits k = run_tape (entries_of k area) (take pins bits)

-- the first k entries have their bits
pub record Ran (pins n : ℕ) (area bits : List ℕ) (k : ℕ) (now : List ℕ) : Type 0 where
  pub upto : k ≤ n
  pub len : length now ≡ length bits
  pub done : now ≡ after pins area bits k ++ drop (pins + k) bits

module _ (pins n : ℕ) (area bits : List ℕ) (A : RunAt pins n area bits) where
  abbrev ran : ℕ → List ℕ
  ran k = after pins area bits k

  -- a bit for each pin and entry
  pub length_ran : (k : ℕ) → length (ran k) ≡ pins + k
  length_ran k = length_run (entries_of k area) (take pins bits) ∙ omega (arith, length_entries k area, length-take-le pins bits (omega (arith, A.room)))

  ran_more : (k : ℕ) → ran (suc k) ≡ ran k ++ (as_number (entry_bit (ran k) (gate (get_or area (2 * k) 0) (get_or area (2 * k + 1) 0))) ∷ [])
  unfolding entries_of run_tape
  ran_more k = run_append (entries_of k area) _ (take pins bits)

  -- each is a bit
  pub ran_small : (k s : ℕ) → s < pins + k → get_or (ran k) s 0 ≤ 1
  unfolding entries_of run_tape
  ran_small zero s h = rw (get_or-take pins bits s 0 (omega arith)) (A.bit s (omega arith))
  ran_small (suc k) s h = rw (ran_more k) (split (ltb s (pins + k))
      (λ t. let b = ltb-true s (pins + k) t in rw (get_or-append (ran k) _ 0 s (omega (arith, length_ran k))) (ran_small k s b))
      (λ t. let e : s ≡ length (ran k) = omega (arith, length_ran k, ltb-false s (pins + k) t) in rw (e, get_or-append_seam (ran k) _ [] 0) (number_small _)))

  -- none at the beginning
  pub ran_none : Ran pins n area bits 0 bits
  unfolding entries_of run_tape
  ran_none = let e : pins + 0 ≡ pins = omega arith in record { upto = omega arith; len = refl; done = rw e (sym (take-append-drop pins bits)) }

  module _ (k : ℕ) (now : List ℕ) (R : Ran pins n area bits k now) (h : k < n) where
    slot_there : (s : ℕ) → s < pins + k → get_or now s 0 ≡ get_or (ran k) s 0
    slot_there s b = rw R.done (get_or-append (ran k) _ 0 s (omega (arith, length_ran k)))

    -- a slot's bit is a bit
    pub slot_small : (s : ℕ) → s < pins + k → get_or now s 0 ≤ 1
    slot_small s b = rw (slot_there s b) (ran_small k s b)

    module _ (a b : ℕ) (ea : a ≡ get_or area (2 * k) 0) (eb : b ≡ get_or area (2 * k + 1) 0) where
      -- the first slot is there
      pub first_below : a / 2 < pins + k
      unfolding pin_of
      first_below = rw ea (A.below.first k h)

      -- the second too
      pub second_below : b / 2 < pins + k
      unfolding pin_of
      second_below = rw eb (A.below.second k h)

      literal_there : (c : ℕ) → c / 2 < pins + k → (c + get_or now (c / 2) 0) % 2 ≡ as_number (literal_bit c (slot_bit (ran k) (pin_of c)))
      unfolding slot_bit pin_of
      literal_there c l = literal_number c _ (slot_small (c / 2) l) ∙ rw (slot_there (c / 2) l)

      -- one entry more
      pub ran_step : (p q : ℕ) → p ≡ get_or now (a / 2) 0 → q ≡ get_or now (b / 2) 0 → Ran pins n area bits (k + 1) (set now (pins + k) (((a + p) % 2 + (b + q) % 2) / 2))
      unfolding entry_bit
      ran_step p q ep eq =
          let v = ((a + p) % 2 + (b + q) % 2) / 2 in
          let e : v ≡ as_number (entry_bit (ran k) (gate (get_or area (2 * k) 0) (get_or area (2 * k + 1) 0))) =
          ap (λ (c : ℕ). ((a + c) % 2 + (b + q) % 2) / 2) ep ∙ ap (λ (c : ℕ). ((a + get_or now (a / 2) 0) % 2 + (b + c) % 2) / 2) eq
          ∙ ap₂ (λ (c d : ℕ). (c + d) / 2) (literal_there a first_below) (literal_there b second_below)
          ∙ both_number _ _ ∙ ap₂ (λ (c d : ℕ). as_number (literal_bit c (slot_bit (ran k) (pin_of c)) && literal_bit d (slot_bit (ran k) (pin_of d)))) ea eb in
          let s : suc (pins + k) ≡ pins + suc k = omega arith in
          record {
            upto = omega arith;
            len = simp length-set R.len;
            done = rw (add-one k, ran_more k, ← e, R.done, drop-cons bits (pins + k) 0 (omega (arith, A.room)), s) (set_at (ran k) _ _ v (pins + k) (length_ran k) ∙ sym (append_snoc (ran k) v _));
          }

  -- all entries
  pub ran_done : (k : ℕ) (now : List ℕ) → Ran pins n area bits k now → n ≤ k → now ≡ laid_over (run_tape (entries_of n area) (take pins bits)) bits
  unfolding laid_over
  ran_done k now R h = let e : k ≡ n = omega (arith, R.upto) in R.done ∙ rw (e, length_ran n)

-- ---- one more entry

module _ (t : List ℕ) (e a b : ℕ) (h : 2 * e + 2 ≤ length t) where
  abbrev pushed : List ℕ
  pushed = set (set t (2 * e) a) (2 * e + 1) b

  push_first : get_or pushed (2 * e) 0 ≡ a
  push_first = get_or-set_other (set t (2 * e) a) (2 * e + 1) (2 * e) b 0 (λ d. omega arith) ∙ get_or-set_same t (2 * e) a 0 (omega arith)

  push_second : get_or pushed (2 * e + 1) 0 ≡ b
  push_second = get_or-set_same (set t (2 * e) a) (2 * e + 1) b 0 (rw length-set (omega arith))

  push_other : (i : ℕ) → i < 2 * e → get_or pushed i 0 ≡ get_or t i 0
  push_other i l = get_or-set_other (set t (2 * e) a) (2 * e + 1) i b 0 (λ d. omega arith) ∙ get_or-set_other t (2 * e) i a 0 (λ d. omega arith)

  -- an entry more
  pub entries_push : entries_of (e + 1) pushed ≡ entries_of e t ++ (gate a b ∷ [])
  unfolding entries_of
  entries_push = rw (add-one e, push_first, push_second, entries_set e (set t (2 * e) a) (2 * e + 1) b (omega arith), entries_set e t (2 * e) a (omega arith))

  -- it names slots before its own
  pub below_push : (m : ℕ) → Below m e t → pin_of a < m + e → pin_of b < m + e → Below m (e + 1) pushed
  below_push m B la lb = record {
    first = λ k l. split (ltb k e)
        (λ u. let j = ltb-true k e u in rw (push_other (2 * k) (omega arith)) (B.first k j))
        (λ u. let d : k ≡ e = omega (arith, ltb-false k e u) in rw (d, push_first) la);
    second = λ k l. split (ltb k e)
        (λ u. let j = ltb-true k e u in rw (push_other (2 * k + 1) (omega arith)) (B.second k j))
        (λ u. let d : k ≡ e = omega (arith, ltb-false k e u) in rw (d, push_second) lb);
  }
