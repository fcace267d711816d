-- Marks by pin, read and written. Assumes nothing.
use Prim.Native.Nat.{ℕ, zero, suc, ◌+◌, ◌≤◌, ◌<◌}
use mathlib.Core.Path.{◌≡◌, refl, sym, ◌∙◌}
use mathlib.Core.Bool.{true, false, not}
use mathlib.Core.List.{List, [], ◌∷◌, ◌++◌}
use native.Mathlib.Omega.{arith}
use native.Mathlib.Numerals.{add-one}
use lib.Dec.{eqb}
use lib.ListN.{length, get_or, set, take, length-set, length-map, get_or-eq_default}
use lib.Seq.{get_or-set_same, get_or-set_other, take-suc, take-length}
use Rattle.rules.specs.Lists.{mem}
use Rattle.rules.specs.Coded.{cell_pin, pins}
use Rattle.rules.proofs.Lists.Members.{split, eqb_true, eqb_false, in_here, in_append_right}
use Rattle.rules.proofs.Lists.Parts.{get_d_map}
use Rattle.plan_check_stage.specs.Marks.{marked, mark_or, Marks}

-- what stands inside a list does not depend on what stands for the outside
pub get_or_inside : (xs : List ℕ) (i d e : ℕ) → i < length xs → get_or xs i d ≡ get_or xs i e
get_or_inside [] i d e h = absurd (omega arith)
get_or_inside (x ∷ xs) zero d e h = refl
get_or_inside (x ∷ xs) (suc i) d e h = get_or_inside xs i d e (omega arith)

-- ---- reading

module _ (l : List ℕ) (n p : ℕ) (e : p ≡ n) where
  -- a pin past the marks has none
  pub mark_past : length l ≤ p → false ≡ marked l n
  unfolding marked
  mark_past h = rw (get_or-eq_default l 0 {n = n} (omega arith))

  -- any pin has its own
  pub mark_there : not (eqb (get_or l p 0) 0) ≡ marked l n
  unfolding marked
  mark_there = rw e

-- ---- writing

snoc_other : (n x : ℕ) (xs : List ℕ) → (n ≡ x → ⊥) → mem n (xs ++ (x ∷ [])) ≡ mem n xs
unfolding mem
snoc_other n x [] h = split (eqb n x) (λ e. absurd (h (eqb_true n x e))) (λ e. rw (e, mem))
snoc_other n x (y ∷ ys) h = split (eqb n y) (λ e. rw (e, mem)) (λ e. rw (e, mem) (snoc_other n x ys h))

-- the first i cells' pins have v
pub record MarksTo (cells : List ℕ) (v : ℕ) (l : List ℕ) (i : ℕ) (now : List ℕ) : Type 0 where
  pub len : length now ≡ length l
  pub upto : i ≤ length cells
  pub each : (n : ℕ) → n < length l → get_or now n 0 ≡ mark_or (mem n (take i (pins cells))) v (get_or l n 0)

module _ (cells : List ℕ) (v : ℕ) (l : List ℕ) where
  -- none at the beginning
  pub marks_none : MarksTo cells v l 0 l
  unfolding mark_or mem
  marks_none = record { len = refl; upto = omega arith; each = λ n h. refl }

  module _ (i : ℕ) (now : List ℕ) (R : MarksTo cells v l i now) (h : i < length cells) (c x : ℕ) (ec : c ≡ x) (ex : x ≡ cell_pin (get_or cells i 0)) where
    next : take (i + 1) (pins cells) ≡ take i (pins cells) ++ (c ∷ [])
    unfolding pins
    next =
        let e : get_or (pins cells) i 0 ≡ c = get_d_map cell_pin cells i h ∙ sym ex ∙ sym ec in
        rw (add-one i) (take-suc (pins cells) i 0 (omega (arith, length-map cells cell_pin)) ∙ rw e)

    -- a cell without a pin marks nothing
    pub marks_pass : length now ≤ c → MarksTo cells v l (i + 1) now
    marks_pass b = record {
      len = R.len;
      upto = omega arith;
      each = λ n k. R.each n k ∙ rw (next, snoc_other n c (take i (pins cells)) (λ e. omega (arith, R.len)));
    }

    -- another marks its pin
    pub marks_more : c < length now → MarksTo cells v l (i + 1) (set now c v)
    unfolding mark_or
    marks_more b = record {
      len = length-set now c v ∙ R.len;
      upto = omega arith;
      each = λ n k. split (eqb n c)
          (λ t.
          let e = eqb_true n c t in
          let z : mem c (take i (pins cells) ++ (c ∷ [])) ≡ true = in_append_right c (take i (pins cells)) (c ∷ []) (in_here c []) in
          rw (next, e, z, get_or-set_same now c v 0 b))
          (λ t. rw (next, snoc_other n c (take i (pins cells)) (eqb_false n c t), get_or-set_other now c n v 0 (eqb_false n c t)) (R.each n k));
    }

  -- all at the end
  pub marks_done : (i : ℕ) (now : List ℕ) → MarksTo cells v l i now → length cells ≤ i → Marks (pins cells) v l now
  unfolding pins
  marks_done i now R h =
      let e : i ≡ length (pins cells) = omega (arith, R.upto, length-map cells cell_pin) in
      let t : take i (pins cells) ≡ pins cells = rw e (take-length (pins cells)) in
      record { len = R.len; each = λ n k. rw t at (R.each n k) }

-- ---- as tests

module _ (xs : List ℕ) (v : ℕ) (l l' : List ℕ) (M : Marks xs v l l') (n : ℕ) (h : n < length l) where
  -- a pin of the list has mark v
  pub mark_in : mem n xs ≡ true → marked l' n ≡ not (eqb v 0)
  unfolding marked mark_or
  mark_in e = rw (M.each n h, e)

  -- another what it had
  pub mark_out : mem n xs ≡ false → marked l' n ≡ marked l n
  unfolding marked mark_or
  mark_out e = rw (M.each n h, e)
