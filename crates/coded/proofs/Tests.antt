-- What the tests of the check say, and how they are passed. Assumes nothing.
use Prim.Native.Nat.{ℕ, zero, suc, ◌+◌, ◌^◌, ◌≤◌, ◌<◌}
use mathlib.Core.Path.{◌≡◌, refl, sym, ◌∙◌, ap}
use mathlib.Core.Bool.{Bool, true, false, not, ◌&&◌}
use mathlib.Core.List.{List}
use native.Mathlib.Omega.{arith}
use lib.Dec.{ltb, eqb, lt→ltb}
use lib.ListN.{length, get_or}
use borrow.Author.Tests.{ltb-true, ltb-false, not-true}
use Rattle.rules.specs.Lists.{Found, nothing, found, mem, every, Out}
use Rattle.rules.specs.Cells.{filled, empty, first_lower, second_lower, width}
use Rattle.rules.specs.Graph.{Node, leaf, gate, pin_of}
use Rattle.rules.proofs.Lists.Members.{split, true_false, T→true, and_true, eqb_true, eqb_same}
use Rattle.rules.proofs.Stage.Puts.{cell}
use Rattle.rules.proofs.Tree.Held.{node}
use Rattle.rules.specs.Coded.{cell_pin, and_cell}
use Rattle.rules.specs.Faults.{is_found, splits, right_above, right_at, first_not}
use Rattle.coded.proofs.Cells.{and_wide}

-- both hold
pub and_both : {a b : Bool} → a ≡ true → b ≡ true → a && b ≡ true
and_both e d = rw (e, d)

-- less, as a test
pub lt_true : (a b : ℕ) → a < b → ltb a b ≡ true
lt_true a b h = T→true (ltb a b) (lt→ltb a b h)

-- not less, as a test
pub lt_false : (a b : ℕ) → b ≤ a → ltb a b ≡ false
lt_false a b h = split (ltb a b) (λ e. absurd (omega (arith, ltb-true a b e))) (λ e. e)

-- a place that is found
pub is_found_lem : (x : Found) → is_found x ≡ true → (p : ℕ) × (x ≡ found p)
unfolding is_found
is_found_lem nothing e = true_false e refl
is_found_lem (found p) e = (p, refl)

-- is found
pub found_is : (x : Found) (p : ℕ) → x ≡ found p → is_found x ≡ true
unfolding is_found
found_is x p e = rw e

-- ---- the first position that fails

-- where none is found every position passes
pub none_fails : (f : ℕ → Bool) (n i : ℕ) → first_not f n i ≡ nothing → (p : ℕ) → i ≤ p → p < i + n → f p ≡ true
unfolding first_not
none_fails f zero i e p a b = absurd (omega arith)
none_fails f (suc n) i e p a b = split (f i)
    (λ t. split (eqb p i) (λ c. rw (eqb_true p i c) t)
    (λ c. none_fails f n (suc i) (rw (t, first_not) at e) p (later c) (omega arith)))
    (λ t. absurd (let d : found i ≡ nothing = rw (t, first_not) at e in let z : ◌≡◌ {A = ℕ} 0 1 = cc in omega arith))
  where
    later : eqb p i ≡ false → suc i ≤ p
    later c = split (ltb i p) (λ t. ltb-true i p t) (λ t. let z : p ≡ i = omega (arith, ltb-false i p t) in true_false (rw z (eqb_same i)) c)

-- and where every position passes none is found
pub all_pass : (f : ℕ → Bool) (n i : ℕ) → ((p : ℕ) → i ≤ p → p < i + n → f p ≡ true) → first_not f n i ≡ nothing
unfolding first_not
all_pass f zero i h = refl
all_pass f (suc n) i h = rw (h i (omega arith) (omega arith), first_not) (all_pass f n (suc i) (λ p a b. h p (omega arith) (omega arith)))

-- ---- a cell

-- what the filled cell at position p does
pub data Does (K : ℕ) (g : List Node) (given : List ℕ) (may : ℕ → Type 0) (cl : List ℕ) (p : ℕ) : Type 0 where
  loads : 2 ^ K ≤ p → get_or cl p empty ≡ cell_pin (get_or cl p empty) → may (cell_pin (get_or cl p empty)) → Does K g given may cl p
  copies : p < 2 ^ K → get_or cl p empty ≡ cell_pin (get_or cl p empty) → cell_pin (get_or cl (first_lower p) empty) ≡ cell_pin (get_or cl p empty) → Does K g given may cl p
  joins : (a b : ℕ) → p < 2 ^ K → Out (cell_pin (get_or cl p empty)) given → get_or g (cell_pin (get_or cl p empty)) leaf ≡ gate a b → get_or cl p empty ≡ and_cell (cell_pin (get_or cl p empty)) (gate a b) →
      cell_pin (get_or cl (first_lower p) empty) ≡ pin_of a → cell_pin (get_or cl (second_lower p) empty) ≡ pin_of b → Does K g given may cl p

-- a filled cell without a fault
pub record Fit (K : ℕ) (g : List Node) (given : List ℕ) (may : ℕ → Type 0) (cl : List ℕ) (p : ℕ) : Type 0 where
  pub above : 0 < cell_pin (get_or cl p empty)
  pub below : cell_pin (get_or cl p empty) < length g
  pub does : Does K g given may cl p

-- a test as a statement
abbrev pub Passes : (ℕ → Bool) → ℕ → Type 0
Passes may n = may n ≡ true

module _ (K : ℕ) (g : List Node) (given : List ℕ) (may : ℕ → Bool) (cl : List ℕ) (p : ℕ) (k : filled (get_or cl p empty) ≡ true) where
  abbrev c : ℕ
  c = get_or cl p empty

  abbrev x : ℕ
  x = cell_pin (get_or cl (first_lower p) empty)

  abbrev y : ℕ
  y = cell_pin (get_or cl (second_lower p) empty)

  gate_says : p < 2 ^ K → Out (cell_pin c) given → splits (get_or g (cell_pin c) leaf) (cell_pin c) c x y ≡ true → Does K g given (Passes may) cl p
  unfolding splits
  gate_says b o e = node (get_or g (cell_pin c) leaf)
      (λ d. true_false (rw (d, splits) at e) refl)
      (λ i j d.
      let s = and_true (eqb c (and_cell (cell_pin c) (gate i j))) (eqb x (pin_of i) && eqb y (pin_of j)) (rw (d, splits) at e) in
      let t = and_true (eqb x (pin_of i)) (eqb y (pin_of j)) s.1 in
      joins i j b o d (eqb_true _ _ s.0) (eqb_true _ _ t.0) (eqb_true _ _ t.1))

  above_says : p < 2 ^ K → right_above g given c x y ≡ true → Does K g given (Passes may) cl p
  unfolding right_above
  above_says b e = split (eqb c (cell_pin c))
      (λ d. copies b (eqb_true c (cell_pin c) d) (eqb_true x (cell_pin c) (rw (d, right_above) at e)))
      (λ d. let s = and_true (not (mem (cell_pin c) given)) (splits (get_or g (cell_pin c) leaf) (cell_pin c) c x y) (rw (d, right_above) at e) in
      gate_says b (not-true (mem (cell_pin c) given) s.0) s.1)

  -- a filled cell that passes the test has no fault
  pub right_fits : right_at K g given may cl p ≡ true → Fit K g given (Passes may) cl p
  unfolding right_at
  right_fits e = split (ltb p (width K))
      (λ d.
      let s = and_true (ltb 0 (cell_pin c) && ltb (cell_pin c) (length g)) (right_above g given c x y) (rw (k, d, right_at) at e) in
      let n = and_true (ltb 0 (cell_pin c)) (ltb (cell_pin c) (length g)) s.0 in
      record { above = ltb-true _ _ n.0; below = ltb-true _ _ n.1; does = above_says (ltb-true p (width K) d) s.1 })
      (λ d.
      let s = and_true (ltb 0 (cell_pin c) && ltb (cell_pin c) (length g)) (eqb c (cell_pin c) && may (cell_pin c)) (rw (k, d, right_at) at e) in
      let n = and_true (ltb 0 (cell_pin c)) (ltb (cell_pin c) (length g)) s.0 in
      let t = and_true (eqb c (cell_pin c)) (may (cell_pin c)) s.1 in
      record { above = ltb-true _ _ n.0; below = ltb-true _ _ n.1; does = loads (ltb-false p (width K) d) (eqb_true c (cell_pin c) t.0) t.1 })

-- ---- and back: a cell that fits passes

module _ (K : ℕ) (g : List Node) (few : length g ≤ 65536) (given : List ℕ) (may : ℕ → Bool) (cl : List ℕ) (p : ℕ) (k : filled (get_or cl p empty) ≡ true) where
  named_right : (n : ℕ) → 0 < n → n < length g → (ltb 0 n && ltb n (length g)) ≡ true
  named_right n a b = and_both (lt_true 0 n a) (lt_true n (length g) b)

  -- a filled cell without a fault passes the test
  pub fits_right : Fit K g given (Passes may) cl p → right_at K g given may cl p ≡ true
  unfolding right_at right_above splits
  fits_right f = go f.does
    where
      go : Does K g given (Passes may) cl p → right_at K g given may cl p ≡ true
      go (loads l c m) =
          let d : ltb p (2 ^ K) ≡ false = lt_false p (2 ^ K) l in
          let e : eqb (get_or cl p empty) (cell_pin (get_or cl p empty)) ≡ true = ap (eqb (get_or cl p empty)) (sym c) ∙ eqb_same (get_or cl p empty) in
          rw (k, d, right_at) (and_both (named_right (cell_pin (get_or cl p empty)) f.above f.below) (and_both e m))
      go (copies l c x) =
          let d : ltb p (2 ^ K) ≡ true = lt_true p (2 ^ K) l in
          let e : eqb (get_or cl p empty) (cell_pin (get_or cl p empty)) ≡ true = ap (eqb (get_or cl p empty)) (sym c) ∙ eqb_same (get_or cl p empty) in
          let z : eqb (cell_pin (get_or cl (first_lower p) empty)) (cell_pin (get_or cl p empty)) ≡ true = ap (λ (u : ℕ). eqb u (cell_pin (get_or cl p empty))) x ∙ eqb_same (cell_pin (get_or cl p empty)) in
          rw (k, d, right_at) (and_both (named_right (cell_pin (get_or cl p empty)) f.above f.below) (rw (e, right_above) z))
      go (joins i j l o h c x y) =
          let n : ℕ = cell_pin (get_or cl p empty) in
          let d : ltb p (2 ^ K) ≡ true = lt_true p (2 ^ K) l in
          let e : eqb (get_or cl p empty) n ≡ false = split (eqb (get_or cl p empty) n) (λ t. absurd (omega (arith, and_wide n i j, eqb_true (get_or cl p empty) n t))) (λ t. t) in
          let u : eqb (get_or cl p empty) (and_cell n (gate i j)) ≡ true = ap (eqb (get_or cl p empty)) (sym c) ∙ eqb_same (get_or cl p empty) in
          let v : eqb (cell_pin (get_or cl (first_lower p) empty)) (pin_of i) ≡ true = ap (λ (u : ℕ). eqb u (pin_of i)) x ∙ eqb_same (pin_of i) in
          let w : eqb (cell_pin (get_or cl (second_lower p) empty)) (pin_of j) ≡ true = ap (λ (u : ℕ). eqb u (pin_of j)) y ∙ eqb_same (pin_of j) in
          rw (k, d, right_at) (and_both (named_right n f.above f.below) (rw (e, right_above, o, h, splits) (and_both u (and_both v w))))
