-- The list has exactly the places that differ, in order, and turns the old plan into the new one. Assumes nothing.
use Prim.Native.Nat.{ℕ, zero, suc, ◌+◌, ◌-◌, ◌*◌, ◌/◌, ◌%◌, ◌≤◌, ◌<◌}
use mathlib.Core.Path.{◌≡◌, refl, sym, ◌∙◌, ap}
use mathlib.Core.Logic.{◌⊎◌, inl, inr, ◌≢◌}
use mathlib.Core.Bool.{false}
use mathlib.Core.List.{List, [], ◌∷◌, ◌++◌, append_assoc}
use native.Mathlib.Omega.{arith}
use native.Mathlib.Nat.{div-add-mod', mod-lt, suc-mul, mul-le-mul_right}
use lib.Dec.{eqb, ltb}
use lib.Pow.{pow_pos}
use lib.ListN.{length, get_or, set, length-append}
use borrow.Author.Tests.{ltb-true, ltb-false}
use Rattle.rules.specs.Cells.{stage_size}
use Rattle.rules.proofs.Lists.Members.{split, eqb_true, eqb_false, eqb_same}
use Rattle.mending.specs.Changes.{Change, change_at, changes_from, changes, numbers_of, changes_of, place_of, apply, undo, In, here, there, Differs, Rising, ends, goes}

none_in : {P : Type 0} {c : Change} → In c [] → P
none_in m = elim m [ ]

-- the place of a change
pub place_at : (K i x y : ℕ) → place_of K (change_at K i x y) ≡ i
unfolding place_of change_at
place_at K i x y = let z : suc (i / stage_size K) - 1 ≡ i / stage_size K = omega arith in ap (λ (u : ℕ). u * stage_size K + i % stage_size K) z ∙ div-add-mod' i (stage_size K)

-- a change stands in a stage, at a position of it
pub position_inside : (K i x y : ℕ) → ((change_at K i x y).position < stage_size K) × (1 ≤ (change_at K i x y).stage)
unfolding change_at
position_inside K i x y = (mod-lt i (pow_pos (K + 1)), omega arith)

-- a rising place: a later stage, or the same stage and a higher position
pub place_order : (K : ℕ) (c d : Change) → c.position < stage_size K → 1 ≤ c.stage → d.position < stage_size K → 1 ≤ d.stage → place_of K c < place_of K d → (c.stage < d.stage) ⊎ ((c.stage ≡ d.stage) × (c.position < d.position))
unfolding place_of
place_order K c d a b e f h = split (ltb c.stage d.stage) (λ t. inl (ltb-true c.stage d.stage t))
    (λ t.
    let u : d.stage ≤ c.stage = ltb-false c.stage d.stage t in
    let v : d.stage - 1 ≤ c.stage - 1 = omega arith in
    let w : (d.stage - 1) * stage_size K ≤ (c.stage - 1) * stage_size K = mul-le-mul_right (stage_size K) v in
    split (ltb d.stage c.stage)
    (λ q. absurd (let x : suc (d.stage - 1) ≤ c.stage - 1 = omega (arith, ltb-true d.stage c.stage q) in
    let y : suc (d.stage - 1) * stage_size K ≤ (c.stage - 1) * stage_size K = mul-le-mul_right (stage_size K) x in omega (arith, suc-mul (d.stage - 1) (stage_size K))))
    (λ q. let x : c.stage ≡ d.stage = omega (arith, ltb-false d.stage c.stage q) in
    let y : (c.stage - 1) * stage_size K ≡ (d.stage - 1) * stage_size K = ap (λ (z : ℕ). (z - 1) * stage_size K) x in inr (x, omega arith)))

weaker : (K i j : ℕ) → i ≤ j → {cs : List Change} → Rising K j cs → Rising K i cs
weaker K i j h ends = ends
weaker K i j h (goes {c = c} a r) = goes {i = i} {c = c} (omega arith) r

module _ (K : ℕ) where
  -- every listed change is a place that differs
  record Spot (i : ℕ) (xs ys : List ℕ) (c : Change) : Type 0 where
    k : ℕ
    inside : k < length xs
    is : c ≡ change_at K (i + k) (get_or xs k 0) (get_or ys k 0)
    differ : get_or xs k 0 ≢ get_or ys k 0

  later : (i x y : ℕ) (xs ys : List ℕ) {c : Change} → Spot (suc i) xs ys c → Spot i (x ∷ xs) (y ∷ ys) c
  later i x y xs ys t =
      let z : suc i + t.k ≡ i + suc t.k = omega arith in
      record { k = suc t.k; inside = omega (arith, t.inside); is = t.is ∙ ap (λ (j : ℕ). change_at K j (get_or xs t.k 0) (get_or ys t.k 0)) z; differ = t.differ }

  first : (i x y : ℕ) (xs ys : List ℕ) {c : Change} → eqb x y ≡ false → ((d : Change) → In d (changes_from K (suc i) xs ys) → Spot (suc i) xs ys d) → In c (change_at K i x y ∷ changes_from K (suc i) xs ys) → Spot i (x ∷ xs) (y ∷ ys) c
  first i x y xs ys e h here = let z : i ≡ i + 0 = omega arith in record { k = 0; inside = omega arith; is = ap (λ (j : ℕ). change_at K j x y) z; differ = eqb_false x y e }
  first i x y xs ys {c} e h (there n) = later i x y xs ys (h c n)

  listed_from : (i : ℕ) (xs ys : List ℕ) → length ys ≡ length xs → {c : Change} → In c (changes_from K i xs ys) → Spot i xs ys c
  unfolding changes_from
  listed_from i [] ys l m = none_in m
  listed_from i (x ∷ xs) [] l m = absurd (omega arith)
  listed_from i (x ∷ xs) (y ∷ ys) l m = split (eqb x y)
      (λ e. later i x y xs ys (listed_from (suc i) xs ys (omega arith) (rw (e, changes_from) at m)))
      (λ e. first i x y xs ys e (λ d n. listed_from (suc i) xs ys (omega arith) n) (rw (e, changes_from) at m))

  -- every place that differs is listed
  differs_from : (i : ℕ) (xs ys : List ℕ) → length ys ≡ length xs → (k : ℕ) → k < length xs → get_or xs k 0 ≢ get_or ys k 0 → In (change_at K (i + k) (get_or xs k 0) (get_or ys k 0)) (changes_from K i xs ys)
  unfolding changes_from
  differs_from i [] ys l k h n = absurd (omega arith)
  differs_from i (x ∷ xs) [] l k h n = absurd (omega arith)
  differs_from i (x ∷ xs) (y ∷ ys) l zero h n =
      let z : i + 0 ≡ i = omega arith in
      split (eqb x y) (λ e. absurd (n (eqb_true x y e))) (λ e. rw (e, changes_from, z) here)
  differs_from i (x ∷ xs) (y ∷ ys) l (suc k) h n =
      let z : i + suc k ≡ suc i + k = omega arith in
      let m : In (change_at K (suc i + k) (get_or xs k 0) (get_or ys k 0)) (changes_from K (suc i) xs ys) = differs_from (suc i) xs ys (omega arith) k (omega arith) n in
      split (eqb x y) (λ e. rw (e, changes_from, z) m) (λ e. rw (e, changes_from, z) (there m))

  rising_from : (i : ℕ) (xs ys : List ℕ) → Rising K i (changes_from K i xs ys)
  unfolding changes_from
  rising_from i [] ys = ends
  rising_from i (x ∷ xs) [] = ends
  rising_from i (x ∷ xs) (y ∷ ys) =
      let r : Rising K (suc i) (changes_from K (suc i) xs ys) = rising_from (suc i) xs ys in
      split (eqb x y) (λ e. rw (e, changes_from) (weaker K i (suc i) (omega arith) r))
      (λ e. rw (e, changes_from) (goes {i = i} {c = change_at K i x y} {cs = changes_from K (suc i) xs ys} (omega (arith, place_at K i x y)) (rw (place_at K i x y) r)))

  -- set behind some numbers
  set_behind : (zs : List ℕ) (x v : ℕ) (xs : List ℕ) → set (zs ++ (x ∷ xs)) (length zs) v ≡ zs ++ (v ∷ xs)
  set_behind [] x v xs = refl
  set_behind (z ∷ zs) x v xs = ap (λ (ys : List ℕ). z ∷ ys) (set_behind zs x v xs)

  apply_from : (zs xs ys : List ℕ) → length ys ≡ length xs → apply K (changes_from K (length zs) xs ys) (zs ++ xs) ≡ zs ++ ys
  unfolding changes_from apply change_at
  apply_from zs [] [] l = refl
  apply_from zs [] (y ∷ ys) l = absurd (omega arith)
  apply_from zs (x ∷ xs) [] l = absurd (omega arith)
  apply_from zs (x ∷ xs) (y ∷ ys) l =
      let n : length (zs ++ (y ∷ [])) ≡ suc (length zs) = length-append zs (y ∷ []) ∙ omega arith in
      let step : apply K (changes_from K (suc (length zs)) xs ys) (zs ++ (y ∷ xs)) ≡ zs ++ (y ∷ ys) =
      (λ i. apply K (changes_from K (sym n i) xs ys) (sym (append_assoc zs (y ∷ []) xs) i)) ∙ apply_from (zs ++ (y ∷ [])) xs ys (omega arith) ∙ append_assoc zs (y ∷ []) ys in
      split (eqb x y)
      (λ e. let z : x ≡ y = eqb_true x y e in rw (e, changes_from) (ap (λ (v : ℕ). apply K (changes_from K (suc (length zs)) xs ys) (zs ++ (v ∷ xs))) z ∙ step))
      (λ e. rw (e, changes_from) ((λ i. apply K (changes_from K (suc (length zs)) xs ys) (set (zs ++ (x ∷ xs)) (place_at K (length zs) x y i) y))
      ∙ ap (apply K (changes_from K (suc (length zs)) xs ys)) (set_behind zs x y xs) ∙ step))

  undo_from : (zs xs ys : List ℕ) → length ys ≡ length xs → undo K (changes_from K (length zs) xs ys) (zs ++ ys) ≡ zs ++ xs
  unfolding changes_from undo change_at
  undo_from zs [] [] l = refl
  undo_from zs [] (y ∷ ys) l = absurd (omega arith)
  undo_from zs (x ∷ xs) [] l = absurd (omega arith)
  undo_from zs (x ∷ xs) (y ∷ ys) l =
      let n : length (zs ++ (x ∷ [])) ≡ suc (length zs) = length-append zs (x ∷ []) ∙ omega arith in
      let step : undo K (changes_from K (suc (length zs)) xs ys) (zs ++ (x ∷ ys)) ≡ zs ++ (x ∷ xs) =
      (λ i. undo K (changes_from K (sym n i) xs ys) (sym (append_assoc zs (x ∷ []) ys) i)) ∙ undo_from (zs ++ (x ∷ [])) xs ys (omega arith) ∙ append_assoc zs (x ∷ []) xs in
      split (eqb x y)
      (λ e. let z : y ≡ x = sym (eqb_true x y e) in rw (e, changes_from) (ap (λ (v : ℕ). undo K (changes_from K (suc (length zs)) xs ys) (zs ++ (v ∷ ys))) z ∙ step))
      (λ e. rw (e, changes_from) ((λ i. undo K (changes_from K (suc (length zs)) xs ys) (set (zs ++ (y ∷ ys)) (place_at K (length zs) x y i) x))
      ∙ ap (undo K (changes_from K (suc (length zs)) xs ys)) (set_behind zs y x ys) ∙ step))

  -- ---- the list of two plans of one length
  module _ (old new : List ℕ) (l : length new ≡ length old) where
    -- what is listed differs
    pub listed_differs : {c : Change} → In c (changes K old new) → Differs K old new c
    unfolding changes
    listed_differs m =
        let t = listed_from 0 old new l m in
        let z : 0 + t.k ≡ t.k = omega arith in
        record { i = t.k; inside = t.inside; is = t.is ∙ ap (λ (j : ℕ). change_at K j (get_or old t.k 0) (get_or new t.k 0)) z; differ = t.differ }

    -- and what differs is listed
    pub differs_listed : {c : Change} → Differs K old new c → In c (changes K old new)
    unfolding changes
    differs_listed d =
        let z : 0 + d.i ≡ d.i = omega arith in
        rw d.is (rw z at (differs_from 0 old new l d.i d.inside d.differ))

    -- in order
    pub in_order : Rising K 0 (changes K old new)
    unfolding changes
    in_order = rising_from 0 old new

    -- the old plan and the list tell the new plan
    pub applied : apply K (changes K old new) old ≡ new
    unfolding changes
    applied = apply_from [] old new l

    -- and the new plan and the list tell the old one
    pub undone : undo K (changes K old new) new ≡ old
    unfolding changes
    undone = undo_from [] old new l

-- none where nothing differs
pub none_same : (K i : ℕ) (xs : List ℕ) → changes_from K i xs xs ≡ []
unfolding changes_from
none_same K i [] = refl
none_same K i (x ∷ xs) = rw (eqb_same x, changes_from) (none_same K (suc i) xs)

-- four numbers each
pub four_each : (cs : List Change) → length (numbers_of cs) ≡ 4 * length cs
unfolding numbers_of
four_each [] = refl
four_each (c ∷ cs) = omega (arith, four_each cs)

-- and they tell the changes
pub numbers_back : (cs : List Change) → changes_of (numbers_of cs) ≡ cs
unfolding numbers_of changes_of
numbers_back [] = refl
numbers_back (c ∷ cs) = ap (λ (ds : List Change). c ∷ ds) (numbers_back cs)
