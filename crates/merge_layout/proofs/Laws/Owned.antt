-- The slots' own numbers, lent out of the work area. Assumes nothing.
use Prim.Native.Nat.{ℕ, ◌+◌, ◌-◌, ◌*◌, ◌<◌, ◌≤◌}
use mathlib.Core.List.{List, ◌++◌}
use mathlib.Core.Path.{◌≡◌, refl, sym, ap, ◌∙◌}
use native.Mathlib.Omega.{arith}
use lib.ListN.{length, get_or, set, take, drop, length-append, length-drop, get_or-append}
use lib.Seq.{length-take-le, get_or-take, get_or-drop, get_or-append-add, drop_at, take_at, ext_get_or, drop-set-add, take-set-lt}
use Rattle.merge_layout.specs.Layout.{owned}

-- other numbers came back from a to e
module _ (a e : ℕ) (w : List ℕ) (order : a ≤ e) (inside : e ≤ length w) (ys : List ℕ) (l : length ys ≡ length (take (e - a) (drop a w))) where
  abbrev now : List ℕ
  now = take a w ++ (ys ++ drop (e - a) (drop a w))

  front : length (take a w) ≡ a
  front = length-take-le a w (omega arith)

  long : length ys ≡ e - a
  long = l ∙ length-take-le (e - a) (drop a w) (rw length-drop (omega arith))

  -- a part that comes back with its length keeps the area's
  pub part_length : length now ≡ length w
  part_length =
      let p = length-append (take a w) (ys ++ drop (e - a) (drop a w)) in
      let q = length-append ys (drop (e - a) (drop a w)) in
      let r : length (drop (e - a) (drop a w)) ≡ length w - a - (e - a) = length-drop (e - a) (drop a w) ∙ ap (λ (x : ℕ). x - (e - a)) (length-drop a w) in
      omega (arith, front, long)

  -- before it nothing changed
  pub part_below : (j : ℕ) → j < a → get_or now j 0 ≡ get_or w j 0
  part_below j h = get_or-append (take a w) (ys ++ drop (e - a) (drop a w)) 0 j (omega (arith, front)) ∙ get_or-take a w j 0 h

  -- behind it nothing changed either
  pub part_above : (j : ℕ) → e ≤ j → get_or now j 0 ≡ get_or w j 0
  part_above j h =
      let p : length (take a w) + (length ys + (j - e)) ≡ j = omega (arith, front, long) in
      let q : a + ((e - a) + (j - e)) ≡ j = omega arith in
      ap (λ (x : ℕ). get_or now x 0) (sym p) ∙ get_or-append-add (take a w) (ys ++ drop (e - a) (drop a w)) (length ys + (j - e)) 0 ∙ get_or-append-add ys (drop (e - a) (drop a w)) (j - e) 0 ∙ get_or-drop (e - a) (drop a w) (j - e) 0 ∙ get_or-drop a w ((e - a) + (j - e)) 0 ∙ ap (λ (x : ℕ). get_or w x 0) q

module _ (base n : ℕ) (w : List ℕ) (room : base + 8 * n ≤ length w) where
  abbrev size : ℕ
  size = base + 8 * n - base

  -- the part that is lent is the own numbers
  pub lent : take size (drop base w) ≡ owned base n w
  unfolding owned
  lent = let z : size ≡ 8 * n = omega arith in rw z refl

  -- there are eight own numbers for each slot
  pub own_length : length (owned base n w) ≡ 8 * n
  unfolding owned
  own_length = length-take-le (8 * n) (drop base w) (rw length-drop (omega arith))

  -- own number x stands x behind the base
  pub own_at : (x : ℕ) → x < 8 * n → get_or (owned base n w) x 0 ≡ get_or w (base + x) 0
  unfolding owned
  own_at x h = get_or-take (8 * n) (drop base w) x 0 h ∙ get_or-drop base w x 0

  -- what comes back are the own numbers now
  pub back_owned : (ys : List ℕ) → length ys ≡ length (take size (drop base w)) → owned base n (take base w ++ (ys ++ drop size (drop base w))) ≡ ys
  unfolding owned
  back_owned ys l = rw (drop_at (take base w) (ys ++ drop size (drop base w)) base (length-take-le base w (omega arith))) (take_at ys (drop size (drop base w)) (8 * n) (l ∙ ap length lent ∙ own_length))

  -- a store behind the base is a store to them
  pub set_owned : (x v : ℕ) → x < 8 * n → owned base n (set w (base + x) v) ≡ set (owned base n w) x v
  unfolding owned
  set_owned x v h = rw (drop-set-add base w x v) (take-set-lt (8 * n) (drop base w) x v h)

-- an area that agrees from `base` on has the same own numbers
pub owned_same : (base n : ℕ) (w v : List ℕ) → base + 8 * n ≤ length w → length v ≡ length w → ((j : ℕ) → base ≤ j → get_or v j 0 ≡ get_or w j 0) → owned base n v ≡ owned base n w
owned_same base n w v room l e =
    let r : base + 8 * n ≤ length v = omega arith in
    ext_get_or 0 (owned base n v) (owned base n w) (own_length base n v r ∙ sym (own_length base n w room)) (λ i h. let b : i < 8 * n = omega (arith, own_length base n v r) in own_at base n v r i b ∙ e (base + i) (omega arith) ∙ sym (own_at base n w room i b))
