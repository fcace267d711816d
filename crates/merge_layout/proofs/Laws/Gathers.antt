-- The groups along the order, copied one slot after the other; a column summed along it. Assumes nothing.
use Prim.Native.Nat.{ℕ, zero, suc, ◌+◌, ◌-◌, ◌*◌, ◌<◌, ◌≤◌}
use mathlib.Core.List.{List, [], ◌∷◌, ◌++◌, map, append-nil, append_assoc, map-append}
use mathlib.Core.Path.{◌≡◌, refl, sym, ap, ◌∙◌}
use native.Mathlib.Numerals.{add-one}
use native.Mathlib.Nat.{mul-le-mul_right}
use native.Mathlib.Omega.{arith}
use lib.ListN.{length, get_or, take, drop, length-append, length-drop, length-map}
use lib.Seq.{take-suc, take-take, take_at, take_all, drop-drop, length-take-le, get_or-drop}
use Rattle.rules.proofs.Lists.Parts.{map-take, get_d_map}
use Rattle.rules.specs.Lists.{sum}
use Rattle.rules.specs.Merge.{split_by, joined}
use Rattle.merge_slots.specs.Slots.{own}
use Rattle.merge_slots.specs.Sorts.{order}
use Rattle.merge_slots.specs.Moves.{StartAt}
use Rattle.merge_slots.proofs.Laws.Sums.{sum-append, sum_next, sum_part}
use Rattle.merge_slots.proofs.Laws.Splits.{joined_append}
use Rattle.merge_layout.specs.Layout.{GatherAt, Gathered, TotalAt, sums}

-- a slot's groups are the part of the indices behind those before it
pub slot_part : (ls xs : List ℕ) (s : ℕ) → get_or (split_by ls xs) s [] ≡ take (get_or ls s 0) (drop (sum (take s ls)) xs)
unfolding split_by sum
slot_part [] xs s = refl
slot_part (l ∷ ls) xs zero = refl
slot_part (l ∷ ls) xs (suc s) = slot_part ls (drop l xs) s ∙ ap (take (get_or ls s 0)) (drop-drop (sum (take s ls)) l xs)

-- the first i slots are copied, to the first `at` numbers
pub record Gathering (xs ls ord : List ℕ) (k : ℕ) (to now : List ℕ) (at i : ℕ) : Type 0 where
  pub upto : i ≤ k
  pub is : at ≡ sum (map (λ s. get_or ls s 0) (take i ord))
  pub size : length now ≡ length to
  pub front : take at now ≡ joined (map (λ s. get_or (split_by ls xs) s []) (take i ord))

-- before the first slot nothing is copied
pub gathering_none : {xs ls ord : List ℕ} {k : ℕ} {to : List ℕ} → Gathering xs ls ord k to to 0 0
unfolding sum joined
gathering_none = record { upto = omega arith; is = refl; size = refl; front = refl }

module _ {xs ls ord : List ℕ} {k : ℕ} {to now : List ℕ} {at i : ℕ} (A : GatherAt xs ls ord k to) (N : Gathering xs ls ord k to now at i) where
  abbrev len : ℕ → ℕ
  len s = get_or ls s 0

  module _ (h : i < k) {s : ℕ} (es : s ≡ get_or ord i 0) where
    -- the next slot of the order is one
    pub gathering_inside : s < length ls
    gathering_inside = rw es (A.slots i h)

    -- the next slot's start may be added up
    pub gathering_start : StartAt ls s
    gathering_start = record { inside = omega (arith, gathering_inside); few = omega (arith, A.all, A.few) }

    next_sum : sum (map len (take (i + 1) ord)) ≡ at + len s
    next_sum =
        let a : map len (take (i + 1) ord) ≡ take (i + 1) (map len ord) = map-take len (i + 1) ord in
        let b : map len (take i ord) ≡ take i (map len ord) = map-take len i ord in
        let d : get_or (map len ord) i 0 ≡ len s = get_d_map len ord i (omega (arith, A.inside)) ∙ ap len (sym es) in
        rw a (sum_next (map len ord) i (rw length-map (omega (arith, A.inside))) ∙ rw (d, ← b, ← N.is) refl)

    -- the next slot's groups fit behind those copied
    pub gathering_fits : at + len s ≤ length now
    gathering_fits =
        let a : map len (take (i + 1) ord) ≡ take (i + 1) (map len (take k ord)) = ap (map len) (sym (take-take (i + 1) k ord (omega arith))) ∙ map-take len (i + 1) (take k ord) in
        let b : sum (map len (take (i + 1) ord)) ≡ sum (take (i + 1) (map len (take k ord))) = ap sum a in
        omega (arith, next_sum, sum_part (map len (take k ord)) (i + 1), A.fits, N.size)

    module _ {start size : ℕ} (et : start ≡ sum (take s ls)) (ez : size ≡ len s) where
      -- the next slot's groups end within the indices
      pub gathering_end : start + size ≤ length xs
      gathering_end = omega (arith, sum_next ls s gathering_inside, sum_part ls (s + 1), A.all)

      -- the part copied from and the part copied to have the same length
      pub gathering_same : length (take (at + size - at) (drop at now)) ≡ length (take (start + size - start) (drop start xs))
      gathering_same =
          length-take-le (at + size - at) (drop at now) (rw length-drop (omega (arith, gathering_fits)))
          ∙ sym (length-take-le (start + size - start) (drop start xs) (rw length-drop (omega (arith, gathering_end))) ∙ omega arith)

      -- one more slot's groups are copied
      pub gathering_more : {ys : List ℕ} → ys ≡ take (start + size - start) (drop start xs) → Gathering xs ls ord k to (take at now ++ (ys ++ drop (at + size - at) (drop at now))) (at + size) (i + 1)
      unfolding joined
      gathering_more {ys} ey =
          let n : length (take at now) ≡ at = length-take-le at now (omega (arith, gathering_fits)) in
          let y : length ys ≡ size = ap length ey ∙ length-take-le (start + size - start) (drop start xs) (rw length-drop (omega (arith, gathering_end))) ∙ omega arith in
          let next : at + (at + size - at) ≡ at + size = omega arith in
          let r : drop (at + size - at) (drop at now) ≡ drop (at + size) now = drop-drop (at + size - at) at now ∙ ap (λ (x : ℕ). drop x now) next in
          let g : ys ≡ get_or (split_by ls xs) s [] = ey ∙ (let z : start + size - start ≡ len s = omega arith in rw (z, et) refl) ∙ sym (slot_part ls xs s) in
          let f : take (at + size) (take at now ++ (ys ++ drop (at + size - at) (drop at now))) ≡ take at now ++ ys =
          ap (take (at + size)) (sym (append_assoc (take at now) ys (drop (at + size - at) (drop at now)))) ∙ take_at (take at now ++ ys) (drop (at + size - at) (drop at now)) (at + size) (length-append (take at now) ys ∙ omega arith) in
          let t : take (i + 1) ord ≡ take i ord ++ (s ∷ []) = rw (add-one i) (take-suc ord i 0 (omega (arith, A.inside)) ∙ rw es refl) in
          record {
            upto = omega arith;
            is = omega (arith, next_sum);
            size = simp length-append (rw (r, length-drop) (omega (arith, gathering_fits, N.size)));
            front = f ∙ rw (N.front, g, t, map-append (λ s. get_or (split_by ls xs) s []) (take i ord) (s ∷ []), joined_append (map (λ s. get_or (split_by ls xs) s []) (take i ord)) (get_or (split_by ls xs) s [] ∷ [])) (ap (λ (l : List ℕ). joined (map (λ s. get_or (split_by ls xs) s []) (take i ord)) ++ l) (sym (append-nil (get_or (split_by ls xs) s []))));
          }

  -- past the last slot the groups stand in the final order
  pub gathering_done : k ≤ i → Gathered xs ls ord k now
  gathering_done h =
      let e : i ≡ k = omega (arith, N.upto) in
      let a : at ≡ length to = N.is ∙ rw e A.fits in
      record { is = sym (take_all at now (omega (arith, N.size))) ∙ N.front ∙ rw e refl }

-- ---- a column summed

-- the first i numbers of a column along the order are summed
pub record Totalling (n f k : ℕ) (o : List ℕ) (sum i : ℕ) : Type 0 where
  pub upto : i ≤ k
  pub few : sum ≤ 4294967295 * i
  pub is : sum ≡ sums n f o i

-- before the first slot the sum is 0
pub totalling_none : {n f k : ℕ} {o : List ℕ} → Totalling n f k o 0 0
unfolding sums order sum
totalling_none = record { upto = omega arith; few = omega arith; is = refl }

-- a column starts at or before the last
pub mul_under : (f n : ℕ) → f < 8 → f * n ≤ 7 * n
mul_under f n h = mul-le-mul_right n (omega arith)

module _ {n f k : ℕ} {o : List ℕ} {a i : ℕ} (A : TotalAt n f k o) (N : Totalling n f k o a i) (h : i < k) {s : ℕ} (es : s ≡ get_or o (7 * n + i) 0) where
  -- the slot's number stands in the columns
  pub totalling_slot : f * n + s < 8 * n
  unfolding own
  totalling_slot = let d : s < n = rw es (A.slots i h) in omega (arith, mul_under f n A.column)

  -- one more number is added
  pub totalling_more : {v : ℕ} → v ≡ get_or o (f * n + s) 0 → v ≤ 4294967295 → Totalling n f k o (a + v) (i + 1)
  unfolding sums order sum own
  totalling_more {v} ev b =
      let t : take (i + 1) (drop (7 * n) o) ≡ take i (drop (7 * n) o) ++ (s ∷ []) = rw (add-one i) (take-suc (drop (7 * n) o) i 0 (rw length-drop (omega (arith, A.room, A.inside))) ∙ rw (get_or-drop (7 * n) o i 0, ← es) refl) in
      record {
        upto = omega arith;
        few = omega (arith, N.few);
        is = rw (t, map-append (λ s. get_or o (f * n + s) 0) (take i (drop (7 * n) o)) (s ∷ []), sum-append (map (λ s. get_or o (f * n + s) 0) (take i (drop (7 * n) o))) (get_or o (f * n + s) 0 ∷ [])) (omega (arith, N.is));
      }

-- past the last slot the column is summed
pub totalling_done : {n f k : ℕ} {o : List ℕ} {a i : ℕ} → Totalling n f k o a i → k ≤ i → a ≡ sums n f o k
totalling_done {n} {f} {k} {o} {i = i} N h = let e : i ≡ k = omega (arith, N.upto) in N.is ∙ rw e refl
