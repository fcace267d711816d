-- The order's entries, and the caller's lists of lengths and stages written along it. Assumes nothing.
use Prim.Native.Nat.{ℕ, suc, ◌+◌, ◌-◌, ◌*◌, ◌<◌, ◌≤◌}
use mathlib.Core.List.{List, [], ◌∷◌, ◌++◌, map}
use mathlib.Core.Path.{◌≡◌, refl, sym, ap, ◌∙◌}
use native.Mathlib.Omega.{arith}
use lib.Dec.{ltb}
use lib.ListN.{length, get_or, take, drop, replicate, length-append, length-drop, length-map, length-replicate, get_or-replicate, get_or-append}
use lib.Seq.{ext_get_or, get_or-drop, get_or-take, length-take-le, get_or-append-add}
use borrow.Author.Tests.{ltb-true, ltb-false}
use Rattle.rules.specs.Lists.{sum, padded}
use Rattle.rules.proofs.Lists.Members.{split}
use Rattle.rules.proofs.Lists.Parts.{drop_same, get_d_map}
use Rattle.merge_slots.specs.Slots.{own}
use Rattle.merge_slots.specs.Sorts.{order}
use Rattle.merge_layout.specs.Layout.{Tabled, TotalAt, sums, WriteAt, column, Written}

-- functions that agree on slots map a list of slots alike
pub map_below : {A : Type 0} (f g : ℕ → A) (n : ℕ) (xs : List ℕ) → ((i : ℕ) → i < length xs → get_or xs i 0 < n) → ((s : ℕ) → s < n → f s ≡ g s) → map f xs ≡ map g xs
map_below f g n [] b e = refl
map_below {A} f g n (x ∷ xs) b e = rw (e x (b 0 (omega arith)), map_below f g n xs (λ i h. b (suc i) (omega arith)) e) refl

-- ---- the order's entries

module _ (n k : ℕ) (o : List ℕ) (few : k ≤ n) (room : length o ≡ 8 * n) where
  -- the order of k slots has k entries
  pub length_order : length (order n o k) ≡ k
  unfolding order
  length_order = length-take-le k (drop (7 * n) o) (rw length-drop (omega arith))

  -- entry i stands at place i of its column
  pub order_at : (i : ℕ) → i < k → get_or (order n o k) i 0 ≡ own 7 n o i
  unfolding order own
  order_at i h = get_or-take k (drop (7 * n) o) i 0 h ∙ get_or-drop (7 * n) o i 0

  -- each entry of the order is a slot
  pub order_below : ((i : ℕ) → i < k → own 7 n o i < n) → (i : ℕ) → i < length (order n o k) → get_or (order n o k) i 0 < n
  order_below b i h = let l : i < k = omega (arith, length_order) in rw (order_at i l) (b i l)

-- ---- a list filled up with 0

module _ (n : ℕ) (g : ℕ → ℕ) (ks : List ℕ) (few : length ks ≤ n) where
  column_length : length (column n g ks) ≡ n
  unfolding column padded
  column_length = rw (length-append, length-replicate, length-map) (omega arith)

  column_in : (i : ℕ) → i < length ks → get_or (column n g ks) i 0 ≡ g (get_or ks i 0)
  unfolding column padded
  column_in i h = get_or-append (map g ks) (replicate (n - length (map g ks)) 0) 0 i (rw length-map h) ∙ get_d_map g ks i h

  column_out : (i : ℕ) → length ks ≤ i → i < n → get_or (column n g ks) i 0 ≡ 0
  unfolding column padded
  column_out i h l =
      let m : length (map g ks) ≡ length ks = length-map ks g in
      let e : i ≡ length (map g ks) + (i - length ks) = omega arith in
      ap (λ (x : ℕ). get_or (map g ks ++ replicate (n - length (map g ks)) 0) x 0) e ∙ get_or-append-add (map g ks) (replicate (n - length (map g ks)) 0) (i - length ks) 0 ∙ get_or-replicate (n - length (map g ks)) (i - length ks) 0 0 (omega arith)

  -- a list with these entries, and 0 behind them, is the column along the order
  pub column_is : (xs : List ℕ) → length xs ≡ n → ((i : ℕ) → i < length ks → get_or xs i 0 ≡ g (get_or ks i 0)) → ((i : ℕ) → length ks ≤ i → i < n → get_or xs i 0 ≡ 0) → xs ≡ column n g ks
  column_is xs l a b = ext_get_or 0 xs (column n g ks) (l ∙ sym column_length) (λ i h. split (ltb i (length ks))
      (λ t. let d = ltb-true i (length ks) t in a i d ∙ sym (column_in i d))
      (λ t. let d = ltb-false i (length ks) t in b i d (omega arith) ∙ sym (column_out i d (omega arith))))

-- ---- the lists

module _ {ls st : List ℕ} {k : ℕ} {o : List ℕ} (A : WriteAt ls st k o) {o₁ : List ℕ} (T : Tabled ls k o o₁) where
  abbrev n : ℕ
  n = length ls

  seventh : (i : ℕ) → own 7 n o₁ i ≡ own 7 n o i
  unfolding own
  seventh i = T.above (7 * n + i) (omega arith)

  -- a column may be summed along the order
  pub total_at : (f : ℕ) → f < 8 → TotalAt n f k o₁
  total_at f h = record { few = A.table.few; room = T.size ∙ A.table.room; column = h; inside = A.table.inside; slots = λ i b. rw (seventh i) (A.table.slots i b) }

  same_order : order n o₁ k ≡ order n o k
  unfolding order
  same_order = ap (take k) (drop_same (7 * n) o₁ o T.size (λ x h. T.above x h))

  abbrev ks : List ℕ
  ks = order n o k

  long : length ks ≡ k
  long = length_order n k o A.table.inside A.table.room

  same_sums : (f : ℕ) → f * n + n ≤ 5 * n → sums n f o₁ k ≡ sums n f o k
  unfolding sums own
  same_sums f h = rw same_order (ap sum (map_below (λ s. get_or o₁ (f * n + s) 0) (λ s. get_or o (f * n + s) 0) n ks (order_below n k o A.table.inside A.table.room A.table.slots) (λ s l. T.below (f * n + s) (omega arith))))

  part_of : (f : ℕ) (i : ℕ) → i < n → f * n + n ≤ 8 * n → get_or (take n (drop (f * n) o₁)) i 0 ≡ own f n o₁ i
  unfolding own
  part_of f i h l = get_or-take n (drop (f * n) o₁) i 0 h ∙ get_or-drop (f * n) o₁ i 0

  column_long : (f : ℕ) → f * n + n ≤ 8 * n → length (take n (drop (f * n) o₁)) ≡ n
  column_long f l = length-take-le n (drop (f * n) o₁) (rw length-drop (omega (arith, T.size, A.table.room)))

  -- the column of lengths is as long as the caller's list
  pub lengths_inside : length ls ≡ length (take (6 * n - 5 * n) (drop (5 * n) o₁))
  lengths_inside = let z : 6 * n - 5 * n ≡ n = omega arith in rw z (sym (column_long 5 (omega arith)))

  -- the column of stages is as long as the caller's list
  pub stages_inside : length st ≡ length (take (7 * n - 6 * n) (drop (6 * n) o₁))
  stages_inside = let z : 7 * n - 6 * n ≡ n = omega arith in rw z (A.same ∙ sym (column_long 6 (omega arith)))

  module _ {ls' st' : List ℕ} {t₁ t₂ t₃ : ℕ} (el : ls' ≡ take (6 * n - 5 * n) (drop (5 * n) o₁)) (es : st' ≡ take (7 * n - 6 * n) (drop (6 * n) o₁)) (e₁ : t₁ ≡ sums n 1 o₁ k) (e₂ : t₂ ≡ sums n 2 o₁ k) (e₃ : t₃ ≡ sums n 3 o₁ k) where
    -- both copied, the lists hold lengths and stages in the final order, with the sums
    pub written : Written ls k o ls' st' (record { partitions = k; stages = t₁; words = t₂; cells = t₃ })
    written =
        let z : 6 * n - 5 * n ≡ n = omega arith in
        let y : 7 * n - 6 * n ≡ n = omega arith in
        let few : length ks ≤ n = omega (arith, long, A.table.inside) in
        record {
          lengths = el ∙ rw z (column_is n (λ s. get_or ls s 0) ks few (take n (drop (5 * n) o₁)) (column_long 5 (omega arith))
              (λ i h. let b : i < k = omega (arith, long) in part_of 5 i (omega (arith, A.table.inside)) (omega arith) ∙ T.lengths i b ∙ ap (λ (s : ℕ). get_or ls s 0) (sym (order_at n k o A.table.inside A.table.room i b)))
              (λ i h l. part_of 5 i l (omega arith) ∙ T.no_lengths i (omega (arith, long)) l));
          stages = es ∙ rw y (column_is n (λ s. own 1 n o s) ks few (take n (drop (6 * n) o₁)) (column_long 6 (omega arith))
              (λ i h. let b : i < k = omega (arith, long) in part_of 6 i (omega (arith, A.table.inside)) (omega arith) ∙ T.stages i b ∙ ap (λ (s : ℕ). own 1 n o s) (sym (order_at n k o A.table.inside A.table.room i b)))
              (λ i h l. part_of 6 i l (omega arith) ∙ T.no_stages i (omega (arith, long)) l));
          partitions = refl;
          all_stages = e₁ ∙ same_sums 1 (omega arith);
          all_words = e₂ ∙ same_sums 2 (omega arith);
          all_cells = e₃ ∙ same_sums 3 (omega arith);
        }
