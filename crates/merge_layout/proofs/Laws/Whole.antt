-- The whole layout: the order made, the groups copied along it, the lists written. Assumes nothing.
use Prim.Native.Nat.{ℕ, ◌+◌, ◌-◌, ◌*◌, ◌<◌, ◌≤◌}
use mathlib.Core.List.{List, [], ◌++◌, map}
use mathlib.Core.Path.{◌≡◌, refl, sym, ap, ◌∙◌}
use native.Mathlib.Omega.{arith}
use lib.ListN.{length, get_or, take, drop, length-drop}
use lib.Seq.{get_or-drop, get_or-take, length-take-le, take-take, drop-drop, drop_at, take_at, take-append-le, drop-append-le, drop-append-add}
use Rattle.rules.specs.Lists.{sum, padded}
use Rattle.rules.specs.Merge.{split_by, joined}
use Rattle.merge_slots.specs.Slots.{own, held}
use Rattle.merge_slots.specs.Sorts.{order}
use Rattle.merge_layout.specs.declared.Totals.{Totals}
use Rattle.merge_layout.specs.Layout.{OrderAt, Ordered, GatherAt, Gathered, sums, WriteAt, column, Written, owned, LayAt, Arranged, sorted, Laid}
use Rattle.merge_layout.proofs.Laws.Owned.{lent, own_length, back_owned, part_length, part_below, part_above}
use Rattle.merge_layout.proofs.Laws.Lists.{map_below, length_order, order_below}
use Rattle.merge_layout.proofs.Laws.Along.{groups_along, lengths_along, stages_along, words_along, cells_along, count_along, fits_along}

same_stages : (n : ℕ) (ls xs o : List ℕ) (s : ℕ) → s < n → (held n ls xs o s).stages ≡ own 1 n o s
unfolding held
same_stages n ls xs o s h = refl

same_own : (f n : ℕ) (o' o : List ℕ) → f * n + n ≤ 4 * n → ((x : ℕ) → x < 4 * n → get_or o' x 0 ≡ get_or o x 0) → (s : ℕ) → s < n → own f n o' s ≡ own f n o s
unfolding own
same_own f n o' o l e s h = e (f * n + s) (omega arith)

same_owned : (base n : ℕ) (v v' : List ℕ) → drop base v' ≡ drop base v → owned base n v' ≡ owned base n v
unfolding owned
same_owned base n v v' e = rw e refl

module _ {spare base : ℕ} {xs ls st w : List ℕ} (A : LayAt spare base xs ls st w) where
  abbrev size : ℕ
  size = base + 8 * length ls - base

  -- the slots' own numbers may be put in order
  pub order_ready : OrderAt ls (take size (drop base w))
  order_ready = rw (lent base (length ls) w A.room) (record { few = A.few; room = own_length base (length ls) w A.room; small = A.small })

  module _ {xs' st₁ w' : List ℕ} {r : ℕ} (R : Arranged spare base xs ls st w xs' st₁ w' r) where
    abbrev m : ℕ
    m = length ls

    abbrev o' : List ℕ
    o' = owned base m w'

    inside : base + 8 * m ≤ length w'
    inside = omega (arith, A.room, R.elsewhere.size)

    room' : length o' ≡ 8 * m
    room' = own_length base m w' inside

    -- with the groups laid out the lists may be written
    pub write_at : WriteAt ls st₁ r (take size (drop base w'))
    write_at = rw (lent base m w' inside) (record { table = record { few = A.few; room = room'; inside = R.order_is.few; slots = R.order_is.slots }; same = R.same ∙ A.same })

    abbrev js : List ℕ
    js = order m o' r

    -- written, the group list holds the merged partitions in their final order
    pub laid : {ls' st' : List ℕ} {t : Totals} (ys : List ℕ) → Written ls r (take size (drop base w')) ls' st' t → length ys ≡ length (take size (drop base w')) → Laid spare base xs ls w xs' ls' st' (take base w' ++ (ys ++ drop size (drop base w'))) t
    unfolding sorted column sums
    laid {ls'} {st'} {t} ys W₀ ly =
        let W : Written ls r o' ls' st' t = rw (lent base m w' inside) at W₀ in
        let e : sorted base xs ls w ≡ map (held m ls xs (owned base m w)) js = R.order_is.is (held m ls xs (owned base m w)) (same_stages m ls xs (owned base m w)) in
        let b : (i : ℕ) → i < length js → get_or js i 0 < m = order_below m r o' R.order_is.few room' R.order_is.slots in
        let s₁ : map (λ s. own 1 m o' s) js ≡ map (λ s. own 1 m (owned base m w) s) js = map_below (λ s. own 1 m o' s) (λ s. own 1 m (owned base m w) s) m js b (same_own 1 m o' (owned base m w) (omega arith) R.order_is.kept) in
        let s₂ : map (λ s. own 2 m o' s) js ≡ map (λ s. own 2 m (owned base m w) s) js = map_below (λ s. own 2 m o' s) (λ s. own 2 m (owned base m w) s) m js b (same_own 2 m o' (owned base m w) (omega arith) R.order_is.kept) in
        let s₃ : map (λ s. own 3 m o' s) js ≡ map (λ s. own 3 m (owned base m w) s) js = map_below (λ s. own 3 m o' s) (λ s. own 3 m (owned base m w) s) m js b (same_own 3 m o' (owned base m w) (omega arith) R.order_is.kept) in
        record {
          indices = R.groups ∙ sym (groups_along base xs ls w A.all js e);
          lengths = W.lengths ∙ ap (padded m 0) (sym (lengths_along base xs ls w A.all js e));
          stages = W.stages ∙ ap (padded m 0) (s₁ ∙ sym (stages_along base xs ls w A.all js e));
          partitions = W.partitions ∙ sym (length_order m r o' R.order_is.few room') ∙ sym (count_along base xs ls w A.all js e);
          all_stages = W.all_stages ∙ ap sum (s₁ ∙ sym (stages_along base xs ls w A.all js e));
          all_words = W.all_words ∙ ap sum (s₂ ∙ sym (words_along base xs ls w A.all js e));
          all_cells = W.all_cells ∙ ap sum (s₃ ∙ sym (cells_along base xs ls w A.all js e));
          elsewhere =
              let E = R.elsewhere in
              record {
                size = part_length base (base + 8 * m) w' (omega arith) inside ys ly ∙ E.size;
                below = λ x h. part_below base (base + 8 * m) w' (omega arith) inside ys ly x (omega (arith, A.before)) ∙ E.below x h;
                between = λ x h k. part_below base (base + 8 * m) w' (omega arith) inside ys ly x k ∙ E.between x h k;
                behind = λ x h. part_above base (base + 8 * m) w' (omega arith) inside ys ly x h ∙ E.behind x h;
              };
        }

  -- the order is made, and stands in the stage numbers
  module _ {ys : List ℕ} {k : ℕ} (O : Ordered ls (take size (drop base w)) ys k) where
    abbrev c : ℕ
    c = length ls

    abbrev w₁ : List ℕ
    w₁ = take base w ++ (ys ++ drop size (drop base w))

    front : length (take base w) ≡ base
    front = length-take-le base w (omega (arith, A.room))

    ys_length : length ys ≡ 8 * c
    ys_length = O.size ∙ ap length (lent base c w A.room) ∙ own_length base c w A.room

    behind : drop base w₁ ≡ ys ++ drop size (drop base w)
    behind = drop_at (take base w) (ys ++ drop size (drop base w)) base front

    owned_now : owned base c w₁ ≡ ys
    owned_now = back_owned base c w A.room ys O.size

    -- making the order keeps the area's length
    pub same_size : length w₁ ≡ length w
    same_size = part_length base (base + 8 * c) w (omega arith) A.room ys O.size

    module _ {from to : ℕ} (ef : from ≡ base + 7 * c) (et : to ≡ from + c) where
      column_six : take (to - from) (drop from w₁) ≡ take c (drop (7 * c) ys)
      column_six =
          let z : to - from ≡ c = omega arith in
          let d : drop from w₁ ≡ drop (7 * c) ys ++ drop size (drop base w) = rw ef (sym (drop-drop (7 * c) base w₁) ∙ rw behind (drop-append-le (7 * c) ys (drop size (drop base w)) (omega (arith, ys_length)))) in
          rw (z, d) (take-append-le c (drop (7 * c) ys) (drop size (drop base w)) (rw length-drop (omega (arith, ys_length))))

      -- the order fits the caller's list of stages
      pub stages_ready : length st ≡ length (take (to - from) (drop from w₁))
      stages_ready = rw column_six (A.same ∙ sym (length-take-le c (drop (7 * c) ys) (rw length-drop (omega (arith, ys_length)))))

      module _ {st₁ : List ℕ} (es : st₁ ≡ take (to - from) (drop from w₁)) where
        as_column : st₁ ≡ take c (drop (7 * c) ys)
        as_column = es ∙ column_six

        in_order : take k st₁ ≡ order c ys k
        unfolding order
        in_order = ap (take k) as_column ∙ take-take k c (drop (7 * c) ys) O.few

        along : sorted base xs ls w ≡ map (held c ls xs (owned base c w)) (order c ys k)
        unfolding sorted
        along = O.is (held c ls xs (owned base c w)) (λ s h. same_stages c ls xs (owned base c w) s h ∙ ap (λ (o : List ℕ). own 1 c o s) (sym (lent base c w A.room)))

        st_length : length st₁ ≡ c
        st_length = ap length as_column ∙ length-take-le c (drop (7 * c) ys) (rw length-drop (omega (arith, ys_length)))

        abbrev gap : ℕ
        gap = spare + length xs - spare

        gap_is : gap ≡ length xs
        gap_is = omega arith

        to_length : length (take gap (drop spare w₁)) ≡ length xs
        to_length = length-take-le gap (drop spare w₁) (rw length-drop (omega (arith, same_size, A.before, A.room))) ∙ gap_is

        -- along the order the groups may be copied
        pub gather_at : GatherAt xs ls st₁ k (take gap (drop spare w₁))
        unfolding own
        gather_at = record {
          all = A.all;
          few = A.short;
          inside = omega (arith, st_length, O.few);
          slots = λ i h. rw (as_column, get_or-take c (drop (7 * c) ys) i 0 (omega (arith, O.few)), get_or-drop (7 * c) ys i 0) (O.slots i h);
          fits = ap (λ (l : List ℕ). sum (map (λ s. get_or ls s 0) l)) in_order ∙ fits_along base xs ls w A.all (order c ys k) along ∙ sym to_length;
        }

        module _ {zs : List ℕ} (G : Gathered xs ls st₁ k zs) (lz : length zs ≡ length (take gap (drop spare w₁))) where
          abbrev w₂ : List ℕ
          w₂ = take spare w₁ ++ (zs ++ drop gap (drop spare w₁))

          zs_length : length zs ≡ length xs
          zs_length = lz ∙ to_length

          head : length (take spare w₁) ≡ spare
          head = length-take-le spare w₁ (omega (arith, same_size, A.before, A.room))

          lent_now : take gap (drop spare w₂) ≡ zs
          lent_now = rw (drop_at (take spare w₁) (zs ++ drop gap (drop spare w₁)) spare head) (take_at zs (drop gap (drop spare w₁)) gap (zs_length ∙ sym gap_is))

          -- the copied groups fit the caller's list of indices
          pub indices_ready : length xs ≡ length (take gap (drop spare w₂))
          indices_ready = rw lent_now (sym zs_length)

          above : drop base w₂ ≡ drop base w₁
          above =
              let j : ℕ = base - (spare + length xs) in
              let q : spare + (gap + j) ≡ base = omega (arith, A.before) in
              let a : base ≡ length (take spare w₁) + (length zs + j) = omega (arith, head, zs_length, A.before) in
              ap (λ (x : ℕ). drop x w₂) a ∙ drop-append-add (take spare w₁) (zs ++ drop gap (drop spare w₁)) (length zs + j) ∙ drop-append-add zs (drop gap (drop spare w₁)) j ∙ drop-drop j gap (drop spare w₁) ∙ drop-drop (gap + j) spare w₁ ∙ ap (λ (x : ℕ). drop x w₁) q

          owned_after : owned base c w₂ ≡ ys
          owned_after = same_owned base c w₁ w₂ above ∙ owned_now

          -- copying the groups keeps the area's length
          pub after_size : length w₂ ≡ length w
          after_size = part_length spare (spare + length xs) w₁ (omega arith) (omega (arith, same_size, A.before, A.room)) zs lz ∙ same_size

          -- copied back, the indices stand in the final order
          pub arranged : {xs' : List ℕ} → xs' ≡ take gap (drop spare w₂) → Arranged spare base xs ls st w xs' st₁ w₂ k
          arranged ex = record {
            order_is = rw (owned_after, ← lent base c w A.room) O;
            groups = ex ∙ lent_now ∙ G.is ∙ ap (λ (l : List ℕ). joined (map (λ s. get_or (split_by ls xs) s []) l)) (in_order ∙ ap (λ (o : List ℕ). order c o k) (sym owned_after));
            same = st_length ∙ sym A.same;
            elsewhere = record {
              size = after_size;
              below = λ x h. copied_below x h ∙ ordered_below x (omega (arith, A.before));
              between = λ x h l. copied_above x h ∙ ordered_below x l;
              behind = λ x h. copied_above x (omega (arith, A.before)) ∙ part_above base (base + 8 * c) w (omega arith) A.room ys O.size x h;
            };
          }
            where
              ordered_below : (x : ℕ) → x < base → get_or w₁ x 0 ≡ get_or w x 0
              ordered_below x h = part_below base (base + 8 * c) w (omega arith) A.room ys O.size x h

              copied_below : (x : ℕ) → x < spare → get_or w₂ x 0 ≡ get_or w₁ x 0
              copied_below x h = part_below spare (spare + length xs) w₁ (omega arith) (omega (arith, same_size, A.before, A.room)) zs lz x h

              copied_above : (x : ℕ) → spare + length xs ≤ x → get_or w₂ x 0 ≡ get_or w₁ x 0
              copied_above x h = part_above spare (spare + length xs) w₁ (omega arith) (omega (arith, same_size, A.before, A.room)) zs lz x h
