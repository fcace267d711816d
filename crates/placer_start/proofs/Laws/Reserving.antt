-- The reservation over all records: stopping early is right, since memories and duplicates only grow. Assumes nothing.
use mathlib.Core.Path.{◌≡◌, refl, sym, ap, ◌∙◌}
use mathlib.Core.Bool.{Bool, true, false, not}
use mathlib.Core.List.{List, [], ◌∷◌, ◌++◌, append-nil, append_assoc}
use Prim.Native.Nat.{ℕ, ◌+◌, ◌-◌, ◌*◌, ◌^◌, ◌<◌, ◌≤◌}
use native.Mathlib.Omega.{arith}
use borrow.Author.Tests.{lt-ltb, le-leb, ltb-true, leb-true}
use lib.Dec.{leb, ltb}
use lib.ListN.{length, drop}
use lib.Pow.{pow_pos}
use Rattle.rules.specs.Cells.{word_limit}
use Rattle.rules.specs.Records.{Group, groups, read, group_at, groups_of, Ends, first}
use Rattle.rules.specs.Lists.{insert_all, distinct}
use Rattle.rules.specs.Reservation.{activations, codes_at, extra_at, duplicates, memories, reserved, reservable}
use Rattle.rules.proofs.Lists.Members.{split, and_true, true_false}
use Rattle.rules.proofs.Reservation.Counting.{duplicates_grow, memories_grow}
use Rattle.records.specs.Values.{size_at}
use Rattle.records.proofs.Reading.{Stands, standing}
use Rattle.checks.proofs.Laws.Passed.{Next, read_next, read_last, rest_below}
use Rattle.columns.proofs.Area.Frames.{frame_room}
use Rattle.placer_start.specs.declared.reservation.Count.{Count}
use Rattle.std.specs.Prelude as std
use Rattle.rules.specs.Inside.Some.{Some, Every}
use Rattle.placer_start.specs.Reservation.{none, Touched, Chains, Counts, CountAt, Counted, Few, SetAside, Judged, reservation_of, ReserveAt, Reserved}
use Rattle.placer_start.proofs.Laws.Chains.{touched_none, touched_then}

-- ---- what the rules say of more records

-- no records can be reserved for
pub reservable_none : (K : ℕ) → reservable K [] ≡ true
unfolding reservable reserved memories duplicates extra_at distinct insert_all activations word_limit
reservable_none K = rw (lt-ltb 0 (2 ^ (K - 5)) (pow_pos (K - 5)), le-leb 0 (2 ^ (K - 5)) (omega arith))

-- a limit that some records pass, more records pass too
pub reservable_more : (K : ℕ) (xs ys : List Group) → reservable K xs ≡ false → reservable K (xs ++ ys) ≡ false
unfolding reservable reserved
reservable_more K xs ys e = split (reservable K (xs ++ ys))
    (λ t.
    let b = and_true (ltb (reserved (xs ++ ys)) (word_limit K)) (leb (4 * memories (xs ++ ys) + duplicates (xs ++ ys)) (word_limit K)) t in
    let w = ltb-true (reserved (xs ++ ys)) (word_limit K) b.0 in
    let f = leb-true (4 * memories (xs ++ ys) + duplicates (xs ++ ys)) (word_limit K) b.1 in
    let gm = memories_grow xs ys in
    let gd = duplicates_grow xs ys in
    true_false (rw (lt-ltb (reserved xs) (word_limit K) (omega arith), reservable, le-leb (4 * memories xs + duplicates xs) (word_limit K) (omega arith)) refl) e)
    (λ f. f)

module _ (K : ℕ) (xs : List Group) where
  -- what can't be reserved for is over
  pub reservation_over : reservable K xs ≡ false → std.None ≡ reservation_of K xs
  unfolding reservation_of
  reservation_over e = rw (e, reservation_of)

  -- what can has its reserved words
  pub reservation_words : (r : ℕ) → reservable K xs ≡ true → r ≡ reserved xs → std.Some r ≡ reservation_of K xs
  unfolding reservation_of
  reservation_words r e d = rw (e, reservation_of, d)

-- ---- the records one after the other

-- the records before an index are xs, and counted
pub record Reserving (m limit at : ℕ) (count : Count) (records w w' : List ℕ) : Type 0 where
  pub touched : Touched m at w w'
  pub upto : at ≤ length records
  pub xs : List Group
  pub rest : List Group
  pub all : groups_of records ≡ xs ++ rest
  pub unread : read (drop at records) ≡ groups rest
  pub named : (q : ℕ) → Ends q rest → q < m
  pub chains : Chains m at (activations xs) w'
  pub counts : Counts xs count
  pub few : count.memories + count.duplicates ≤ at
  pub fine : (K : ℕ) → limit ≡ word_limit K → reservable K xs ≡ true

module _ {m limit : ℕ} {records w : List ℕ} (A : ReserveAt m records w) where
  -- before the first record nothing is counted
  pub reserving_none : (none_yet : Count) → (none_yet.memories ≡ 0) × (none_yet.duplicates ≡ 0) → Reserving m limit 0 none_yet records w w
  unfolding activations memories duplicates codes_at extra_at distinct insert_all
  reserving_none none_yet z = record {
    touched = touched_none;
    upto = omega arith;
    xs = [];
    rest = groups_of records;
    all = refl;
    unread = A.right.readable;
    named = A.right.named;
    chains = record { before = λ p h. rw (A.clear.zero p h) (omega arith); chain = λ p h. rw (A.clear.zero p h) none };
    counts = record { memory = sym z.0; double = sym z.1 };
    few = omega arith;
    fine = λ K e. reservable_none K;
  }

  module _ {at : ℕ} {count : Count} {w₁ : List ℕ} (R : Reserving m limit at count records w w₁) where
    -- the counts so far are small
    pub reserving_small : Few count
    reserving_small = record { few = omega (arith, R.few, R.upto, A.right.short) }

    module _ (h : at < length records) where
      next : Next records at R.rest
      next = read_next records at R.rest R.unread h

      count_at : CountAt m at at count R.xs records w₁
      count_at = record {
        area = frame_room R.touched.frame A.area;
        room = omega (arith, R.touched.frame.len, A.room);
        small = omega (arith, A.right.short);
        whole = next.whole;
        named = λ q i. R.named q (rw next.these (first i));
        chains = R.chains;
        counts = R.counts;
        few = R.few;
      }

      -- the next record may be counted
      pub reserving_at : Some (λ xs. CountAt m at at count xs records w₁)
      reserving_at = record { it = R.xs; at = count_at }

      -- a whole record stands there
      reserving_stands : Stands records at
      reserving_stands = standing records at next.whole

      abbrev more : List Group
      more = R.xs ++ (group_at (drop at records) ∷ [])

      all_more : groups_of records ≡ more ++ next.rest
      all_more = R.all ∙ ap (λ (l : List Group). R.xs ++ l) next.these ∙ sym (append_assoc R.xs (group_at (drop at records) ∷ []) next.rest)

      module _ {w₂ : List ℕ} {c : Count} (E : Every (λ xs. CountAt m at at count xs records w₁) (λ xs. Counted m at at xs records w₁ w₂ c)) where
        C : Counted m at at R.xs records w₁ w₂ c
        C = E.all R.xs count_at

        -- the counts with it are small
        pub counted_small : Few c
        counted_small = record { few = omega (arith, C.few, A.right.short) }

        -- a limit is passed, and stays so
        pub reserving_over : (r : Bool) → Judged c limit r → r ≡ true → Reserved m limit (length records) (groups_of records) w w₂ std.None
        reserving_over r J e = record {
          touched = touched_then (omega arith) R.touched (touched_then (omega arith) C.touched touched_none);
          answer = λ K l. reservation_over K (groups_of records) (rw all_more (reservable_more K more next.rest (is_false (reservable K more) (sym e ∙ J.is K more l C.counts))));
        }
          where
            is_false : (b : Bool) → true ≡ not b → b ≡ false
            is_false true e = e
            is_false false e = refl

        -- within the limits the next record follows
        pub reserving_more : (r : Bool) → Judged c limit r → r ≡ false → (size : ℕ) → size ≡ size_at records at → Reserving m limit (at + (1 + size)) c records w w₂
        reserving_more r J e size es =
            let s = reserving_stands in
            record {
              touched = touched_then (omega arith) R.touched (touched_then (omega arith) C.touched touched_none);
              upto = omega (arith, s.inside);
              xs = more;
              rest = next.rest;
              all = all_more;
              unread = rw (es, s.size) next.others;
              named = rest_below records at R.rest next m R.named;
              chains = record { before = λ p h. omega (arith, C.chains.before p h); chain = C.chains.chain };
              counts = C.counts;
              few = omega (arith, C.few);
              fine = λ K l. is_true (reservable K more) (sym e ∙ J.is K more l C.counts);
            }
          where
            is_true : (b : Bool) → false ≡ not b → b ≡ true
            is_true true e = refl
            is_true false e = e

    -- past the last record the counts are the reservation
    pub reserving_done : length records ≤ at → (r : ℕ) → SetAside count r → Reserved m limit (length records) (groups_of records) w w₁ (std.Some r)
    reserving_done h r S =
        let z = read_last records at R.rest R.unread h in
        let a : groups_of records ≡ R.xs = R.all ∙ ap (λ (l : List Group). R.xs ++ l) z ∙ append-nil R.xs in
        record {
          touched = touched_then R.upto R.touched touched_none;
          answer = λ K l. rw a (reservation_words K R.xs r (R.fine K l) (S.is R.xs R.counts));
        }
