-- The reservation, name after name: stopping early is right, since memories and duplicates only grow. Assumes nothing.
use mathlib.Core.Path.{◌≡◌, sym, ◌∙◌}
use mathlib.Core.Bool.{Bool, true, false}
use mathlib.Core.List.{List, [], ◌∷◌, ◌++◌, append-nil, append_assoc}
use Prim.Native.Nat.{ℕ, ◌+◌, ◌*◌, ◌<◌, ◌≤◌}
use native.Mathlib.Omega.{arith}
use borrow.Author.Tests.{not-true, not-false}
use lib.ListN.{length, get_or, take, drop}
use Rattle.rules.specs.Lists.{insert_all, distinct}
use Rattle.rules.specs.Records.{Group, group_at, groups_of}
use Rattle.rules.specs.Reservation.{activations, codes_at, extra_at, duplicates, memories, reservable}
use Rattle.columns.specs.Fields.{RECORDS}
use Rattle.columns.proofs.Area.Frames.{frame_room}
use Rattle.placer_start.specs.declared.reservation.Count.{Count}
use Rattle.std.specs.Prelude.{Option, Some, None}
use Rattle.placer_start.specs.Reservation.{none, Touched, CountAt, Counted, Few, SetAside, Judged, Reserved}
use Rattle.placer_start.proofs.Laws.Chains.{touched_none, touched_then}
use Rattle.placer_start.proofs.Laws.Reserving.{reservable_none, reservable_more, reservation_over, reservation_words}
use Rattle.merge_unions.specs.Names.{picked, Names}
use Rattle.merge_unions.specs.Reserving.{SoFar, PartAt, PartCounted, BothAt}
use Rattle.merge_unions.proofs.Laws.Names.{picked_none, picked_append, picked_all, picked_rest, names_kept, name_whole, name_pins, name_more}

-- the first i names are counted behind xs
pub record Counting (m limit k i : ℕ) (count : Count) (xs : List Group) (records names w w' : List ℕ) : Type 0 where
  pub upto : i ≤ length names
  pub touched : Touched m (k + i) w w'
  pub now : SoFar m limit (k + i) count (xs ++ picked (groups_of records) (take i names)) w'

-- what the reservation touches keeps the table
pub touched_names : {m table e : ℕ} {records names w w' : List ℕ} → Names m table records names w → Touched m e w w' → 16 * m + RECORDS + 2 * e ≤ table → Names m table records names w'
touched_names N T b = names_kept N T.frame.len (λ j h. T.past j (omega arith))

module _ {m table limit k : ℕ} {count₀ : Count} {xs : List Group} {records names w : List ℕ} (A : PartAt m table limit k count₀ xs records names w) where
  abbrev gs : List Group
  gs = groups_of records

  -- before the first name nothing more is counted
  pub counting_none : Counting m limit k 0 count₀ xs records names w w
  counting_none =
      let z : k + 0 ≡ k = omega arith in
      record { upto = omega arith; touched = touched_none; now = rw (z, picked_none gs, append-nil xs) A.now }

  module _ {i : ℕ} {count : Count} {w₁ : List ℕ} (C : Counting m limit k i count xs records names w w₁) where
    -- the names stay good while they are counted
    pub counting_names : Names m table records names w₁
    counting_names = touched_names A.named C.touched (omega (arith, A.room, C.upto))

    abbrev ys : List Group
    ys = xs ++ picked gs (take i names)

    module _ (h : i < length names) {at : ℕ} (e : at ≡ get_or w₁ (table + get_or names i 0) 0) where
      -- the next one's record may be counted
      pub counting_at : CountAt m at (k + i) count ys records w₁
      counting_at = record {
        area = frame_room C.touched.frame A.area;
        room = omega (arith, A.room, A.named.located.room, C.touched.frame.len);
        small = omega (arith, A.few);
        whole = name_whole counting_names h e;
        named = name_pins counting_names h e;
        chains = C.now.chains;
        counts = C.now.counts;
        few = C.now.few;
      }

      abbrev g : Group
      g = group_at (drop at records)

      more : xs ++ picked gs (take (i + 1) names) ≡ ys ++ (g ∷ [])
      more = rw (name_more counting_names h e) (sym (append_assoc xs (picked gs (take i names)) (g ∷ [])))

      all_more : xs ++ picked gs names ≡ (ys ++ (g ∷ [])) ++ picked gs (drop (i + 1) names)
      all_more = rw (← more, append_assoc xs (picked gs (take (i + 1) names)) (picked gs (drop (i + 1) names)), picked_rest gs names (i + 1))

      module _ {w₂ : List ℕ} {c : Count} (D : Counted m at (k + i) ys records w₁ w₂ c) where
        -- the counts with it are small
        pub counted_few : Few c
        counted_few = record { few = omega (arith, D.few, A.few) }

        -- a limit that is passed ends it
        pub counting_over : {r : Bool} → Judged c limit r → r ≡ true → PartCounted m limit k xs records names w w₂ None
        counting_over J t = record {
          touched = touched_then (omega arith) C.touched (touched_then (omega arith) D.touched touched_none);
          over = λ _ K l. rw all_more (reservable_more K (ys ++ (g ∷ [])) (picked gs (drop (i + 1) names)) (not-true (reservable K (ys ++ (g ∷ []))) (sym (J.is K (ys ++ (g ∷ [])) l D.counts) ∙ t)));
          on = λ d b. cc;
        }

        -- within the limits the next name follows
        pub counting_more : {r : Bool} → Judged c limit r → r ≡ false → Counting m limit k (i + 1) c xs records names w w₂
        counting_more J t =
            let s : k + (i + 1) ≡ k + i + 1 = omega arith in
            record {
              upto = omega arith;
              touched = rw s (touched_then (omega arith) C.touched D.touched);
              now = rw (s, more) (record { chains = D.chains; counts = D.counts; few = D.few; fine = λ K l. not-false (reservable K (ys ++ (g ∷ []))) (sym (J.is K (ys ++ (g ∷ [])) l D.counts) ∙ t) });
            }

    -- past the last name all are counted
    pub counting_done : length names ≤ i → PartCounted m limit k xs records names w w₁ (Some count)
    counting_done h =
        let s : i ≡ length names = omega (arith, C.upto) in
        record {
          touched = rw s at C.touched;
          over = λ b. cc;
          on = λ d b. let z : d ≡ count = cc in rw (z, ← picked_all gs names i h, ← s) C.now;
        }

-- ---- two lists

module _ {m table limit : ℕ} {records first second w : List ℕ} (A : BothAt m table records first second w) where
  -- the first partition's names may be counted
  pub both_first : (none_yet : Count) → (none_yet.memories ≡ 0) × (none_yet.duplicates ≡ 0) → PartAt m table limit 0 none_yet [] records first w
  unfolding activations memories duplicates codes_at extra_at distinct insert_all
  both_first none_yet z = record {
    area = A.area;
    named = A.one;
    room = omega (arith, A.room);
    few = omega (arith, A.few);
    now = record {
      chains = record { before = λ p h. rw (A.clear.zero p h) (omega arith); chain = λ p h. rw (A.clear.zero p h) none };
      counts = record { memory = sym z.0; double = sym z.1 };
      few = omega arith;
      fine = λ K e. reservable_none K;
    };
  }

  module _ {w₁ : List ℕ} {r : Option Count} (P : PartCounted m limit 0 [] records first w w₁ r) where
    -- where the first partition passes a limit the union does
    pub both_over : r ≡ None → Reserved m limit (length first + length second) (picked (groups_of records) (first ++ second)) w w₁ None
    both_over e = record {
      touched = touched_then (omega arith) P.touched touched_none;
      answer = λ K l. reservation_over K (picked (groups_of records) (first ++ second)) (rw (picked_append (groups_of records) first second) (reservable_more K (picked (groups_of records) first) (picked (groups_of records) second) (P.over e K l)));
    }

    module _ {count : Count} (e : r ≡ Some count) where
      -- where it does not the second partition's names follow
      pub both_second : PartAt m table limit (length first) count (picked (groups_of records) first) records second w₁
      both_second = record {
        area = frame_room P.touched.frame A.area;
        named = touched_names A.two P.touched (omega (arith, A.room));
        room = A.room;
        few = A.few;
        now = (let z : 0 + length first ≡ length first = omega arith in rw z at (P.on count e));
      }

      module _ {w₂ : List ℕ} {s : Option Count} (Q : PartCounted m limit (length first) (picked (groups_of records) first) records second w₁ w₂ s) where
        both_touched : Touched m (length first + length second) w w₂
        both_touched = touched_then (omega arith) P.touched Q.touched

        -- where these pass a limit the union does
        pub both_over_2 : s ≡ None → Reserved m limit (length first + length second) (picked (groups_of records) (first ++ second)) w w₂ None
        both_over_2 d = record { touched = both_touched; answer = λ K l. reservation_over K (picked (groups_of records) (first ++ second)) (rw (picked_append (groups_of records) first second) (Q.over d K l)) }

        -- where they pass none the counts are small
        pub both_few : {all : Count} → s ≡ Some all → Few all
        both_few {all} d = record { few = omega (arith, (Q.on all d).few, A.few) }

        -- and give the union's reservation
        pub both_words : {all : Count} → s ≡ Some all → (n : ℕ) → SetAside all n → Reserved m limit (length first + length second) (picked (groups_of records) (first ++ second)) w w₂ (Some n)
        both_words {all} d n S =
            let F = Q.on all d in
            record { touched = both_touched; answer = λ K l. rw (picked_append (groups_of records) first second) (reservation_words K (picked (groups_of records) first ++ picked (groups_of records) second) n (F.fine K l) (S.is (picked (groups_of records) first ++ picked (groups_of records) second) F.counts)) }
