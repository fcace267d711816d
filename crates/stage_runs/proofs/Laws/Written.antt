-- Rule 8 record by record, with the words. Assumes nothing.
use mathlib.Core.Path.{◌≡◌, refl, sym, ap, ◌∙◌}
use mathlib.Core.Logic.{◌≢◌}
use mathlib.Core.Bool.{Bool, true, false, ◌||◌}
use mathlib.Core.List.{List, [], ◌∷◌, ◌++◌, map, map-append}
use Prim.Native.Nat.{ℕ, zero, suc, ◌+◌, ◌-◌, ◌/◌, ◌<◌, ◌≤◌}
use native.Mathlib.Omega.{arith}
use lib.Dec.{leb, ltb}
use lib.ListN.{length, get_or, take, drop, length-append, length-drop, length-map, length-take, drop_of_length-le}
use lib.Seq.{take-nil, take_all, take-append-le, length-take-le}
use borrow.Author.Tests.{ltb-true, ltb-false}
use Rattle.rules.specs.Cells.{row_at}
use Rattle.rules.specs.Ending as rules
use Rattle.rules.proofs.Lists.Members.{split}
use Rattle.rules.specs.Inside.Counts as counts
use Rattle.rules.specs.Traversal.{needed_runs}
use Rattle.rules.proofs.Stage.Branches.{runs_end, runs_go, runs_stop}
use Rattle.columns.specs.Fields.{PHASE}
use Rattle.columns.specs.Lists.{span}
use Rattle.columns.proofs.Lists.Entries.{length_list}
use Rattle.stage_walk.specs.Stands.{Context}
use Rattle.stage_runs.specs.declared.puts.Puts.{Puts}
use Rattle.stage_sparse.specs.declared.Sparse.{Sparse}
use Rattle.stage_sparse.specs.Runs.{known}
use Rattle.stage_runs.specs.Puts.{put_of, RunAt, Noted, RecordAt, PutRecord, words_of, WriteAt, Writing, Wrote}
use Rattle.stage_runs.specs.Laid.{noted}
use Rattle.stage_sparse.proofs.Laws.Places.{known_next, known_take}
use Rattle.stage_runs.proofs.Laws.Plain.{row_high}
use Rattle.stage_runs.proofs.Laws.Laid.{laid_none, laid_length, laid_more}
use Rattle.stage_runs.proofs.Laws.Puts.{moved_none, moved_then}

-- ---- the test

-- no run is written once no pin is left
pub goes_none : (last : Bool) (f left : ℕ) → left ≡ 0 → false ≡ rules.goes_on needed_runs last f left
unfolding rules.goes_on rules.allows
goes_none last f left z = rw z

-- while pins are left, the last stage or enough pins decide
pub goes_some : (last : Bool) (f left : ℕ) → left ≢ 0 → (last || leb (32 - f) left) ≡ rules.goes_on needed_runs last f left
unfolding rules.goes_on rules.allows
goes_some last f zero n = absurd (n refl)
goes_some last f (suc k) n = refl

-- ---- words laid one behind the other

module _ (at : ℕ) (words : List ℕ) where
  -- no words noted leave the area
  pub noted_none : (room : ℕ) → words ≡ noted at room [] words
  unfolding noted
  noted_none room = let z : take {A = ℕ} room [] ≡ [] = take-nil room in rw z (sym (laid_none at words))

  -- noting words keeps its length
  pub noted_length : (room : ℕ) (ws : List ℕ) → at + room ≤ length words → length (noted at room ws words) ≡ length words
  unfolding noted
  noted_length room ws h = laid_length at words (take room ws) (omega (arith, length-take room ws))

  -- a word noted behind those before, as far as there is room
  pub noted_more : (room j x : ℕ) (ws words1 words2 : List ℕ) → length ws ≡ j → at + room ≤ length words → words1 ≡ noted at room ws words → Noted at room j x words1 words2 →
      words2 ≡ noted at room (ws ++ (x ∷ [])) words
  unfolding noted
  noted_more room j x ws words1 words2 l h e N = split (ltb j room)
      (λ t. let b = ltb-true j room t in
      rw (N.within b, e, ← l, take_all room ws (omega arith), take_all room (ws ++ (x ∷ [])) (rw (length-append ws (x ∷ [])) (omega arith))) (laid_more at words ws x (omega arith)))
      (λ t. let b = ltb-false j room t in rw (N.past b, e, take-append-le room ws (x ∷ []) (omega arith)) refl)

-- ---- one record

module _ {C : Context} {m half k at room start : ℕ} {s : Puts} {gates pl w words : List ℕ} (A : RecordAt C m half k at room start s gates pl w words) where
  -- a record's run may be gone through
  pub record_run : RunAt C m half k (half + start) s gates pl w
  record_run = record { now = A.now; row = A.row; from = omega arith; to = omega (arith, A.inside) }

  -- a record's word is that of a position below 8,192
  pub record_end : half + start < 8192
  record_end = omega (arith, A.inside, A.row, row_high C.X.K 1 (omega arith) (omega (arith, C.low)) C.high)

-- ---- all of them

runs_drop : {m : ℕ} {rs : List rules.Sparse} → counts.Runs m rs → (j : ℕ) → counts.Runs m (drop j rs)
runs_drop k zero = k
runs_drop counts.none (suc j) = counts.none
runs_drop (counts.more h k) (suc j) = runs_drop k j

runs_head : {m : ℕ} {r : rules.Sparse} {rs : List rules.Sparse} → counts.Runs m (r ∷ rs) → r.start + 32 ≤ m
runs_head (counts.more h k) = h

length_left : (m k next : ℕ) (w : List ℕ) → k ≤ m → length (span PHASE m next k w) ≡ k - next
unfolding span
length_left m k next w h = rw (length-drop, length_list PHASE m k w h) refl

module _ {C : Context} {m half k : ℕ} {at room : ℕ} {R : List Sparse} {gates pl w words : List ℕ} (A : WriteAt C m half k at room R gates pl w words) (last : Bool) where
  abbrev rs : List rules.Sparse
  rs = map known R

  -- before the first record nothing is written
  pub writing_none : Writing C m half k last at room R gates pl w words (record { next = 0; real = 0 }) 0 pl w words
  unfolding words_of
  writing_none = record { upto = omega arith; now = A.now; moved = moved_none; size = refl; same = refl; wrote = noted_none at words room }

  module _ {t : Puts} {j : ℕ} {pl1 w1 words1 : List ℕ} (B : Writing C m half k last at room R gates pl w words t j pl1 w1 words1) where
    -- the area of words keeps its length
    pub writing_length : length words1 ≡ length words
    writing_length = rw B.wrote (noted_length at words room (words_of half (take j rs)) A.fits)

    -- past the last record all is written
    pub writing_end : length R ≤ j → Wrote C m half k last at room R gates pl w words (record { puts = t; words = length R }) pl1 w1 words1
    writing_end h =
        let e : length R ≡ j = omega (arith, B.upto) in
        let z : drop j rs ≡ [] = drop_of_length-le rs {i = j} (rw (length-map) h) in
        rw e (record { upto = B.upto; now = B.now; moved = B.moved; size = B.size; is = B.same ∙ rw z (runs_end C.X last (put_of m k t pl1 w1 (words_of half (take j rs)))); wrote = B.wrote })

    module _ (h : j < length R) (d : Sparse) where
      abbrev r : Sparse
      r = get_or R j d

      next_is : drop j rs ≡ known r ∷ drop (j + 1) rs
      next_is = known_next R j d h

      left_is : length (span PHASE m t.next k w1) ≡ k - t.next
      left_is = length_left m k t.next w1 B.now.needed.few

      -- a record that is not written ends it
      pub writing_stop : {b : Bool} → b ≡ rules.goes_on needed_runs last r.filled (k - t.next) → b ≡ false → Wrote C m half k last at room R gates pl w words (record {
        puts = t;
        words = j;
      }) pl1 w1 words1
      unfolding put_of
      writing_stop e f = record {
        upto = B.upto;
        now = B.now;
        moved = B.moved;
        size = B.size;
        is = B.same ∙ rw next_is (runs_stop C.X last (put_of m k t pl1 w1 (words_of half (take j rs))) (known r) (drop (j + 1) rs) (rw (left_is, A.ruled) (sym e ∙ f)));
        wrote = B.wrote;
      }

      -- a record that is written may be put
      pub writing_record : {start : ℕ} → start ≡ r.start → RecordAt C m half k at room start t gates pl1 w1 words1
      writing_record e = record {
        now = B.now;
        row = A.row;
        inside = rw e (runs_head (rw next_is at (runs_drop A.inside j)));
        fits = rw writing_length A.fits;
      }

      abbrev word : ℕ
      word = (r.start + half) / 32

      words_more : words_of half (take (j + 1) rs) ≡ words_of half (take j rs) ++ (word ∷ [])
      unfolding words_of
      words_more = rw (known_take R j d h, map-append (λ (x : rules.Sparse). (x.start + half) / 32)) refl

      words_count : length (words_of half (take j rs)) ≡ j
      unfolding words_of
      words_count = rw (length-map, length-take-le j rs (rw length-map (omega arith))) refl

      module _ {start : ℕ} (is-start : start ≡ r.start) {t2 : Puts} {pl2 w2 words2 : List ℕ} (D : PutRecord C m half k at room j start gates t pl1 w1 words1 t2 pl2 w2 words2) where
        run_is : rules.put_run C.X (known r) (put_of m k t pl1 w1 (words_of half (take j rs))) ≡ put_of m k t2 pl2 w2 (words_of half (take (j + 1) rs))
        unfolding rules.put_run put_of row_at
        run_is =
            let e : rules.put_cells C.X 32 (row_at C.X.K 1 + r.start) (put_of m k t pl1 w1 (words_of half (take j rs))) ≡ put_of m k t2 pl2 w2 (words_of half (take j rs)) = rw (
              ← A.row,
              ← is-start,
            ) (D.put.is (words_of half (take j rs))) in
            rw (e, words_more, A.row) refl

        -- a record that is written is put, with its word
        pub writing_more : {b : Bool} → b ≡ rules.goes_on needed_runs last r.filled (k - t.next) → b ≡ true → Writing C m half k last at room R gates pl w words t2 (j + 1) pl2 w2 words2
        unfolding put_of
        writing_more e f =
            let z : (half + start) / 32 ≡ word = rw is-start (let y : half + r.start ≡ r.start + half = omega arith in rw y refl) in
            record {
              upto = omega arith;
              now = D.put.now;
              moved = moved_then B.moved D.put.moved;
              size = D.put.size ∙ B.size;
              same = B.same ∙ rw next_is (runs_go C.X last (put_of m k t pl1 w1 (words_of half (take j rs))) (known r) (drop (j + 1) rs) (rw (
                left_is,
                A.ruled,
              ) (sym e ∙ f)) ∙ ap (rules.put_runs C.X last (drop (j + 1) rs)) run_is);
              wrote = rw (words_more, ← z) (noted_more at words room j ((half + start) / 32) (words_of half (take j rs)) words1 words2 words_count A.fits B.wrote D.note);
            }
