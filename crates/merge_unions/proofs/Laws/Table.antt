-- The table of record starts, record after record. Assumes nothing.
use mathlib.Core.Path.{◌≡◌, refl, sym, ap, ◌∙◌}
use mathlib.Core.Bool.{true}
use mathlib.Core.List.{List, [], ◌∷◌, ◌++◌, append_assoc, append-nil}
use Prim.Native.Nat.{ℕ, ◌+◌, ◌<◌, ◌≤◌}
use native.Mathlib.Omega.{arith}
use native.Mathlib.Decide.{dec_lt}
use lib.ListN.{length, get_or, set, drop, length-append, length-set, get_or-append}
use lib.Seq.{get_or_at, get_or-set_same, get_or-set_other}
use Rattle.rules.specs.Records.{Group, output, groups, read, group_at, whole_at, groups_of}
use Rattle.records.specs.Values.{size_at}
use Rattle.records.proofs.Reading.{Stands, standing}
use Rattle.checks.proofs.Laws.Passed.{Next, read_next, read_last}
use Rattle.merge_unions.specs.Table.{Located, LocateAt, Locates}

-- what changed none of its numbers keeps it
pub located_same : {table : ℕ} {gs : List Group} {records w w' : List ℕ} → Located table gs records w → length w' ≡ length w → ((i : ℕ) → i < length gs → get_or w' (table + i) 0 ≡ get_or w (table + i) 0) → Located table gs records w'
located_same T l e = record {
  room = omega (arith, T.room);
  whole = λ i h. rw (e i h) (T.whole i h);
  group = λ i h. rw (e i h) (T.group i h);
}

-- so does what changed nothing from the table on
pub located_kept : {table : ℕ} {gs : List Group} {records w w' : List ℕ} → Located table gs records w → length w' ≡ length w → ((j : ℕ) → table ≤ j → get_or w' j 0 ≡ get_or w j 0) → Located table gs records w'
located_kept {table} T l e = located_same T l (λ i h. e (table + i) (omega arith))

-- the n records before an index are in the table
pub record Locating (table at n : ℕ) (records w w' : List ℕ) : Type 0 where
  pub upto : at ≤ length records
  pub few : n ≤ at
  pub xs : List Group
  pub rest : List Group
  pub all : groups_of records ≡ xs ++ rest
  pub count : length xs ≡ n
  pub unread : read (drop at records) ≡ groups rest
  pub located : Located table xs records w'
  pub len : length w' ≡ length w
  pub below : (j : ℕ) → j < table → get_or w' j 0 ≡ get_or w j 0
  pub past : (j : ℕ) → table + n ≤ j → get_or w' j 0 ≡ get_or w j 0

module _ {table : ℕ} {records w : List ℕ} (A : LocateAt table records w) where
  -- before the first record the table is empty
  pub locating_none : Locating table 0 0 records w w
  locating_none = record {
    upto = omega arith;
    few = omega arith;
    xs = [];
    rest = groups_of records;
    all = refl;
    count = refl;
    unread = A.readable;
    located = record { room = omega (arith, A.room); whole = λ i h. absurd (omega arith); group = λ i h. absurd (omega arith) };
    len = refl;
    below = λ j h. refl;
    past = λ j h. refl;
  }

  module _ {at n : ℕ} {w₁ : List ℕ} (L : Locating table at n records w w₁) where
    module _ (h : at < length records) where
      next : Next records at L.rest
      next = read_next records at L.rest L.unread h

      -- a whole record stands at the index
      locating_stands : Stands records at
      locating_stands = standing records at next.whole

      -- the table has room for its start
      locating_room : table + n < length w₁
      locating_room = omega (arith, A.room, L.few, L.len)

      abbrev g : Group
      g = group_at (drop at records)

      module _ {w₂ : List ℕ} (e : w₂ ≡ set w₁ (table + n) at) where
        own : get_or w₂ (table + n) 0 ≡ at
        own = rw e (get_or-set_same w₁ (table + n) at 0 locating_room)

        other : (j : ℕ) → (j ≡ table + n → ⊥) → get_or w₂ j 0 ≡ get_or w₁ j 0
        other j ne = rw e (get_or-set_other w₁ (table + n) j at 0 ne)

        more : length (L.xs ++ (g ∷ [])) ≡ n + 1
        more = length-append L.xs (g ∷ []) ∙ omega (arith, L.count)

        whole_more : (i : ℕ) → i < n + 1 → Dec (i < n) → whole_at (drop (get_or w₂ (table + i) 0) records) ≡ true
        whole_more i b (yes k) = rw (other (table + i) (λ d. omega arith)) (L.located.whole i (omega (arith, L.count)))
        whole_more i b (no k) = let d : i ≡ n = (let z : (i < n → ⊥) = k in omega arith) in rw (d, own) next.whole

        group_more : (i : ℕ) → i < n + 1 → Dec (i < n) → group_at (drop (get_or w₂ (table + i) 0) records) ≡ get_or (L.xs ++ (g ∷ [])) i (output 0)
        group_more i b (yes k) = rw (other (table + i) (λ d. omega arith), get_or-append L.xs (g ∷ []) (output 0) i (omega (arith, L.count))) (L.located.group i (omega (arith, L.count)))
        group_more i b (no k) = let d : i ≡ n = (let z : (i < n → ⊥) = k in omega arith) in rw (d, own) (sym (get_or_at L.xs g [] (output 0) n L.count))

        -- one more record's start is stored
        pub locating_more : (size : ℕ) → size ≡ size_at records at → Locating table (at + (1 + size)) (n + 1) records w w₂
        locating_more size es =
            let s = locating_stands in
            record {
              upto = omega (arith, s.inside);
              few = omega (arith, L.few);
              xs = L.xs ++ (g ∷ []);
              rest = next.rest;
              all = L.all ∙ ap (λ (l : List Group). L.xs ++ l) next.these ∙ sym (append_assoc L.xs (g ∷ []) next.rest);
              count = more;
              unread = rw (es, s.size) next.others;
              located = record {
                room = omega (arith, more, locating_room, ap length e, length-set w₁ (table + n) at);
                whole = λ i b. whole_more i (omega (arith, more)) (dec_lt i n);
                group = λ i b. group_more i (omega (arith, more)) (dec_lt i n);
              };
              len = omega (arith, L.len, ap length e, length-set w₁ (table + n) at);
              below = λ j b. other j (λ d. omega arith) ∙ L.below j b;
              past = λ j b. other j (λ d. omega arith) ∙ L.past j (omega arith);
            }

    -- past the last record the table is whole
    pub locating_done : length records ≤ at → Locates table records w w₁ n
    locating_done h =
        let z = read_last records at L.rest L.unread h in
        let a : groups_of records ≡ L.xs = L.all ∙ ap (λ (l : List Group). L.xs ++ l) z ∙ append-nil L.xs in
        record {
          count = rw a (sym L.count);
          few = omega (arith, L.few, L.upto);
          located = rw a L.located;
          len = L.len;
          below = L.below;
          past = λ j b. L.past j (omega (arith, L.few, L.upto));
        }
