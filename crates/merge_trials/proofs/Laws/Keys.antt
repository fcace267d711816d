-- The keys of the open slots after slot i: what the loop keeps while the cone of slot i stands. Assumes nothing.
use Prim.Native.Nat.{ℕ, ◌+◌, ◌-◌, ◌*◌, ◌<◌, ◌≤◌}
use mathlib.Core.Bool.{Bool, true, false}
use mathlib.Core.List.{List, ◌++◌}
use mathlib.Core.Logic.{inl, inr, ◌≢◌}
use mathlib.Core.Path.{◌≡◌, refl, ◌∙◌}
use native.Mathlib.Omega.{arith}
use lib.Dec.{ltb}
use lib.ListN.{length, get_or, take, drop}
use borrow.Author.Tests.{ne_eqb, ltb-true}
use Rattle.rules.specs.Lists.{sum}
use Rattle.rules.specs.Records.{groups_of}
use Rattle.rules.specs.Merge.{Common, rank_of}
use Rattle.rules.proofs.Lists.Members.{true_false, every_in}
use Rattle.columns.specs.Fields.{RECORDS}
use Rattle.merge_unions.specs.Unions.{Leaves, Shares}
use Rattle.merge_unions.specs.Sizing.{CloseAt, Closed}
use Rattle.merge_unions.specs.Cones.{Ground, Of, ConeAt, Coned, Measures}
use Rattle.merge_unions.proofs.Laws.Table.{located_same}
use Rattle.merge_unions.proofs.Laws.Parts.{cone_part}
use Rattle.merge_unions.proofs.Laws.Cones.{close_at, close_leaves}
use Rattle.merge_slots.specs.Slots.{own, free, held}
use Rattle.merge_slots.specs.Stores.{KeyAt, Ranked}
use Rattle.merge_slots.specs.Rounds.{Ready}
use Rattle.merge_slots.proofs.Laws.Bars.{same_or}
use Rattle.merge_slots.proofs.Laws.Sums.{sum_next, sum_part}
use Rattle.merge_layout.specs.Layout.{owned}
use Rattle.merge_trials.specs.Ranks.{groups_at, Looked, RankAt, SlotRanked, LaterAt, Keyed, AllAt, AllRanked}
use Rattle.merge_layout.proofs.Laws.Owned.{lent, own_length, own_at, back_owned, owned_same, part_length, part_below}
use Rattle.merge_trials.proofs.Laws.Standing.{slot_part, slot_in_lem, sum_below}

-- ---- one slot

module _ {x : Of} {m table base c i s n k : ℕ} {gates records names w : List ℕ} (A : RankAt x m table base c i s n k gates records names w) where
  abbrev o : List ℕ
  o = owned base c w

  -- a barred slot gets no keys
  pub rank_barred : get_or w (base + (4 * c + s)) 0 ≢ 0 → SlotRanked x m table base c i s n k gates records names w w
  unfolding free own
  rank_barred h = record { keeps = record { len = refl; kept = λ j a b. refl }; cone = A.extend.cone; others = λ y a b. refl; grows = λ J S f. never f; union = λ J S f. never f }
    where
      never : {P : Type 0} → free c o s ≡ true → P
      never f = true_false f (rw (own_at base c w A.room (4 * c + s) (omega (arith, A.second))) (ne_eqb (get_or w (base + (4 * c + s)) 0) 0 h))

  module _ {u : ℕ} {w₁ : List ℕ} (M : Measures x m table n k gates records names w u w₁) where
    -- the own numbers lie in the area after the measure
    pub rank_room : base + 8 * c ≤ length w₁
    rank_room = omega (arith, A.room, M.frame.len)

    front : 16 * m + RECORDS ≤ table
    front = A.extend.cone.ground.behind

    lent_now : take (base + 8 * c - base) (drop base w₁) ≡ o
    lent_now = lent base c w₁ rank_room ∙ owned_same base c w w₁ A.room M.frame.len (λ j h. M.frame.past refl j (omega (arith, front, A.behind)))

    -- an open slot's keys may be stored
    pub key_at : KeyAt c i s u (take (base + 8 * c - base) (drop base w₁))
    key_at = rw lent_now (record { area = record { few = A.few; room = own_length base c w A.room }; first = A.first; second = A.second; fits = omega (arith, M.few, A.extend.cone.area.small) })

    module _ {ys : List ℕ} (R₀ : Ranked c i s u (take (base + 8 * c - base) (drop base w₁)) ys) where
      R : Ranked c i s u o ys
      R = rw lent_now at R₀

      abbrev w₂ : List ℕ
      w₂ = take base w₁ ++ (ys ++ drop (base + 8 * c - base) (drop base w₁))

      long : length w₂ ≡ length w₁
      long = part_length base (base + 8 * c) w₁ (omega arith) rank_room ys R₀.long

      before : (j : ℕ) → j < base → get_or w₂ j 0 ≡ get_or w₁ j 0
      before = part_below base (base + 8 * c) w₁ (omega arith) rank_room ys R₀.long

      ground : Ground m table gates x.given records w₂
      ground =
          let G = M.cone.ground in
          record { K = G.K; sized = G.sized; passed = G.passed; pins = G.pins; located = located_same G.located long (λ j h. before (table + j) (omega (arith, A.behind))); behind = G.behind }

      -- the keys stored for a slot stand for its rank
      pub slot_ranked : SlotRanked x m table base c i s n k gates records names w w₂
      slot_ranked =
          let e = back_owned base c w₁ rank_room ys R₀.long in
          record {
            keeps = record { len = long ∙ M.frame.len; kept = λ j a b. before j b ∙ M.frame.past refl j (omega (arith, front)) };
            cone = cone_part w₁ w₂ (λ j h. before j (omega (arith, front, A.behind))) (record { small = M.cone.area.small; room = omega (arith, M.cone.area.room, long) }) ground M.cone;
            others = λ y a b. rw e (R.others y a b);
            grows = λ J S f. rw (e, R.grows, M.size J S) refl;
            union = λ J S f. rw (e, R.union_is) (M.size J S);
          }

-- ---- slot after slot

-- the first four columns say what the partitions are
pub held_same : (n : ℕ) (ls xs o o' : List ℕ) → ((x : ℕ) → x < 4 * n → get_or o' x 0 ≡ get_or o x 0) → (s : ℕ) → s < n → held n ls xs o' s ≡ held n ls xs o s
unfolding held own
held_same n ls xs o o' e s h = rw (e (0 * n + s) (omega arith), e (1 * n + s) (omega arith), e (2 * n + s) (omega arith), e (3 * n + s) (omega arith)) refl

-- the slots after i and before s have keys, and slot s starts at `at`
pub record Keying (given : List ℕ) (m table base i at s n k : ℕ) (gates records xs ls w w' : List ℕ) : Type 0 where
  pub from : i < s
  pub upto : s ≤ length ls
  pub start : at ≡ sum (take s ls)
  pub keyed : Keyed given m table base i s n k gates records xs ls w w'

module _ {given : List ℕ} {m table base i from n k : ℕ} {gates records xs ls w : List ℕ} (A : LaterAt given m table base i from n k gates records xs ls w) where
  abbrev c : ℕ
  c = length ls

  -- at the start no slot has keys
  pub keying_none : Keying given m table base i from (i + 1) n k gates records xs ls w w
  keying_none = record {
    from = omega arith;
    upto = omega (arith, A.first);
    start = A.start;
    keyed = record { keeps = record { len = refl; kept = λ j a b. refl }; cone = A.cone; low = λ x h. refl; high = λ x h. refl; ready = λ J S t a b. absurd (omega arith) };
  }

  module _ {at s : ℕ} {w₁ : List ℕ} (N : Keying given m table base i at s n k gates records xs ls w w₁) where
    abbrev o₀ : List ℕ
    o₀ = owned base c w

    abbrev o₁ : List ℕ
    o₁ = owned base c w₁

    module _ (h : s < length ls) {next : ℕ} {l : ℕ} (el : l ≡ get_or ls s 0) (en : next ≡ at + l) where
      ends : next ≡ sum (take (s + 1) ls)
      ends = omega (arith, en, el, N.start, sum_next ls s h)

      -- the next slot's groups end within the indices
      pub keying_end : next ≤ length xs
      keying_end = omega (arith, ends, sum_part ls (s + 1), A.all)

      part_is : take (next - at) (drop at xs) ≡ groups_at ls xs s
      part_is = rw (ends, N.start) (slot_part ls xs s A.all h)

      -- the next slot may be ranked
      pub keying_at : RankAt (record { given = given; names = groups_at ls xs i }) m table base c i s n k gates records (take (next - at) (drop at xs)) w₁
      keying_at = record {
        extend = record { cone = N.keyed.cone; inside = λ q j. ltb-true q (length (groups_of records)) (every_in (λ i. ltb i (length (groups_of records))) q xs A.inside (slot_in_lem q ls xs s (rw part_is at j))) };
        few = A.few;
        behind = A.behind;
        room = omega (arith, A.room, N.keyed.keeps.len);
        first = A.first;
        second = h;
      }

      module _ {w₂ : List ℕ} (R : SlotRanked (record { given = given; names = groups_at ls xs i }) m table base c i s n k gates records (take (next - at) (drop at xs)) w₁ w₂) where
        abbrev o₂ : List ℕ
        o₂ = owned base c w₂

        free_low : free c o₁ s ≡ free c o₀ s
        unfolding free own
        free_low = rw (N.keyed.low (4 * c + s) (omega arith)) refl

        size_low : (t : ℕ) → t < c → own 0 c o₁ t ≡ own 0 c o₀ t
        unfolding own
        size_low t b = N.keyed.low (0 * c + t) (omega arith)

        this : (J : Common) → Shares gates given records J → free c o₀ s ≡ true → Ready J (held c ls xs o₀ i) (held c ls xs o₀) c o₂ s
        unfolding rank_of held
        this J S f = record { grows = R.grows J S (free_low ∙ f) ∙ rw (part_is, size_low i A.first, size_low s h) refl; union = R.union J S (free_low ∙ f) ∙ rw part_is refl }

        -- one more slot is ranked
        pub keying_more : Keying given m table base i next (s + 1) n k gates records xs ls w w₂
        unfolding own
        keying_more = record {
          from = omega (arith, N.from);
          upto = omega arith;
          start = ends;
          keyed = record {
            keeps = record { len = R.keeps.len ∙ N.keyed.keeps.len; kept = λ j a b. R.keeps.kept j a b ∙ N.keyed.keeps.kept j a b };
            cone = R.cone;
            low = λ x l. R.others x (λ z. omega arith) (λ z. omega arith) ∙ N.keyed.low x l;
            high = λ x l. R.others x (λ z. omega arith) (λ z. omega arith) ∙ N.keyed.high x l;
            ready = λ J S t a b f. elim (same_or t s b) [
              | inl e ↦ rw e (this J S (rw e at f))
              | inr l ↦ let r = N.keyed.ready J S t a l f in record { grows = R.others (5 * c + t) (λ z. omega arith) (λ z. omega arith) ∙ r.grows; union = R.others (6 * c + t) (λ z. omega arith) (λ z. omega arith) ∙ r.union }
            ];
          };
        }

    -- past the last all open ones are
    pub keying_done : length ls ≤ s → Keyed given m table base i (length ls) n k gates records xs ls w w₁
    keying_done h = let e : s ≡ length ls = omega (arith, N.upto) in rw e at N.keyed

-- ---- the cone of slot i

module _ {m table base i : ℕ} {gates given records xs ls w : List ℕ} (A : AllAt m table base i gates given records xs ls w) where
  -- where no slot is open none gets keys
  pub all_barred : {r : Bool} → Looked base (length ls) (i + 1) w r → r ≡ false → AllRanked m table base i gates given records xs ls w w
  unfolding free own
  all_barred L e = record {
    stays = record { len = refl; idle = A.at.idle; kept = λ j h l. refl };
    low = λ x h. refl;
    high = λ x h. refl;
    ready = λ J S s a b f. true_false f (rw (own_at base (length ls) w A.at.room (4 * length ls + s) (omega arith)) (ne_eqb (get_or w (base + (4 * length ls + s)) 0) 0 (L.barred e s (omega arith) b)));
  }

  module _ {a b : ℕ} (ea : a ≡ sum (take i ls)) (eb : b ≡ sum (take (i + 1) ls)) where
    -- slot i's part lies in the indices
    pub open_order : (a ≤ b) × (b ≤ length xs)
    open_order = (omega (arith, sum_below ls i (i + 1) (omega arith)), omega (arith, sum_part ls (i + 1), A.at.all))

    mine : take (b - a) (drop a xs) ≡ groups_at ls xs i
    mine = rw (ea, eb) (slot_part ls xs i A.at.all A.first)

    -- its cone may be opened
    pub open_at : ConeAt m table gates given records (take (b - a) (drop a xs)) w
    open_at =
        let S = A.at in
        record {
          ground = record { K = A.K; sized = S.sized; passed = S.passed; pins = S.pins; located = S.located; behind = omega (arith, S.spare) };
          idle = S.idle;
          inside = λ q j. ltb-true q (length (groups_of records)) (every_in (λ i. ltb i (length (groups_of records))) q xs S.inside (slot_in_lem q ls xs i (rw mine at j)));
        }

    module _ {n k : ℕ} {w₁ : List ℕ} (O : Coned m table gates given records (take (b - a) (drop a xs)) w n k w₁) where
      -- and the later slots ranked
      pub later_at : LaterAt given m table base i b n k gates records xs ls w₁
      later_at = record {
        cone = rw mine at O.cone;
        inside = A.at.inside;
        all = A.at.all;
        short = A.at.short;
        few = A.at.few;
        behind = A.at.behind;
        room = omega (arith, A.at.room, O.frame.len);
        first = A.first;
        start = eb;
      }

      module _ {w₂ : List ℕ} (L : Keyed given m table base i (length ls) n k gates records xs ls w₁ w₂) where
        -- then it may be closed
        pub later_close : CloseAt m n k given w₂
        later_close = close_at L.cone

        -- and all open slots have their keys
        pub all_ranked : {w₃ : List ℕ} → Closed m w₂ w₃ → AllRanked m table base i gates given records xs ls w w₃
        all_ranked {w₃} D = record {
          stays = record { len = left.len ∙ L.keeps.len ∙ O.frame.len; idle = left.idle; kept = λ j h l. left.past j h ∙ L.keeps.kept j h l ∙ O.frame.past refl j (omega (arith, A.at.spare)) };
          low = λ x h. rw (same_3, ← same_1) (L.low x h);
          high = λ x h. rw (same_3, ← same_1) (L.high x h);
          ready = λ J S s p q f. rw (same_3, ← same_1) (L.ready J S s p q (rw same_1 f));
        }
          where
            left : Leaves m table w₂ w₃
            left = close_leaves L.cone D

            same_1 : owned base (length ls) w₁ ≡ owned base (length ls) w
            same_1 = owned_same base (length ls) w w₁ A.at.room O.frame.len (λ j h. O.frame.past refl j (omega (arith, A.at.spare, A.at.behind)))

            same_3 : owned base (length ls) w₃ ≡ owned base (length ls) w₂
            same_3 = owned_same base (length ls) w₂ w₃ (omega (arith, A.at.room, L.keeps.len, O.frame.len)) left.len (λ j h. left.past j (omega (arith, A.at.behind)))

-- ---- the look for an open slot

-- the slots from `from` to s are barred
pub record Looking (base c from s : ℕ) (w : List ℕ) : Type 0 where
  pub barred : (t : ℕ) → from ≤ t → t < s → get_or w (base + (4 * c + t)) 0 ≢ 0

module _ {base c from : ℕ} {w : List ℕ} where
  -- before the first none is
  pub looking_none : Looking base c from from w
  looking_none = record { barred = λ t a b. absurd (omega arith) }

  -- an open one ends it
  pub looked_open : Looked base c from w true
  looked_open = record { barred = λ e. true_false refl e }

  module _ {s : ℕ} (N : Looking base c from s w) where
    -- one more is barred
    pub looking_more : get_or w (base + (4 * c + s)) 0 ≢ 0 → Looking base c from (s + 1) w
    looking_more h = record { barred = λ t a b. elim (same_or t s b) [ inl e ↦ rw e h | inr l ↦ N.barred t a l ] }

    -- past the last all are
    pub looked_none : c ≤ s → Looked base c from w false
    looked_none h = record { barred = λ e t a b. N.barred t a (omega arith) }
