-- Chains, walked with stamps. Assumes nothing.
use Prim.Native.Nat.{ℕ, zero, suc, pred, ◌+◌, ◌-◌, ◌*◌, ◌/◌, ◌%◌, ◌≤◌, ◌<◌}
use mathlib.Core.Path.{◌≡◌, refl, sym, ◌∙◌, ap}
use mathlib.Core.Bool.{Bool, true, false, not}
use mathlib.Core.List.{List, [], ◌∷◌}
use native.Mathlib.Omega.{arith}
use native.Mathlib.Numerals.{add-one}
use lib.Dec.{eqb}
use mir.Val.{bool_byte}
use lib.ListN.{length, get_or, set, drop, length-set, length-append}
use lib.Seq.{get_or-set_same, get_or-set_other}
use borrow.Author.Tests.{eq-eqb, ne_eqb}
use Rattle.rules.specs.Lists.{mem, keep, insert, insert_all, distinct}
use Rattle.rules.specs.Fold.{as_number}
use Rattle.rules.specs.Records.{groups_of, whole_at}
use Rattle.rules.specs.Reservation.{activations}
use Rattle.rules.proofs.Lists.Members.{split, eqb_true, eqb_false, eqb_same, in_insert, mem_other}
use Rattle.records.proofs.Reading.{standing}
use Rattle.placer_start.specs.Reservation.{WholeAt}
use Rattle.reservation_count.specs.Chains.{code_at, newest, Chain, none, link}
use Rattle.reservation_count.specs.Walks.{residue, StampAt, Stamped, WalkAt, Walked, AllAt, AllWalked, SumAt, Summed}
use Rattle.reservation_count.proofs.Laws.Lists.{mem_insert, distinct_few, distinct_four, codes_count}
use Rattle.reservation_count.proofs.Laws.Chains.{chain_few}
use Rattle.reservation_count.proofs.Laws.Sums.{total, extra, duplicates_total}

-- ---- a stamp

-- it is new unless it stood there
pub stamped : (l : List ℕ) (k id r : ℕ) → r ≡ bool_byte (not (eqb (get_or l k 0) id)) → Stamped l k id (set l k id) r
unfolding as_number
stamped l k id r e = split (eqb (get_or l k 0) id)
    (λ t. let z : r ≡ 0 = rw t at e in record { is = refl; new = rw t z; few = omega arith })
    (λ t. let z : r ≡ 1 = rw t at e in record { is = refl; new = rw t z; few = omega arith })

-- ---- one chain and residue

-- the rest of a chain from h, when the codes in `seen` have stamps
pub record Walking (records links l : List ℕ) (head r id : ℕ) (cs : List ℕ) (h n : ℕ) (now : List ℕ) : Type 0 where
  pub len : length now ≡ length l
  pub rest : List ℕ
  pub chain : Chain (length l) records links h rest
  pub seen : List ℕ
  pub count : n ≡ length seen
  pub few : n + h ≤ head
  pub left : length (insert_all (keep (residue r) rest) seen) ≡ length (distinct (keep (residue r) cs))
  pub marks : (c : ℕ) → c % 4 ≡ r → eqb (get_or now (c / 4) 0) id ≡ mem c seen
  pub below : (k : ℕ) → get_or now k 0 ≤ id

-- an entry kept, or not
keep_here : (f : ℕ → Bool) (x : ℕ) (xs : List ℕ) → f x ≡ true → keep f (x ∷ xs) ≡ x ∷ keep f xs
unfolding keep
keep_here f x xs e = rw (e, keep)

keep_past : (f : ℕ → Bool) (x : ℕ) (xs : List ℕ) → f x ≡ false → keep f (x ∷ xs) ≡ keep f xs
unfolding keep
keep_past f x xs e = rw (e, keep)

-- the first of a chain
record Front (m : ℕ) (records links : List ℕ) (h : ℕ) (cs : List ℕ) : Type 0 where
  whole : whole_at (drop (h - 1) records) ≡ true
  small : code_at records (h - 1) < 4 * m
  falls : get_or links (h - 1) 0 < h
  after : List ℕ
  these : cs ≡ code_at records (h - 1) ∷ after
  others : Chain m records links (get_or links (h - 1) 0) after

front : {m : ℕ} {records links : List ℕ} {h : ℕ} {cs : List ℕ} → Chain m records links h cs → (h ≡ 0 → ⊥) → Front m records links h cs
front none n = absurd (n refl)
front {m} {records} {links} (link {i = i} {cs = cs} w c l k) n =
    let e : suc i - 1 ≡ i = omega arith in
    record { whole = rw e w; small = rw e c; falls = rw e (omega arith); after = cs; these = rw e; others = rw e k }

-- a chain of 0
last : {m : ℕ} {records links : List ℕ} {h : ℕ} {cs : List ℕ} → Chain m records links h cs → h ≡ 0 → cs ≡ []
last none e = refl
last (link w c l k) e = absurd (omega arith)

module _ (records links l : List ℕ) (head r id : ℕ) (cs : List ℕ) (A : WalkAt records links l head id cs) where
  -- at the beginning no code has the stamp
  pub walking_none : Walking records links l head r id cs head 0 l
  unfolding distinct mem
  walking_none = record {
    len = refl;
    rest = cs;
    chain = A.chain;
    seen = [];
    count = refl;
    few = omega arith;
    left = refl;
    marks = λ c e. ne_eqb (get_or l (c / 4) 0) id (λ d. omega (arith, A.fresh (c / 4)));
    below = λ k. omega (arith, A.fresh k);
  }

  module _ (h n : ℕ) (now : List ℕ) (W : Walking records links l head r id cs h n now) (some : h ≡ 0 → ⊥) where
    F : Front (length l) records links h W.rest
    F = front W.chain some

    -- a record stands at the index
    pub walk_whole : WholeAt (h - 1) records
    walk_whole = record { whole = F.whole }

    -- inside
    pub walk_inside : h - 1 < length links
    walk_inside = let s = standing records (h - 1) F.whole in omega (arith, s.inside, A.room)

    -- the chain falls
    pub walk_falls : (x : ℕ) → x ≡ get_or links (h - 1) 0 → x < h
    walk_falls x e = omega (arith, F.falls)

    -- the counts are small
    pub walk_few : n < 65536
    walk_few = omega (arith, W.few, A.inside, A.short)

    module _ (c x : ℕ) (ec : c ≡ code_at records (h - 1)) (ex : x ≡ get_or links (h - 1) 0) where
      rest_is : W.rest ≡ c ∷ F.after
      rest_is = F.these ∙ rw ec

      rest_chain : Chain (length l) records links x F.after
      rest_chain = rw ex F.others

      -- another residue
      pub walking_pass : (c % 4 ≡ r → ⊥) → Walking records links l head r id cs x n now
      unfolding residue
      walking_pass d =
          let k : keep (residue r) W.rest ≡ keep (residue r) F.after = ap (keep (residue r)) rest_is ∙ keep_past (residue r) c F.after (ne_eqb (c % 4) r d) in
          record {
            len = W.len;
            rest = F.after;
            chain = rest_chain;
            seen = W.seen;
            count = W.count;
            few = omega (arith, W.few, F.falls);
            left = ap (λ (ks : List ℕ). length (insert_all ks W.seen)) (sym k) ∙ W.left;
            marks = W.marks;
            below = W.below;
          }

      module _ (d : c % 4 ≡ r) where
        -- the stamp's place
        pub walk_stamp : StampAt now (c / 4)
        walk_stamp = record { here = omega (arith, F.small, W.len) }

        module _ (now' : List ℕ) (k : ℕ) (S : Stamped now (c / 4) id now' k) where
          set_at : now' ≡ set now (c / 4) id
          set_at = S.is

          stamp_old : eqb (get_or now (c / 4) 0) id ≡ true → k ≡ 0
          unfolding as_number
          stamp_old z = S.new ∙ ap (λ (b : Bool). as_number (not b)) z

          stamp_new : eqb (get_or now (c / 4) 0) id ≡ false → k ≡ 1
          unfolding as_number
          stamp_new z = S.new ∙ ap (λ (b : Bool). as_number (not b)) z

          new_count : n + k ≡ length (insert c W.seen)
          unfolding insert
          new_count = split (mem c W.seen)
              (λ t. let z : k ≡ 0 = stamp_old (W.marks c d ∙ t) in rw (t, insert) (omega (arith, W.count)))
              (λ t. let z : k ≡ 1 = stamp_new (W.marks c d ∙ t) in rw (t, insert, length-append) (omega (arith, W.count)))

          new_marks : (b : ℕ) → b % 4 ≡ r → eqb (get_or now' (b / 4) 0) id ≡ mem b (insert c W.seen)
          new_marks b e = split (eqb b c)
              (λ t.
              let y = eqb_true b c t in
              rw (y, set_at, get_or-set_same now (c / 4) id 0 walk_stamp.here, eqb_same id) (sym (in_insert c W.seen)))
              (λ t.
              let y = eqb_false b c t in
              let o : b / 4 ≡ c / 4 → ⊥ = λ q. y (omega arith) in
              rw (set_at, get_or-set_other now (c / 4) (b / 4) id 0 o, mem_insert b c W.seen, mem_other b c W.seen y) (W.marks b e))

          new_below : (j : ℕ) → get_or now' j 0 ≤ id
          new_below j = split (eqb j (c / 4))
              (λ t. let y = eqb_true j (c / 4) t in rw (y, set_at, get_or-set_same now (c / 4) id 0 walk_stamp.here) (omega arith))
              (λ t. rw (set_at, get_or-set_other now (c / 4) j id 0 (eqb_false j (c / 4) t)) (W.below j))

          -- this residue
          pub walking_more : Walking records links l head r id cs x (n + k) now'
          unfolding residue insert_all
          walking_more =
              let y : keep (residue r) W.rest ≡ c ∷ keep (residue r) F.after = ap (keep (residue r)) rest_is ∙ keep_here (residue r) c F.after (eq-eqb (c % 4) r d) in
              record {
                len = ap length set_at ∙ length-set now (c / 4) id ∙ W.len;
                rest = F.after;
                chain = rest_chain;
                seen = insert c W.seen;
                count = new_count;
                few = omega (arith, W.few, F.falls, S.few);
                left = ap (λ (ks : List ℕ). length (insert_all ks W.seen)) (sym y) ∙ W.left;
                marks = new_marks;
                below = new_below;
              }

  -- at the end of the chain
  pub walking_done : (h n : ℕ) (now : List ℕ) → Walking records links l head r id cs h n now → h ≡ 0 → Walked head r id cs l now n
  unfolding keep insert_all
  walking_done h n now W e =
      let z : W.rest ≡ [] = last W.chain e in
      let y : length (insert_all (keep (residue r) W.rest) W.seen) ≡ length W.seen = rw z in
      record { len = W.len; below = W.below; few = omega (arith, W.few); is = W.count ∙ sym y ∙ W.left }

-- ---- the four residues

-- the distinct codes of the first r
unfoldable pub by_residue : ℕ → List ℕ → ℕ
by_residue zero cs = 0
by_residue (suc r) cs = by_residue r cs + length (distinct (keep (residue r) cs))

-- the first r are walked
pub record Residues (l : List ℕ) (head base : ℕ) (cs : List ℕ) (r n : ℕ) (now : List ℕ) : Type 0 where
  pub len : length now ≡ length l
  pub upto : r ≤ 4
  pub below : (k : ℕ) → get_or now k 0 ≤ base + r
  pub few : n ≤ r * head
  pub is : n ≡ by_residue r cs

module _ (records links l : List ℕ) (head base : ℕ) (cs : List ℕ) (A : AllAt records links l head base cs) where
  -- none at the beginning
  pub residues_none : Residues l head base cs 0 0 l
  unfolding by_residue
  residues_none = record { len = refl; upto = omega arith; below = λ k. omega (arith, A.fresh k); few = omega arith; is = refl }

  module _ (r n : ℕ) (now : List ℕ) (R : Residues l head base cs r n now) where
    -- for the next one every stamp is smaller
    pub residue_at : r < 4 → (id : ℕ) → id ≡ base + 1 + r → WalkAt records links now head id cs
    residue_at h id e = record { short = A.short; room = A.room; chain = rw R.len A.chain; inside = A.inside; fresh = λ k. omega (arith, R.below k) }

    -- one more
    pub residues_more : r < 4 → (id : ℕ) → id ≡ base + 1 + r → (now' : List ℕ) (m : ℕ) → Walked head r id cs now now' m → Residues l head base cs (r + 1) (n + m) now'
    unfolding by_residue
    residues_more h id e now' m W = record {
      len = W.len ∙ R.len;
      upto = omega arith;
      below = λ k. omega (arith, W.below k);
      few = omega (arith, R.few, W.few);
      is = rw (add-one r, by_residue) (omega (arith, R.is, W.is));
    }

    -- the four are all codes
    pub residues_done : 4 ≤ r → AllWalked head base cs l now n
    unfolding by_residue
    residues_done h =
        let z : r ≡ 4 = omega (arith, R.upto) in
        let e = rw z at R.is in
        record { len = R.len; below = λ k. omega (arith, R.below k); few = omega (arith, e, distinct_four cs, distinct_few cs, chain_few A.chain); is = omega (arith, e, distinct_four cs) }

-- ---- all pins

-- the first p pins
pub record Summing (records heads links l : List ℕ) (p d : ℕ) (now : List ℕ) : Type 0 where
  pub len : length now ≡ length l
  pub upto : p ≤ length heads
  pub sum : total (extra (activations (groups_of records))) p ≡ d
  pub few : d ≤ 65535 * p
  pub below : (k : ℕ) → get_or now k 0 ≤ 4 * p

module _ (records heads links l : List ℕ) (A : SumAt records heads links l) where
  -- none at the beginning
  pub summing_none : Summing records heads links l 0 0 l
  unfolding total
  summing_none = record { len = refl; upto = omega arith; sum = refl; few = omega arith; below = λ k. omega (arith, A.none k) }

  module _ (p d : ℕ) (now : List ℕ) (S : Summing records heads links l p d now) (h : p < length heads) where
    abbrev codes : List ℕ
    codes = newest p (activations (groups_of records)) []

    -- the next pin's chain may be walked
    pub summing_at : (head base : ℕ) → head ≡ get_or heads p 0 → base ≡ 4 * p → AllAt records links now head base codes
    summing_at head base eh eb = record {
      short = A.right.short;
      room = A.room;
      chain = let e : length now ≡ length heads = S.len ∙ A.same in rw (eh, e) (A.chains.chain p h);
      inside = omega (arith, A.chains.before p);
      fresh = λ k. omega (arith, S.below k);
      small = omega (arith, A.pins);
    }

    -- one pin more
    pub summing_more : (head base : ℕ) → head ≡ get_or heads p 0 → base ≡ 4 * p → (now' : List ℕ) (n x : ℕ) → AllWalked head base codes now now' n → x ≡ pred n → Summing records heads links l (p + 1) (d + x) now'
    unfolding total
    summing_more head base eh eb now' n x W ex =
        let s : suc p ≡ p + 1 = omega arith in
        let e : extra (activations (groups_of records)) p ≡ x = ap pred (codes_count p (activations (groups_of records)) ∙ sym W.is) ∙ sym ex in
        record {
          len = W.len ∙ S.len;
          upto = omega arith;
          sum = rw (← s) (omega (arith, S.sum, e));
          few = omega (arith, S.few, W.few, A.chains.before p, A.right.short, pred_less n);
          below = λ k. omega (arith, W.below k);
        }
      where
        pred_less : (k : ℕ) → pred k ≤ k - 1
        pred_less k = omega arith

  -- all at the end
  pub summing_done : (p d : ℕ) (now : List ℕ) → Summing records heads links l p d now → length heads ≤ p → Summed records l now d
  summing_done p d now S h =
      let e : p ≡ length heads = omega (arith, S.upto) in
      record { len = S.len; few = omega (arith, S.few, A.same); double = duplicates_total (groups_of records) (length heads) A.right.named ∙ rw (← e) S.sum }
