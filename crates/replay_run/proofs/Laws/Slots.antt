-- The slots that pins are read from: positions, words and stages from the last down. Assumes nothing.
use Prim.Native.Nat.{ℕ, zero, suc, ◌+◌, ◌-◌, ◌*◌, ◌≤◌, ◌<◌, min}
use mathlib.Core.Path.{◌≡◌, refl, sym, ◌∙◌, ap, ap₂}
use mathlib.Core.Logic.{◌⊎◌, inl, inr, ⊎_elim}
use mathlib.Core.List.{List, [], ◌∷◌, ◌++◌, append_assoc}
use native.Mathlib.Omega.{arith}
use native.Mathlib.Nat.{mul-suc}
use lib.Dec.{eqb, leb}
use borrow.Author.Tests.{leb-true, leb-false}
use lib.ListN.{length, get_or, set, take, drop, length-drop, length-set, length-map}
use lib.Seq.{take_all, length-take-le, get_or-set_same, get_or-set_other, get_or-drop, drop-cons, drop-length, drop-drop, take-suc, take-nil, take_at, drop_at, take-length}
use Rattle.rules.specs.Lists.{Found, nothing, found, sum}
use Rattle.rules.specs.Fold.{first_at}
use Rattle.rules.specs.Coded.{cell_pin, pins}
use Rattle.rules.specs.Build.{Stage, cells_of, words_of, counts_of}
use Rattle.rules.proofs.Lists.Members.{split, eqb_true, eqb_false}
use Rattle.replay_form.specs.Plans.{in_words, written_at}
use Rattle.replay_form.specs.Accepted.{Sized}
use Rattle.replay_tape.specs.Clocks.{read_slot}
use Rattle.replay_run.specs.Slots.{slot_or, Slotted, WordRead, WordsRead, written_by, PlanAt, PlanRead}

drop_past : (l : List ℕ) (n : ℕ) → length l ≤ n → drop n l ≡ []
drop_past [] zero h = refl
drop_past [] (suc n) h = refl
drop_past (x ∷ l) zero h = absurd (omega arith)
drop_past (x ∷ l) (suc n) h = drop_past l n (omega arith)

drop_whole : (l : List ℕ) (n : ℕ) → take (length l - n) (drop n l) ≡ drop n l
drop_whole l n = take_all (length l - n) (drop n l) (omega (arith, length-drop n l))

pins_many : (cells : List ℕ) → length (pins cells) ≡ length cells
unfolding pins
pins_many cells = length-map cells cell_pin

-- ---- a word

-- the positions of a word from p on are read
pub record WordTo (cells slots : List ℕ) (at p : ℕ) (reads now : List ℕ) : Type 0 where
  pub high : p ≤ at + 32
  pub inside : p ≤ length cells
  pub low : (at ≤ p) ⊎ (length cells ≤ p)
  pub slotted : Slotted slots reads now (λ q. first_at q p (take (at + 32 - p) (drop p (pins cells))))

module _ (cells slots reads : List ℕ) (at : ℕ) where
  -- none at the beginning
  pub word_none : (p : ℕ) → p ≡ min (length cells) (at + 32) → WordTo cells slots at p reads reads
  unfolding first_at slot_or
  word_none p e = record {
    high = omega arith;
    inside = omega arith;
    low = ⊎_elim (λ h. inl (omega arith)) (λ h. inr h) one;
    slotted = record { len = refl; each = λ q h. rw none };
  }
    where
      one : (at + 32 ≤ p) ⊎ (length cells ≤ p)
      one = split (leb (at + 32) (length cells)) (λ t. let h = leb-true (at + 32) (length cells) t in inl (omega arith)) (λ t. let h = leb-false (at + 32) (length cells) t in inr (omega arith))

      none : take (at + 32 - p) (drop p (pins cells)) ≡ []
      none = ⊎_elim
          (λ h. let z : at + 32 - p ≡ 0 = omega arith in rw z)
          (λ h. rw (drop_past (pins cells) p (omega (arith, pins_many cells)), take-nil (at + 32 - p)))
          one

  module _ (p : ℕ) (now : List ℕ) (R : WordTo cells slots at p reads now) (h : at < p) (n v : ℕ) (en : n ≡ get_or (pins cells) (p - 1) 0) (ev : v ≡ get_or slots (p - 1) 0) where
    front : take (at + 32 - (p - 1)) (drop (p - 1) (pins cells)) ≡ n ∷ take (at + 32 - p) (drop p (pins cells))
    front =
        let s : suc (p - 1) ≡ p = omega arith in
        let m : at + 32 - (p - 1) ≡ suc (at + 32 - p) = omega (arith, R.high) in
        let d : drop (p - 1) (pins cells) ≡ n ∷ drop p (pins cells) = drop-cons (pins cells) (p - 1) 0 (omega (arith, R.inside, pins_many cells)) ∙ rw (s, en) in
        rw (d, m)

    first_step : (q : ℕ) → q < length reads → get_or (set now n v) q 0 ≡ slot_or slots (get_or reads q 0) (first_at q (p - 1) (n ∷ take (at + 32 - p) (drop p (pins cells))))
    unfolding first_at slot_or
    first_step q b =
        let s : suc (p - 1) ≡ p = omega arith in
        split (eqb n q)
        (λ t. let e = eqb_true n q t in rw (t, first_at) (ap (λ (i : ℕ). get_or (set now n v) i 0) (sym e) ∙ get_or-set_same now n v 0 (omega (arith, R.slotted.len)) ∙ ev))
        (λ t. let e = eqb_false n q t in rw (t, first_at, s) (get_or-set_other now n q v 0 (λ z. e (sym z)) ∙ R.slotted.each q b))

    -- one position more
    pub word_more : WordTo cells slots at (p - 1) reads (set now n v)
    word_more = record {
      high = omega (arith, R.high);
      inside = omega (arith, R.inside);
      low = inl (omega arith);
      slotted = record { len = length-set now n v ∙ R.slotted.len; each = λ q b. first_step q b ∙ ap (λ (l : List ℕ). slot_or slots (get_or reads q 0) (first_at q (p - 1) l)) (sym front) };
    }

  -- the whole word
  pub word_done : (w : ℕ) → at ≡ 32 * w → (p : ℕ) (now : List ℕ) → WordTo cells slots at p reads now → p ≤ at → WordRead cells slots w reads now
  unfolding first_at
  word_done w ew p now R h = record {
    len = R.slotted.len;
    each = λ q b. R.slotted.each q b ∙ ap (slot_or slots (get_or reads q 0)) (⊎_elim
        (λ l. let e : p ≡ at = omega arith in let m : at + 32 - at ≡ 32 = omega arith in rw (e, m, ew))
        (λ l. rw (drop_past (pins cells) p (omega (arith, pins_many cells)), drop_past (pins cells) (32 * w) (omega (arith, pins_many cells)), take-nil (at + 32 - p)))
        R.low);
  }

-- ---- the words of a stage

word_then : (slots cells : List ℕ) (q old w : ℕ) (ws : List ℕ) (x : Found) → first_at q (32 * w) (take 32 (drop (32 * w) (pins cells))) ≡ x →
    slot_or slots (slot_or slots old (in_words (pins cells) q ws)) x ≡ slot_or slots old (in_words (pins cells) q (w ∷ ws))
unfolding slot_or in_words
word_then slots cells q old w ws nothing e = rw (e, in_words)
word_then slots cells q old w ws (found p) e = rw (e, in_words)

-- the words from the i-th on are read
pub record WordsTo (cells slots words reads : List ℕ) (i : ℕ) (now : List ℕ) : Type 0 where
  pub upto : i ≤ length words
  pub slotted : Slotted slots reads now (λ q. in_words (pins cells) q (drop i words))

module _ (cells slots words reads : List ℕ) where
  -- none at the beginning
  pub words_none : WordsTo cells slots words reads (length words) reads
  unfolding in_words slot_or
  words_none = record { upto = omega arith; slotted = record { len = refl; each = λ q h. rw (drop-length words) } }

  -- one word more
  pub words_more : (i : ℕ) (now : List ℕ) → WordsTo cells slots words reads i now → 0 < i → (w : ℕ) → w ≡ get_or words (i - 1) 0 → (now' : List ℕ) → WordRead cells slots w now now' →
      WordsTo cells slots words reads (i - 1) now'
  words_more i now R h w ew now' W =
      let s : suc (i - 1) ≡ i = omega arith in
      let d : drop (i - 1) words ≡ w ∷ drop i words = drop-cons words (i - 1) 0 (omega (arith, R.upto)) ∙ rw (s, ew) in
      record {
        upto = omega (arith, R.upto);
        slotted = record {
          len = W.len ∙ R.slotted.len;
          each = λ q b. W.each q (omega (arith, R.slotted.len)) ∙ rw (R.slotted.each q b, d) (word_then slots cells q (get_or reads q 0) w (drop i words) _ refl);
        };
      }

  -- all words of a stage
  pub words_done : (i : ℕ) (now : List ℕ) → WordsTo cells slots words reads i now → i ≤ 0 → WordsRead cells slots words reads now
  words_done i now R h = let e : i ≡ 0 = omega arith in record { len = R.slotted.len; each = λ q b. R.slotted.each q b ∙ rw e }

-- ---- the stages

sum-append : (xs ys : List ℕ) → sum (xs ++ ys) ≡ sum xs + sum ys
unfolding sum
sum-append [] ys = omega arith
sum-append (x ∷ xs) ys = omega (arith, sum-append xs ys)

sum_one : (x : ℕ) → sum (x ∷ []) ≡ x
unfolding sum
sum_one x = omega arith

stage_then : (slots plan words counts : List ℕ) (size at q old c : ℕ) (x : Found) → in_words (pins (take size plan)) q (take c words) ≡ x →
    slot_or (drop at slots) (slot_or slots old (written_by size (at + size) q (drop size plan) (drop c words) counts)) x ≡ slot_or slots old (written_by size at q plan words (c ∷ counts))
unfolding slot_or written_by
stage_then slots plan words counts size at q old c nothing e = rw (e, written_by)
stage_then slots plan words counts size at q old c (found p) e = rw (e, written_by) (get_or-drop at slots p 0)

-- the stages from the k-th on are read
pub record PlanTo (size : ℕ) (plan slots words counts reads : List ℕ) (k at stop : ℕ) (now : List ℕ) : Type 0 where
  pub upto : k ≤ length counts
  pub from : at ≡ size * k
  pub inside : at ≤ length plan
  pub ends : stop ≡ sum (take k counts)
  pub ahead : stop ≤ length words
  pub slotted : Slotted slots reads now (λ q. written_by size at q (drop at plan) (drop stop words) (drop k counts))

module _ (size : ℕ) (plan slots words counts reads : List ℕ) (total : ℕ) (A : PlanAt size plan slots words counts total) where
  -- none at the beginning
  pub plan_none : PlanTo size plan slots words counts reads (length counts) (size * length counts) total reads
  unfolding written_by slot_or
  plan_none = record {
    upto = omega arith;
    from = refl;
    inside = A.room;
    ends = A.counted ∙ ap sum (sym (take-length counts));
    ahead = A.written;
    slotted = record { len = refl; each = λ q h. rw (drop-length counts) };
  }

  module _ (k at stop : ℕ) (now : List ℕ) (R : PlanTo size plan slots words counts reads k at stop now) (h : 0 < k) where
    -- a stage is left
    pub size_below : size ≤ at
    size_below =
        let s : suc (k - 1) ≡ k = omega arith in
        omega (arith, R.from, (rw s at (mul-suc size (k - 1))))

    at_lower : at - size ≡ size * (k - 1)
    at_lower =
        let s : suc (k - 1) ≡ k = omega arith in
        omega (arith, R.from, (rw s at (mul-suc size (k - 1))))

    -- its slots stand beside its cells
    pub stage_fits_lem : length (take (at - (at - size)) (drop (at - size) plan)) ≤ length (take (length slots - (at - size)) (drop (at - size) slots))
    stage_fits_lem =
        let l = length-take-le (at - (at - size)) (drop (at - size) plan) (omega (arith, length-drop (at - size) plan, R.inside)) in
        omega (arith, l, length-drop (at - size) slots, ap length (drop_whole slots (at - size)), A.slotted, R.inside)

    module _ (c : ℕ) (ec : c ≡ get_or counts (k - 1) 0) where
      sum_lower : sum (take k counts) ≡ sum (take (k - 1) counts) + c
      sum_lower =
          let s : suc (k - 1) ≡ k = omega arith in
          let t : take k counts ≡ take (k - 1) counts ++ (c ∷ []) = ap (λ (i : ℕ). take i counts) (sym s) ∙ take-suc counts (k - 1) 0 (omega (arith, R.upto)) ∙ rw ec in
          ap sum t ∙ sum-append (take (k - 1) counts) (c ∷ []) ∙ ap (λ (i : ℕ). sum (take (k - 1) counts) + i) (sum_one c)

      -- its words are left
      pub count_below : c ≤ stop
      count_below = omega (arith, R.ends, sum_lower)

      -- one stage more
      pub plan_more : (now' : List ℕ) → WordsRead (take (at - (at - size)) (drop (at - size) plan)) (take (length slots - (at - size)) (drop (at - size) slots)) (take (stop - (stop - c)) (drop (stop - c) words)) now now' →
          PlanTo size plan slots words counts reads (k - 1) (at - size) (stop - c) now'
      plan_more now' W =
          let s : suc (k - 1) ≡ k = omega arith in
          let d : drop (k - 1) counts ≡ c ∷ drop k counts = drop-cons counts (k - 1) 0 (omega (arith, R.upto)) ∙ rw (s, ec) in
          let a : at - (at - size) ≡ size = omega (arith, size_below) in
          let b : stop - (stop - c) ≡ c = omega (arith, count_below) in
          let u : at - size + size ≡ at = omega (arith, size_below) in
          let v : stop - c + c ≡ stop = omega (arith, count_below) in
          let p : drop size (drop (at - size) plan) ≡ drop at plan = drop-drop size (at - size) plan ∙ ap (λ (i : ℕ). drop i plan) u in
          let w : drop c (drop (stop - c) words) ≡ drop stop words = drop-drop c (stop - c) words ∙ ap (λ (i : ℕ). drop i words) v in
          record {
            upto = omega (arith, R.upto);
            from = at_lower;
            inside = omega (arith, R.inside);
            ends = omega (arith, R.ends, sum_lower);
            ahead = omega (arith, R.ahead);
            slotted = record {
              len = W.len ∙ R.slotted.len;
              each = λ q z. W.each q (omega (arith, R.slotted.len)) ∙ rw (drop_whole slots (at - size), a, b, R.slotted.each q z, d)
                  ((rw (p, w, u) at (stage_then slots (drop (at - size) plan) (drop (stop - c) words) (drop k counts) size (at - size) q (get_or reads q 0) c _ refl)));
            };
          }

  -- all stages
  pub plan_done : (k at stop : ℕ) (now : List ℕ) → PlanTo size plan slots words counts reads k at stop now → k ≤ 0 → PlanRead size plan slots words counts reads now
  unfolding sum
  plan_done k at stop now R h =
      let e : k ≡ 0 = omega arith in
      let a : at ≡ 0 = R.from ∙ rw e (omega arith) in
      let s : stop ≡ 0 = R.ends ∙ rw e in
      record { len = R.slotted.len; each = λ q b. R.slotted.each q b ∙ rw (e, a, s) }

-- ---- what that is of the definitions

module _ (size from q : ℕ) where
  by_nothing : (P W : List ℕ) (c : ℕ) (cs : List ℕ) → in_words (pins (take size P)) q (take c W) ≡ nothing → written_by size from q P W (c ∷ cs) ≡ written_by size (from + size) q (drop size P) (drop c W) cs
  unfolding written_by
  by_nothing P W c cs e = rw (e, written_by)

  by_found : (P W : List ℕ) (c : ℕ) (cs : List ℕ) (p : ℕ) → in_words (pins (take size P)) q (take c W) ≡ found p → written_by size from q P W (c ∷ cs) ≡ found (from + p)
  unfolding written_by
  by_found P W c cs p e = rw (e, written_by)

  at_nothing : (s : Stage) (ss : List Stage) → in_words (pins s.plan) q s.words ≡ nothing → written_at size from q (s ∷ ss) ≡ written_at size (from + size) q ss
  unfolding written_at
  at_nothing s ss e = rw (e, written_at)

  at_found : (s : Stage) (ss : List Stage) (p : ℕ) → in_words (pins s.plan) q s.words ≡ found p → written_at size from q (s ∷ ss) ≡ found (from + p)
  unfolding written_at
  at_found s ss p e = rw (e, written_at)

  stage_written : (s : Stage) (ss : List Stage) (P W : List ℕ) → take size (s.plan ++ P) ≡ s.plan → drop size (s.plan ++ P) ≡ P →
      written_by size (from + size) q P W (counts_of ss) ≡ written_at size (from + size) q ss → (x : Found) → in_words (pins s.plan) q s.words ≡ x →
      written_by size from q (s.plan ++ P) (s.words ++ W) (length s.words ∷ counts_of ss) ≡ written_at size from q (s ∷ ss)
  stage_written s ss P W t d i nothing e =
      let n = length s.words in
      let f : in_words (pins (take size (s.plan ++ P))) q (take n (s.words ++ W)) ≡ nothing = ap₂ (λ (a b : List ℕ). in_words (pins a) q b) t (take_at s.words W n refl) ∙ e in
      by_nothing (s.plan ++ P) (s.words ++ W) n (counts_of ss) f ∙ ap₂ (λ (a b : List ℕ). written_by size (from + size) q a b (counts_of ss)) d (drop_at s.words W n refl) ∙ i ∙ sym (at_nothing s ss e)
  stage_written s ss P W t d i (found p) e =
      let n = length s.words in
      let f : in_words (pins (take size (s.plan ++ P))) q (take n (s.words ++ W)) ≡ found p = ap₂ (λ (a b : List ℕ). in_words (pins a) q b) t (take_at s.words W n refl) ∙ e in
      by_found (s.plan ++ P) (s.words ++ W) n (counts_of ss) p f ∙ sym (at_found s ss p e)

-- Where the words laid out write a pin is where the stages do.
pub written_is : (size : ℕ) (ss : List Stage) → Sized size ss → (from q : ℕ) (x y : List ℕ) → written_by size from q (cells_of ss ++ x) (words_of ss ++ y) (counts_of ss) ≡ written_at size from q ss
unfolding cells_of words_of counts_of written_by written_at
written_is size [] Z from q x y = refl
written_is size (s ∷ ss) Z from q x y =
    let l : length s.plan ≡ size = Z.0 in
    rw (append_assoc s.plan (cells_of ss) x, append_assoc s.words (words_of ss) y)
    (stage_written size from q s ss (cells_of ss ++ x) (words_of ss ++ y) (take_at s.plan (cells_of ss ++ x) size l) (drop_at s.plan (cells_of ss ++ x) size l)
    (written_is size ss Z.1 (from + size) q x y) _ refl)

-- A pin that stood at slot 0 is read from the slot where the stages write it.
pub slot_read : (slots : List ℕ) (f : Found) → slot_or slots 0 f ≡ read_slot slots f
unfolding slot_or read_slot
slot_read slots nothing = refl
slot_read slots (found p) = refl
