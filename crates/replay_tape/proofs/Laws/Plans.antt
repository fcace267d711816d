-- A plan's slots and entries, stage after stage. Assumes nothing.
use Prim.Native.Nat.{ℕ, suc, ◌+◌, ◌-◌, ◌*◌, ◌/◌, ◌%◌, ◌^◌, ◌≤◌, ◌<◌}
use mathlib.Core.Path.{◌≡◌, refl, sym, ◌∙◌, ap, ap₂}
use mathlib.Core.List.{List, [], ◌++◌, append_assoc, append-nil}
use native.Mathlib.Omega.{arith}
use native.Mathlib.Numerals.{add-one}
use native.Mathlib.Nat.{mod-eq_of_lt, mod-eq-sub-mod, div-eq-sub-div, zero-div}
use lib.Dec.{eqb, ltb}
use lib.Pow.{pow_pos}
use lib.ListN.{length, get_or, set, take, drop, replicate, length-set, length-append, length-drop, length-take, length-replicate, get_or-replicate, get_or-append, get_or-eq_default}
use lib.Seq.{get_or-set_same, get_or-set_other, get_or-take, get_or-drop, get_or-append-add, drop-drop, drop-length, length-take-le, take_at}
use borrow.Author.Tests.{lt-ltb, le-ltb, ltb-true, ltb-false}
use Rattle.rules.specs.Lists.{nothing, found}
use Rattle.rules.specs.Cells.{empty, filled, rooms}
use Rattle.rules.specs.Graph.{Node}
use Rattle.rules.specs.Fold.{lowest}
use Rattle.rules.specs.Coded.{cell_pin, pins}
use Rattle.rules.proofs.Lists.Members.{split, eqb_true, eqb_false, true_false}
use Rattle.rules.proofs.Stage.Puts.{cell}
use Rattle.rules.proofs.Fold.Bits.{lowest_stands}
use Rattle.coded.proofs.Bits.{pin_at}
use Rattle.fold_stage.specs.Loads.{seen, Spread}
use Rattle.fold.specs.Stages.{Only, stage_from}
use Rattle.fold.proofs.Laws.Stages.{plan_stage, plan_up, plan_one}
use Rattle.replay_form.specs.Tape.{Made, stage_made, later_slot, first_slot, made_from}
use Rattle.replay_tape.specs.Running.{entries_of, Below}
use Rattle.replay_tape.specs.Sources.{load_in}
use Rattle.replay_tape.specs.Stages.{made_of, StageIn, StageOut}
use Rattle.replay_tape.specs.Plans.{Named, FirstSlots, Next, OneIn, NextIn, PlanIn, StepIn, Step, PlanMade}
use Rattle.replay_tape.proofs.Laws.Sources.{load_past, load_there}
use Rattle.replay_tape.proofs.Laws.Stages.{empty_slot}

-- ---- a part of a plan names no other pins

module _ (m n : ℕ) (xs : List ℕ) (N : Named m xs) where
  named_take : Named m (take n xs)
  unfolding filled empty
  named_take = record {
    small = λ p f. split (ltb p n)
        (λ t. let e : get_or (take n xs) p empty ≡ get_or xs p empty = get_or-take n xs p empty (ltb-true p n t) in rw e (N.small p (rw e at f)))
        (λ t. let e : get_or (take n xs) p empty ≡ empty = get_or-eq_default (take n xs) empty {n = p} (omega (arith, length-take n xs, ltb-false p n t)) in true_false (rw e at f) refl);
  }

  named_drop : Named m (drop n xs)
  named_drop = record { small = λ p f. let e : get_or (drop n xs) p empty ≡ get_or xs (n + p) empty = get_or-drop n xs p empty in rw e (N.small (n + p) (rw e at f)) }

-- ---- stage 1

module _ (m n : ℕ) where
  -- a pin is in its own slot
  pub first_own : n < m → n ≡ first_slot m n
  unfolding first_slot
  first_own h = rw (lt-ltb n m h, first_slot)

  first_small : n < m → first_slot m n < m
  first_small h = rw (← first_own h) h

  first_none : m ≤ n → 0 ≡ first_slot m n
  unfolding first_slot
  first_none h = rw (le-ltb n m h, first_slot)

-- the pins below p have their slots
pub record SlotsTo (l : List ℕ) (p : ℕ) (now : List ℕ) : Type 0 where
  pub len : length now ≡ length l
  pub each : (n : ℕ) → n < p → get_or now n 0 ≡ first_slot (length l) n

module _ (l : List ℕ) where
  -- none at the beginning
  pub slots_none : SlotsTo l 0 l
  slots_none = record { len = refl; each = λ n h. absurd (omega arith) }

  -- one pin more
  pub slots_more : (p : ℕ) (now : List ℕ) → SlotsTo l p now → p < length now → (v : ℕ) → v ≡ p → SlotsTo l (p + 1) (set now p v)
  slots_more p now T h v ev = record {
    len = length-set now p v ∙ T.len;
    each = λ n b. split (eqb n p)
        (λ t. let e = eqb_true n p t in rw (e, get_or-set_same now p v 0 h) (ev ∙ first_own (length l) p (omega (arith, T.len))))
        (λ t. let e = eqb_false n p t in get_or-set_other now p n v 0 e ∙ T.each n (omega (arith, e)));
  }

  -- all pins
  pub slots_done : (p : ℕ) (now : List ℕ) → SlotsTo l p now → length now ≤ p → FirstSlots l now
  slots_done p now T h = record { len = T.len; each = λ n b. T.each n (omega (arith, T.len)) }

-- ---- from a stage to the next

module _ (K m : ℕ) (cells l : List ℕ) (e : ℕ) (w t u t' : List ℕ) (e' : ℕ) (I : StageIn K m e cells l w t) (named : Named m cells) (S : StageOut K m cells l e w t u t' e')
    (v x : List ℕ) (Z : v ≡ replicate (length l) 0) (F : Spread K (pins cells) (λ (p : ℕ). get_or u p 0) v x) where
  same : length v ≡ m
  same = ap length Z ∙ length-replicate (length l) 0 ∙ I.pins

  none_left : (n : ℕ) → n < m → lowest K (pins cells) n ≡ nothing → get_or x n 0 ≡ 0
  unfolding seen
  none_left n h k = F.each n (omega (arith, same)) ∙ rw k (ap (λ (u : List ℕ). get_or u n 0) Z ∙ get_or-replicate (length l) n 0 0 (omega (arith, I.pins)))

  one_left : (n p : ℕ) → n < m → lowest K (pins cells) n ≡ found p → get_or x n 0 ≡ get_or u p 0
  unfolding seen
  one_left n p h k = F.each n (omega (arith, same)) ∙ rw k

  -- what holds no pin with a number is an empty cell, which has slot 0
  slot_past : (n p : ℕ) → m ≤ n → p < 2 ^ (K + 1) → cell_pin (get_or cells p empty) ≡ n → get_or u p 0 ≡ 0
  slot_past n p h i k = split (filled (get_or cells p empty)) (λ f. absurd (omega (arith, named.small p f)))
      (λ f. ap (λ (r : Made). get_or r.slots p 0) (sym S.made) ∙ empty_slot m K cells (load_in l) (entries_of e t) p i f)

  later : (n : ℕ) → load_in x n ≡ later_slot K cells u n
  unfolding later_slot
  later n = cell (lowest K (pins cells) n)
      (λ k. rw (k, later_slot) (split (ltb n m)
      (λ b. sym (load_there x n n refl) ∙ none_left n (ltb-true n m b) k)
      (λ b. sym (load_past x n n refl (omega (arith, F.len, same, ltb-false n m b))))))
      (λ p k.
      let s = lowest_stands K (pins cells) n p k in
      let d = I.up.stage.double in
      let i : p < 2 ^ (K + 1) = omega (arith, s.high) in
      rw (k, later_slot) (split (ltb n m)
      (λ b. sym (load_there x n n refl) ∙ one_left n p (ltb-true n m b) k)
      (λ b. let h = ltb-false n m b in sym (load_past x n n refl (omega (arith, F.len, same))) ∙ sym (slot_past n p h i (sym (pin_at cells p) ∙ s.pin)))))

  -- a stage made, the loads cleared and the next ones stored: what it leaves
  pub next_made : (load : ℕ → ℕ) → load_in l ≡ load → Next K m cells load e t u x t' e'
  next_made load el = record {
    wlen = S.wlen ∙ I.up.same ∙ I.up.stage.size;
    llen = F.len ∙ same;
    tlen = S.tlen;
    more = S.more;
    count = S.count;
    made = ap (λ (f : ℕ → ℕ). stage_made m K cells f (entries_of e t)) (sym el) ∙ S.made;
    next = λ i n. later n i;
    only = record { none = λ n h. none_left n (omega (arith, F.len, same)) };
    slots = S.small;
    loads = λ n h. cell (lowest K (pins cells) n)
        (λ k. rw (none_left n h k) (omega (arith, I.one)))
        (λ p k. let s = lowest_stands K (pins cells) n p k in rw (one_left n p h k) (S.small p (omega (arith, s.high, I.up.stage.double))));
    below = S.below;
  }

-- stage 1, whose loads are the pins' own slots
module _ (K m : ℕ) (cells w l t : List ℕ) (O : OneIn K m cells w l t) (u : List ℕ) (F : FirstSlots l u) where
  first_slot_lem : (n : ℕ) → n < m → get_or u n 0 ≡ first_slot m n
  first_slot_lem n h = F.each n (omega (arith, O.pins)) ∙ ap (λ (k : ℕ). first_slot k n) O.pins

  -- what is asked of stage 1
  pub one_in : StageIn K m 0 cells u w t
  one_in = record {
    up = O.up;
    pins = F.len ∙ O.pins;
    few = O.few;
    space = omega (arith, O.space);
    fits = omega (arith, O.fits);
    one = O.one;
    small = λ n h. rw (first_slot_lem n h) (omega (arith, first_small m n h));
    below = record { first = λ k h. absurd (omega arith); second = λ k h. absurd (omega arith) };
  }

  first_load : (n : ℕ) → load_in u n ≡ first_slot m n
  first_load n = split (ltb n m)
      (λ k. sym (load_there u n n refl) ∙ first_slot_lem n (ltb-true n m k))
      (λ k. let h = ltb-false n m k in sym (load_past u n n refl (omega (arith, F.len, O.pins))) ∙ first_none m n h)

  -- it loads them
  pub first_loads : load_in u ≡ first_slot m
  first_loads = λ i n. first_load n i

-- ---- all the stages

-- the tape of all stages of a plan
unfoldable pub made_all : (K m : ℕ) → (ℕ → ℕ) → List Node → List ℕ → Made
made_all K m load tape plan = made_from (rooms K (length plan)) m K load tape plan

-- slots in front of a tape's
abbrev pub joined : List ℕ → Made → Made
joined xs r = made_of (xs ++ r.slots) r.tape

module _ (K m : ℕ) (load : ℕ → ℕ) (tape : List Node) where
  all_step : (plan : List ℕ) → 2 ^ (K + 1) ≤ length plan → (s : Made) → stage_made m K (take (2 ^ (K + 1)) plan) load tape ≡ s →
      made_all K m load tape plan ≡ joined s.slots (made_all K m (later_slot K (take (2 ^ (K + 1)) plan) s.slots) s.tape (drop (2 ^ (K + 1)) plan))
  unfolding made_all rooms made_from
  all_step plan h s es =
      let e : length plan / 2 ^ (K + 1) ≡ suc ((length plan - 2 ^ (K + 1)) / 2 ^ (K + 1)) = div-eq-sub-div (pow_pos (K + 1)) h ∙ add-one ((length plan - 2 ^ (K + 1)) / 2 ^ (K + 1)) in
      rw (e, length-drop (2 ^ (K + 1)) plan)
      (ap (λ (r : Made). joined r.slots (made_from ((length plan - 2 ^ (K + 1)) / 2 ^ (K + 1)) m K (later_slot K (take (2 ^ (K + 1)) plan) r.slots) r.tape (drop (2 ^ (K + 1)) plan))) es)

  all_none : made_all K m load tape [] ≡ made_of [] tape
  unfolding made_all rooms made_from
  all_none = rw zero-div

-- the plan's stages before `at` are made, and what the one there loads is there
pub record Standing (K m : ℕ) (plan w t : List ℕ) (at : ℕ) (now l tape : List ℕ) (e : ℕ) : Type 0 where
  pub wlen : length now ≡ length w
  pub llen : length l ≡ m
  pub tlen : length tape ≡ length t
  pub before : 2 ^ (K + 1) ≤ at
  pub upto : at ≤ length plan
  pub whole : (length plan - at) % 2 ^ (K + 1) ≡ 0
  pub count : 2 * e ≤ at
  pub done : made_all K m (first_slot m) [] plan
      ≡ joined (take at now) (made_all K m (load_in l) (entries_of e tape) (drop at plan))
  pub only : Only K (stage_from K (at - 2 ^ (K + 1)) plan) l
  pub slots : (q : ℕ) → q < at → get_or now q 0 < m + e
  pub loads : (n : ℕ) → n < m → get_or l n 0 < m + e
  pub below : Below m e tape

at_is : (K m : ℕ) (plan w t now l tape : List ℕ) (e at to : ℕ) → at ≡ to → Standing K m plan w t to now l tape e → Standing K m plan w t at now l tape e
at_is K m plan w t now l tape e at to d T = rw d T

one_left_over : (x d : ℕ) → x % d ≡ 0 → 0 < x → d ≤ x
one_left_over x d e h = split (ltb x d) (λ t. let b = ltb-true x d t in absurd (omega (arith, mod-eq_of_lt b))) (λ t. ltb-false x d t)

-- the same asked with areas of the same lengths
pub plan_in : (K m : ℕ) (plan w l t u y v : List ℕ) → length u ≡ length w → length y ≡ m → length v ≡ length t → PlanIn K m plan w l t → PlanIn K m plan u y v
plan_in K m plan w l t u y v a c b P = record {
  passed = record { height = P.passed.height; low = P.passed.low; high = P.passed.high; double = P.passed.double; whole = P.passed.whole; room = omega (arith, P.passed.room) };
  named = P.named;
  pins = c;
  few = P.few;
  one = P.one;
  space = omega (arith, P.space);
  fits = P.fits;
}

-- a part of S numbers laid into a list at `at`
module _ (at S : ℕ) (w part w' : List ℕ) (size : length part ≡ S) (room : at + S ≤ length w) (area : w' ≡ take at w ++ (part ++ drop (at + S) w)) where
  parted : w' ≡ (take at w ++ part) ++ drop (at + S) w
  parted = area ∙ sym (append_assoc (take at w) part (drop (at + S) w))

  ahead : length (take at w) ≡ at
  ahead = length-take-le at w (omega arith)

  front : length (take at w ++ part) ≡ at + S
  front = length-append (take at w) part ∙ omega (arith, ahead)

  part_front : take (at + S) w' ≡ take at w ++ part
  part_front = ap (take (at + S)) parted ∙ take_at (take at w ++ part) (drop (at + S) w) (at + S) front

  part_length : length w' ≡ length w
  part_length = ap length parted ∙ length-append (take at w ++ part) (drop (at + S) w) ∙ omega (arith, front, length-drop (at + S) w)

  part_before : (q : ℕ) → q < at → get_or w' q 0 ≡ get_or w q 0
  part_before q h =
      ap (λ (l : List ℕ). get_or l q 0) area ∙ get_or-append (take at w) (part ++ drop (at + S) w) 0 q (omega (arith, ahead)) ∙ get_or-take at w q 0 h

  part_there : (q : ℕ) → q < S → get_or w' (at + q) 0 ≡ get_or part q 0
  part_there q h =
      ap₂ (λ (l : List ℕ) (n : ℕ). get_or l (n + q) 0) area (sym ahead) ∙ get_or-append-add (take at w) (part ++ drop (at + S) w) q 0
      ∙ get_or-append part (drop (at + S) w) 0 q (omega (arith, size))

module _ (K m : ℕ) (plan w l t : List ℕ) (P : PlanIn K m plan w l t) where
  -- stage 1, lent as plan[0..s], and its slots as slots[0..s]
  pub one_at : (length plan ≡ 0 → ⊥) → (s : ℕ) → s ≡ 2 ^ (K + 1) → OneIn K m (take (s - 0) plan) (take (s - 0) w) l t
  one_at n s es =
      let h = plan_one K plan w P.passed n in
      let d = P.passed.double in
      record {
        up = plan_up K plan w P.passed 0 s (omega arith) (omega arith);
        named = named_take m (s - 0) plan P.named;
        pins = P.pins;
        few = P.few;
        one = P.one;
        space = omega (arith, P.space);
        fits = omega (arith, P.fits);
      }

  module _ (n : length plan ≡ 0 → ⊥) (s : ℕ) (es : s ≡ 2 ^ (K + 1)) (part y tape : List ℕ) (e : ℕ) (N : Next K m (take (s - 0) plan) (first_slot m) 0 t part y tape e) where
    first_area : part ++ drop (s - 0) w ≡ take 0 w ++ (part ++ drop (0 + 2 ^ (K + 1)) w)
    first_area = let z : s - 0 ≡ 0 + 2 ^ (K + 1) = omega arith in rw z

    fits_one : 0 + 2 ^ (K + 1) ≤ length w
    fits_one = omega (arith, plan_one K plan w P.passed n, P.passed.room)

    -- the slots keep their number
    pub first_length : length (part ++ drop (s - 0) w) ≡ length w
    first_length = part_length 0 (2 ^ (K + 1)) w part (part ++ drop (s - 0) w) N.wlen fits_one first_area

    begun : Next K m (take (2 ^ (K + 1)) plan) (first_slot m) 0 t part y tape e → Standing K m plan (part ++ drop (s - 0) w) tape (2 ^ (K + 1)) (part ++ drop (s - 0) w) y tape e
    unfolding entries_of
    begun M =
        let S = 2 ^ (K + 1) in
        let now = part ++ drop (s - 0) w in
        let z : S - S ≡ 0 = omega arith in
        let o : 0 + S ≡ S = omega arith in
        let d = P.passed.double in
        let h = plan_one K plan w P.passed n in
        let f : take S now ≡ part = rw o at (part_front 0 S w part now N.wlen fits_one first_area) in
        record {
          wlen = refl;
          llen = M.llen;
          tlen = refl;
          before = omega arith;
          upto = h;
          whole = sym (mod-eq-sub-mod h) ∙ P.passed.whole;
          count = omega (arith, M.count);
          done = all_step K m (first_slot m) [] plan h _ M.made
              ∙ ap₂ (λ (f : ℕ → ℕ) (a : List ℕ). joined a (made_all K m f (entries_of e tape) (drop S plan))) (sym M.next) (sym f);
          only = rw z M.only;
          slots = λ q b. let p : 0 + q ≡ q = omega arith in rw (← part_there 0 S w part now N.wlen fits_one first_area q b, p) at (M.slots q b);
          loads = M.loads;
          below = M.below;
        }

    -- and the plan is made as far as stage 2
    pub standing_first : Standing K m plan (part ++ drop (s - 0) w) tape s (part ++ drop (s - 0) w) y tape e
    standing_first = let z : s - 0 ≡ 2 ^ (K + 1) = omega arith in at_is K m plan _ _ _ _ _ _ s (2 ^ (K + 1)) es (begun (rw z at N))

  module _ (u v : List ℕ) (lu : length u ≡ length w) (lv : length v ≡ length t) (at : ℕ) (now y tape : List ℕ) (e : ℕ) (T : Standing K m plan u v at now y tape e) (h : at < length plan) where
    -- while the plan's end is not reached a stage is left
    pub stage_left : at + 2 ^ (K + 1) ≤ length plan
    stage_left = omega (arith, one_left_over (length plan - at) (2 ^ (K + 1)) T.whole (omega arith))

    -- and may be made
    pub standing_step : StepIn K m plan at e now y tape
    standing_step = record {
      plans = plan_in K m plan w l t now y tape (T.wlen ∙ lu) T.llen (T.tlen ∙ lv) P;
      before = T.before;
      here = stage_left;
      count = T.count;
      loads = T.loads;
      below = T.below;
      only = T.only;
    }

    more : (x y' tape' : List ℕ) (e' : ℕ) → Step K m (stage_from K at plan) (load_in y) at e now tape x y' tape' e' → Standing K m plan u v (at + 2 ^ (K + 1)) x y' tape' e'
    more x y' tape' e' Q =
        let S = 2 ^ (K + 1) in
        let N = Q.next in
        let part = Q.part in
        let d = P.passed.double in
        let fits : at + S ≤ length now = omega (arith, stage_left, T.wlen, lu, P.passed.room) in
        let r : length plan - (at + S) ≡ length plan - at - S = omega arith in
        let z : at + S - S ≡ at = omega arith in
        let rest = made_all K m (load_in y') (entries_of e' tape') (drop (at + S) plan) in
        record {
          wlen = part_length at S now part x N.wlen fits Q.area ∙ T.wlen;
          llen = N.llen;
          tlen = N.tlen ∙ T.tlen;
          before = omega arith;
          upto = stage_left;
          whole = rw r (sym (mod-eq-sub-mod {n = length plan - at} {m = S} (omega (arith, stage_left))) ∙ T.whole);
          count = omega (arith, N.count, T.count);
          done = T.done
              ∙ ap (joined (take at now)) (all_step K m (load_in y) (entries_of e tape) (drop at plan) (rw length-drop (omega (arith, stage_left))) _ N.made
              ∙ ap₂ (λ (f : ℕ → ℕ) (l : List ℕ). joined part (made_all K m f (entries_of e' tape') l)) (sym N.next) (drop-drop S at plan))
              ∙ ap (λ (l : List ℕ). made_of l rest.tape) (sym (append_assoc (take at now) part rest.slots) ∙ ap (λ (l : List ℕ). l ++ rest.slots) (sym (part_front at S now part x N.wlen fits Q.area)));
          only = rw z N.only;
          slots = λ q b. split (ltb q at)
              (λ k. let a = ltb-true q at k in rw (part_before at S now part x N.wlen fits Q.area q a) (omega (arith, T.slots q a, N.more)))
              (λ k.
              let a = ltb-false q at k in
              let j : at + (q - at) ≡ q = omega arith in
              rw (← part_there at S now part x N.wlen fits Q.area (q - at) (omega arith), j) at (N.slots (q - at) (omega arith)));
          loads = N.loads;
          below = N.below;
        }

    -- with one more stage made the plan is made that much further
    pub standing_more : (s : ℕ) → s ≡ 2 ^ (K + 1) → (x y' tape' : List ℕ) (e' : ℕ) →
        Step K m (stage_from K at plan) (load_in y) at e now tape x y' tape' e' → Standing K m plan u v (at + s) x y' tape' e'
    standing_more s es x y' tape' e' N = rw es (more x y' tape' e' N)

  -- the whole plan is made
  pub standing_done : (u v : List ℕ) → length u ≡ length w → length v ≡ length t → (at : ℕ) (now y tape : List ℕ) (e : ℕ) → Standing K m plan u v at now y tape e → length plan ≤ at → PlanMade K m plan w l t now y tape e
  unfolding made_all
  standing_done u v lu lv at now y tape e T h =
      let a : at ≡ length plan = omega (arith, T.upto) in
      record {
        wlen = T.wlen ∙ lu;
        llen = T.llen ∙ sym P.pins;
        tlen = T.tlen ∙ lv;
        count = omega (arith, T.count);
        made = T.done ∙ rw (a, drop-length plan, all_none K m (load_in y) (entries_of e tape), append-nil (take (length plan) now));
        slots = λ q b. T.slots q (omega arith);
        below = T.below;
      }

  -- of an empty plan nothing is to be made
  pub standing_none : length plan ≡ 0 → PlanMade K m plan w l t w l t 0
  unfolding entries_of rooms made_from
  standing_none z = record {
    wlen = refl;
    llen = refl;
    tlen = refl;
    count = omega arith;
    made = rw (z, zero-div);
    slots = λ q b. absurd (omega arith);
    below = record { first = λ k b. absurd (omega arith); second = λ k b. absurd (omega arith) };
  }

-- a later stage, lent as plan[at..b], and the one before, lent as plan[a..at]
module _ (K m : ℕ) (plan : List ℕ) (at e : ℕ) (w l t : List ℕ) (T : StepIn K m plan at e w l t) (s a b : ℕ) (es : s ≡ 2 ^ (K + 1)) (ea : a ≡ at - s) (eb : b ≡ at + s) where
  -- may be made
  pub step_in : NextIn K m (take (at - a) (drop a plan)) (take (b - at) (drop at plan)) e (take (b - at) (drop at w)) l t
  step_in =
      let P = T.plans.passed in
      let h = T.here in
      let i = T.before in
      let d = P.double in
      record {
        stage = record {
          up = plan_up K plan w P at b (omega arith) (omega arith);
          pins = T.plans.pins;
          few = T.plans.few;
          space = omega (arith, T.plans.space, T.count);
          fits = omega (arith, T.plans.fits, T.count);
          one = T.plans.one;
          small = T.loads;
          below = T.below;
        };
        named = named_take m (b - at) (drop at plan) (named_drop m at plan T.plans.named);
        last = plan_stage K plan w P a at (omega arith) (omega arith);
        only = let x : at - a ≡ 2 ^ (K + 1) = omega arith in let y : a ≡ at - 2 ^ (K + 1) = omega arith in rw (x, y) T.only;
      }

  -- and stands in its place
  pub step_out : (part l' t' : List ℕ) (e' : ℕ) → Next K m (take (b - at) (drop at plan)) (load_in l) e t part l' t' e' →
      Step K m (stage_from K at plan) (load_in l) at e w t (take at w ++ (part ++ drop (b - at) (drop at w))) l' t' e'
  step_out part l' t' e' N =
      let z : b - at ≡ 2 ^ (K + 1) = omega arith in
      let d : at + (b - at) ≡ at + 2 ^ (K + 1) = omega arith in
      record { part = part; area = ap (λ (r : List ℕ). take at w ++ (part ++ r)) (drop-drop (b - at) at w ∙ ap (λ (n : ℕ). drop n w) d); next = rw z at N }
