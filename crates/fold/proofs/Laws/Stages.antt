-- Stage after stage: what the next one loads, and the bits of a plan as far as they are folded. Assumes nothing.
use Prim.Native.Nat.{ℕ, ◌+◌, ◌-◌, ◌%◌, ◌^◌, ◌≤◌, ◌<◌}
use mathlib.Core.Path.{◌≡◌, refl, sym, ◌∙◌, ap}
use mathlib.Core.Bool.{Bool, true}
use mathlib.Core.List.{List, [], ◌∷◌, ◌++◌, append_assoc, append-nil}
use native.Mathlib.Omega.{arith}
use native.Mathlib.Nat.{mod-eq_of_lt, mod-eq-sub-mod}
use lib.Dec.{ltb}
use lib.ListN.{length, get_or, take, drop, replicate, length-append, length-drop, length-replicate, get_or-replicate, take-append-drop}
use lib.Seq.{drop-drop, drop-length, length-take-le, take_at, drop_at, ext_get_or}
use borrow.Author.Tests.{ltb-true, ltb-false}
use Rattle.rules.specs.Lists.{nothing, found, laid_over}
use Rattle.rules.specs.Cells.{is_height}
use Rattle.rules.specs.Graph.{own_bit}
use Rattle.rules.specs.Fold.{as_number, lowest}
use Rattle.rules.specs.Coded.{pins, bit_of, load_of, cell_bits, fold_cells}
use Rattle.rules.proofs.Lists.Members.{split}
use Rattle.rules.proofs.Stage.Puts.{cell}
use Rattle.rules.proofs.Fold.Bits.{lowest_stands}
use Rattle.cells.specs.Answers.{or_zero}
use Rattle.cells.proofs.Heights.{or_zero_true}
use Rattle.fold_stage.specs.Bits.{StageAt, UpAt}
use Rattle.fold_stage.specs.Loads.{held, seen, Spread}
use Rattle.fold_stage.proofs.Laws.Cells.{bit_number}
use Rattle.fold_stage.proofs.Laws.Loads.{held_past}
use Rattle.coded.proofs.Bits.{load_none, load_found, load_past, length-cell_bits, get_or-cell_bits, folded, folded_step, folded_none}
use Rattle.fold.specs.Stages.{Only, Left, Folds, OneAt, NextAt, PlanAt, stage_from, StepAt, Steps}

-- ---- from a stage to the next

-- pins of the stage before alone had a load, and load 0 again
pub forgotten : (K : ℕ) (before l v : List ℕ) → Only K before l → Spread K (pins before) (λ (p : ℕ). 0) l v → v ≡ replicate (length l) 0
unfolding seen
forgotten K before l v O F = ext_get_or 0 v (replicate (length l) 0) (F.len ∙ sym (length-replicate (length l) 0)) (λ n h.
    let b : n < length l = omega (arith, F.len) in
    F.each n b ∙ cell (lowest K (pins before) n) (λ e. rw e (O.none n b e)) (λ p e. rw e) ∙ sym (get_or-replicate (length l) n 0 0 b))

module _ (K : ℕ) (load : ℕ → Bool) (cells bits l : List ℕ) (T : StageAt K cells) (size : length l ≡ 65536) (F : bits ≡ cell_bits K cells load) where
  module _ (v x : List ℕ) (Z : v ≡ replicate (length l) 0) (S : Spread K (pins cells) (λ (p : ℕ). get_or bits p 0) v x) where
    same : length v ≡ length l
    same = ap length Z ∙ length-replicate (length l) 0

    none_left : (n : ℕ) → n < length l → lowest K (pins cells) n ≡ nothing → get_or x n 0 ≡ 0
    unfolding seen
    none_left n h e = S.each n (omega (arith, same)) ∙ rw e (ap (λ (u : List ℕ). get_or u n 0) Z ∙ get_or-replicate (length l) n 0 0 h)

    one_left : (n p : ℕ) → n < length l → lowest K (pins cells) n ≡ found p → get_or x n 0 ≡ as_number (bit_of K cells load p)
    unfolding seen
    one_left n p h e =
        let t = lowest_stands K (pins cells) n p e in
        S.each n (omega (arith, same)) ∙ rw e (ap (λ (b : List ℕ). get_or b p 0) F ∙ get_or-cell_bits K cells load p (omega (arith, t.high, T.double)))

    next_load : (n : ℕ) → held x n ≡ load_of K cells load n
    unfolding held
    next_load n = split (ltb n (length l))
        (λ t. let h = ltb-true n (length l) t in cell (lowest K (pins cells) n)
        (λ e. rw (none_left n h e) (sym (load_none K cells load n e)))
        (λ p e. rw (one_left n p h e) (bit_number (bit_of K cells load p) ∙ sym (load_found K cells load n p e))))
        (λ t. let b = ltb-false n (length l) t in
        sym (held_past x n n refl (omega (arith, S.len, same))) ∙ sym (load_past K cells load n (omega (arith, size))))

    -- a stage folded, the loads cleared and the next ones stored: what it leaves
    pub left : Left K load cells l x
    left = record { len = S.len ∙ same; next = λ i n. next_load n i; only = record { none = λ n h e. none_left n (omega (arith, S.len, same)) e } }

-- ---- a stage in its place

-- the size of a stage, as the code gets it for a right height
pub size_there : (K s : ℕ) → is_height K ≡ true → s ≡ or_zero (is_height K) (2 ^ (K + 1)) → s ≡ 2 ^ (K + 1)
size_there K s h e = rw (h, or_zero_true (2 ^ (K + 1))) at e

part_length : (a e n : ℕ) (xs : List ℕ) → e ≡ a + n → e ≤ length xs → length (take (e - a) (drop a xs)) ≡ n
part_length a e n xs ee h = length-take-le (e - a) (drop a xs) (rw length-drop (omega arith)) ∙ omega arith

module _ (K : ℕ) (plan w : List ℕ) (P : PlanAt K plan w) (a e : ℕ) (ee : e ≡ a + 2 ^ (K + 1)) (h : e ≤ length plan) where
  -- a stage of the plan, lent as plan[a..e]
  pub plan_stage : StageAt K (take (e - a) (drop a plan))
  plan_stage = record { height = P.height; low = P.low; high = P.high; double = P.double; size = part_length a e (2 ^ (K + 1)) plan ee h }

  -- with as many numbers of the result area
  pub plan_up : UpAt K (take (e - a) (drop a plan)) (take (e - a) (drop a w))
  plan_up = record { stage = plan_stage; same = part_length a e (2 ^ (K + 1)) w ee (omega (arith, P.room)) ∙ sym (part_length a e (2 ^ (K + 1)) plan ee h) }

-- the stage at `at`, lent as plan[at..e], and its bits in the part that was lent as area[at..e]
pub stepped : (K : ℕ) (load : ℕ → Bool) (plan b : List ℕ) (at e s : ℕ) (w l l' : List ℕ) → s ≡ 2 ^ (K + 1) → e ≡ at + s → Folds K load (take (e - at) (drop at plan)) b l l' →
    Steps K load (stage_from K at plan) at w (take at w ++ (b ++ drop (e - at) (drop at w))) l l'
stepped K load plan b at e s w l l' es ee F =
    let z : e - at ≡ 2 ^ (K + 1) = omega arith in
    let d : at + (e - at) ≡ at + 2 ^ (K + 1) = omega arith in
    let G : Folds K load (stage_from K at plan) b l l' = rw z at F in
    record { area = λ i. take at w ++ (G.bits i ++ (drop-drop (e - at) at w ∙ ap (λ (n : ℕ). drop n w) d) i); left = G.left }

module _ (K : ℕ) (load : ℕ → Bool) (cells : List ℕ) (at : ℕ) (w w' l l' : List ℕ) (room : at + 2 ^ (K + 1) ≤ length w) (S : Steps K load cells at w w' l l') where
  parted : w' ≡ (take at w ++ cell_bits K cells load) ++ drop (at + 2 ^ (K + 1)) w
  parted = S.area ∙ sym (append_assoc (take at w) (cell_bits K cells load) (drop (at + 2 ^ (K + 1)) w))

  front : length (take at w ++ cell_bits K cells load) ≡ at + 2 ^ (K + 1)
  front = length-append (take at w) (cell_bits K cells load) ∙ omega (arith, length-take-le at w (omega arith), length-cell_bits K cells load)

  step_front : take (at + 2 ^ (K + 1)) w' ≡ take at w ++ cell_bits K cells load
  step_front = ap (take (at + 2 ^ (K + 1))) parted ∙ take_at (take at w ++ cell_bits K cells load) (drop (at + 2 ^ (K + 1)) w) (at + 2 ^ (K + 1)) front

  step_back : drop (at + 2 ^ (K + 1)) w' ≡ drop (at + 2 ^ (K + 1)) w
  step_back = ap (drop (at + 2 ^ (K + 1))) parted ∙ drop_at (take at w ++ cell_bits K cells load) (drop (at + 2 ^ (K + 1)) w) (at + 2 ^ (K + 1)) front

  step_length : length w' ≡ length w
  step_length = ap length parted ∙ length-append (take at w ++ cell_bits K cells load) (drop (at + 2 ^ (K + 1)) w) ∙ omega (arith, front, length-drop (at + 2 ^ (K + 1)) w)

drop_more : (a n : ℕ) (u v : List ℕ) → a ≤ n → drop a u ≡ drop a v → drop n u ≡ drop n v
drop_more a n u v h e =
    let d : n ≡ a + (n - a) = omega arith in
    rw d (sym (drop-drop (n - a) a u) ∙ ap (drop (n - a)) e ∙ drop-drop (n - a) a v)

-- ---- a plan as far as it is folded

-- the plan is folded up to a stage's start, and the loads of the next stage are there
pub record Standing (K : ℕ) (load : ℕ → Bool) (plan w : List ℕ) (at : ℕ) (now l : List ℕ) : Type 0 where
  pub len : length now ≡ length w
  pub room : length plan ≤ length now
  pub size : length l ≡ 65536
  pub before : 2 ^ (K + 1) ≤ at
  pub upto : at ≤ length plan
  pub whole : (length plan - at) % 2 ^ (K + 1) ≡ 0
  pub done : folded K load plan ≡ take at now ++ folded K (held l) (drop at plan)
  pub back : drop at now ≡ drop at w
  pub only : Only K (stage_from K (at - 2 ^ (K + 1)) plan) l

at_is : (K : ℕ) (load : ℕ → Bool) (plan u now l : List ℕ) (at to : ℕ) → at ≡ to → Standing K load plan u to now l → Standing K load plan u at now l
at_is K load plan u now l at to e T = rw e T

one_stage_lem : (x d : ℕ) → x % d ≡ 0 → 0 < x → d ≤ x
one_stage_lem x d e h = split (ltb x d) (λ t. let b = ltb-true x d t in absurd (omega (arith, mod-eq_of_lt b))) (λ t. ltb-false x d t)

module _ (K : ℕ) (load : ℕ → Bool) (plan u : List ℕ) (at : ℕ) (now l : List ℕ) (T : Standing K load plan u at now l) (h : at < length plan) where
  -- while the plan's end is not reached a stage is left
  pub stage_left : at + 2 ^ (K + 1) ≤ length plan
  stage_left = omega (arith, one_stage_lem (length plan - at) (2 ^ (K + 1)) T.whole (omega arith))

  more : (x m : List ℕ) → Steps K (held l) (stage_from K at plan) at now x l m → Standing K load plan u (at + 2 ^ (K + 1)) x m
  more x m S =
      let fits : at + 2 ^ (K + 1) ≤ length now = omega (arith, stage_left, T.room) in
      let e : length plan - (at + 2 ^ (K + 1)) ≡ length plan - at - 2 ^ (K + 1) = omega arith in
      let z : at + 2 ^ (K + 1) - 2 ^ (K + 1) ≡ at = omega arith in
      let f = step_front K (held l) (stage_from K at plan) at now x l m fits S in
      let k = step_length K (held l) (stage_from K at plan) at now x l m fits S in
      record {
        len = k ∙ T.len;
        room = omega (arith, k, T.room);
        size = S.left.len ∙ T.size;
        before = omega arith;
        upto = stage_left;
        whole = rw e (sym (mod-eq-sub-mod {n = length plan - at} {m = 2 ^ (K + 1)} (omega (arith, stage_left))) ∙ T.whole);
        done = T.done
            ∙ ap (λ (u : List ℕ). take at now ++ u) (folded_step K (held l) (drop at plan) (rw length-drop (omega (arith, stage_left))))
            ∙ sym (append_assoc (take at now) (cell_bits K (stage_from K at plan) (held l)) (folded K (load_of K (stage_from K at plan) (held l)) (drop (2 ^ (K + 1)) (drop at plan))))
            ∙ (λ i. sym f i ++ folded K (sym S.left.next i) (drop-drop (2 ^ (K + 1)) at plan i));
        back = step_back K (held l) (stage_from K at plan) at now x l m fits S ∙ drop_more at (at + 2 ^ (K + 1)) now u (omega arith) T.back;
        only = rw z S.left.only;
      }

  -- with one more stage folded the plan is folded that much further
  pub standing_more : (s : ℕ) → s ≡ 2 ^ (K + 1) → (x m : List ℕ) → Steps K (held l) (stage_from K at plan) at now x l m → Standing K load plan u (at + s) x m
  standing_more s es x m S = rw es (more x m S)

module _ (K : ℕ) (plan w : List ℕ) (P : PlanAt K plan w) where
  -- a plan that is not empty has a stage
  pub plan_one : (length plan ≡ 0 → ⊥) → 2 ^ (K + 1) ≤ length plan
  plan_one n = one_stage_lem (length plan) (2 ^ (K + 1)) P.whole (omega arith)

  -- a later stage, lent as plan[at..e], and the one before, lent as plan[a..at]
  pub next_at : (l : List ℕ) (at : ℕ) → StepAt K plan at w l → (s a e : ℕ) → s ≡ 2 ^ (K + 1) → a ≡ at - s → e ≡ at + s → NextAt K (take (at - a) (drop a plan)) (take (e - at) (drop at plan)) (take (e - at) (drop at w)) l
  next_at l at T s a e es ea ee = record {
    up = plan_up K plan w P at e (omega arith) (omega (arith, T.here));
    last = plan_stage K plan w P a at (omega (arith, T.before)) (omega (arith, T.here));
    size = T.size;
    only = let d : at - a ≡ 2 ^ (K + 1) = omega (arith, T.before) in let b : a ≡ at - 2 ^ (K + 1) = omega arith in rw (d, b) T.only;
  }

  -- stage 1, lent as plan[0..s]
  pub one_at : (l : List ℕ) → length l ≡ 65536 → (length plan ≡ 0 → ⊥) → (s : ℕ) → s ≡ 2 ^ (K + 1) → OneAt K (take (s - 0) plan) (take (s - 0) w) l
  one_at l size n s es = record { up = plan_up K plan w P 0 s (omega arith) (omega (arith, plan_one n)); size = size }

  -- the stage at which a plan stands may be folded
  pub standing_step : (load : ℕ → Bool) (u : List ℕ) (at : ℕ) (now l : List ℕ) → Standing K load plan u at now l → at < length plan → StepAt K plan at now l
  standing_step load u at now l T h = record {
    passed = record { height = P.height; low = P.low; high = P.high; double = P.double; whole = P.whole; room = T.room };
    before = T.before;
    here = stage_left K load plan u at now l T h;
    size = T.size;
    only = T.only;
  }

  -- stage 1 is folded in its place
  module _ (load : ℕ → Bool) (b l x : List ℕ) (n : length plan ≡ 0 → ⊥) (s : ℕ) (es : s ≡ 2 ^ (K + 1)) (F : Folds K load (take (s - 0) plan) b l x) where
    first : Steps K load (stage_from K 0 plan) 0 w (b ++ drop (s - 0) w) l x
    first = stepped K load plan b 0 s s w l x es (omega arith) F

    fits : 0 + 2 ^ (K + 1) ≤ length w
    fits = omega (arith, plan_one n, P.room)

    -- the area keeps its length
    pub first_length : length (b ++ drop (s - 0) w) ≡ length w
    first_length = step_length K load (stage_from K 0 plan) 0 w (b ++ drop (s - 0) w) l x fits first

    -- and behind the stage what it held
    pub first_back : drop (length plan) (b ++ drop (s - 0) w) ≡ drop (length plan) w
    first_back = drop_more (0 + 2 ^ (K + 1)) (length plan) (b ++ drop (s - 0) w) w (omega (arith, plan_one n)) (step_back K load (stage_from K 0 plan) 0 w (b ++ drop (s - 0) w) l x fits first)

    begun : length l ≡ 65536 → Standing K load plan (b ++ drop (s - 0) w) (2 ^ (K + 1)) (b ++ drop (s - 0) w) x
    begun size =
        let o : 2 ^ (K + 1) ≡ 0 + 2 ^ (K + 1) = omega arith in
        let f : take (2 ^ (K + 1)) (b ++ drop (s - 0) w) ≡ cell_bits K (take (2 ^ (K + 1)) plan) load =
        ap (λ (k : ℕ). take k (b ++ drop (s - 0) w)) o ∙ step_front K load (stage_from K 0 plan) 0 w (b ++ drop (s - 0) w) l x fits first in
        let z : 2 ^ (K + 1) - 2 ^ (K + 1) ≡ 0 = omega arith in
        record {
          len = refl;
          room = omega (arith, first_length, P.room);
          size = first.left.len ∙ size;
          before = omega arith;
          upto = plan_one n;
          whole = sym (mod-eq-sub-mod (plan_one n)) ∙ P.whole;
          done = folded_step K load plan (plan_one n) ∙ (λ i. sym f i ++ folded K (sym first.left.next i) (drop (2 ^ (K + 1)) plan));
          back = refl;
          only = rw z first.left.only;
        }

    -- and the plan is folded as far as stage 2
    pub standing_first : length l ≡ 65536 → Standing K load plan (b ++ drop (s - 0) w) s (b ++ drop (s - 0) w) x
    standing_first size = at_is K load plan (b ++ drop (s - 0) w) (b ++ drop (s - 0) w) x s (2 ^ (K + 1)) es (begun size)

-- ---- all of it

module _ (K : ℕ) (plan bits w : List ℕ) where
  nothing_folds : (p : List ℕ) → length p ≡ 0 → folded K (own_bit bits) p ≡ []
  nothing_folds [] e = folded_none K (own_bit bits)
  nothing_folds (x ∷ p) e = absurd (omega arith)

  -- of an empty plan nothing is to be folded
  pub standing_none : length plan ≡ 0 → w ≡ laid_over (fold_cells K plan bits) w
  unfolding laid_over fold_cells folded
  standing_none e = ap (λ (b : List ℕ). b ++ drop (length b) w) (sym (nothing_folds plan e))

  -- u is the area after stage 1
  pub standing_done : (u : List ℕ) → drop (length plan) u ≡ drop (length plan) w → (at : ℕ) (now m : List ℕ) → Standing K (own_bit bits) plan u at now m → length plan ≤ at →
      now ≡ laid_over (fold_cells K plan bits) w
  unfolding laid_over fold_cells folded
  standing_done u bu at now m T h =
      let P = length plan in
      let fb = folded K (own_bit bits) plan in
      let e : at ≡ P = omega (arith, T.upto) in
      let f : fb ≡ take P now = T.done ∙ rw (e, drop-length plan, folded_none K (held m)) (append-nil (take P now)) in
      let b : drop P now ≡ drop P w = (rw e at T.back) ∙ bu in
      let n : P ≡ length fb = sym (ap length f ∙ length-take-le P now T.room) in
      sym (take-append-drop P now) ∙ (λ i. sym f i ++ (b ∙ ap (λ (k : ℕ). drop k w) n) i)
