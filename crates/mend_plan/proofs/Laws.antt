-- A stage with the pins that are stopped at after it, and a plan as far as it is mended. Assumes nothing.
use Prim.Native.Nat.{ℕ, zero, suc, ◌+◌, ◌-◌, ◌*◌, ◌^◌, ◌≤◌, ◌<◌}
use mathlib.Core.Path.{◌≡◌, refl, sym, ◌∙◌, ap}
use mathlib.Core.Logic.{inl, inr}
use mathlib.Core.Bool.{false}
use mathlib.Core.List.{List, [], ◌∷◌, ◌++◌, append_assoc}
use native.Mathlib.Omega.{arith}
use native.Mathlib.Nat.{suc-mul, mul-le-mul_right}
use native.Mathlib.Numerals.{add-one}
use lib.ListN.{length, get_or, take, drop, length-append, length-drop, length-take, take-append-drop, replicate, length-replicate}
use lib.Seq.{length-take-le, take_at, drop_at, drop-drop}
use Rattle.rules.specs.Lists.{mem, In, Out, laid_over}
use Rattle.rules.specs.Cells.{is_height, filled}
use Rattle.rules.specs.Graph.{Node, graph_of}
use Rattle.rules.specs.Coded.{pins}
use Rattle.rules.specs.Build.{cells_of}
use Rattle.rules.specs.Faults.{cut}
use Rattle.rules.proofs.Lists.Members.{split, true_false, in_here, in_there, in_append, in_append_left, in_append_right, in_keep, keep_in, in_distinct, distinct_in}
use Rattle.rules.proofs.Lists.Parts.{map-take, map-drop}
use Rattle.cells.specs.Answers.{or_zero}
use Rattle.cells.proofs.Heights.{or_zero_true, tall_height}
use Rattle.coded.proofs.Cells.{small_filled, pin_plain}
use Rattle.plan_check_stage.specs.Cells.{High}
use Rattle.plan_check_stage.specs.Marks.{marked, Marks}
use Rattle.plan_check_stage.proofs.Laws.Marks.{mark_in, mark_out}
use Rattle.mending.specs.Mend.{mend_stage, held_pins, stop_after, mend_stages}
use Rattle.mending.specs.Call.{rebuilt}
use Rattle.mending.proofs.Rebuilt.{length_mended}
use Rattle.mend_levels.specs.Levels.{Stops, LevelsAt, Levelled}
use Rattle.mend_stage.specs.Stages.{StageSays}
use Rattle.mend_plan.specs.Plans.{OneAt, OneSays, mend_plan, AllAt, AllSays, PlanAt, PlanSays}

-- ---- sizes, as the code gets them

pub size_is : {K s : ℕ} → High K → s ≡ or_zero (is_height K) (2 ^ (K + 1)) → s ≡ 2 ^ (K + 1)
size_is {K} H e = rw (H.height, or_zero_true (2 ^ (K + 1))) at e

pub width_is : {K w : ℕ} → High K → w ≡ or_zero (is_height K) (2 ^ K) → w ≡ 2 ^ K
width_is {K} H e = rw (H.height, or_zero_true (2 ^ K)) at e

-- ---- the pins to stop at after a stage

held_in : (K : ℕ) (cl : List ℕ) (w : ℕ) → w ≡ 2 ^ K → (n : ℕ) → n < 65536 → mem n (held_pins K cl) ≡ mem n (pins (take (w - 1) (drop 1 cl)))
unfolding held_pins pins
held_in K cl w e n h =
    let z : take (2 ^ K - 1) (drop 1 (pins cl)) ≡ pins (take (w - 1) (drop 1 cl)) = rw (map-take, map-drop, e) in
    split (mem n (pins (take (w - 1) (drop 1 cl))))
    (λ i. in_distinct n _ (in_keep filled n _ (rw z i) (small_filled n (omega arith))) ∙ sym i)
    (λ o. split (mem n (held_pins K cl))
    (λ i. true_false (rw z at (keep_in filled n _ (distinct_in n _ i)).0) o)
    (λ i. i ∙ sym o))

mem_either : (n : ℕ) (xs ys : List ℕ) → Out n xs → mem n (xs ++ ys) ≡ mem n ys
mem_either n xs ys o = split (mem n (xs ++ ys))
    (λ i. elim (in_append n xs ys i) [ inl j ↦ true_false j o | inr j ↦ i ∙ sym j ])
    (λ i. split (mem n ys) (λ j. true_false (in_append_right n xs ys j) i) (λ j. i ∙ sym j))

module _ (K : ℕ) (cl : List ℕ) (marks marks' : List ℕ) (size : length marks ≡ 65536) (w : ℕ) (ew : w ≡ 2 ^ K) (M : Marks (pins (take (w - 1) (drop 1 cl))) 1 marks marks') where
  stops_after : (stop : List ℕ) → Stops stop marks → Stops (stop_after K cl stop) marks'
  unfolding stop_after
  stops_after stop S = record {
    says = λ n h. split (mem n (pins (take (w - 1) (drop 1 cl))))
        (λ i. mark_in _ 1 marks marks' M n (omega arith) i ∙ sym (in_append_left n (held_pins K cl) stop (held_in K cl w ew n h ∙ i)))
        (λ o. mark_out _ 1 marks marks' M n (omega arith) o ∙ S.says n h ∙ sym (mem_either n (held_pins K cl) stop (held_in K cl w ew n h ∙ o)));
  }

-- ---- a stage

module _ (K : ℕ) (gates cells stop levels fixed : List ℕ) (A : OneAt K gates cells stop levels fixed) where
  -- the levels may be told
  pub levels_at : LevelsAt K gates levels
  levels_at = record { high = (tall_height K A.lent.tall.height).high; at = record { pins = A.lent.graph.pins; size = A.lent.levelled; valid = A.lent.graph.valid } }

  module _ (levels' : List ℕ) (L : Levelled K (graph_of gates) stop levels levels') (cells' : List ℕ) (S : StageSays K (graph_of gates) levels' cells cells') (w : ℕ) (ew : w ≡ or_zero (is_height K) (2 ^ K)) where
    -- those above level 0 are there
    pub part_inside : (1 ≤ w) × (w ≤ length cells')
    part_inside = omega (arith, width_is A.lent.tall ew, A.lent.tall.low, A.lent.tall.double, A.size, S.len)

    -- it is mended, and its pins have marks
    pub one_says : (stop' : List ℕ) → Marks (pins (take (w - 1) (drop 1 cells'))) 1 stop stop' → OneSays K (graph_of gates) cells cells' stop stop'
    one_says stop' M = record {
      len = S.len;
      marks_len = M.len;
      is = λ st T. S.is st (L.tells st T);
      stops = stops_after K cells' stop stop' A.lent.marked w (width_is A.lent.tall ew) M;
    }

-- ---- all stages

-- what is left to mend, with the pins that are stopped at then
pub record Left (K n : ℕ) (g : List Node) (given plan : List ℕ) (k at : ℕ) (now marks : List ℕ) : Type 0 where
  pub stop : List ℕ
  pub stops : Stops stop marks
  pub whole : mend_plan n K g given plan ≡ take at now ++ mend_plan (n - k) K g stop (drop at now)

-- of n stages k are mended, up to `at`
pub record Reached (K n : ℕ) (g : List Node) (marks plan : List ℕ) (k at : ℕ) (now marks' : List ℕ) : Type 0 where
  pub len : length now ≡ length plan
  pub size : length marks' ≡ length marks
  pub upto : k ≤ n
  pub place : at ≡ k * 2 ^ (K + 1)
  pub left : (given : List ℕ) → Stops given marks → Left K n g given plan k at now marks'

next_mended : (n K : ℕ) (g : List Node) (stop pl : List ℕ) (m : ℕ) → n ≡ suc m → mend_plan n K g stop pl ≡ mend_stage K g stop (take (2 ^ (K + 1)) pl) ++ mend_plan m K g (stop_after K (mend_stage K g stop (take (2 ^ (K + 1)) pl)) stop) (drop (2 ^ (K + 1)) pl)
unfolding mend_plan
next_mended n K g stop pl m e = rw e refl

none_left : (n K : ℕ) (g : List Node) (stop pl : List ℕ) → n ≡ 0 → mend_plan n K g stop pl ≡ pl
unfolding mend_plan
none_left n K g stop pl e = rw e refl

module _ (K : ℕ) (gates plan : List ℕ) (n : ℕ) (stop levels fixed : List ℕ) (A : AllAt K gates plan n stop levels fixed) where
  pub reached_none : Reached K n (graph_of gates) stop plan 0 0 plan stop
  reached_none = record { len = refl; size = refl; upto = omega arith; place = omega arith; left = λ given S. record { stop = given; stops = S; whole = let e : n - 0 ≡ n = omega arith in rw e } }

  module _ (k at : ℕ) (now marks : List ℕ) (R : Reached K n (graph_of gates) stop plan k at now marks) (h : k < n) (s e : ℕ) (es : s ≡ or_zero (is_height K) (2 ^ (K + 1))) (ee : e ≡ at + s) where
    size : s ≡ 2 ^ (K + 1)
    size = size_is A.lent.tall es

    -- the next stage is in the plan
    pub stage_inside : e ≤ length now
    stage_inside = omega (arith, size, R.place, R.len, A.room, suc-mul k (2 ^ (K + 1)), mul-le-mul_right (2 ^ (K + 1)) h)

    gap : e - at ≡ 2 ^ (K + 1)
    gap = omega (arith, size)

    part_size : length (take (e - at) (drop at now)) ≡ 2 ^ (K + 1)
    part_size = rw gap (length-take-le (2 ^ (K + 1)) (drop at now) (omega (arith, size, length-drop at now, stage_inside)))

    -- it may be mended
    pub one_at : (lv fx : List ℕ) → length lv ≡ length levels → length fx ≡ length fixed → OneAt K gates (take (e - at) (drop at now)) marks lv fx
    one_at lv fx el ef = record {
      lent = record { tall = A.lent.tall; graph = A.lent.graph; marked = R.size ∙ A.lent.marked; levelled = omega (arith, A.lent.levelled); fixing = ef ∙ A.lent.fixing };
      size = part_size;
    }

    module _ (x marks' : List ℕ) (S : OneSays K (graph_of gates) (take (e - at) (drop at now)) x marks marks') where
      long : length x ≡ 2 ^ (K + 1)
      long = S.len ∙ part_size

      front : length (take at now ++ x) ≡ e
      front = length-append (take at now) x ∙ omega (arith, size, long, length-take-le at now (omega (arith, stage_inside)))

      abbrev next : List ℕ
      next = take at now ++ (x ++ drop (e - at) (drop at now))

      joined : next ≡ (take at now ++ x) ++ drop (e - at) (drop at now)
      joined = sym (append_assoc (take at now) x (drop (e - at) (drop at now)))

      next_front : take e next ≡ take at now ++ x
      next_front = ap (take e) joined ∙ take_at (take at now ++ x) (drop (e - at) (drop at now)) e front

      next_back : drop e next ≡ drop (e - at) (drop at now)
      next_back = ap (drop e) joined ∙ drop_at (take at now ++ x) (drop (e - at) (drop at now)) e front

      next_length : length next ≡ length now
      next_length = ap length joined ∙ length-append (take at now ++ x) (drop (e - at) (drop at now)) ∙ omega (arith, front, stage_inside, length-drop (e - at) (drop at now), length-drop at now)

      -- it is mended
      pub reached_more : Reached K n (graph_of gates) stop plan (k + 1) e next marks'
      reached_more = record {
        len = next_length ∙ R.len;
        size = S.marks_len ∙ R.size;
        upto = omega arith;
        place = omega (arith, size, R.place, suc-mul k (2 ^ (K + 1)), ap (λ (i : ℕ). i * 2 ^ (K + 1)) (add-one k));
        left = λ given G.
            let L = R.left given G in
            let m : n - k ≡ suc (n - (k + 1)) = omega arith in
            let c : mend_stage K (graph_of gates) L.stop (take (2 ^ (K + 1)) (drop at now)) ≡ x = ap (λ (i : ℕ). mend_stage K (graph_of gates) L.stop (take i (drop at now))) (sym gap) ∙ sym (S.is L.stop L.stops) in
            record {
              stop = stop_after K x L.stop;
              stops = S.stops L.stop L.stops;
              whole = L.whole
                  ∙ ap (λ (y : List ℕ). take at now ++ y) (next_mended (n - k) K (graph_of gates) L.stop (drop at now) (n - (k + 1)) m
                  ∙ (λ i. c i ++ mend_plan (n - (k + 1)) K (graph_of gates) (stop_after K (c i) L.stop) (drop (sym gap i) (drop at now))))
                  ∙ sym (append_assoc (take at now) x (mend_plan (n - (k + 1)) K (graph_of gates) (stop_after K x L.stop) (drop (e - at) (drop at now))))
                  ∙ (λ i. sym next_front i ++ mend_plan (n - (k + 1)) K (graph_of gates) (stop_after K x L.stop) (sym next_back i));
            };
      }

  -- at the end all are
  pub reached_all : (k at : ℕ) (now marks : List ℕ) → Reached K n (graph_of gates) stop plan k at now marks → n ≤ k → AllSays K (graph_of gates) plan n stop now
  reached_all k at now marks R h = record {
    len = R.len;
    is = λ given G.
        let L = R.left given G in
        let z : n - k ≡ 0 = omega arith in
        sym (L.whole ∙ ap (λ (x : List ℕ). take at now ++ x) (none_left (n - k) K (graph_of gates) L.stop (drop at now) z) ∙ take-append-drop at now);
  }

-- ---- as the rules have it

-- the mended stages laid over the plan
laid_stages : (K : ℕ) (g : List Node) (n : ℕ) (stop plan words counts : List ℕ) → n * 2 ^ (K + 1) ≤ length plan → laid_over (cells_of (mend_stages K g stop (cut n K plan words counts))) plan ≡ mend_plan n K g stop plan
unfolding laid_over cut mend_stages cells_of mend_plan
laid_stages K g zero stop plan words counts h = refl
laid_stages K g (suc n) stop plan words counts h =
    let cl : List ℕ = mend_stage K g stop (take (2 ^ (K + 1)) plan) in
    let more : List ℕ = cells_of (mend_stages K g (stop_after K cl stop) (cut n K (drop (2 ^ (K + 1)) plan) (drop (get_or counts 0 0) words) (drop 1 counts))) in
    let l : length cl ≡ 2 ^ (K + 1) = length_mended K g stop (take (2 ^ (K + 1)) plan) ∙ length-take (2 ^ (K + 1)) plan ∙ omega arith in
    let d : drop (length (cl ++ more)) plan ≡ drop (length more) (drop (2 ^ (K + 1)) plan) = ap (λ (i : ℕ). drop i plan) (length-append cl more ∙ ap (λ (i : ℕ). i + length more) l) ∙ sym (drop-drop (length more) (2 ^ (K + 1)) plan) in
    append_assoc cl more (drop (length (cl ++ more)) plan)
    ∙ ap (λ (x : List ℕ). cl ++ (more ++ x)) d
    ∙ ap (λ (x : List ℕ). cl ++ x) (laid_stages K g n (stop_after K cl stop) (drop (2 ^ (K + 1)) plan) (drop (get_or counts 0 0) words) (drop 1 counts) (rw length-drop (omega arith)))

zero_mark : (n q : ℕ) → marked (replicate n 0) q ≡ false
unfolding marked
zero_mark zero q = refl
zero_mark (suc n) zero = refl
zero_mark (suc n) (suc q) = zero_mark n q

own_pins : (xs : List ℕ) → ((q : ℕ) → In q xs → q < 65536) → pins xs ≡ xs
unfolding pins
own_pins [] h = refl
own_pins (x ∷ xs) h = (λ i. pin_plain x (h x (in_here x xs)) i ∷ own_pins xs (λ q j. h q (in_there q x xs j)) i)

module _ (K : ℕ) (gates given plan : List ℕ) (n : ℕ) (A : PlanAt K gates given plan n) where
  -- the given pins have marks
  given_stops : (zeros marks : List ℕ) → zeros ≡ replicate 65536 0 → Marks (pins given) 1 zeros marks → Stops given marks
  given_stops zeros marks ez M =
      let p : pins given ≡ given = own_pins given (λ q i. omega (arith, A.named q i, A.graph.pins)) in
      let z : length zeros ≡ 65536 = ap length ez ∙ length-replicate {A = ℕ} 65536 0 in
      record {
        says = λ q h. split (mem q given)
            (λ i. mark_in (pins given) 1 zeros marks M q (omega arith) (rw p i) ∙ sym i)
            (λ i. mark_out (pins given) 1 zeros marks M q (omega arith) (rw p i) ∙ rw ez (zero_mark 65536 q) ∙ sym i);
      }

  module _ (zeros marks levels fixed : List ℕ) (ez : zeros ≡ replicate 65536 0) (M : Marks (pins given) 1 zeros marks) (el : levels ≡ replicate 65536 0) (ef : fixed ≡ replicate 16384 0) (s : ℕ) (es : s ≡ or_zero (is_height K) (2 ^ (K + 1))) where
    -- the part of the fixed pins is there
    pub fixed_inside : s ≤ length fixed
    fixed_inside = omega (arith, size_is A.tall es, A.tall.double, A.tall.high, ap length ef ∙ length-replicate {A = ℕ} 16384 0)

    pub all_at : AllAt K gates plan n marks levels (take (s - 0) (drop 0 fixed))
    all_at = record {
      lent = record {
        tall = A.tall;
        graph = A.graph;
        marked = M.len ∙ ap length ez ∙ length-replicate {A = ℕ} 65536 0;
        levelled = omega (arith, A.graph.pins, ap length el ∙ length-replicate {A = ℕ} 65536 0);
        fixing = length-take-le (s - 0) fixed (omega (arith, fixed_inside)) ∙ omega (arith, size_is A.tall es);
      };
      room = A.room;
    }

    pub plan_says : (x : List ℕ) → AllSays K (graph_of gates) plan n marks x → PlanSays K gates given plan n x
    unfolding rebuilt
    plan_says x S = record {
      len = S.len;
      is = λ words counts. S.is given (given_stops zeros marks ez M) ∙ sym (laid_stages K (graph_of gates) n given plan words counts A.room);
    }
