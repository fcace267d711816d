-- One stage of a build: the part of the plan that it is lent is empty, and what it leaves is one stage more. Assumes nothing.
use Prim.Native.Nat.{ℕ, zero, suc, ◌+◌, ◌-◌, ◌*◌, ◌≤◌, ◌<◌}
use mathlib.Core.List.{List, [], ◌∷◌, ◌++◌}
use mathlib.Core.Path.{◌≡◌, refl, sym, ap, ◌∙◌}
use native.Mathlib.Nat.{suc-mul}
use native.Mathlib.Omega.{arith}
use lib.Pow.{pow_mono}
use lib.ListN.{length, set, take, drop, length-append, length-replicate, length-set}
use lib.Seq.{drop-drop}
use Rattle.stage_runs.proofs.Laws.Half.{half_is}
use Rattle.cells.specs.Answers.{or_zero}
use Rattle.rules.specs.Lists.{count, padded, laid_at}
use Rattle.rules.specs.Cells.{empty, filled, word_limit, row_at, stage_size, is_height, level_one_size}
use Rattle.rules.specs.Placing.{tree}
use Rattle.rules.specs.Traversal.{setting}
use Rattle.rules.specs.Ending.{stage, one_stage}
use Rattle.rules.specs.States.{state, after_from}
use Rattle.rules.specs.Build as rules
use Rattle.rules.specs.Inside.Lean.{blank}
use Rattle.rules.specs.Inside.Walks.{rank}
use Rattle.rules.proofs.Demand.{graph}
use Rattle.rules.proofs.Stage.Depth.{still_ready}
use Rattle.rules.proofs.Lists.Members.{count-append}
use Rattle.rules.proofs.Build.Lengths.{length_padded}
use Rattle.rules.proofs.Build.Costs.{padded_count}
use Rattle.columns.specs.Fields.{DONE}
use Rattle.columns.specs.Lists.{Marks}
use Rattle.columns.proofs.Area.Frames.{frame_room}
use Rattle.stage_walk.specs.Stands.{Context}
use Rattle.stage_walk.proofs.Contexts.{context, unfold_empty}
use Rattle.std.specs.Prelude.{Result, Ok, Err}
use Rattle.refusals.specs.Numbers.{number_of}
use Rattle.stage.specs.declared.finish.Outcome.{Outcome}
use Rattle.stage.specs.declared.finish.Stopped.{Stopped}
use Rattle.stage.specs.Stopped.{refusal_of}
use Rattle.stage.specs.Finish.{Whole}
use Rattle.stage.specs.Stage.{StageAt, built, Staged}
use Rattle.stage_runs.proofs.Laws.Laid.{laid_none, laid_more, laid_length}
use Rattle.rules.proofs.Stage.Refusals.{before_refusal}
use Rattle.placer.specs.Stages.{Course, Underway, OneAt, StageTold, One, answer}
use Rattle.placer.proofs.Laws.Laying.{laid_next, blank_part, part_inside}
use Rattle.placer.proofs.Laws.Course.{limit_small, cells_more, words_more, counts_more, before_more, stage_refused, stage_more, after_more, after_stage}

size_is : (K half : ℕ) → 6 ≤ K → half ≡ row_at K 1 → 4 * half ≡ stage_size K
unfolding row_at
size_is (suc K) half low e =
    let d : suc K - 1 ≡ K = omega arith in
    let z : suc K + 1 ≡ suc (suc K) = omega arith in
    rw (z, e, d) (omega arith)
size_is zero half low e = absurd (omega arith)

-- a part that was lent stands where it was taken from
lent_part : (a e : ℕ) (xs ys : List ℕ) → a ≤ e → length ys ≡ e - a → take a xs ++ (ys ++ drop (e - a) (drop a xs)) ≡ laid_at a ys xs
unfolding laid_at
lent_part a e xs ys h l =
    let d : drop (e - a) (drop a xs) ≡ drop (a + length ys) xs = rw (← l) (drop-drop (length ys) a xs) in
    rw d refl

module _ {C : Course} {m K half : ℕ} {k n at room : ℕ} {gates pl ws cs w : List ℕ} (A : OneAt C m K half k n at room gates pl ws cs w) where
  abbrev U : Underway C m k at n pl ws cs w
  U = A.now

  -- the context of the next stage
  abbrev pub ctx : Context
  ctx = context C.rule C.K C.g (rank C.g) (graph C.g C.valid) C.low C.high C.small U.done U.waiting U.ready

  -- a stage is four times as long as level 1's row
  pub stage_size_lem : 4 * half ≡ stage_size C.K
  stage_size_lem = rw (← A.known.height) (size_is K half (rw A.known.height C.low) A.known.row)

  -- a stage has at most 16,384 numbers
  pub size_small : stage_size C.K ≤ 16384
  size_small = pow_mono {i = C.K + 1} {j = 14} (omega (arith, C.high))

  -- the plan area has one stage's length for each room
  pub plan_length : length pl ≡ C.rooms * stage_size C.K
  plan_length = rw U.plan (length_padded (C.rooms * stage_size C.K) empty (rules.cells_of U.ss) (omega (arith, U.cells, part_inside k C.rooms (stage_size C.K) A.more)))

  -- the counts have one number for each room
  pub counts_length : length cs ≡ C.rooms
  counts_length = rw U.counts (length_padded C.rooms 0 (rules.counts_of U.ss) (omega (arith, U.counted, U.few)))

  word_limit_lem : word_limit C.K ≤ 256
  unfolding word_limit
  word_limit_lem = limit_small C.K C.high

  words_length : length ws ≡ word_limit C.K
  words_length = rw U.words (length_padded (word_limit C.K) empty (rules.words_of U.ss) (omega (arith, U.spent, U.fits, C.limit)))

  -- the size of level 1, as the height tells it
  pub one_half : {h : ℕ} → h ≡ or_zero (is_height K) (level_one_size K) → h ≡ half
  one_half e = half_is (omega (arith, A.known.height, C.low)) (omega (arith, A.known.height, C.high)) e ∙ sym A.known.row

  -- where the stage's part begins
  pub from_half : {h : ℕ} → h ≡ half → k * (4 * h) ≡ k * (4 * half)
  from_half e = rw e refl

  -- and where it ends
  pub to_half : {h : ℕ} → h ≡ half → k * (4 * h) + 4 * h ≡ k * (4 * h) + 4 * half
  to_half {h} e = ap (λ (x : ℕ). k * (4 * h) + 4 * x) e

  -- the next stage's part lies in the plan
  pub part_inside_plan : k * (4 * half) + 4 * half ≤ length pl
  part_inside_plan = rw (stage_size_lem, plan_length) (part_inside k C.rooms (stage_size C.K) A.more)

  module _ {a e : ℕ} (from : a ≡ k * (4 * half)) (to : e ≡ a + 4 * half) where
    start : a ≡ k * stage_size C.K
    start = from ∙ ap (λ (i : ℕ). k * i) stage_size_lem

    part_end : e ≤ length pl
    part_end = omega (arith, start, stage_size_lem, plan_length, part_inside k C.rooms (stage_size C.K) A.more)

    part_size : e - a ≡ stage_size C.K
    part_size = omega (arith, stage_size_lem)

    part_blank : take (e - a) (drop a pl) ≡ blank ctx.X
    unfolding blank context setting
    part_blank = ap (λ (i : ℕ). take i (drop a pl)) part_size ∙ ap (λ (x : List ℕ). take (stage_size C.K) (drop a x)) U.plan ∙ blank_part (C.rooms * stage_size C.K) empty a (stage_size C.K) (rules.cells_of U.ss) (U.cells ∙ sym start) (omega (arith, start, part_inside k C.rooms (stage_size C.K) A.more))

    -- the next stage's part is empty, and the stage may be built there
    pub stage_at : StageAt ctx m K half n at room gates (take (e - a) (drop a pl)) w ws
    unfolding context setting
    stage_at = record {
      begun = record { base = record { area = U.work.area; size = A.known.size; graph = A.known.graph; pair = A.known.pair }; done = U.work.done; waiting = U.work.waiting };
      fresh = U.work.fresh;
      cells = U.work.cells;
      marks = U.work.marks;
      tail = U.work.tail;
      ruled = A.known.ruled;
      height = A.known.height;
      row = A.known.row;
      blank = part_blank;
      fits = omega (arith, A.left, U.fits, C.limit, words_length);
      small = omega (arith, words_length, word_limit_lem);
    }

    module _ {r : Result Outcome Stopped} {ys w' ws' : List ℕ} (S : Staged ctx m at room (take (e - a) (drop a pl)) w ws r ys w' ws') where
      part_length : length ys ≡ e - a
      unfolding blank context setting
      part_length = S.changed.size ∙ ap length part_blank ∙ length-replicate (stage_size C.K) empty ∙ sym part_size

      laid : take a pl ++ (ys ++ drop (e - a) (drop a pl)) ≡ laid_at a ys pl
      laid = lent_part a e pl ys (omega arith) part_length

      plan_kept : length (laid_at a ys pl) ≡ length pl
      plan_kept = laid_length a pl ys (omega (arith, part_end, part_length))

      waits : 0 < length U.waiting
      waits = omega (arith, A.waits, U.work.waiting.held.count)

      rooms_left : C.rooms - k ≡ suc (C.rooms - suc k)
      rooms_left = omega (arith, A.more)

      same : answer C ≡ rules.before U.ss (rules.stages C.rule C.K C.g (suc (C.rooms - suc k)) (suc k) U.done U.waiting room)
      same = let h = U.same in rw (rooms_left, ← A.left) at h

      -- what the stage tells, in any state that the build may be said to stand in
      tells : (done waiting : List ℕ) (left : ℕ) → after_from C.rule C.K C.g k C.given C.waiting C.room ≡ state done waiting left → StageTold (setting C.rule C.K C.g done waiting) m left w r w'
      unfolding built context setting
      tells done waiting left h =
          let e : state U.done U.waiting (C.room - at) ≡ state done waiting left = sym U.reached ∙ h in
          let a : U.done ≡ done = cc in
          let b : U.waiting ≡ waiting = cc in
          let c : C.room - at ≡ left = cc in
          let d : room ≡ left = A.left ∙ c in
          rw (← a, ← b, ← d) (record { noted = S.told; refuses = S.refuses })

      abbrev whole_plan : List ℕ
      whole_plan = take a pl ++ (ys ++ drop (e - a) (drop a pl))

    module _ {stopped : Stopped} {ys w' ws' : List ℕ} (S : Staged ctx m at room (take (e - a) (drop a pl)) w ws (Err stopped) ys w' ws') where
      one_refused : One C m k at pl ws cs w (Err stopped) (laid_at a ys pl) ws' cs w'
      unfolding built context setting
      one_refused = record {
        kept = record { plan = plan_kept S; words = S.changed.len; counts = refl; work = S.changed.frame.len };
        refused = same S ∙ ap (rules.before U.ss) (stage_refused C.rule C.K C.g (suc k) U.done U.waiting room (waits S) (C.rooms - suc k) (number_of (refusal_of stopped)) S.refuses.is) ∙ before_refusal U.ss (number_of (refusal_of stopped)) (suc k);
        on = tt;
        more = tt;
        told = tells S;
      }

      -- a refused stage refuses the build
      pub refused_part : One C m k at pl ws cs w (Err stopped) (whole_plan S) ws' cs w'
      refused_part = rw (laid S) one_refused

    module _ {s : Outcome} {ys w' ws' : List ℕ} (S : Staged ctx m at room (take (e - a) (drop a pl)) w ws (Ok s) ys w' ws') where
      abbrev W : Whole ctx m at room (built ctx room) ws s ys w' ws'
      W = S.whole

      abbrev next : rules.Stage
      next = record { plan = ys; words = W.ws }

      one : one_stage C.rule C.K C.g U.done U.waiting room ≡ stage ys W.ws (tree C.K ys) W.left
      unfolding built context setting
      one = W.is

      -- the count of its words fits a number
      pub words_few : s.words < 4294967296
      words_few = omega (arith, W.count, W.fit, A.left, C.limit, word_limit_lem)

      goes : answer C ≡ rules.before (U.ss ++ (next ∷ [])) (rules.stages C.rule C.K C.g (C.rooms - suc k) (suc (suc k)) (tree C.K ys ++ U.done) W.left (C.room - (at + s.words)))
      goes =
          let r : room - length W.ws ≡ C.room - (at + s.words) = omega (arith, A.left, W.count) in
          same S ∙ ap (rules.before U.ss) (stage_more C.rule C.K C.g (suc k) U.done U.waiting room (waits S) (C.rooms - suc k) ys W.ws (tree C.K ys) W.left one) ∙ before_more U.ss next _ ∙ ap (λ (i : ℕ). rules.before (U.ss ++ (next ∷ [])) (rules.stages C.rule C.K C.g (C.rooms - suc k) (suc (suc k)) (tree C.K ys ++ U.done) W.left i)) r

      reaches : after_from C.rule C.K C.g (suc k) C.given C.waiting C.room ≡ state (tree C.K ys ++ U.done) W.left (C.room - (at + s.words))
      reaches =
          let r : room - length W.ws ≡ C.room - (at + s.words) = omega (arith, A.left, W.count) in
          after_more C.rule C.K C.g k C.given C.waiting C.room U.done U.waiting room (U.reached ∙ ap (state U.done U.waiting) (sym A.left)) ∙ after_stage C.rule C.K C.g U.done U.waiting room (waits S) ys W.ws (tree C.K ys) W.left one ∙ ap (state (tree C.K ys ++ U.done) W.left) r

      marked : Marks DONE m (tree C.K ys ++ U.done) w'
      unfolding context setting
      marked = W.done

      plan_next : laid_at a ys pl ≡ padded (C.rooms * stage_size C.K) empty (rules.cells_of U.ss ++ ys)
      plan_next = ap (laid_at a ys) U.plan ∙ laid_next (C.rooms * stage_size C.K) empty a (rules.cells_of U.ss) ys (U.cells ∙ sym start) (omega (arith, part_length S, part_end, plan_length))

      one_on_stage : {cs' : List ℕ} → cs' ≡ set cs k s.words → One C m k at pl ws cs w (Ok s) (laid_at a ys pl) ws' cs' w'
      one_on_stage {cs'} e' = record {
        kept = record { plan = plan_kept S; words = S.changed.len; counts = rw e' (length-set cs k s.words); work = S.changed.frame.len };
        refused = tt;
        on = record {
          ss = U.ss ++ (next ∷ []);
          done = tree C.K ys ++ U.done;
          waiting = W.left;
          reached = reaches;
          same = goes;
          ready = still_ready C.rule C.K C.g (rank C.g) (graph C.g C.valid) C.low (unfold_empty (length C.g) C.small) U.done U.waiting U.ready room ys W.ws (tree C.K ys) W.left one;
          count = length-append U.ss (next ∷ []) ∙ omega (arith, U.count);
          few = omega (arith, A.more);
          cells = rw (cells_more U.ss next) (length-append (rules.cells_of U.ss) ys ∙ omega (arith, U.cells, part_length S, part_size, suc-mul k (stage_size C.K)));
          counted = rw (counts_more U.ss next) (length-append (rules.counts_of U.ss) (length W.ws ∷ []) ∙ omega (arith, U.counted));
          spent = rw (words_more U.ss next) (length-append (rules.words_of U.ss) W.ws ∙ omega (arith, U.spent, W.count));
          fits = omega (arith, U.fits, W.count, W.fit, A.left);
          plan = plan_next ∙ ap (padded (C.rooms * stage_size C.K) empty) (sym (cells_more U.ss next));
          words = W.wrote ∙ ap (laid_at at W.ws) U.words ∙ laid_next (word_limit C.K) empty at (rules.words_of U.ss) W.ws U.spent (omega (arith, W.fit, A.left, U.fits, C.limit)) ∙ ap (padded (word_limit C.K) empty) (sym (words_more U.ss next));
          counts = e' ∙ set_laid ∙ ap (λ (i : ℕ). laid_at k (i ∷ []) cs) W.count ∙ ap (laid_at k (length W.ws ∷ [])) U.counts ∙ laid_next C.rooms 0 k (rules.counts_of U.ss) (length W.ws ∷ []) U.counted (omega (arith, A.more)) ∙ ap (padded C.rooms 0) (sym (counts_more U.ss next));
          work = record { area = frame_room S.changed.frame U.work.area; done = marked; waiting = W.waiting; fresh = S.fresh; cells = W.cells; marks = W.marks; tail = W.tail };
        };
        told = tells S;
        more = omega (arith, ap (count filled) plan_next, padded_count (C.rooms * stage_size C.K) (rules.cells_of U.ss ++ ys), count-append filled (rules.cells_of U.ss) ys, ap (count filled) U.plan, padded_count (C.rooms * stage_size C.K) (rules.cells_of U.ss), W.total);
      }
        where
          set_laid : set cs k s.words ≡ laid_at k (s.words ∷ []) cs
          set_laid =
              let n : k + 0 ≡ k = omega arith in
              let h = laid_more k cs [] s.words (omega (arith, counts_length, A.more)) in
              rw (laid_none k cs, n) at h

      -- a whole one, with its count stored, is one stage more
      pub on_part : {cs' : List ℕ} → cs' ≡ set cs k s.words → One C m k at pl ws cs w (Ok s) (whole_plan S) ws' cs' w'
      on_part e' = rw (laid S) (one_on_stage e')
