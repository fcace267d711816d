-- One stage with its lines: what it notes is copied, and a refusal's line stands behind it. Assumes nothing.
use Prim.Native.Nat.{ℕ, suc, ◌+◌, ◌-◌, ◌*◌, ◌≤◌, ◌<◌}
use mathlib.Core.Path.{◌≡◌, refl, sym, ap, ◌∙◌}
use mathlib.Core.Logic.{◌≢◌}
use mathlib.Core.List.{List, [], ◌∷◌, ◌++◌}
use native.Mathlib.Omega.{arith}
use lib.ListN.{length, length-append}
use Rattle.rules.specs.Cells.{word_limit}
use Rattle.rules.specs.Graph.{Node}
use Rattle.rules.specs.Traversal.{WordRule, Setting, setting}
use Rattle.rules.specs.Placing.{filled_plan}
use Rattle.rules.specs.Ending.{one_stage, refused, stage}
use Rattle.rules.specs.States.{none, state, after_from}
use Rattle.rules.specs.Depth.{remaining}
use Rattle.rules.specs.Inside.Walks.{rank}
use Rattle.rules.proofs.Demand.{graph}
use Rattle.rules.proofs.Needed.Needs.{falls_always}
use Rattle.rules.proofs.Stage.Staged.{remaining_least}
use Rattle.rules.proofs.Stage.Depth.{stage_cases, shallow}
use Rattle.rules.proofs.Build.Bounds.{depth_rank}
use Rattle.columns.proofs.Area.Frames.{frame_room}
use Rattle.columns.proofs.Lists.Marks.{marks_frame}
use Rattle.columns.proofs.Lists.Places.{placed_frame}
use Rattle.columns.proofs.Lists.Clears.{clear_frame}
use Rattle.stage_walk.specs.Stands.{Context}
use Rattle.stage_walk.proofs.Contexts.{context, work, unfold_empty}
use Rattle.stage_notes.specs.Taken.{Taken, taken_back}
use Rattle.stage_notes.specs.Notes.{notes, notes_down}
use Rattle.stage_notes.proofs.Noting.{notes_length}
use Rattle.stage_notes.proofs.Reading.{stage_read}
use Rattle.stage_notes.proofs.Same.{lean_taken}
use Rattle.std.specs.Prelude.{Result, Ok, Err}
use Rattle.stage.specs.declared.finish.Outcome.{Outcome}
use Rattle.stage.specs.declared.finish.Stopped.{Stopped}
use Rattle.placer.specs.Stages.{Course, Between, Underway, Kept, StageTold, One}
use Rattle.placer.proofs.Laws.Course.{after_more, after_stage, limit_small}
use Rattle.why_form.specs.Why.{Line, back_lines, over_line, why_from, numbers}
use Rattle.explain_lines.specs.Lines.{put_six, put_lines}
use Rattle.explain_lines.specs.Copies.{NotesAt, AllCopied}
use Rattle.explain_lines.proofs.Lines.{lines_more, lines_length}
use Rattle.explain_stages.specs.Over.{OverAt, over_six}
use Rattle.explain_stages.specs.Telling.{lines_at, lines_after, TellAt, Tells}
use Rattle.explain_stages.proofs.Laws.Over.{few_of, over_six_lem}

-- ---- the lines, stage by stage

module _ (rule : WordRule) (K : ℕ) (g : List Node) (r k : ℕ) (done waiting : List ℕ) (room : ℕ) (h : 0 < length waiting) where
  abbrev Y : Setting
  Y = setting rule K g done waiting

  nonempty : (P : List ℕ → Type 0) → ((w : ℕ) (ws : List ℕ) → P (w ∷ ws)) → P waiting
  nonempty P f = elim waiting as (λ xs. 0 < length xs → P xs) [ [] ↦ λ z. absurd (omega arith) | w ∷ ws ↦ λ z. f w ws ] h

  -- a refused stage has its pins and its line
  pub why_refused : {n : ℕ} → one_stage rule K g done waiting room ≡ refused n → why_from rule K g (suc r) k done waiting room ≡ back_lines k (taken_back Y) ++ (over_line Y k room (filled_plan Y) ∷ [])
  unfolding why_from
  why_refused {n} = nonempty (λ ws. one_stage rule K g done ws room ≡ refused n → why_from rule K g (suc r) k done ws room ≡ back_lines k (taken_back (setting rule K g done ws)) ++ (over_line (setting rule K g done ws) k room (filled_plan (setting rule K g done ws)) ∷ [])) (λ w ws e. rw (e, why_from) refl)

  -- a whole one its pins
  pub why_stage : (pl ws re left : List ℕ) → one_stage rule K g done waiting room ≡ stage pl ws re left → why_from rule K g (suc r) k done waiting room ≡ back_lines k (taken_back Y) ++ why_from rule K g r (suc k) (re ++ done) left (room - length ws)
  unfolding why_from
  why_stage pl ws re left = nonempty (λ zs. one_stage rule K g done zs room ≡ stage pl ws re left → why_from rule K g (suc r) k done zs room ≡ back_lines k (taken_back (setting rule K g done zs)) ++ why_from rule K g r (suc k) (re ++ done) left (room - length ws)) (λ z zs e. rw (e, why_from) refl)

  -- behind a refused stage there is no state
  pub after_refused : {n : ℕ} → one_stage rule K g done waiting room ≡ refused n → after_from rule K g 1 done waiting room ≡ none
  unfolding after_from
  after_refused {n} = nonempty (λ ws. one_stage rule K g done ws room ≡ refused n → after_from rule K g 1 done ws room ≡ none) (λ w ws e. rw (e, after_from) refl)

-- the lines where the build stands in a state
-- are those of the rules from there
pub after_lines : (C : Course) (k : ℕ) {done waiting : List ℕ} {room : ℕ} → after_from C.rule C.K C.g k C.given C.waiting C.room ≡ state done waiting room → lines_after C k ≡ why_from C.rule C.K C.g (C.rooms - k) (suc k) done waiting room
unfolding lines_after lines_at
after_lines C k e = rw (e, lines_at) refl

back_length : (k : ℕ) (ts : List Taken) → length (back_lines k ts) ≡ length ts
unfolding back_lines
back_length k [] = refl
back_length k (t ∷ ts) = ap suc (back_length k ts)

module _ {C : Course} {m K half : ℕ} {k n at room lines : ℕ} {gates pl ws cs w : List ℕ} (A : TellAt C m K half k n at room lines gates pl ws cs w) where
  abbrev U : Underway C m k at n pl ws cs w
  U = A.one.now

  abbrev ctx : Context
  ctx = context C.rule C.K C.g (rank C.g) (graph C.g C.valid) C.low C.high C.small U.done U.waiting U.ready

  abbrev X : Setting
  X = setting C.rule C.K C.g U.done U.waiting

  waits : 0 < length U.waiting
  waits = omega (arith, A.one.waits, U.work.waiting.held.count)

  some_waits : U.waiting ≢ []
  some_waits e = omega (arith, waits, ap length e)

  here : after_from C.rule C.K C.g k C.given C.waiting C.room ≡ state U.done U.waiting room
  here = U.reached ∙ ap (state U.done U.waiting) (sym A.one.left)

  rooms_left : C.rooms - k ≡ suc (C.rooms - suc k)
  rooms_left = omega (arith, A.one.more)

  -- while pins wait there are no more stages than pins
  pub stages_few : k ≤ 65536
  stages_few =
      let S = shallow C.rule C.K C.g (rank C.g) (graph C.g C.valid) C.low (unfold_empty (length C.g) C.small) k C.given C.waiting C.ready C.room U.reached in
      let d : remaining (length C.g) C.g C.given C.waiting ≤ length C.g = remaining_least (length C.g) C.g C.given C.waiting (length C.g)
      (λ x i. omega (arith, depth_rank C.g C.given (rank C.g) (falls_always C.g (rank C.g) (graph C.g C.valid) C.given) (length C.g) x, (C.ready.bounded x i).1)) in
      omega (arith, S.few some_waits, d, C.small)

  lines_here : lines_after C k ≡ why_from C.rule C.K C.g (suc (C.rooms - suc k)) (suc k) U.done U.waiting room
  lines_here = after_lines C k here ∙ rw rooms_left refl

  module _ {r : Result Outcome Stopped} {pl1 ws1 cs1 w1 : List ℕ} (O : One C m k at pl ws cs w r pl1 ws1 cs1 w1) where
    T : StageTold X m room w r w1
    T = O.told U.done U.waiting room here

    -- the notes may be copied
    pub notes_there : NotesAt m lines w1
    notes_there = record { area = record { small = U.work.area.small; room = rw O.kept.work U.work.area.room }; few = omega (arith, A.few, stages_few) }

    -- what is noted is what the rules take back
    noted_is : notes_down 13 (notes m w1) ≡ taken_back X
    unfolding context setting
    noted_is = ap (notes_down 13) T.noted ∙ stage_read (work ctx) (notes m w) 13 C.high (omega arith) (omega (arith, notes_length m w)) A.bare ∙ lean_taken (work ctx)

    module _ {list list1 w2 : List ℕ} {told : ℕ} (D : AllCopied m (suc k) lines w1 list told w2 list1) where
      copied_lines : list1 ≡ put_lines lines (back_lines (suc k) (taken_back X)) list
      copied_lines = rw (← noted_is) D.lines

      copied_count : told ≡ lines + length (back_lines (suc k) (taken_back X))
      copied_count = rw (back_length (suc k) (taken_back X), ← noted_is) D.count

      -- there are few lines
      pub told_few : told ≤ 12 * suc k
      told_few = omega (arith, A.few, D.few)

      lengths : Kept pl ws cs w pl1 ws1 cs1 w2
      lengths = record { plan = O.kept.plan; words = O.kept.words; counts = O.kept.counts; work = D.kept.frame.len ∙ O.kept.work }

      -- behind the copies the build stands where it stood
      still : {n1 : ℕ} {ds ps : List ℕ} → Between m n1 ds ps w1 → Between m n1 ds ps w2
      still B =
          let f = D.kept.frame in
          record {
            area = frame_room f B.area;
            done = marks_frame B.done f refl (omega arith);
            waiting = placed_frame B.waiting f refl refl (omega arith) (omega arith);
            fresh = record {
              listed = clear_frame B.fresh.listed f refl (omega arith);
              levels = clear_frame B.fresh.levels f refl (omega arith);
              reverse = clear_frame B.fresh.reverse f refl (omega arith);
              starts = clear_frame B.fresh.starts f refl (omega arith);
              ends = clear_frame B.fresh.ends f refl (omega arith);
              spare = clear_frame B.fresh.spare f refl (omega arith);
            };
            cells = clear_frame B.cells f refl (omega arith);
            marks = clear_frame B.marks f refl (omega arith);
            tail = λ j h. D.kept.low j (omega arith) ∙ B.tail j h;
          }

      -- ---- a whole stage

      module _ {s : Outcome} (z : r ≡ Ok s) where
        abbrev N : Underway C m (suc k) (at + s.words) s.waiting pl1 ws1 cs1 w1
        N = (rw z at O.on)

        on_still : Underway C m (suc k) (at + s.words) s.waiting pl1 ws1 cs1 w2
        on_still = record {
          ss = N.ss;
          done = N.done;
          waiting = N.waiting;
          reached = N.reached;
          same = N.same;
          ready = N.ready;
          count = N.count;
          few = N.few;
          cells = N.cells;
          counted = N.counted;
          spent = N.spent;
          fits = N.fits;
          plan = N.plan;
          words = N.words;
          counts = N.counts;
          work = still N.work;
        }

        there : after_from C.rule C.K C.g 1 U.done U.waiting room ≡ state N.done N.waiting (C.room - (at + s.words))
        there = sym (after_more C.rule C.K C.g k C.given C.waiting C.room U.done U.waiting room here) ∙ N.reached

        lines_next : lines_after C k ≡ back_lines (suc k) (taken_back X) ++ lines_after C (suc k)
        unfolding one_stage
        lines_next = stage_cases (one_stage C.rule C.K C.g U.done U.waiting room)
            (λ i e. absurd (none_after i e))
            (λ p q re left e.
            let a = after_stage C.rule C.K C.g U.done U.waiting room waits p q re left e in
            let b : state (re ++ U.done) left (room - length q) ≡ state N.done N.waiting (C.room - (at + s.words)) = sym a ∙ there in
            lines_here ∙ why_stage C.rule C.K C.g (C.rooms - suc k) (suc k) U.done U.waiting room waits p q re left e
            ∙ ap (λ (ls : List Line). back_lines (suc k) (taken_back X) ++ ls) (sym (after_lines C (suc k) (N.reached ∙ sym b))))
          where
            none_after : (i : ℕ) → one_stage C.rule C.K C.g U.done U.waiting room ≡ refused i → ⊥
            none_after i e = let d = sym (after_refused C.rule C.K C.g (C.rooms - suc k) (suc k) U.done U.waiting room waits e) ∙ there in let y : ◌≡◌ {A = ℕ} 0 1 = cc in omega arith

        -- it goes on, with its lines told
        pub tells_on : Tells C m k at lines pl ws cs w list (record { outcome = r; lines = told }) pl1 ws1 cs1 w2 list1
        tells_on = rw z (record {
          kept = lengths;
          size = rw copied_lines (lines_length lines (back_lines (suc k) (taken_back X)) list);
          refused = tt;
          last = tt;
          last_count = tt;
          on = on_still;
          more = rw z at O.more;
          bare = D.bare;
          few = told_few;
          next = ap (λ (ls : List Line). put_lines lines ls list) lines_next ∙ lines_more lines (back_lines (suc k) (taken_back X)) (lines_after C (suc k)) list ∙ rw (← copied_lines, ← copied_count) refl;
          next_count = ap (λ (ls : List Line). lines + length ls) lines_next ∙ rw (length-append (back_lines (suc k) (taken_back X)) (lines_after C (suc k))) (omega (arith, copied_count));
        })

      -- ---- one that was stopped

      module _ {s : Stopped} (z : r ≡ Err s) where
        stopped_told : StageTold X m room w (Err s) w1
        stopped_told = rw z at T

        -- its line may be made
        pub over_at : {left : ℕ} → left ≡ room → OverAt K left s
        unfolding word_limit
        over_at e = rw e (record { low = omega (arith, A.one.known.height, C.low); high = omega (arith, A.one.known.height, C.high); left = omega (arith, A.one.left, C.limit, limit_small C.K C.high); few = few_of X (filled_plan X) s stopped_told.refuses.tells })

        lines_last : lines_after C k ≡ back_lines (suc k) (taken_back X) ++ (over_line X (suc k) room (filled_plan X) ∷ [])
        unfolding setting
        lines_last = lines_here ∙ why_refused C.rule C.K C.g (C.rooms - suc k) (suc k) U.done U.waiting room waits stopped_told.refuses.is

        -- it ends the build, with its lines told
        pub tells_over : {list2 six : List ℕ} {stage left : ℕ} → list2 ≡ put_six told six list1 → six ≡ over_six K stage left s → stage ≡ suc k → left ≡ room →
            Tells C m k at lines pl ws cs w list (record { outcome = r; lines = told + 1 }) pl1 ws1 cs1 w2 list2
        unfolding put_lines
        tells_over {list2} {six} e e2 e3 e4 =
            let q : six ≡ over_six K (suc k) room s = e2 ∙ rw (e3, e4) refl in
            let x : Line = over_line X (suc k) room (filled_plan X) in
            let o : numbers x ≡ over_six K (suc k) room s = over_six_lem C.rule C.K C.g (rank C.g) (graph C.g C.valid) C.low (unfold_empty (length C.g) C.small) U.done U.waiting U.ready room (suc k) stopped_told ∙ ap (λ (i : ℕ). over_six i (suc k) room s) (sym A.one.known.height) in
            let b : List Line = back_lines (suc k) (taken_back X) in
            let l : list2 ≡ put_lines lines (lines_after C k) list = e ∙ ap (λ (xs : List ℕ). put_six told xs list1) q ∙ sym (ap (λ (ls : List Line). put_lines lines ls list) lines_last ∙ lines_more lines b (x ∷ []) list ∙ rw (← copied_lines, ← copied_count, o) refl) in
            rw z (record {
              kept = lengths;
              size = rw l (lines_length lines (lines_after C k) list);
              refused = rw z at O.refused;
              last = l;
              last_count = sym (ap (λ (ls : List Line). lines + length ls) lines_last ∙ rw (length-append b (x ∷ [])) (omega (arith, copied_count)));
              on = tt;
              more = tt;
              bare = tt;
              few = tt;
              next = tt;
              next_count = tt;
            })
