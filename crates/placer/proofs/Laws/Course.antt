-- A build stage by stage. Assumes nothing.
use Prim.Native.Nat.{ℕ, zero, suc, ◌+◌, ◌-◌, ◌^◌, ◌≤◌, ◌<◌}
use mathlib.Core.List.{List, [], ◌∷◌, ◌++◌, append_assoc, append-nil}
use mathlib.Core.Path.{◌≡◌, refl, sym, ap, ◌∙◌}
use mathlib.Core.Logic.{◌≢◌}
use native.Mathlib.Numerals.{add-one}
use native.Mathlib.Omega.{arith}
use lib.Pow.{pow_mono}
use lib.ListN.{length}
use Rattle.rules.specs.Graph.{Node}
use Rattle.rules.specs.Traversal.{WordRule}
use Rattle.rules.specs.Ending.{refused, stage, one_stage}
use Rattle.rules.specs.States.{state, after_from}
use Rattle.rules.specs.Lists.{count}
use Rattle.rules.specs.Cells.{empty, filled, word_limit}
use Rattle.rules.specs.Build.{Stage, Answer, refusal, whole, more, before, stages, cells_of, words_of, counts_of, refuse, reply, stages_of}
use Rattle.rules.proofs.Stage.Fuel.{count-length}
use Rattle.rules.proofs.Stage.Depth.{stage_cases}
use Rattle.rules.proofs.Stage.Refusals.{before_refusal}
use Rattle.rules.proofs.Build.Lengths.{length_padded}
use Rattle.rules.proofs.Build.Costs.{padded_count}
use Rattle.std.specs.Prelude.{Ok, Err}
use Rattle.refusals.specs.declared.Refusal.{Refusal}
use Rattle.refusals.specs.Numbers.{number_of, pin_of}
use Rattle.stage.specs.declared.finish.Outcome.{Outcome}
use Rattle.stage.specs.declared.finish.Stopped.{Stopped}
use Rattle.stage.specs.declared.finish.Stopped.TheVariants.{OverWords, NoCell}
use Rattle.stage.specs.Stopped.{refusal_of}
use Rattle.placer.specs.Answers.{told}
use Rattle.placer.specs.Stages.{Course, answer, OneAt, One, StagesAt, Whole}

-- ---- stages behind stages

-- one stage more adds its cells behind the others
pub cells_more : (ss : List Stage) (s : Stage) → cells_of (ss ++ (s ∷ [])) ≡ cells_of ss ++ s.plan
unfolding cells_of
cells_more [] s = append-nil s.plan
cells_more (t ∷ ss) s = ap (λ (r : List ℕ). t.plan ++ r) (cells_more ss s) ∙ sym (append_assoc t.plan (cells_of ss) s.plan)

-- one stage more adds its words behind the others
pub words_more : (ss : List Stage) (s : Stage) → words_of (ss ++ (s ∷ [])) ≡ words_of ss ++ s.words
unfolding words_of
words_more [] s = append-nil s.words
words_more (t ∷ ss) s = ap (λ (r : List ℕ). t.words ++ r) (words_more ss s) ∙ sym (append_assoc t.words (words_of ss) s.words)

-- one stage more adds the count of its words
pub counts_more : (ss : List Stage) (s : Stage) → counts_of (ss ++ (s ∷ [])) ≡ counts_of ss ++ (length s.words ∷ [])
unfolding counts_of
counts_more [] s = refl
counts_more (t ∷ ss) s = ap (λ (r : List ℕ). length t.words ∷ r) (counts_more ss s)

-- a stage behind some stages stands before what follows
pub before_more : (ss : List Stage) (s : Stage) (a : Answer) → before ss (more s a) ≡ before (ss ++ (s ∷ [])) a
unfolding before
before_more [] s a = refl
before_more (t ∷ ss) s a = ap (λ (r : Answer). more t r) (before_more ss s a)

-- some stages before a whole plan are a whole plan
pub before_whole : (ss ts : List Stage) → before ss (whole ts) ≡ whole (ss ++ ts)
unfolding before more
before_whole [] ts = refl
before_whole (t ∷ ss) ts = rw (before_whole ss ts)

-- ---- one more, by what it answers

module _ (rule : WordRule) (K : ℕ) (g : List Node) (k : ℕ) (done waiting : List ℕ) (room : ℕ) where
  -- where no pin waits the plan is whole
  pub none_waits : (r : ℕ) → waiting ≡ [] → stages rule K g r k done waiting room ≡ whole []
  unfolding stages
  none_waits zero e = rw (e, stages)
  none_waits (suc r) e = rw (e, stages)

  -- where pins wait and no room is left it is refused with 9
  pub no_room : 0 < length waiting → stages rule K g 0 k done waiting room ≡ refusal 9 k
  unfolding stages
  no_room h = elim waiting as (λ ws. 0 < length ws → stages rule K g 0 k done ws room ≡ refusal 9 k) [ [] ↦ λ z. absurd (omega arith) | w ∷ ws ↦ λ z. refl ] h

  nonempty : (P : List ℕ → Type 0) → ((w : ℕ) (ws : List ℕ) → P (w ∷ ws)) → 0 < length waiting → P waiting
  nonempty P f h = elim waiting as (λ xs. 0 < length xs → P xs) [ [] ↦ λ z. absurd (omega arith) | w ∷ ws ↦ λ z. f w ws ] h

  -- a refused stage refuses the build, with its number and place
  pub stage_refused : 0 < length waiting → (r n : ℕ) → one_stage rule K g done waiting room ≡ refused n → stages rule K g (suc r) k done waiting room ≡ refusal n k
  unfolding stages
  stage_refused h r n = nonempty (λ xs. one_stage rule K g done xs room ≡ refused n → stages rule K g (suc r) k done xs room ≡ refusal n k) (λ w ws e. rw (e, stages)) h

  -- a whole one stands before the stages that follow it
  pub stage_more : 0 < length waiting → (r : ℕ) (pl ws re left : List ℕ) → one_stage rule K g done waiting room ≡ stage pl ws re left →
      stages rule K g (suc r) k done waiting room ≡ more (record { plan = pl; words = ws }) (stages rule K g r (suc k) (re ++ done) left (room - length ws))
  unfolding stages
  stage_more h r pl ws re left =
      nonempty (λ xs. one_stage rule K g done xs room ≡ stage pl ws re left → stages rule K g (suc r) k done xs room ≡ more (record { plan = pl; words = ws }) (stages rule K g r (suc k) (re ++ done) left (room - length ws))) (λ w zs e. rw (e, stages)) h

-- ---- the state behind some stages

module _ (rule : WordRule) (K : ℕ) (g : List Node) where
  -- one stage more is one stage from there
  pub after_more : (s : ℕ) (done waiting : List ℕ) (room : ℕ) (done2 waiting2 : List ℕ) (room2 : ℕ) → after_from rule K g s done waiting room ≡ state done2 waiting2 room2 → after_from rule K g (suc s) done waiting room ≡ after_from rule K g 1 done2 waiting2 room2
  unfolding after_from one_stage
  after_more zero done waiting room done2 waiting2 room2 e =
      let d : done ≡ done2 = cc in
      let w : waiting ≡ waiting2 = cc in
      let r : room ≡ room2 = cc in
      rw (d, w, r) refl
  after_more (suc s) done [] room done2 waiting2 room2 e = absurd (let z : ◌≡◌ {A = ℕ} 0 1 = cc in omega arith)
  after_more (suc s) done (w ∷ ws) room done2 waiting2 room2 e = stage_cases (one_stage rule K g done (w ∷ ws) room)
      (λ n d. absurd (let c = rw (d, after_from) at e in let z : ◌≡◌ {A = ℕ} 0 1 = cc in omega arith))
      (λ pl words realised waiting3 d. rw (d, after_from) (after_more s (realised ++ done) waiting3 (room - length words) done2 waiting2 room2 (rw (d, after_from) at e)))

  -- a whole stage
  pub after_stage : (done waiting : List ℕ) (room : ℕ) → 0 < length waiting → (pl ws re left : List ℕ) → one_stage rule K g done waiting room ≡ stage pl ws re left → after_from rule K g 1 done waiting room ≡ state (re ++ done) left (room - length ws)
  unfolding after_from
  after_stage done [] room h pl ws re left e = absurd (omega arith)
  after_stage done (w ∷ zs) room h pl ws re left e = rw (e, after_from) refl

-- ---- the loop over the stages

empty_list : (xs : List ℕ) → length xs ≡ 0 → xs ≡ []
empty_list [] e = refl
empty_list (x ∷ xs) e = absurd (omega arith)

no_stages : (ss : List Stage) → length ss ≡ 0 → ss ≡ []
no_stages [] e = refl
no_stages (s ∷ ss) e = absurd (omega arith)

-- at most 256 words may be written
pub limit_small : (K : ℕ) → K ≤ 13 → 2 ^ (K - 5) ≤ 256
limit_small K h = pow_mono {i = K - 5} {j = 8} (omega arith)

module _ {C : Course} {m K half : ℕ} {rooms k at n room : ℕ} {gates pl ws cs w : List ℕ} (A : StagesAt C m K half rooms k at n room gates pl ws cs w) where
  -- while pins wait and a room is left, the next stage may be built
  pub next_at : {b : ℕ} → b ≡ room → 0 < n → k ≢ rooms → OneAt C m K half k n at (b - at) gates pl ws cs w
  next_at e h r = record { known = A.known; now = A.now; left = ap (λ (i : ℕ). i - at) (e ∙ A.left); waits = h; more = omega (arith, A.now.few, A.all) }

  -- no more words are spent than may be
  pub spent_within : at ≤ room
  spent_within = omega (arith, A.now.fits, A.left)

  -- the words that may be written are at most 256
  pub room_small : room ≤ 256
  unfolding word_limit
  room_small = omega (arith, A.left, C.limit, limit_small C.K C.high)

  words_all : length ws ≡ word_limit C.K
  words_all = rw A.now.words (length_padded (word_limit C.K) empty (words_of A.now.ss) (omega (arith, A.now.spent, A.now.fits, C.limit)))

  -- they fit the lent area
  pub room_within : room ≤ length ws
  room_within = omega (arith, A.left, C.limit, words_all)

  -- pins that wait without a room left mean 9
  pub rooms_nine : 0 < n → k ≡ rooms → answer C ≡ refusal 9 (suc k)
  rooms_nine h e =
      let z : C.rooms - k ≡ 0 = omega (arith, A.all) in
      let s = A.now.same in
      let r = rw z at s in
      r ∙ ap (before A.now.ss) (no_room C.rule C.K C.g (suc k) A.now.done A.now.waiting (C.room - at) (omega (arith, A.now.work.waiting.held.count))) ∙ before_refusal A.now.ss 9 (suc k)

  -- no pin left means a whole plan
  pub all_whole : n ≡ 0 → answer C ≡ whole A.now.ss
  all_whole e =
      A.now.same
      ∙ ap (before A.now.ss) (none_waits C.rule C.K C.g (suc k) A.now.done A.now.waiting (C.room - at) (C.rooms - k) (empty_list A.now.waiting (omega (arith, A.now.work.waiting.held.count))))
      ∙ before_whole A.now.ss []
      ∙ ap whole (append-nil A.now.ss)

  -- the filled cells of the area are the stages'
  pub cells_count : count filled pl ≡ count filled (cells_of A.now.ss)
  cells_count = ap (count filled) A.now.plan ∙ padded_count _ (cells_of A.now.ss)

  -- before the first stage none is filled
  pub none_filled : k ≡ 0 → 0 ≡ count filled pl
  unfolding cells_of count
  none_filled e = sym (cells_count ∙ ap (λ (ss : List Stage). count filled (cells_of ss)) (no_stages A.now.ss (A.now.count ∙ e)))

  -- a room is left where not all are used
  pub still_rooms : 0 < n → k ≢ rooms → k < rooms
  still_rooms h r = omega (arith, A.now.few, A.all)

  -- after a whole stage the build goes on with the next
  pub one_on : {o : Outcome} {pl' ws' cs' w' : List ℕ} → One C m k at pl ws cs w (Ok o) pl' ws' cs' w' → {spent : ℕ} → spent ≡ at + o.words → StagesAt C m K half rooms (k + 1) spent o.waiting room gates pl' ws' cs' w'
  one_on O e = rw (e, add-one k) (record { known = A.known; now = O.on; all = A.all; short = A.short; left = A.left })

-- with the stage's the filled cells are no more than the plan has
pub cells_within : {C : Course} {m k at : ℕ} {o : Outcome} {pl ws cs w pl' ws' cs' w' : List ℕ} → One C m k at pl ws cs w (Ok o) pl' ws' cs' w' → {t : ℕ} → t ≡ count filled pl → t + o.cells ≤ length pl
cells_within {pl' = pl'} O e = omega (arith, O.more, O.kept.plan, count-length filled pl')

-- what the answers tell
pub refused_told : (C : Course) (k : ℕ) (why : Refusal) → pin_of why ≡ 0 → answer C ≡ refusal (number_of why) (suc k) → told (Err (record { why = why; stage = k + 1 })) ≡ reply (answer C)
unfolding told reply refuse
refused_told C k why p e = rw (p, e, add-one k, reply)

-- what stops a stage shows no pin
pub no_pin : (s : Stopped) → pin_of (refusal_of s) ≡ 0
no_pin (OverWords n) = refl
no_pin (NoCell c n) = refl

module _ {C : Course} {m K half : ℕ} {rooms k at n room : ℕ} {gates pl ws cs w : List ℕ} (A : StagesAt C m K half rooms k at n room gates pl ws cs w) (z : n ≡ 0) where
  -- the answer tells the stages, words and filled cells of the whole plan
  pub whole_told : {t : ℕ} → t ≡ count filled pl → told (Ok (record { stages = k; words = at; cells = t })) ≡ reply (answer C)
  unfolding told reply
  whole_told e = rw (all_whole A z, A.now.count, A.now.spent, e ∙ cells_count A, reply)

  -- the whole plan stands in the areas
  pub whole_stands : Whole C (stages_of (answer C)) pl ws cs
  unfolding stages_of
  whole_stands = rw (all_whole A z, stages_of) (record { plan = A.now.plan; words = A.now.words; counts = A.now.counts })
