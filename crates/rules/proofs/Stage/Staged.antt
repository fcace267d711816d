-- One stage that is not refused lowers every remaining depth by one. Assumes nothing.
use Prim.Native.Nat.{ℕ, zero, suc, pred, ◌+◌, ◌-◌, ◌*◌, ◌^◌, ◌≤◌, ◌<◌, min, zero-le}
use mathlib.Core.Path.{◌≡◌, refl, ◌∙◌}
use mathlib.Core.Logic.{inl, inr}
use mathlib.Core.Bool.{true, not, ◌&&◌, false}
use mathlib.Core.List.{List, [], ◌∷◌, ◌++◌, map}
use native.Mathlib.Omega.{arith}
use native.Mathlib.Numerals.{add-one}
use lib.Dec.{eqb, ltb, leb}
use lib.ListN.{length, replicate, length-replicate}
use Rattle.rules.specs.Lists.{mem, insert_all, swap_out_all, found, In, Sub}
use Rattle.rules.specs.Cells.{filled, empty, first_empty, row_at, row}
use Rattle.rules.specs.Graph.{Node}
use Rattle.rules.specs.Traversal.{WordRule, Setting, setting, greatest, level_at}
use Rattle.rules.specs.Placing.{tree, tree_of, needed_of, filled_plan}
use Rattle.rules.specs.Ending.{Plan?, full, plan, refused, stage, in_need, in_tree, last_stage, written, rest, more_words, ending, close, finish, one_stage}
use Rattle.rules.specs.Depth.{depth, remaining}
use Rattle.rules.proofs.Lists.Members.{split, eqb_true, in_nil, in_here, in_there, in_cons, keep_in, and_true, swap_out_all_in, in_insert_all_old}
use Rattle.rules.specs.Loops.{From, start}
use Rattle.rules.specs.Inside.Walks.{Sound, Graph}
use Rattle.rules.proofs.Needed.Needs.{setting_sound, need_listed}
use Rattle.rules.proofs.Needed.Lower.{Served, lowers, holds}
use Rattle.rules.proofs.Stage.Puts.{cell, Keeps, runs_keep, runs_fit, rest_holds}
use Rattle.rules.proofs.Stage.Lengths.{len_fill}

-- rule 9 finds level 1 full, or gives a plan
pub rest_cases : {P : Type 0} (x : Plan?) → (x ≡ full → P) → ((pl : List ℕ) → x ≡ plan pl → P) → P
rest_cases full n f = n refl
rest_cases (plan pl) n f = f pl refl

-- a refused stage is not completed
pub never : {P : Type 0} {n : ℕ} {a b c d : List ℕ} → refused n ≡ stage a b c d → P
never {P} {n} {a} {b} {c} {d} e = absurd (let z : ◌≡◌ {A = ℕ} 0 1 = cc in omega arith)

-- a stage that is not refused ends with the plan of rule 9
pub record Ended (X : Setting) (pl pl2 realised waiting : List ℕ) : Type 0 where
  pub rested : rest X pl ≡ plan pl2
  pub realises : realised ≡ tree X.K pl2
  pub real : List ℕ
  pub early : Sub (written X pl).real real
  pub free : (c : ℕ) × (first_empty 0 (row X.K 1 pl2) ≡ found c)
  pub waits : waiting ≡ swap_out_all real X.waiting

ended : (X : Setting) (room : ℕ) (pl pl2 plan2 words realised waiting : List ℕ) → rest X pl ≡ plan pl2 → (c : ℕ) × (first_empty 0 (row X.K 1 pl2) ≡ found c) → ending X room pl pl2 ≡ stage plan2 words realised waiting → (plan2 ≡ pl2) × Ended X pl pl2 realised waiting
unfolding ending close
ended X room pl pl2 plan2 words realised waiting r fr e = split (last_stage X pl && leb (length (written X pl).words + length (more_words X pl pl2)) room)
    (λ b. let d : close X pl2 ((written X pl).words ++ more_words X pl pl2) (insert_all (in_tree X pl) (written X pl).real) ≡ stage plan2 words realised waiting = rw (b, ending) at e in
    (cc, record { rested = r; realises = cc; real = insert_all (in_tree X pl) (written X pl).real; early = λ q i. in_insert_all_old q (in_tree X pl) (written X pl).real i; free = fr; waits = cc }))
    (λ b. let d : close X pl2 (written X pl).words (written X pl).real ≡ stage plan2 words realised waiting = rw (b, ending) at e in
    (cc, record { rested = r; realises = cc; real = (written X pl).real; early = λ q i. i; free = fr; waits = cc }))

-- a stage that is not refused: the words of rule 8 fit, rule 9 leaves an empty cell at level 1
pub not_refused : {P : Type 0} (X : Setting) (room : ℕ) (pl : List ℕ) {plan2 words realised waiting : List ℕ} → finish X room pl ≡ stage plan2 words realised waiting
    → ((pl2 : List ℕ) → ltb room (length (written X pl).words) ≡ false → rest X pl ≡ plan pl2 → (c : ℕ) × (first_empty 0 (row X.K 1 pl2) ≡ found c) → ending X room pl pl2 ≡ stage plan2 words realised waiting → P) → P
unfolding finish
not_refused X room pl e go = split (ltb room (length (written X pl).words))
    (λ b. never (rw (b, finish) at e))
    (λ b. rest_cases (rest X pl)
    (λ r. never (rw (b, r, finish) at e))
    (λ pl2 r. cell (first_empty 0 (row X.K 1 pl2))
    (λ c. never (rw (b, r, c, finish) at e))
    (λ k c. go pl2 b r (k, c) (rw (b, r, c, finish) at e))))

-- every completed stage ends so
pub finished : (X : Setting) (room : ℕ) (pl plan2 words realised waiting : List ℕ) → finish X room pl ≡ stage plan2 words realised waiting → Ended X pl plan2 realised waiting
finished X room pl plan2 words realised waiting e = not_refused X room pl e (λ pl2 b r f d. let h = ended X room pl pl2 plan2 words realised waiting r f d in rw h.0 h.1)

-- a number below the empty mark fills a cell
pub small_filled : (x : ℕ) → x < empty → filled x ≡ true
unfolding filled
small_filled x h = split (eqb x empty) (λ e. absurd (omega (arith, eqb_true x empty e))) (λ e. rw e)

-- rules 8 and 9 serve all needed pins
module _ (X : Setting) (r : ℕ → ℕ) (f : ℕ) (S : Sound X r f) (half : 2 ^ X.K ≡ row_at X.K 1 + row_at X.K 1) (small : length X.g ≤ empty) where
  -- needed pins are no empty marks
  pub need_filled : (pl : List ℕ) (x : ℕ) → In x (needed_of X pl) → filled x ≡ true
  need_filled pl x e = small_filled x (omega (arith, S.bound x (need_listed X r f S pl x e)))

  -- rule 8 takes nothing out of the tree, and all that it realises is in it
  pub written_keeps : (pl : List ℕ) → 2 ^ X.K ≤ length pl → Keeps X half pl (written X pl)
  unfolding written in_need
  written_keeps pl l = runs_keep X half pl l (last_stage X pl) (runs_fit X.K pl) (record { plan = pl; left = in_need X pl; real = []; words = [] })
      (record { len = refl; grows = λ q e. e; real = λ q e. in_nil q e; fine = λ x e. need_filled pl x (and_true (not (mem x (tree_of X pl))) (mem x (needed_of X pl)) (keep_in _ x X.waiting e).1).1 })

  -- after rule 9 the tree holds what it held before, and every needed pin
  pub served : (pl pl2 : List ℕ) → 2 ^ X.K ≤ length pl → rest X pl ≡ plan pl2 → Served X pl pl2
  unfolding rest tree_of
  served pl pl2 l e =
      let k : Keeps X half pl (written X pl) = written_keeps pl l in
      let h = rest_holds X half (needed_of X pl) (written X pl).real (written X pl).plan pl2 (rw k.len l) k.real (need_filled pl) e in
      record { grows = λ q d. h.1 q (k.grows q d); all = h.2 }

-- the plan of rules 2 to 7 has a number a position
pub length-filled_plan : (X : Setting) → length (filled_plan X) ≡ 2 ^ (X.K + 1)
unfolding filled_plan
length-filled_plan X = len_fill X (2 ^ X.K + X.K) (min (greatest (map (level_at X) X.order) 0) X.K) (replicate (2 ^ (X.K + 1)) empty) ∙ length-replicate (2 ^ (X.K + 1)) empty

-- level 0 has twice the cells of level 1
pub half_height : (K : ℕ) → 1 ≤ K → 2 ^ K ≡ row_at K 1 + row_at K 1
unfolding row_at
half_height zero h = absurd (omega arith)
half_height (suc k) h = let e : suc k - 1 ≡ k = omega arith in rw e (omega arith)

-- a stage has twice the numbers of level 0
pub two_step : (K : ℕ) → 2 ^ (K + 1) ≡ 2 * 2 ^ K
two_step K = rw add-one (omega arith)

-- a bound on the depth of every waiting pin bounds what remains
pub remaining_least : (f : ℕ) (g : List Node) (stop ws : List ℕ) (n : ℕ) → ((x : ℕ) → In x ws → depth f g stop x ≤ n) → remaining f g stop ws ≤ n
unfolding remaining
remaining_least f g stop [] n h = zero-le
remaining_least f g stop (w ∷ ws) n h = omega (arith, h w (in_here w ws), remaining_least f g stop ws n (λ x e. h x (in_there x w ws e)))

-- no waiting pin is deeper than what remains
pub remaining_above : (f : ℕ) (g : List Node) (stop ws : List ℕ) (x : ℕ) → In x ws → depth f g stop x ≤ remaining f g stop ws
unfolding remaining
remaining_above f g stop [] x e = in_nil x e
remaining_above f g stop (w ∷ ws) x e = elim (in_cons x w ws e) [ inl d ↦ rw d (omega arith) | inr d ↦ omega (arith, remaining_above f g stop ws x d) ]

-- what one stage does
module _ (rule : WordRule) (K : ℕ) (g : List Node) (r : ℕ → ℕ) (G : Graph g r) (tall : 1 ≤ K) (small : length g ≤ empty) (done waiting : List ℕ) (bounded : (x : ℕ) → In x waiting → (x < length g) × (r x < length g))
    (room : ℕ) (plan2 words realised waiting2 : List ℕ) (e : one_stage rule K g done waiting room ≡ stage plan2 words realised waiting2) where
  -- a completed stage of a build ends with the plan of rule 9
  pub the_end : Ended (setting rule K g done waiting) (filled_plan (setting rule K g done waiting)) plan2 realised waiting2
  unfolding one_stage
  the_end = finished (setting rule K g done waiting) room (filled_plan (setting rule K g done waiting)) plan2 words realised waiting2 e

  -- after a completed stage only pins wait that waited before
  pub waits_less : Sub waiting2 waiting
  unfolding setting
  waits_less q d = swap_out_all_in the_end.real q waiting (rw the_end.waits at d)

  all_served : Served (setting rule K g done waiting) (filled_plan (setting rule K g done waiting)) plan2
  unfolding setting
  all_served = served (setting rule K g done waiting) r (length g) (setting_sound rule K g r G done waiting bounded) (half_height K tall) small (filled_plan (setting rule K g done waiting)) plan2
      (rw length-filled_plan (omega (arith, two_step K))) the_end.rested

  -- every pin that is still reached is one less deep, if it had any depth
  pub stage_lowers : (q : ℕ) → From g (realised ++ done) waiting2 q → depth (length g) g (realised ++ done) q ≤ pred (depth (length g) g done q)
  unfolding setting tree_of
  stage_lowers q fr = rw the_end.realises (lowers (setting rule K g done waiting) r (length g) (setting_sound rule K g r G done waiting bounded) (filled_plan (setting rule K g done waiting)) plan2 all_served waiting2 waits_less q (rw the_end.realises at fr))

  -- and each of them that has depth 0 is realised
  pub stage_holds : (q : ℕ) → From g (realised ++ done) waiting2 q → depth (length g) g (realised ++ done) q ≡ 0 → In q realised
  unfolding setting tree_of
  stage_holds q fr z = rw the_end.realises (holds (setting rule K g done waiting) r (length g) (setting_sound rule K g r G done waiting bounded) (filled_plan (setting rule K g done waiting)) plan2 all_served waiting2 waits_less q (rw the_end.realises at fr) (rw the_end.realises at z))

  -- so what remains is one less deep
  pub remaining_falls : remaining (length g) g (realised ++ done) waiting2 ≤ pred (remaining (length g) g done waiting)
  remaining_falls = remaining_least (length g) g (realised ++ done) waiting2 (pred (remaining (length g) g done waiting))
      (λ x d. omega (arith, stage_lowers x (start d), remaining_above (length g) g done waiting x (waits_less x d)))
