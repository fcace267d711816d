-- Demand 3 of a build, for any height from 6. Assumes nothing.
use Prim.Native.Nat.{ℕ, zero, suc, ◌+◌, ◌-◌, ◌^◌, ◌≤◌, ◌<◌}
use mathlib.Core.Path.{◌≡◌, refl, sym, ◌∙◌}
use mathlib.Core.Logic.{◌⊎◌, inl, inr, ◌≢◌}
use mathlib.Core.Bool.{Bool, true, false}
use mathlib.Core.List.{List, [], ◌∷◌, ◌++◌}
use native.Mathlib.Omega.{arith}
use lib.Dec.{ltb, lt→ltb}
use lib.ListN.{length, get_or, get_or-eq_default}
use borrow.Author.Tests.{ltb-true, ltb-false}
use Rattle.rules.specs.Lists.{mem, keep, insert_all, In, Sub, Once, nobody}
use Rattle.rules.specs.Cells.{filled, empty, word_limit}
use Rattle.rules.specs.Graph.{Node, leaf, gate, pin_of, operands, below, own_bit, value}
use Rattle.rules.specs.Loops.{Valid}
use Rattle.rules.specs.Records.{Group, endpoints_of, waiting_of, Ends, first, later}
use Rattle.rules.specs.Reservation.{reservable, reserved}
use Rattle.rules.specs.Traversal.{WordRule, every_run, needed_runs, over, Setting, setting, level_at}
use Rattle.rules.specs.Placing.{filled_plan, tree}
use Rattle.rules.specs.Ending.{stage, one_stage}
use Rattle.rules.specs.Build.{Stage, refusal, whole, stages, build}
use Rattle.rules.specs.States.{state, after}
use Rattle.rules.specs.Capacity.{Refused}
use Rattle.rules.specs.Depth.{depth, remaining, deepest}
use Rattle.rules.specs.Fold.{bit_at, is_leaf, first_load, load_from}
use Rattle.rules.proofs.Lists.Members.{split, T→true, in_here, in_there, in_cons, in_nil, in_append_right, in_insert_all, in_insert_all_old, insert_all_in, keep_in, in_keep}
use Rattle.rules.proofs.Walk.Levels.{over_least, over_above}
use Rattle.rules.proofs.Walk.Reverse.{below_in, below_sub}
use Rattle.rules.specs.Inside.Walks.{rank, Sound, Graph, Ready}
use Rattle.rules.proofs.Loops.{rank_falls, rank_few, loopless_no, ranked_loopless}
use Rattle.rules.proofs.Needed.Needs.{setting_sound}
use Rattle.rules.proofs.Stage.Flat.{blank_replicate}
use Rattle.rules.proofs.Stage.Staged.{Ended, the_end, stage_holds, remaining_least, remaining_above}
use Rattle.rules.proofs.Stage.Depth.{still_ready, stage_cases, shallow, rooms_suffice}
use Rattle.rules.proofs.Build.Lengths.{Sizes, sizes, Sized, all_sized}
use Rattle.rules.proofs.Tree.Invariant.{final}
use Rattle.rules.proofs.Tree.Loads.{Fine, fine_kept, fine_first}
use Rattle.rules.proofs.Fold.Folds.{value_own}
use Rattle.rules.proofs.Fold.Whole.{Folded, folded, level_zero, zero_kept}
use Rattle.rules.proofs.Written.Words.{once_insert_all}
use Rattle.rules.proofs.Written.Writes.{Written, all_written, more_whole}
use Rattle.rules.proofs.Build.Bounds as bounds
use Rattle.rules.proofs.Build.Bounds.{Few}
use Rattle.rules.proofs.Build.Rules.{build_no_more}
use Rattle.rules.proofs.Build.Counted as counted

operand_in : (g : List Node) → Valid g → (x : Node) (p q : ℕ) → get_or g p leaf ≡ x → In q (operands x) → q < length g
unfolding operands
operand_in g ok leaf p q e i = in_nil q i
operand_in g ok (gate a b) p q e i =
    let h = ok.inside p a b e in
    elim (in_cons q (pin_of a) (pin_of b ∷ []) i) [
      | inl c ↦ rw c h.0
      | inr c ↦ elim (in_cons q (pin_of b) [] c) [ inl d ↦ rw d h.1 | inr d ↦ in_nil q d ]
    ]

followed_in : (g : List Node) → Valid g → (p x : ℕ) → In x (below g [] p) → x < length g
followed_in g ok p x i = operand_in g ok (get_or g p leaf) p x refl (below_in g [] p x i).1

-- in a valid graph operands are pins of it, and have fewer pins under them than their gate
pub graph : (g : List Node) → Valid g → Graph g (rank g)
graph g ok = record {
  falls = rank_falls g (followed_in g ok) (loopless_no g (followed_in g ok) ok.free);
  inside = followed_in g ok;
}

-- every pin has a rank below N + 1
pub graph_few : (g : List Node) → Valid g → (p : ℕ) → p < length g → rank g p < length g
graph_few g ok = rank_few g (followed_in g ok) (loopless_no g (followed_in g ok) ok.free)

-- a graph whose gates have operands below their own pin, as was asked once, has no loop
lower_operand : (g : List Node) → ((p a b : ℕ) → get_or g p leaf ≡ gate a b → (pin_of a < p) × (pin_of b < p)) → (x : Node) (p q : ℕ) → get_or g p leaf ≡ x → In q (operands x) → (q < p) × (p < length g)
unfolding operands
lower_operand g lower leaf p q e i = in_nil q i
lower_operand g lower (gate a b) p q e i =
    let h = lower p a b e in
    let n : p < length g = split (ltb p (length g)) (λ c. ltb-true p (length g) c) (λ c. absurd (let d : leaf ≡ gate a b = sym (get_or-eq_default g leaf (ltb-false p (length g) c)) ∙ e in let z : ◌≡◌ {A = ℕ} 0 1 = cc in omega arith)) in
    elim (in_cons q (pin_of a) (pin_of b ∷ []) i) [
      | inl c ↦ (rw c h.0, n)
      | inr c ↦ elim (in_cons q (pin_of b) [] c) [ inl d ↦ (rw d h.1, n) | inr d ↦ in_nil q d ]
    ]

-- a graph is valid where every gate's operands are pins below its own
pub lower_valid : (g : List Node) → ((p a b : ℕ) → get_or g p leaf ≡ gate a b → (pin_of a < p) × (pin_of b < p)) → Valid g
unfolding operands
lower_valid g lower =
    let under-own : (p x : ℕ) → In x (below g [] p) → (x < p) × (p < length g) = λ p x i. lower_operand g lower (get_or g p leaf) p x refl (below_in g [] p x i).1 in
    let in_graph_lem : (p x : ℕ) → In x (operands (get_or g p leaf)) → x < length g = λ p x i. let h = lower_operand g lower (get_or g p leaf) p x refl i in omega (arith, h.0, h.1) in
    record {
      inside = λ p a b e. (in_graph_lem p (pin_of a) (rw e (in_here (pin_of a) (pin_of b ∷ []))), in_graph_lem p (pin_of b) (rw e (in_there (pin_of b) (pin_of a) (pin_of b ∷ []) (in_here (pin_of b) []))));
      free = ranked_loopless g (λ p x i. let h = under-own p x i in omega (arith, h.0, h.1)) (λ p. p) (λ p x i. (under-own p x i).0);
    }

-- a pin is no deeper where more pins stop
depth_sub : (g : List Node) (done stop : List ℕ) → Sub done stop → (f p : ℕ) → depth f g stop p ≤ depth f g done p
unfolding depth
depth_sub g done stop h zero p = omega arith
depth_sub g done stop h (suc f) p = over_least (depth f g stop) (below g stop p) (over (depth f g done) (below g done p))
    (λ x i. omega (arith, depth_sub g done stop h f x, over_above (depth f g done) (below g done p) x (below_sub g done stop h p x i)))

-- a pin to stop at has no depth
pub depth_stop : (g : List Node) (stop : List ℕ) (f p : ℕ) → In p stop → depth f g stop p ≡ 0
unfolding depth below over
depth_stop g stop zero p i = refl
depth_stop g stop (suc f) p i = rw (i, below)

-- where more pins are given D is no greater
pub deepest_sub : (g : List Node) (done stop : List ℕ) → Sub done stop → (xs : List Group) → deepest g stop xs ≤ deepest g done xs
unfolding deepest
deepest_sub g done stop h xs = remaining_least (length g) g stop (waiting_of xs []) (remaining (length g) g done (waiting_of xs []))
    (λ x i. omega (arith, depth_sub g done stop h (length g) x, remaining_above (length g) g done (waiting_of xs []) x i))

-- the endpoint pins, the constant left out
waiting_of_once : (xs : List Group) {ws : List ℕ} → Once ws → Once (waiting_of xs ws)
unfolding waiting_of
waiting_of_once [] k = k
waiting_of_once (x ∷ xs) k = waiting_of_once xs (once_insert_all (keep (ltb 0) (endpoints_of x)) k)

waiting_of_old : (q : ℕ) (xs : List Group) (ws : List ℕ) → In q ws → In q (waiting_of xs ws)
unfolding waiting_of
waiting_of_old q [] ws i = i
waiting_of_old q (x ∷ xs) ws i = waiting_of_old q xs _ (in_insert_all_old q (keep (ltb 0) (endpoints_of x)) ws i)

-- an endpoint pin but the constant waits before the first stage
pub ends_wait : (q : ℕ) → 0 < q → {xs : List Group} → Ends q xs → (ws : List ℕ) → In q (waiting_of xs ws)
unfolding waiting_of
ends_wait q b (first {x = x} {xs = xs} i) ws = waiting_of_old q xs _ (in_insert_all q (keep (ltb 0) (endpoints_of x)) ws (in_keep (ltb 0) q (endpoints_of x) i (T→true (ltb 0 q) (lt→ltb 0 q b))))
ends_wait q b (later {x = x} {xs = xs} e) ws = ends_wait q b e (insert_all (keep (ltb 0) (endpoints_of x)) ws)

-- and what waits is an endpoint pin
pub wait_ends : (q : ℕ) (xs : List Group) (ws : List ℕ) → In q (waiting_of xs ws) → In q ws ⊎ Ends q xs
unfolding waiting_of
wait_ends q [] ws i = inl i
wait_ends q (x ∷ xs) ws i = elim (wait_ends q xs _ i) [
  | inl a ↦ elim (insert_all_in q (keep (ltb 0) (endpoints_of x)) ws a) [ inl b ↦ inr (first (keep_in (ltb 0) q (endpoints_of x) b).0) | inr b ↦ inl b ]
  | inr a ↦ inr (later a)
]

-- the stages of a plan, each with what it loads and which pins it may load
module _ (K : ℕ) (g : List Node) (given bits : List ℕ) where
  -- every filled cell folds to its pin's graph value
  abbrev pub FoldsRight : (ℕ → Bool) → List ℕ → Type 0
  FoldsRight load pl = (p : ℕ) → 1 ≤ p → p < 2 ^ (K + 1) → filled (get_or pl p empty) ≡ true → bit_at K g pl load p ≡ value (length g) g given bits (get_or pl p empty)

  -- every cell of level 0 loads a pin that may be loaded
  abbrev pub LoadsRight : (ℕ → Type 0) → List ℕ → Type 0
  LoadsRight held pl = (q : ℕ) → 2 ^ K ≤ q → filled (get_or pl q empty) ≡ true → held (get_or pl q empty)

  -- a stage whose cells name pins of the graph, fold to their graph values and load what they may
  pub record StageRight (load : ℕ → Bool) (held : ℕ → Type 0) (pl : List ℕ) : Type 0 where
    pub size : length pl ≡ 2 ^ (K + 1)
    pub zeroth : filled (get_or pl 0 empty) ≡ false
    pub names : (q : ℕ) → filled (get_or pl q empty) ≡ true → get_or pl q empty < length g
    pub folds : FoldsRight load pl
    pub loads : LoadsRight held pl

  -- the same of every stage in turn; a later one loads what the stage before it holds above level 0
  abbrev pub Right : (ℕ → Bool) → (ℕ → Type 0) → List Stage → Type 0
  Right load held [] = Unit {0}
  Right load held (s ∷ ss) = StageRight load held s.plan × Right (load_from K g s.plan load) (λ n. In n (tree K s.plan)) ss

module _ (rule : WordRule) (K : ℕ) (g : List Node) (ok : Valid g) (tall : 6 ≤ K) (small : length g ≤ empty) (given bits : List ℕ) where
  -- a pin's rank: how many pins are under it
  abbrev pub r : ℕ → ℕ
  r p = rank g p

  low : 1 ≤ K
  low = omega arith

  -- the graph's operands are of a lower rank
  pub G : Graph g r
  G = graph g ok

  first_own : (n : ℕ) → In n given ⊎ (get_or g n leaf ≡ leaf) → first_load g given bits n ≡ own_bit bits n
  unfolding first_load is_leaf
  first_own n (inl e) = rw e
  first_own n (inr e) = split (mem n given) (λ d. rw d) (λ d. rw (d, e))

  one_right : (done waiting : List ℕ) → Ready g r waiting → Sub given done → (load : ℕ → Bool) (held : ℕ → Type 0) →
      ((n : ℕ) → In n (setting rule K g done waiting).seen → level_at (setting rule K g done waiting) n ≡ 0 → (load n ≡ value (length g) g given bits n) × held n) →
      (room : ℕ) (plan2 words realised waiting2 : List ℕ) → one_stage rule K g done waiting room ≡ stage plan2 words realised waiting2 →
      StageRight K g given bits load held plan2 × Ready g r waiting2
      × ((n : ℕ) → In n (setting rule K g (realised ++ done) waiting2).seen → level_at (setting rule K g (realised ++ done) waiting2) n ≡ 0 → (load_from K g plan2 load n ≡ value (length g) g given bits n) × In n (tree K plan2))
  unfolding setting
  one_right done waiting R some load held right room plan2 words realised waiting2 d =
      let X : Setting = setting rule K g done waiting in
      let S : Sound X r (length g) = setting_sound rule K g r G done waiting R.bounded in
      let E : Ended X (filled_plan X) plan2 realised waiting2 = the_end rule K g r G low small done waiting R.bounded room plan2 words realised waiting2 d in
      let R2 : Ready g r waiting2 = still_ready rule K g r G tall small done waiting R room plan2 words realised waiting2 d in
      let S2 : Sound (setting rule K g (realised ++ done) waiting2) r (length g) = setting_sound rule K g r G (realised ++ done) waiting2 R2.bounded in
      let fine = final X r (length g) S low (Fine X r (length g) S) (fine_kept X r (length g) S) (fine_first X r (length g) S (2 ^ (K + 1))) plan2 E.rested in
      let F : Folded rule K g r G tall small given bits plan2 realised load = folded rule K g r G tall small given bits done waiting R some room plan2 words realised waiting2 d load (λ n i z. (right n i z).0) in (
        record {
          size = fine.0;
          zeroth = (final X r (length g) S low (λ pl. filled (get_or pl 0 empty) ≡ false) (zero_kept X) (blank_replicate (2 ^ (K + 1)) 0) plan2 E.rested).1;
          names = λ q k. S.bound (get_or plan2 q empty) (fine.1 q k).0;
          folds = F.cells;
          loads = λ q b k. (right (get_or plan2 q empty) (fine.1 q k).0 ((fine.1 q k).1 b)).1;
        },
        R2,
        λ n i z.
            let h : In n realised = stage_holds rule K g r G low small done waiting R.bounded room plan2 words realised waiting2 d n (elim (S2.visited.new n i) [ inl a ↦ in_nil n a | inr a ↦ a ]) (sym (S2.level n i) ∙ z) in
            (F.next n h, rw E.realises at h),
      )

  rights : (rooms k : ℕ) (done waiting : List ℕ) → Ready g r waiting → Sub given done → (load : ℕ → Bool) (held : ℕ → Type 0) →
      ((n : ℕ) → In n (setting rule K g done waiting).seen → level_at (setting rule K g done waiting) n ≡ 0 → (load n ≡ value (length g) g given bits n) × held n) →
      (room : ℕ) (ss : List Stage) → stages rule K g rooms k done waiting room ≡ whole ss → Right K g given bits load held ss
  unfolding stages
  rights zero k done [] R some load held right room ss e = let z : ss ≡ [] = cc in rw z tt
  rights zero k done (w ∷ ws) R some load held right room ss e = absurd (let z : ◌≡◌ {A = ℕ} 0 1 = cc in omega arith)
  rights (suc rooms) k done [] R some load held right room ss e = let z : ss ≡ [] = cc in rw z tt
  rights (suc rooms) k done (w ∷ ws) R some load held right room ss e = stage_cases (one_stage rule K g done (w ∷ ws) room)
      (λ n d. absurd (let c : refusal n k ≡ whole ss = rw (d, stages) at e in let z : ◌≡◌ {A = ℕ} 0 1 = cc in omega arith))
      (λ plan2 words realised waiting2 d.
      let m = more_whole rule K g r G tall small (record { plan = plan2; words = words }) (stages rule K g rooms (suc k) (realised ++ done) waiting2 (room - length words)) ss (rw (d, stages) at e) in
      let t = one_right done (w ∷ ws) R some load held right room plan2 words realised waiting2 d in
      rw m.2 (t.0, rights rooms (suc k) (realised ++ done) waiting2 t.1 (λ q i. in_append_right q realised done (some q i)) (load_from K g plan2 load) (λ n. In n (tree K plan2)) t.2 (room - length words) m.0 m.1))

  -- the build
  module _ (groups : List Group) (named : (q : ℕ) → Ends q groups → q < length g) where
    -- the pins that wait before the first stage
    abbrev pub waiting : List ℕ
    waiting = waiting_of groups []

    -- before the first stage no pin waits twice, and each is of the graph
    pub ready : Ready g r waiting
    ready = record {
      once = waiting_of_once groups nobody;
      bounded = λ x i. let h : x < length g = elim (wait_ends x groups [] i) [ inl a ↦ in_nil x a | inr a ↦ named x a ] in (h, graph_few g ok x h);
    }

    -- D: the longest chain of gates under any endpoint pin, down to leaves and given pins
    abbrev pub D : ℕ
    D = remaining (length g) g given waiting

    -- if pins still wait after s stages, s is at most D and what remains is at most D - s deep
    pub depth_falls : (s : ℕ) (done2 waiting2 : List ℕ) (room2 : ℕ) → after rule K g given groups s ≡ state done2 waiting2 room2 → waiting2 ≢ [] → (s ≤ D) × (remaining (length g) g done2 waiting2 ≤ D - s)
    unfolding after
    depth_falls s done2 waiting2 room2 e n = split (reservable K groups)
        (λ c. let h = shallow rule K g r G tall small s given waiting ready (word_limit K - reserved groups) (rw (c, after) at e) in (h.few n, h.depth))
        (λ c. absurd (let d = rw (c, after) at e in let z : ◌≡◌ {A = ℕ} 0 1 = cc in omega arith))

    -- with D + 1 rooms a build ends in a whole plan, or in 6, 7 or 8
    pub rooms_enough : (rooms n j : ℕ) → D < rooms → build rule K g given groups rooms ≡ refusal n j → (n ≡ 6) ⊎ ((n ≡ 7) ⊎ (n ≡ 8))
    unfolding build
    rooms_enough rooms n j b e = split (reservable K groups)
        (λ c. inr (rooms_suffice rule K g r G tall small rooms 1 given waiting ready (word_limit K - reserved groups) (inr b) n j (rw (c, build) at e)))
        (λ c. let d : refusal 6 0 ≡ refusal n j = rw (c, build) at e in inl (cc))

    -- a refused build has run out of capacity
    pub refused_where : (rooms n k : ℕ) → build rule K g given groups rooms ≡ refusal n k → Refused rule K g given groups rooms n k
    refused_where = counted.refused_where rule K g r G tall small given groups ready

    -- and where it runs out of capacity it is refused
    pub refusal_given : (rooms : ℕ) {n k : ℕ} → Refused rule K g given groups rooms n k → build rule K g given groups rooms ≡ refusal n k
    refusal_given = counted.refusal_given rule K g r G tall small given groups ready

    -- a whole plan is what the stages give: its reservation is not over
    pub whole_stages : (rooms : ℕ) (ss : List Stage) → build rule K g given groups rooms ≡ whole ss → stages rule K g rooms 1 given waiting (word_limit K - reserved groups) ≡ whole ss
    unfolding build
    whole_stages rooms ss e = split (reservable K groups) (λ c. rw (c, build) at e) (λ c. absurd (let d : refusal 6 0 ≡ whole ss = rw (c, build) at e in let z : ◌≡◌ {A = ℕ} 0 1 = cc in omega arith))

    -- a whole plan has no more stages than rooms, and no more words than the reservation leaves
    pub whole_sizes : (rooms : ℕ) (ss : List Stage) → build rule K g given groups rooms ≡ whole ss → Sizes rule K g r G tall small rooms (word_limit K - reserved groups) ss
    whole_sizes rooms ss e = sizes rule K g r G tall small rooms 1 given waiting ready (word_limit K - reserved groups) ss (whole_stages rooms ss e)

    -- each stage of a whole plan has a number a position
    pub whole_sized : (rooms : ℕ) (ss : List Stage) → build rule K g given groups rooms ≡ whole ss → Sized (2 ^ (K + 1)) ss
    whole_sized rooms ss e = all_sized rule K g r G tall small rooms 1 given waiting ready (word_limit K - reserved groups) ss (whole_stages rooms ss e)

    -- a whole plan folds right, and loads right: first leaves and given pins, then pins held above level 0 one stage before
    pub whole_right : (rooms : ℕ) (ss : List Stage) → build rule K g given groups rooms ≡ whole ss → Right K g given bits (first_load g given bits) (λ n. In n given ⊎ (get_or g n leaf ≡ leaf)) ss
    unfolding setting
    whole_right rooms ss e =
        let S : Sound (setting rule K g given waiting) r (length g) = setting_sound rule K g r G given waiting ready.bounded in
        rights rooms 1 given waiting ready (λ q i. i) (first_load g given bits) (λ n. In n given ⊎ (get_or g n leaf ≡ leaf))
        (λ n i z. let h = level_zero (setting rule K g given waiting) r (length g) S n i z in (first_own n h ∙ sym (value_own g r G given bits (length g) n (omega (arith, S.fuel n i)) h), h))
        (word_limit K - reserved groups) ss (whole_stages rooms ss e)

    -- and every endpoint pin but the constant stands in a written word
    pub whole_written : (rooms : ℕ) (ss : List Stage) → build rule K g given groups rooms ≡ whole ss → (q : ℕ) → 0 < q → Ends q groups → Written K q ss
    whole_written rooms ss e q b i = all_written rule K g r G tall small rooms 1 given waiting ready (word_limit K - reserved groups) ss (whole_stages rooms ss e) q (ends_wait q b i [])

    -- a build answers with at most N + 1 stages and W words
    pub build_few : (rooms : ℕ) → Few K g (build rule K g given groups rooms)
    build_few = bounds.build_few rule K g r G tall small given groups ready

-- The new word rule never costs a job: with the same rooms it accepts what the old one accepts, with no more stages.
pub never_costs : (K : ℕ) (g : List Node) → Valid g → 6 ≤ K → length g ≤ empty → (given : List ℕ) (groups : List Group) → ((q : ℕ) → Ends q groups → q < length g) →
    (rooms : ℕ) (ss : List Stage) → build every_run K g given groups rooms ≡ whole ss → (ts : List Stage) × (build needed_runs K g given groups rooms ≡ whole ts) × (length ts ≤ length ss)
never_costs K g ok tall small given groups named = build_no_more K g (rank g) (graph g ok) tall small given groups (ready every_run K g ok tall small given [] groups named)
