-- The shape of the stages that a build makes: what each cell does, what it loads, the empty cell of level 1, the words. Assumes nothing.
use Prim.Native.Nat.{ℕ, zero, suc, ◌+◌, ◌-◌, ◌*◌, ◌^◌, ◌≤◌, ◌<◌}
use mathlib.Core.Path.{◌≡◌, refl, sym, ◌∙◌, ap}
use mathlib.Core.Logic.{◌⊎◌, inl, inr}
use mathlib.Core.Bool.{true, false}
use mathlib.Core.List.{List, [], ◌∷◌, ◌++◌}
use native.Mathlib.Omega.{arith}
use lib.ListN.{length, get_or}
use Rattle.rules.specs.Lists.{found, every, In, Out, Sub}
use Rattle.rules.specs.Cells.{filled, empty, word_limit, word_fits, row_start, first_lower, second_lower, row, first_empty}
use Rattle.rules.specs.Graph.{Node, leaf, gate, pin_of}
use Rattle.rules.specs.Records.{Group, waiting_of, Ends}
use Rattle.rules.specs.Reservation.{reserved}
use Rattle.rules.specs.Traversal.{WordRule, Setting, setting, level_at}
use Rattle.rules.specs.Placing.{filled_plan, tree}
use Rattle.rules.specs.Ending.{stage, one_stage}
use Rattle.rules.specs.Build.{Stage, refusal, whole, stages, build}
use Rattle.rules.specs.Inside.Walks.{rank, Sound, Graph, Ready, Marked}
use Rattle.rules.specs.Inside.Plans.{Step, Sane}
use Rattle.rules.specs.Inside.Plans as plans
use Rattle.rules.proofs.Lists.Members.{in_nil, in_append_right}
use Rattle.rules.proofs.Walk.Reverse.{out_sub}
use Rattle.rules.proofs.Needed.Needs.{setting_sound}
use Rattle.rules.proofs.Cells.Positions.{position_placed}
use Rattle.rules.proofs.Stage.Flat.{blank_replicate}
use Rattle.rules.proofs.Stage.Staged.{Ended, the_end, stage_holds, waits_less, two_step}
use Rattle.rules.proofs.Stage.Depth.{still_ready, stage_cases}
use Rattle.rules.proofs.Build.Lengths.{stage_words}
use Rattle.rules.proofs.Tree.Invariant.{final}
use Rattle.rules.proofs.Tree.Loads.{Fine, fine_kept, fine_first}
use Rattle.rules.proofs.Tree.Sane.{sane_kept, sane_first}
use Rattle.rules.proofs.Fold.Bits.{lower_cells}
use Rattle.rules.proofs.Fold.Whole.{mark, level_zero, zero_kept}
use Rattle.rules.proofs.Written.Writes.{more_whole}
use Rattle.rules.specs.Loops.{Valid}
use Rattle.rules.proofs.Demand.{graph, ready, whole_stages}
use Rattle.rules.proofs.Build.Low.{words_low}
use Rattle.rules.proofs.Build.Above.{Above, from_above, waits_above}

-- what the filled cell at position p above level 0 does, in a plan of pins
pub data Acts (g : List Node) (given pl : List ℕ) (p : ℕ) : Type 0 where
  copies : get_or pl (first_lower p) empty ≡ get_or pl p empty → Acts g given pl p
  joins : (a b : ℕ) → Out (get_or pl p empty) given → get_or g (get_or pl p empty) leaf ≡ gate a b → get_or pl (first_lower p) empty ≡ pin_of a → get_or pl (second_lower p) empty ≡ pin_of b → Acts g given pl p

-- a stage of a build, for the pins that it may load and the words that it may write
pub record Shape (K : ℕ) (g : List Node) (given : List ℕ) (held : ℕ → Type 0) (room : ℕ) (s : Stage) : Type 0 where
  pub size : length s.plan ≡ 2 ^ (K + 1)
  pub zeroth : filled (get_or s.plan 0 empty) ≡ false
  pub names : (q : ℕ) → filled (get_or s.plan q empty) ≡ true → (0 < get_or s.plan q empty) × (get_or s.plan q empty < length g)
  pub acts : (p : ℕ) → 1 ≤ p → p < 2 ^ K → filled (get_or s.plan p empty) ≡ true → Acts g given s.plan p
  pub loads : (q : ℕ) → 2 ^ K ≤ q → filled (get_or s.plan q empty) ≡ true → held (get_or s.plan q empty)
  pub free : (c : ℕ) × (first_empty 0 (row K 1 s.plan) ≡ found c)
  pub words : every (word_fits K) s.words ≡ true
  pub fits : length s.words ≤ room

-- and every stage in turn
abbrev pub Shapes : ℕ → List Node → List ℕ → (ℕ → Type 0) → ℕ → List Stage → Type 0
Shapes K g given held room [] = Unit {0}
Shapes K g given held room (s ∷ ss) = Shape K g given held room s × Shapes K g given (λ n. In n (tree K s.plan)) (room - length s.words) ss

module _ (rule : WordRule) (K : ℕ) (g : List Node) (ok : Valid g) (A : Above g) (tall : 6 ≤ K) (small : length g ≤ empty) (given : List ℕ) where
  abbrev r : ℕ → ℕ
  r p = rank g p

  low : 1 ≤ K
  low = omega arith

  G : Graph g r
  G = graph g ok

  act : (X : Setting) → X.K ≡ K → X.g ≡ g → Sub given X.done → (pl : List ℕ) (p w : ℕ) → first_lower p ≡ p + w → second_lower p ≡ p + 2 * w → Step X pl w p → Acts g given pl p
  act X k e some pl p w a b (plans.copies c) = copies (ap (λ (x : ℕ). get_or pl x empty) a ∙ c)
  act X k e some pl p w a b (plans.splits {a = x} {b = y} o c u v) = joins x y (out_sub given X.done some (get_or pl p empty) o) (rw e at c) (ap (λ (z : ℕ). get_or pl z empty) a ∙ u) (ap (λ (z : ℕ). get_or pl z empty) b ∙ v)

  one_shape : (done waiting : List ℕ) → Ready g r waiting → ((x : ℕ) → In x waiting → 0 < x) → Sub given done → (held : ℕ → Type 0) →
      ((n : ℕ) → In n (setting rule K g done waiting).seen → level_at (setting rule K g done waiting) n ≡ 0 → held n) →
      (room : ℕ) (plan2 words realised waiting2 : List ℕ) → one_stage rule K g done waiting room ≡ stage plan2 words realised waiting2 →
      Shape K g given held room (record { plan = plan2; words = words }) × Ready g r waiting2 × ((x : ℕ) → In x waiting2 → 0 < x)
      × ((n : ℕ) → In n (setting rule K g (realised ++ done) waiting2).seen → level_at (setting rule K g (realised ++ done) waiting2) n ≡ 0 → In n (tree K plan2))
  unfolding setting first_lower second_lower
  one_shape done waiting R above some held right room plan2 words realised waiting2 d =
      let X : Setting = setting rule K g done waiting in
      let S : Sound X r (length g) = setting_sound rule K g r G done waiting R.bounded in
      let M : Marked X = mark g r G small in
      let E : Ended X (filled_plan X) plan2 realised waiting2 = the_end rule K g r G low small done waiting R.bounded room plan2 words realised waiting2 d in
      let R2 : Ready g r waiting2 = still_ready rule K g r G tall small done waiting R room plan2 words realised waiting2 d in
      let S2 : Sound (setting rule K g (realised ++ done) waiting2) r (length g) = setting_sound rule K g r G (realised ++ done) waiting2 R2.bounded in
      let fine = final X r (length g) S low (Fine X r (length g) S) (fine_kept X r (length g) S) (fine_first X r (length g) S (2 ^ (K + 1))) plan2 E.rested in
      let steps = final X r (length g) S low (Sane X (λ q. ⊥)) (sane_kept X r (length g) S M) (sane_first X r (length g) S M (2 ^ (K + 1))) plan2 E.rested in (
        record {
          size = fine.0;
          zeroth = (final X r (length g) S low (λ pl. filled (get_or pl 0 empty) ≡ false) (zero_kept X) (blank_replicate (2 ^ (K + 1)) 0) plan2 E.rested).1;
          names = λ q k. (from_above g A done waiting above (elim (S.visited.new (get_or plan2 q empty) (fine.1 q k).0) [ inl a ↦ in_nil _ a | inr a ↦ a ]), S.bound (get_or plan2 q empty) (fine.1 q k).0);
          acts = λ p a b k.
              let t = position_placed K p a (omega (arith, two_step K)) in
              let L = lower_cells K p a b in
              let z : row_start p * 2 ^ suc L.h ≡ 2 ^ K = rw L.level at t.rows in
              act X refl refl some plan2 p (row_start p) refl refl (steps.1 L.h (row_start p) p z t.row t.end (λ x. x) k);
          loads = λ q b k. right (get_or plan2 q empty) (fine.1 q k).0 ((fine.1 q k).1 b);
          free = E.free;
          words = words_low rule K tall g done waiting room plan2 words realised waiting2 d;
          fits = stage_words rule K g r G tall small done waiting R room plan2 words realised waiting2 d;
        },
        R2,
        λ x i. above x (waits_less rule K g r G low small done waiting R.bounded room plan2 words realised waiting2 d x i),
        λ n i z.
            let h : In n realised = stage_holds rule K g r G low small done waiting R.bounded room plan2 words realised waiting2 d n (elim (S2.visited.new n i) [ inl a ↦ in_nil n a | inr a ↦ a ]) (sym (S2.level n i) ∙ z) in
            rw E.realises at h,
      )

  shapes : (rooms k : ℕ) (done waiting : List ℕ) → Ready g r waiting → ((x : ℕ) → In x waiting → 0 < x) → Sub given done → (held : ℕ → Type 0) →
      ((n : ℕ) → In n (setting rule K g done waiting).seen → level_at (setting rule K g done waiting) n ≡ 0 → held n) →
      (room : ℕ) (ss : List Stage) → stages rule K g rooms k done waiting room ≡ whole ss → Shapes K g given held room ss
  unfolding stages
  shapes zero k done [] R above some held right room ss e = let z : ss ≡ [] = cc in rw z tt
  shapes zero k done (w ∷ ws) R above some held right room ss e = absurd (let z : ◌≡◌ {A = ℕ} 0 1 = cc in omega arith)
  shapes (suc rooms) k done [] R above some held right room ss e = let z : ss ≡ [] = cc in rw z tt
  shapes (suc rooms) k done (w ∷ ws) R above some held right room ss e = stage_cases (one_stage rule K g done (w ∷ ws) room)
      (λ n d. absurd (let c : refusal n k ≡ whole ss = rw (d, stages) at e in let z : ◌≡◌ {A = ℕ} 0 1 = cc in omega arith))
      (λ plan2 words realised waiting2 d.
      let m = more_whole rule K g r G tall small (record { plan = plan2; words = words }) (stages rule K g rooms (suc k) (realised ++ done) waiting2 (room - length words)) ss (rw (d, stages) at e) in
      let t = one_shape done (w ∷ ws) R above some held right room plan2 words realised waiting2 d in
      rw m.2 (t.0, shapes rooms (suc k) (realised ++ done) waiting2 t.1 t.2 (λ q i. in_append_right q realised done (some q i)) (λ n. In n (tree K plan2)) t.3 (room - length words) m.0 m.1))

  -- ---- a whole plan

  module _ (groups : List Group) (named : (q : ℕ) → Ends q groups → q < length g) where
    abbrev waiting : List ℕ
    waiting = waiting_of groups []

    R : Ready g r waiting
    R = ready rule K g ok tall small given [] groups named

    -- what a build makes: in the first stage leaves and given pins are loaded, in a later one pins held above level 0 in the stage before
    pub whole_shapes : (rooms : ℕ) (ss : List Stage) → build rule K g given groups rooms ≡ whole ss → Shapes K g given (λ n. In n given ⊎ (get_or g n leaf ≡ leaf)) (word_limit K - reserved groups) ss
    unfolding setting
    whole_shapes rooms ss e =
        let S : Sound (setting rule K g given waiting) r (length g) = setting_sound rule K g r G given waiting R.bounded in
        shapes rooms 1 given waiting R (waits_above groups [] (λ z j. in_nil z j)) (λ q i. i) (λ n. In n given ⊎ (get_or g n leaf ≡ leaf))
        (λ n i z. level_zero (setting rule K g given waiting) r (length g) S n i z) (word_limit K - reserved groups) ss (whole_stages rule K g ok tall small given [] groups named rooms ss e)
