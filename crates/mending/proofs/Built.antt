-- The stages that the placer built are sound, so the rebuild leaves them as they are. Assumes nothing.
use Prim.Native.Nat.{ℕ, zero, suc, ◌+◌, ◌-◌, ◌*◌, ◌^◌, ◌≤◌, ◌<◌}
use mathlib.Core.Path.{◌≡◌, refl, sym, ◌∙◌, ap}
use mathlib.Core.Bool.{true, false}
use mathlib.Core.List.{List, [], ◌∷◌, ◌++◌}
use native.Mathlib.Omega.{arith}
use lib.Dec.{ltb}
use lib.Pow.{pow_pos}
use lib.ListN.{length, get_or, take, drop}
use borrow.Author.Tests.{ltb-true, ltb-false}
use Rattle.rules.specs.Lists.{keep, distinct, In}
use Rattle.rules.specs.Cells.{empty, filled, row_at, row_start, level_of, first_lower, second_lower}
use Rattle.rules.specs.Graph.{Node, leaf, gate, pin_of}
use Rattle.rules.specs.Records.{waiting_of}
use Rattle.rules.specs.Loops.{Valid}
use Rattle.rules.specs.Traversal.{WordRule, Setting, setting, level_at}
use Rattle.rules.specs.Placing.{filled_plan, tree}
use Rattle.rules.specs.Ending.{stage, one_stage}
use Rattle.rules.specs.Coded.{cell_pin, and_cell, coded, pins}
use Rattle.rules.specs.Build.{Stage, refusal, whole, stages, coded_stages}
use Rattle.rules.specs.Depth.{depth}
use Rattle.rules.specs.Inside.Walks.{rank, Sound, Graph, Ready, Marked}
use Rattle.rules.proofs.Lists.Members.{split}
use Rattle.rules.proofs.Needed.Needs.{setting_sound}
use Rattle.rules.proofs.Cells.Positions.{position_placed, level_one}
use Rattle.rules.proofs.Stage.Staged.{Ended, the_end, two_step}
use Rattle.rules.proofs.Stage.Depth.{still_ready, stage_cases}
use Rattle.rules.proofs.Tree.Invariant.{final}
use Rattle.rules.proofs.Tree.Loads.{Fine, fine_kept, fine_first}
use Rattle.rules.proofs.Fold.Bits.{lower_cells}
use Rattle.rules.proofs.Fold.Whole.{mark}
use Rattle.rules.proofs.Written.Writes.{more_whole}
use Rattle.rules.proofs.Fold.Folds.{falls_first}
use Rattle.rules.proofs.Demand.{graph, ready, whole_stages}
use Rattle.rules.proofs.Build.Above.{Above}
use Rattle.rules.proofs.Build.Coding.{length_coded}
use Rattle.coded.specs.Inputs.{Input, built}
use Rattle.coded.specs.Inputs as inputs
use Rattle.coded.proofs.Passing.{tall, small, few, valid, above, named}
use Rattle.coded.proofs.Tests.{Does, Fit}
use Rattle.coded.proofs.Tests as tests
use Rattle.coded.proofs.Shapes.{Shape, Shapes}
use Rattle.coded.proofs.Coding.{pins_coded, pin_is, filled_same, fits}
use Rattle.coded.proofs.Complete.{built_shapes}
use Rattle.mending.specs.Mend.{level_in, Deed, stands, copies, joins, in_graph, pin_deed, mended, held_pins, stop_after, mend_stages}
use Rattle.mending.proofs.Exact.{Exact, Exacts, exact_kept, exact_first}
use Rattle.mending.proofs.Exact as exact
use Rattle.mending.proofs.Deeds.{graph_in, deed_copies, deed_stands, deed_joins}
use Rattle.mending.proofs.Fixed.{Fits}
use Rattle.mending.proofs.Settled.{Under, Settled, empty_settled}
use Rattle.mending.proofs.Sound.{SoundStage, AllSound, kept}

-- positions from the width on are of level 0
pub level_0 : (K p : ℕ) → 2 ^ K ≤ p → p < 2 ^ (K + 1) → level_of K p ≡ 0
unfolding row_at
level_0 K p a b = let r : row_at K 0 ≡ 2 ^ K = ap (λ (n : ℕ). 2 ^ n) (omega arith) in (level_one K p (omega (arith, pow_pos K)) b 0 (omega arith) (omega arith) (omega (arith, two_step K))).0

-- where position 0 is empty the tree's pins stand behind it
tree_held : (K : ℕ) (pl : List ℕ) → filled (get_or pl 0 empty) ≡ false → tree K pl ≡ distinct (keep filled (take (2 ^ K - 1) (drop 1 pl)))
unfolding tree keep
tree_held K pl k = ap distinct (let e : 2 ^ K ≡ suc (2 ^ K - 1) = omega (arith, pow_pos K) in ap (λ (n : ℕ). keep filled (take n pl)) e ∙ go (2 ^ K - 1) pl k)
  where
    go : (n : ℕ) (xs : List ℕ) → filled (get_or xs 0 empty) ≡ false → keep filled (take (suc n) xs) ≡ keep filled (take n (drop 1 xs))
    go zero [] f = refl
    go (suc n) [] f = refl
    go n (x ∷ xs) f = rw (f, keep)

module _ (rule : WordRule) (K : ℕ) (g : List Node) (ok : Valid g) (A : Above g) (tall : 6 ≤ K) (small : length g ≤ empty) (few : length g ≤ 65536) where
  abbrev r : ℕ → ℕ
  r p = rank g p

  low : 1 ≤ K
  low = omega arith

  G : Graph g r
  G = graph g ok

  module _ (given : List ℕ) (held : ℕ → Type 0) (room : ℕ) (done waiting : List ℕ) (R : Ready g r waiting) (room2 : ℕ) (plan2 words realised waiting2 : List ℕ)
      (d : one_stage rule K g done waiting room2 ≡ stage plan2 words realised waiting2) (H : Shape K g given held room (record { plan = plan2; words = words })) where
    abbrev X : Setting
    X = setting rule K g done waiting

    abbrev cl : List ℕ
    cl = coded K g plan2

    S : Sound X r (length g)
    S = setting_sound rule K g r G done waiting R.bounded

    E : Ended X (filled_plan X) plan2 realised waiting2
    E = the_end rule K g r G low small done waiting R.bounded room2 plan2 words realised waiting2 d

    fine : Fine X r (length g) S plan2
    unfolding setting
    fine = (final X r (length g) S low (Fine X r (length g) S) (fine_kept X r (length g) S) (fine_first X r (length g) S (2 ^ (K + 1))) plan2 E.rested).1

    M : Marked X
    unfolding setting
    M = mark g r G small

    exacts : Exacts X (λ q. ⊥) plan2
    unfolding setting
    exacts = (final X r (length g) S low (Exacts X (λ q. ⊥)) (exact_kept X r (length g) S M) (exact_first X r (length g) S M (2 ^ (K + 1))) plan2 E.rested).1

    is : (p : ℕ) → cell_pin (get_or cl p empty) ≡ get_or plan2 p empty
    is p = pin_is K g ok few given held room (record { plan = plan2; words = words }) H p

    -- the level of a pin in the plan
    level_of_lem : (p : ℕ) → filled (get_or plan2 p empty) ≡ true → level_at X (get_or plan2 p empty) ≡ level_in g done (cell_pin (get_or cl p empty))
    unfolding setting
    level_of_lem p k = S.level (get_or plan2 p empty) (fine p k).0 ∙ ap (depth (length g) g done) (sym (is p))

    module _ (p : ℕ) (a : 1 ≤ p) (b : p < 2 ^ (K + 1)) (k : filled (get_or cl p empty) ≡ true) where
      abbrev n : ℕ
      n = cell_pin (get_or cl p empty)

      F : Fit K g given held cl p
      F = fits K g ok few given held room (record { plan = plan2; words = words }) H held (λ m h. h) p a b k

      k2 : filled (get_or plan2 p empty) ≡ true
      k2 = sym (filled_same K g ok few given held room (record { plan = plan2; words = words }) H p) ∙ k

      inside : in_graph g n ≡ true
      inside = graph_in g n F.above F.below

      settle : (e : Deed) → pin_deed K g done p n ≡ e → mended e (get_or cl p empty) ≡ get_or cl p empty → Under cl p e → Settled K g done cl p
      settle e d s u = record { same = ap (λ (x : Deed). mended x (get_or cl p empty)) d ∙ s; under = rw d u }

      -- the lower cell isn't both an operand and the pin
      apart : {P : Type 0} (x y : ℕ) → get_or g n leaf ≡ gate x y → cell_pin (get_or cl (first_lower p) empty) ≡ pin_of x → cell_pin (get_or cl (first_lower p) empty) ≡ n → P
      apart x y e u v = absurd (let z : rank g (pin_of x) ≡ rank g n = ap (rank g) (sym u ∙ v) in omega (arith, (falls_first g (rank g) G given [] n x y e).0))

      at_zero : 2 ^ K ≤ p → Does K g given held cl p → Settled K g done cl p × Fits K g ok A done p n
      unfolding mended setting
      at_zero h (tests.loads i q m) =
          let z : level_in g done n ≡ 0 = sym (level_of_lem p k2) ∙ (fine p k2).1 h in
          (settle (stands n) (deed_stands K g done p n inside (level_0 K p h b) z) (sym q) tt, record { above = F.above; below = F.below; level = omega arith })
      at_zero h (tests.copies i q m) = absurd (omega arith)
      at_zero h (tests.joins x y i o c q u v) = absurd (omega arith)

      higher : (h : ℕ) → level_of K p ≡ suc h → p < 2 ^ K → Exact X plan2 h (row_start p) p → Does K g given held cl p → Settled K g done cl p × Fits K g ok A done p n
      unfolding mended first_lower second_lower setting
      higher h l i (exact.copies o c) D =
          let v : level_in g done n < level_of K p = omega (arith, level_of_lem p k2) in
          let u : cell_pin (get_or cl (first_lower p) empty) ≡ n = is (first_lower p) ∙ c ∙ sym (is p) in
          (settle (copies n) (deed_copies K g done p n inside v) (go D u) u, record { above = F.above; below = F.below; level = omega arith })
        where
          go : Does K g given held cl p → cell_pin (get_or cl (first_lower p) empty) ≡ n → n ≡ get_or cl p empty
          go (tests.loads j q m) u = sym q
          go (tests.copies j q m) u = sym q
          go (tests.joins x y j m e q s t) u = apart x y e s u
      higher h l i (exact.splits {a = x} {b = y} o c s t) D =
          let v : level_in g done n ≡ suc h = sym (level_of_lem p k2) ∙ o in
          let e : get_or g n leaf ≡ gate x y = ap (λ (m : ℕ). get_or g m leaf) (is p) ∙ c in
          let u : cell_pin (get_or cl (first_lower p) empty) ≡ pin_of x = is (first_lower p) ∙ s in (
            settle (joins n x y) (deed_joins K g done p n h x y inside l v e) (go D e u) (u, is (second_lower p) ∙ t),
            record { above = F.above; below = F.below; level = omega arith },
          )
        where
          go : Does K g given held cl p → get_or g n leaf ≡ gate x y → cell_pin (get_or cl (first_lower p) empty) ≡ pin_of x → and_cell n (gate x y) ≡ get_or cl p empty
          go (tests.loads j q m) e u = absurd (omega arith)
          go (tests.copies j q m) e u = apart x y e u m
          go (tests.joins x2 y2 j m e2 q s2 t2) e u = sym (q ∙ ap (and_cell n) (sym e2 ∙ e))

      filled_good : Settled K g done cl p × Fits K g ok A done p n
      unfolding setting
      filled_good = split (ltb p (2 ^ K))
          (λ t.
          let i : p < 2 ^ K = ltb-true p (2 ^ K) t in
          let L = lower_cells K p a i in
          let P = position_placed K p a b in
          let z : row_start p * 2 ^ suc L.h ≡ 2 ^ K = rw L.level at P.rows in
          higher L.h L.level i (exacts L.h (row_start p) p z P.row P.end (λ x. x) k2) F.does)
          (λ t. at_zero (ltb-false p (2 ^ K) t) F.does)

    one_sound : SoundStage K g ok A done cl
    one_sound = record {
      size = length_coded K g plan2;
      settled = λ q a b. split (filled (get_or cl q empty)) (λ k. (filled_good q a b k).0) (λ k. empty_settled K g done cl few q k);
      fit = λ q a b k. (filled_good q a b k).1;
      zeroth = filled_same K g ok few given held room (record { plan = plan2; words = words }) H 0 ∙ H.zeroth;
    }

    -- what is stopped at next: what the stage realises
    next_stop : stop_after K cl done ≡ realised ++ done
    unfolding stop_after held_pins setting
    next_stop =
        ap (λ (xs : List ℕ). xs ++ done) (ap (λ (xs : List ℕ). distinct (keep filled (take (2 ^ K - 1) (drop 1 xs)))) (pins_coded K g ok few given held room (record { plan = plan2; words = words }) H)
        ∙ sym (tree_held K plan2 H.zeroth) ∙ sym E.realises)

  -- all stages of a build
  all_sound : (given : List ℕ) (rooms k : ℕ) (done waiting : List ℕ) → Ready g r waiting → (held : ℕ → Type 0) (room : ℕ) (ss : List Stage) → stages rule K g rooms k done waiting room ≡ whole ss → (room2 : ℕ) → Shapes K g given held room2 ss → AllSound K g ok A done (coded_stages K g ss)
  unfolding stages coded_stages
  all_sound given zero k done [] R held room ss e room2 H = let z : ss ≡ [] = cc in rw z tt
  all_sound given zero k done (w ∷ ws) R held room ss e room2 H = absurd (let z : ◌≡◌ {A = ℕ} 0 1 = cc in omega arith)
  all_sound given (suc rooms) k done [] R held room ss e room2 H = let z : ss ≡ [] = cc in rw z tt
  all_sound given (suc rooms) k done (w ∷ ws) R held room ss e room2 H = stage_cases (one_stage rule K g done (w ∷ ws) room)
      (λ n d. absurd (let c : refusal n k ≡ whole ss = rw (d, stages) at e in let z : ◌≡◌ {A = ℕ} 0 1 = cc in omega arith))
      (λ plan2 words realised waiting2 d.
      let m = more_whole rule K g r G tall small (record { plan = plan2; words = words }) (stages rule K g rooms (suc k) (realised ++ done) waiting2 (room - length words)) ss (rw (d, stages) at e) in
      let H2 : Shapes K g given held room2 (record { plan = plan2; words = words } ∷ m.0) = rw m.2 at H in
      let R2 : Ready g r waiting2 = still_ready rule K g r G tall small done (w ∷ ws) R room plan2 words realised waiting2 d in
      rw m.2 (
        one_sound given held room2 done (w ∷ ws) R room plan2 words realised waiting2 d H2.0,
        rw (next_stop given held room2 done (w ∷ ws) R room plan2 words realised waiting2 d H2.0) (all_sound given rooms (suc k) (realised ++ done) waiting2 R2 (λ n. In n (tree K plan2)) (room - length words) m.0 m.1 (room2 - length words) H2.1),
      ))

-- ---- the theorems

module _ (rule : WordRule) (I : Input) where
  abbrev g : List Node
  g = inputs.graph I

  -- the stages of a plan that the placer built are sound
  pub built_sound : (rooms : ℕ) (ss : List Stage) → built rule I rooms ≡ whole ss → AllSound I.K g (valid I) (above I) I.given (coded_stages I.K g ss)
  built_sound rooms ss e = all_sound rule I.K g (valid I) (above I) (tall I) (small I) (few I) I.given rooms 1 I.given (waiting_of (inputs.groups I) [])
      (ready rule I.K g (valid I) (tall I) (small I) I.given [] (inputs.groups I) (named I)) _ _ ss
      (whole_stages rule I.K g (valid I) (tall I) (small I) I.given [] (inputs.groups I) (named I) rooms ss e) _ (built_shapes rule I rooms ss e)

  -- The placer's plan is left as it is by the rebuild.
  pub built_kept : (rooms : ℕ) (ss : List Stage) → built rule I rooms ≡ whole ss → mend_stages I.K g I.given (coded_stages I.K g ss) ≡ coded_stages I.K g ss
  built_kept rooms ss e = kept I.K g (valid I) (above I) I.given (coded_stages I.K g ss) (built_sound rooms ss e)
