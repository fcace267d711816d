-- In a plan that the check accepts no pin is deeper than its cell, so no filled cell would be kept whole; and the rebuild leaves it
-- as it is if every cell that ANDs stands at its pin's level. (proofs/Table.antt has an accepted plan where one doesn't.) Assumes nothing.
use Prim.Native.Nat.{ℕ, zero, suc, ◌+◌, ◌-◌, ◌^◌, ◌≤◌, ◌<◌}
use mathlib.Core.Path.{◌≡◌, refl, sym, ◌∙◌, ap}
use mathlib.Core.Logic.{inl, inr}
use mathlib.Core.Bool.{Bool, true}
use mathlib.Core.List.{List, [], ◌∷◌, ◌++◌}
use native.Mathlib.Omega.{arith}
use lib.Dec.{ltb}
use lib.ListN.{length, get_or, take, drop, length-take, length-drop, get_or-eq_default}
use lib.Seq.{get_or-take, get_or-drop}
use borrow.Author.Tests.{ltb-true, ltb-false}
use Rattle.rules.specs.Lists.{mem, keep, In}
use Rattle.rules.specs.Cells.{empty, filled, level_of, first_lower, second_lower}
use Rattle.rules.specs.Graph.{Node, leaf, gate, pin_of, operands, below}
use Rattle.rules.specs.Loops.{Valid}
use Rattle.rules.specs.Inside.Walks.{rank}
use Rattle.rules.specs.Traversal.{over}
use Rattle.rules.specs.Build.{Stage}
use Rattle.rules.specs.Depth.{depth}
use Rattle.rules.specs.Fold.{is_leaf, lowest}
use Rattle.rules.proofs.Lists.Members.{split, true_false, or_true, in_cons, in_nil, in_append_left, in_keep, in_distinct, in_get_or}
use Rattle.rules.proofs.Walk.Levels.{depth_at, over_least}
use Rattle.rules.proofs.Walk.Reverse.{below_in}
use Rattle.rules.proofs.Needed.Needs.{falls_always}
use Rattle.rules.proofs.Tree.Held.{node}
use Rattle.rules.proofs.Fold.Bits.{lower_cells, lowest_stands}
use Rattle.rules.proofs.Demand.{graph, graph_few, depth_stop}
use Rattle.rules.proofs.Build.Above.{Above}
use Rattle.coded.specs.Inputs.{Input}
use Rattle.coded.specs.Inputs as inputs
use Rattle.coded.proofs.Passing.{few, valid, above}
use Rattle.rules.specs.Coded.{cell_pin, ands, pins}
use Rattle.rules.specs.Faults.{faultless, first_may, held_in, fault_from, fault_of}
use Rattle.coded.proofs.Cells.{filled_pin, small_filled, ands_and}
use Rattle.coded.proofs.Tests.{Does, Fit, Passes, right_fits, is_found_lem}
use Rattle.coded.proofs.Tests as tests
use Rattle.coded.proofs.Stages.{passed}
use Rattle.coded.proofs.Reading.{accepted_parts}
use Rattle.mending.specs.Mend.{level_in, Deed, stands, copies, joins, pin_deed, mended, mend_stage, held_pins, stop_after, mend_stages}
use Rattle.mending.proofs.Deeds.{graph_in, leaf_level, deed_copies, deed_stands, deed_joins}
use Rattle.mending.proofs.Fixed.{Fits, above_low}
use Rattle.mending.proofs.Settled.{Under, Settled, empty_settled, settled_stage}
use Rattle.mending.proofs.Built.{level_0}

-- every cell that ANDs stands at its pin's level
abbrev pub Tight : ℕ → List Node → List ℕ → List ℕ → Type 0
Tight K g stop cl = (p : ℕ) → 1 ≤ p → p < 2 ^ K → filled (get_or cl p empty) ≡ true → ands (get_or cl p empty) ≡ true → level_of K p ≤ level_in g stop (cell_pin (get_or cl p empty))

-- and so in every stage in turn, with no more cells than a stage has
abbrev pub AllTight : ℕ → List Node → List ℕ → List Stage → Type 0
AllTight K g stop [] = Unit {0}
AllTight K g stop (s ∷ ss) = (length s.plan ≤ 2 ^ (K + 1)) × Tight K g stop s.plan × AllTight K g (stop_after K s.plan stop) ss

module _ (K : ℕ) (g : List Node) (ok : Valid g) (A : Above g) (few : length g ≤ 65536) (given : List ℕ) where
  -- a gate over operands of level h at most
  gate_level : (stop : List ℕ) (h n x y : ℕ) → n < length g → get_or g n leaf ≡ gate x y → level_in g stop (pin_of x) ≤ h → level_in g stop (pin_of y) ≤ h → level_in g stop n ≤ suc h
  unfolding operands
  gate_level stop h n x y b e u v =
      let d = depth_at g stop (rank g) (falls_always g (rank g) (graph g ok) stop) (length g) n (graph_few g ok n b) in
      rw d (over_least (depth (length g) g stop) (below g stop n) (suc h)
      (λ z i. elim (in_cons z (pin_of x) (pin_of y ∷ []) (rw e at (below_in g stop n z i).1)) [
        | inl c ↦ rw c (omega arith)
        | inr c ↦ elim (in_cons z (pin_of y) [] c) [ inl j ↦ rw j (omega arith) | inr j ↦ in_nil z j ]
      ]))

  module _ (stop : List ℕ) (may : ℕ → Type 0) (cl : List ℕ) (F : (p : ℕ) → 1 ≤ p → p < 2 ^ (K + 1) → filled (get_or cl p empty) ≡ true → Fit K g given may cl p)
      (low : (n : ℕ) → n < length g → may n → level_in g stop n ≡ 0) where
    pin_there : (p q : ℕ) → cell_pin (get_or cl p empty) ≡ q → q < length g → filled (get_or cl p empty) ≡ true
    pin_there p q e h = sym (filled_pin (get_or cl p empty)) ∙ rw e (small_filled q (omega arith))

    up_to : (h p : ℕ) → level_of K p ≡ h → 1 ≤ p → p < 2 ^ (K + 1) → filled (get_or cl p empty) ≡ true → level_in g stop (cell_pin (get_or cl p empty)) ≤ h
    up_to zero p e a b k = go (F p a b k).does
      where
        go : Does K g given may cl p → level_in g stop (cell_pin (get_or cl p empty)) ≤ 0
        go (tests.loads l c m) = omega (arith, low (cell_pin (get_or cl p empty)) (F p a b k).below m)
        go (tests.copies l c x) = absurd (omega (arith, (lower_cells K p a l).level))
        go (tests.joins i j l o d c x y) = absurd (omega (arith, (lower_cells K p a l).level))
    up_to (suc h) p e a b k =
        let u : p < 2 ^ K = above_low K p a b (omega arith) in
        let L = lower_cells K p a u in
        let z : L.h ≡ h = let q : suc L.h ≡ suc h = sym L.level ∙ e in omega arith in
        go (λ f. up_to h (first_lower p) (L.first_level ∙ z) (omega (arith, L.above)) (omega (arith, L.next, L.inside)) f)
        (λ f. up_to h (second_lower p) (L.second_level ∙ z) (omega (arith, L.above, L.next)) L.inside f) (F p a b k).does
      where
        go : (filled (get_or cl (first_lower p) empty) ≡ true → level_in g stop (cell_pin (get_or cl (first_lower p) empty)) ≤ h) →
            (filled (get_or cl (second_lower p) empty) ≡ true → level_in g stop (cell_pin (get_or cl (second_lower p) empty)) ≤ h) → Does K g given may cl p → level_in g stop (cell_pin (get_or cl p empty)) ≤ suc h
        go one two (tests.loads l c m) = omega (arith, low (cell_pin (get_or cl p empty)) (F p a b k).below m)
        go one two (tests.copies l c x) = let q = rw x at (one (pin_there (first_lower p) (cell_pin (get_or cl p empty)) x (F p a b k).below)) in omega arith
        go one two (tests.joins i j l o d c x y) =
            let v = ok.inside (cell_pin (get_or cl p empty)) i j d in
            gate_level stop h (cell_pin (get_or cl p empty)) i j (F p a b k).below d
            (rw x at (one (pin_there (first_lower p) (pin_of i) x (omega (arith, v.0, (F p a b k).below)))))
            (rw y at (two (pin_there (second_lower p) (pin_of j) y (omega (arith, v.1, (F p a b k).below)))))

    -- no pin is deeper than its cell
    stage_fits_lem : (p : ℕ) → 1 ≤ p → p < 2 ^ (K + 1) → filled (get_or cl p empty) ≡ true → Fits K g ok A stop p (cell_pin (get_or cl p empty))
    stage_fits_lem p a b k = record { above = (F p a b k).above; below = (F p a b k).below; level = up_to (level_of K p) p refl a b k }

    stage_settled : Tight K g stop cl → (p : ℕ) → 1 ≤ p → p < 2 ^ (K + 1) → Settled K g stop cl p
    unfolding mended
    stage_settled T p a b = split (filled (get_or cl p empty)) (λ k. go k (F p a b k).does) (λ k. empty_settled K g stop cl few p k)
      where
        settle : (e : Deed) → pin_deed K g stop p (cell_pin (get_or cl p empty)) ≡ e → mended e (get_or cl p empty) ≡ get_or cl p empty → Under cl p e → Settled K g stop cl p
        settle e d s u = record { same = ap (λ (x : Deed). mended x (get_or cl p empty)) d ∙ s; under = rw d u }

        go : filled (get_or cl p empty) ≡ true → Does K g given may cl p → Settled K g stop cl p
        go k (tests.loads l c m) =
            settle (stands (cell_pin (get_or cl p empty))) (deed_stands K g stop p (cell_pin (get_or cl p empty)) (graph_in g _ (F p a b k).above (F p a b k).below) (level_0 K p l b) (low (cell_pin (get_or cl p empty)) (F p a b k).below m)) (sym c) tt
        go k (tests.copies l c x) =
            let L = lower_cells K p a l in
            let q = rw x at (up_to L.h (first_lower p) L.first_level (omega (arith, L.above)) (omega (arith, L.next, L.inside)) (pin_there (first_lower p) (cell_pin (get_or cl p empty)) x (F p a b k).below)) in
            settle (copies (cell_pin (get_or cl p empty))) (deed_copies K g stop p (cell_pin (get_or cl p empty)) (graph_in g _ (F p a b k).above (F p a b k).below) (omega (arith, L.level))) (sym c) x
        go k (tests.joins i j l o d c x y) =
            let L = lower_cells K p a l in
            let n : ℕ = cell_pin (get_or cl p empty) in
            let t : ands (get_or cl p empty) ≡ true = rw c (ands_and n i j (omega (arith, (F p a b k).below))) in
            let v : level_in g stop n ≡ suc L.h = omega (arith, T p a l k t, up_to (level_of K p) p refl a b k, L.level) in
            settle (joins n i j) (deed_joins K g stop p n L.h i j (graph_in g n (F p a b k).above (F p a b k).below) L.level v d) (sym c) (x, y)

    -- what the next stage may load is of level 0 there
    next_low : (n : ℕ) → n < length g → held_in K cl n ≡ true → level_in g (stop_after K cl stop) n ≡ 0
    unfolding held_in stop_after held_pins empty
    next_low n h e =
        let t = is_found_lem (lowest K (pins cl) n) e in
        let s = lowest_stands K (pins cl) n t.0 t.1 in
        let l : t.0 < length (pins cl) = split (ltb t.0 (length (pins cl))) (λ c. ltb-true _ _ c)
        (λ c. absurd (let z : empty ≡ n = sym (get_or-eq_default (pins cl) empty (ltb-false t.0 (length (pins cl)) c)) ∙ s.pin in omega arith)) in
        let z : 1 + (t.0 - 1) ≡ t.0 = omega (arith, s.low) in
        let m : t.0 - 1 < length (take (2 ^ K - 1) (drop 1 (pins cl))) = simp (length-take, length-drop) (omega (arith, s.low, s.high)) in
        let i : In n (take (2 ^ K - 1) (drop 1 (pins cl))) =
        rw (get_or-take (2 ^ K - 1) (drop 1 (pins cl)) (t.0 - 1) empty (omega (arith, s.low, s.high)) ∙ get_or-drop 1 (pins cl) (t.0 - 1) empty ∙ ap (λ (u : ℕ). get_or (pins cl) u empty) z ∙ s.pin)
        at (in_get_or (take (2 ^ K - 1) (drop 1 (pins cl))) (t.0 - 1) empty m) in
        depth_stop g (held_pins K cl ++ stop) (length g) n (in_append_left n (held_pins K cl) stop (in_distinct n (keep filled (take (2 ^ K - 1) (drop 1 (pins cl)))) (in_keep filled n (take (2 ^ K - 1) (drop 1 (pins cl))) i (small_filled n (omega arith)))))

  -- ---- all stages

  -- every filled cell's pin fits it, in every stage in turn
  abbrev pub AllFit : List ℕ → List Stage → Type 0
  AllFit stop [] = Unit {0}
  AllFit stop (s ∷ ss) = ((p : ℕ) → 1 ≤ p → p < 2 ^ (K + 1) → filled (get_or s.plan p empty) ≡ true → Fits K g ok A stop p (cell_pin (get_or s.plan p empty))) × AllFit (stop_after K s.plan stop) ss

  from_fits : (stop : List ℕ) (may : ℕ → Bool) → ((n : ℕ) → n < length g → may n ≡ true → level_in g stop n ≡ 0) → (room k : ℕ) (ss : List Stage) → fault_from K g given may room k ss ≡ faultless → AllFit stop ss
  from_fits stop may low room k [] e = tt
  from_fits stop may low room k (s ∷ ss) e =
      let t = passed K g given may room k s ss e in
      let F : (p : ℕ) → 1 ≤ p → p < 2 ^ (K + 1) → filled (get_or s.plan p empty) ≡ true → Fit K g given (Passes may) s.plan p = λ p a b f. right_fits K g given may s.plan p f (t.0.cells p a b) in
      (stage_fits_lem stop (Passes may) s.plan F low, from_fits (stop_after K s.plan stop) (held_in K s.plan) (next_low stop (Passes may) s.plan F low) (room - length s.words) (suc k) ss t.1)

  from_kept : (stop : List ℕ) (may : ℕ → Bool) → ((n : ℕ) → n < length g → may n ≡ true → level_in g stop n ≡ 0) → (room k : ℕ) (ss : List Stage) → fault_from K g given may room k ss ≡ faultless → AllTight K g stop ss → mend_stages K g stop ss ≡ ss
  unfolding mend_stages
  from_kept stop may low room k [] e T = refl
  from_kept stop may low room k (s ∷ ss) e T =
      let t = passed K g given may room k s ss e in
      let F : (p : ℕ) → 1 ≤ p → p < 2 ^ (K + 1) → filled (get_or s.plan p empty) ≡ true → Fit K g given (Passes may) s.plan p = λ p a b f. right_fits K g given may s.plan p f (t.0.cells p a b) in
      let z : mend_stage K g stop s.plan ≡ s.plan = settled_stage K g stop s.plan T.0 (stage_settled stop (Passes may) s.plan F low T.1) in
      (λ i. record { plan = z i; words = s.words } ∷ mend_stages K g (stop_after K (z i) stop) ss)
      ∙ ap (λ (us : List Stage). s ∷ us) (from_kept (stop_after K s.plan stop) (held_in K s.plan) (next_low stop (Passes may) s.plan F low) (room - length s.words) (suc k) ss t.1 T.2)

  first_low : (n : ℕ) → n < length g → first_may g given n ≡ true → level_in g given n ≡ 0
  unfolding first_may is_leaf
  first_low n h e = elim (or_true (mem n given) (is_leaf (get_or g n leaf)) e) [
    | inl a ↦ depth_stop g given (length g) n a
    | inr a ↦ node (get_or g n leaf) (λ d. leaf_level g given n d) (λ i j d. true_false (rw d at a) refl)
  ]

-- ---- a whole plan

module _ (I : Input) (ss : List Stage) (e : fault_of I.K (inputs.graph I) I.given (inputs.groups I) ss ≡ faultless) where
  -- no filled cell of an accepted plan would be kept whole
  pub accepted_fits : AllFit I.K (inputs.graph I) (valid I) (above I) (few I) I.given I.given ss
  accepted_fits = from_fits I.K (inputs.graph I) (valid I) (above I) (few I) I.given I.given (first_may (inputs.graph I) I.given) (first_low I.K (inputs.graph I) (valid I) (above I) (few I) I.given) _ 1 ss
      (accepted_parts I.K (inputs.graph I) I.given (inputs.groups I) ss e).0

  -- and it is left as it is by the rebuild if its ANDs stand at their pins' levels
  pub accepted_kept : AllTight I.K (inputs.graph I) I.given ss → mend_stages I.K (inputs.graph I) I.given ss ≡ ss
  accepted_kept T = from_kept I.K (inputs.graph I) (valid I) (above I) (few I) I.given I.given (first_may (inputs.graph I) I.given) (first_low I.K (inputs.graph I) (valid I) (above I) (few I) I.given) _ 1 ss
      (accepted_parts I.K (inputs.graph I) I.given (inputs.groups I) ss e).0 T
