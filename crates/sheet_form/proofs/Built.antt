-- What the placer builds: sheet 1 holds its pins, the graph codes them, and so sheet 2 holds its cells. Assumes nothing.
use Prim.Native.Nat.{ℕ, zero, suc, ◌+◌, ◌-◌, ◌^◌, ◌≤◌, ◌<◌}
use mathlib.Core.Path.{◌≡◌, refl}
use mathlib.Core.Logic.{◌⊎◌, inl, inr}
use mathlib.Core.Bool.{Bool, true, false, not, ◌||◌}
use mathlib.Core.List.{List, [], ◌∷◌}
use native.Mathlib.Omega.{arith}
use lib.Dec.{leb, eqb}
use lib.ListN.{length, get_or, drop}
use lib.Pow.{pow_mono}
use lib.Seq.{get_or-drop}
use borrow.Author.Tests.{lt-ltb, le-leb, leb-false, eq-eqb}
use Rattle.rules.specs.Lists.{In}
use Rattle.rules.specs.Placing.{tree}
use Rattle.rules.specs.Cells.{empty, filled, is_height, word_limit, first_lower}
use Rattle.rules.specs.Graph.{Node, leaf}
use Rattle.rules.specs.Loops.{Valid}
use Rattle.rules.specs.Records.{Group, waiting_of, Ends}
use Rattle.rules.specs.Reservation.{reserved}
use Rattle.rules.specs.Traversal.{WordRule}
use Rattle.rules.specs.Build.{Stage, whole, build}
use Rattle.rules.specs.Placing.{tree}
use Rattle.rules.specs.Fold.{is_leaf}
use Rattle.rules.specs.Depth.{remaining}
use Rattle.rules.specs.Inside.Walks.{rank, Graph, Ready}
use Rattle.rules.proofs.Lists.Members.{split, true_false, in_nil, in_here}
use Rattle.rules.proofs.Loops.{loopless_no, rank_fewer}
use Rattle.rules.proofs.Needed.Needs.{falls_always}
use Rattle.rules.proofs.Stage.Staged.{remaining_least}
use Rattle.rules.proofs.Build.Above.{Above, below_above, waits_above}
use Rattle.rules.proofs.Build.Bounds.{depth_rank, stages_few}
use Rattle.rules.proofs.Demand.{graph, ready, whole_stages}
use Rattle.coded.proofs.Shapes.{Acts, copies, joins, Shape, Shapes, whole_shapes}
use Rattle.sheet_form.specs.Forms.{sheet_one, sheet_two}
use Rattle.sheet_form.specs.Sheets.{stage_fits, stages_fit}
use Rattle.sheet_form.specs.Lifting.{lifts_at, stage_lifts, stages_lift}
use Rattle.sheet_form.proofs.Cells.{cells_fit_lem, fits_filled}
use Rattle.sheet_form.proofs.Stages.{fits_stage}
use Rattle.sheet_form.proofs.Sheets.{Held}
use Rattle.sheet_form.proofs.Forms.{one_fits}
use Rattle.sheet_form.proofs.Lifting.{at_lifts, lift_sheet, lift_held}

or_true : (a : Bool) → a || true ≡ true
or_true true = refl
or_true false = refl

-- ---- a stage of a build

module _ (K : ℕ) (g : List Node) (given : List ℕ) (held : ℕ → Type 0) (room : ℕ) (s : Stage) (H : Shape K g given held room s) where
  -- sheet 1 holds its pins
  shape_fits : length g ≤ 65536 → room ≤ 65535 → stage_fits sheet_one K s ≡ true
  shape_fits few l = fits_stage sheet_one K s (record {
    size = H.size;
    zeroth = H.zeroth;
    few = le-leb (length s.words) 65535 (omega (arith, H.fits));
    words = H.words;
    cells = cells_fit_lem sheet_one K 1 (drop 1 s.plan) (λ i b.
        rw (get_or-drop 1 s.plan i empty)
        (fits_filled sheet_one K (1 + i) (get_or s.plan (1 + i) empty) (λ f. let n = H.names (1 + i) f in one_fits K (1 + i) (get_or s.plan (1 + i) empty) n.0 (omega (arith, n.1)))));
  })

  does_lift : (p : ℕ) → filled (get_or s.plan p empty) ≡ true → Acts g given s.plan p → (eqb (get_or s.plan (first_lower p) empty) (get_or s.plan p empty) || not (is_leaf (get_or g (get_or s.plan p empty) leaf))) ≡ true
  unfolding is_leaf
  does_lift p f (copies e) = rw (eq-eqb (get_or s.plan (first_lower p) empty) (get_or s.plan p empty) e)
  does_lift p f (joins a b o e u v) = rw e (or_true (eqb (get_or s.plan (first_lower p) empty) (get_or s.plan p empty)))

  some : (p : ℕ) → filled (get_or s.plan p empty) ≡ true → 1 ≤ p
  some zero f = true_false f H.zeroth
  some (suc p) f = omega arith

  lifts : (p : ℕ) → lifts_at K g s.plan p ≡ true
  unfolding lifts_at
  lifts p = split (filled (get_or s.plan p empty))
      (λ f.
      let n = lt-ltb (get_or s.plan p empty) (length g) (H.names p f).1 in
      split (leb (2 ^ K) p)
      (λ t. rw (f, lifts_at, n, t))
      (λ t. rw (f, lifts_at, n, t) (does_lift p f (H.acts p (some p f) (leb-false (2 ^ K) p t) f))))
      (λ f. rw (f, lifts_at))

  -- and the graph codes them
  shape_lifts : stage_lifts K g s.plan ≡ true
  shape_lifts = at_lifts K g s.plan (λ p h. lifts p)

-- ---- every stage

module _ (K : ℕ) (g : List Node) (given : List ℕ) where
  shapes_fit : (held : ℕ → Type 0) (room : ℕ) (ss : List Stage) → Shapes K g given held room ss → length g ≤ 65536 → room ≤ 65535 → stages_fit sheet_one K ss ≡ true
  unfolding stages_fit
  shapes_fit held room [] H few l = refl
  shapes_fit held room (s ∷ ss) H few l = rw (shape_fits K g given held room s H.0 few l) (shapes_fit (λ x. In x (tree K s.plan)) _ ss H.1 few (omega arith))

  shapes_lift : (held : ℕ → Type 0) (room : ℕ) (ss : List Stage) → Shapes K g given held room ss → stages_lift K g ss ≡ true
  unfolding stages_lift
  shapes_lift held room [] H = refl
  shapes_lift held room (s ∷ ss) H = rw (shape_lifts K g given held room s H.0) (shapes_lift (λ x. In x (tree K s.plan)) _ ss H.1)

module _ (rule : WordRule) (K : ℕ) (g : List Node) (ok : Valid g) (A : Above g) (tall : 6 ≤ K) (small : length g ≤ empty) where
  abbrev r : ℕ → ℕ
  r p = rank g p

  G : Graph g r
  G = graph g ok

  -- a pin above 0 has at most N - 1 pins under it
  rank_less : (x : ℕ) → 0 < x → x < length g → suc (rank g x) < length g
  rank_less x a b = rank_fewer g G.inside (loopless_no g G.inside ok.free) (λ q y i. below_above g A q y [] i) x a b

  module _ (given : List ℕ) (groups : List Group) (named : (q : ℕ) → Ends q groups → q < length g) where
    abbrev waiting : List ℕ
    waiting = waiting_of groups []

    R : Ready g r waiting
    R = ready rule K g ok tall small given [] groups named

    all_above : (x : ℕ) → In x waiting → 0 < x
    all_above x i = waits_above groups [] (λ z j. in_nil z j) x i

    deep : (ws : List ℕ) → ((x : ℕ) → In x ws → x < length g) → ((x : ℕ) → In x ws → 0 < x) → (ws ≡ []) ⊎ (remaining (length g) g given ws < length g - 1)
    deep [] b a = inl refl
    deep (w ∷ ws) b a =
        let h : remaining (length g) g given (w ∷ ws) ≤ length g - 2 = remaining_least (length g) g given (w ∷ ws) (length g - 2)
        (λ x i. omega (arith, depth_rank g given r (falls_always g r G given) (length g) x, rank_less x (a x i) (b x i))) in
        inr (omega (arith, rank_less w (a w (in_here w ws)) (b w (in_here w ws))))

    module _ (rooms : ℕ) (ss : List Stage) (e : build rule K g given groups rooms ≡ whole ss) where
      -- at most one stage a pin, the constant left out
      pub few_stages : length ss ≤ length g - 1
      few_stages = stages_few rule K g r G tall small rooms 1 given waiting R (word_limit K - reserved groups) (length g - 1) (deep waiting (λ x i. (R.bounded x i).0) all_above) ss (whole_stages rule K g ok tall small given [] groups named rooms ss e)

      shapes : Shapes K g given (λ n. In n given ⊎ (get_or g n leaf ≡ leaf)) (word_limit K - reserved groups) ss
      shapes = whole_shapes rule K g ok A tall small given groups named rooms ss e

      -- the graph codes what the placer builds whole
      pub built_lifts : stages_lift K g ss ≡ true
      built_lifts = shapes_lift K g given _ _ ss shapes

      module _ (flat : K ≤ 13) (few : length g ≤ 65536) where
        -- sheet 1 holds its pins
        pub pins_held : Held sheet_one (record { height = K; stages = ss })
        unfolding is_height word_limit
        pins_held = record {
          height = rw (le-leb 6 K tall, le-leb K 13 flat);
          few = le-leb (length ss) 65535 (omega (arith, few_stages));
          stages = shapes_fit K g given _ _ ss shapes few (omega (arith, pow_mono {i = K - 5} {j = 8} (omega arith)));
        }

        -- and sheet 2 its cells
        pub built_held : Held sheet_two (lift_sheet g (record { height = K; stages = ss }))
        built_held = lift_held g (record { height = K; stages = ss }) pins_held built_lifts
