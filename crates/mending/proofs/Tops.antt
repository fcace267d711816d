-- In a stage whose cells do what their levels say, everything under a filled cell is fixed: the first lower cell, and of an AND both. So only
-- the tops of trees must have come back right. Assumes nothing.
use Prim.Native.Nat.{ℕ, zero, suc, ◌+◌, ◌-◌, ◌^◌, ◌≤◌, ◌<◌}
use mathlib.Core.Path.{◌≡◌, refl, sym, ◌∙◌, ap}
use mathlib.Core.Logic.{inl, inr}
use mathlib.Core.Bool.{true}
use mathlib.Core.List.{List, [], ◌∷◌}
use native.Mathlib.Omega.{arith}
use lib.ListN.{length, get_or, set, length-set, length-replicate}
use lib.Seq.{get_or-set_same}
use Rattle.rules.specs.Cells.{empty, filled, stage_size, first_lower, second_lower}
use Rattle.rules.specs.Graph.{Node, leaf, gate, pin_of}
use Rattle.rules.specs.Loops.{Valid}
use Rattle.rules.specs.Coded.{cell_pin, ands}
use Rattle.rules.specs.Traversal.{WordRule}
use Rattle.rules.specs.Build.{Stage, whole, coded_stages}
use Rattle.rules.proofs.Lists.Members.{true_false}
use Rattle.rules.proofs.Stage.Flat.{blank_replicate}
use Rattle.rules.proofs.Stage.Staged.{two_step}
use Rattle.rules.proofs.Tree.Loads.{set_either}
use Rattle.rules.proofs.Fold.Bits.{lower_cells}
use Rattle.rules.proofs.Build.Above.{Above}
use Rattle.coded.specs.Inputs.{Input, built}
use Rattle.coded.specs.Inputs as inputs
use Rattle.coded.proofs.Passing.{few, valid, above}
use Rattle.coded.proofs.Cells.{small_filled, ands_plain}
use Rattle.mending.specs.Mend.{Deed, kept, stands, copies, joins, pin_for, pin_deed, deed, mended, fixing, fixed_from, nothing_fixed, fixed_stage, stop_after}
use Rattle.mending.proofs.Deeds.{in_graph_lem, graph_in, Case, is_kept, is_stands, is_copies, is_joins, which}
use Rattle.mending.proofs.Fixed.{Fits}
use Rattle.mending.proofs.Sound.{AllSound}
use Rattle.mending.proofs.Built.{built_sound}
use Rattle.mending.proofs.Settled.{Settled, Agrees, fixing_agrees, own_pin}

module _ (K : ℕ) (g : List Node) (ok : Valid g) (few : length g ≤ 65536) (stop : List ℕ) where
  set_stays : (fx : List ℕ) (c n t : ℕ) → filled n ≡ true → filled (get_or fx t empty) ≡ true → filled (get_or (set fx c n) t empty) ≡ true
  set_stays fx c n t f k = elim (set_either fx c n t empty) [ inl e ↦ rw e.1 f | inr e ↦ rw e k ]

  -- what is fixed stays fixed
  stays : (p n : ℕ) (d : Deed) → Case K g stop p n d → (fx : List ℕ) (t : ℕ) → filled (get_or fx t empty) ≡ true → filled (get_or (fixing p d fx) t empty) ≡ true
  unfolding fixing
  stays p n d (is_kept j) fx t k = k
  stays p n d (is_stands j h l) fx t k = k
  stays p n d (is_copies j h) fx t k = set_stays fx (first_lower p) n t (small_filled n (omega (arith, (in_graph_lem g n j).1))) k
  stays p n d (is_joins {a = x} {b = y} j h l m) fx t k =
      let v = ok.inside n x y m in
      let i = in_graph_lem g n j in
      set_stays (set fx (first_lower p) (pin_of x)) (second_lower p) (pin_of y) t (small_filled (pin_of y) (omega (arith, v.1, i.1)))
      (set_stays fx (first_lower p) (pin_of x) t (small_filled (pin_of x) (omega (arith, v.0, i.1))) k)

  length_fixing : (p : ℕ) (d : Deed) (fx : List ℕ) → length (fixing p d fx) ≡ length fx
  unfolding fixing
  length_fixing p kept fx = refl
  length_fixing p (stands n) fx = refl
  length_fixing p (copies n) fx = length-set fx (first_lower p) n
  length_fixing p (joins n a b) fx = length-set (set fx (first_lower p) (pin_of a)) (second_lower p) (pin_of b) ∙ length-set fx (first_lower p) (pin_of a)

  stays_from : (p : ℕ) (fx cs : List ℕ) (t i : ℕ) → t ≡ p + i → i < length cs → filled (get_or fx t empty) ≡ true → filled (get_or (fixed_from K g stop p fx cs) i empty) ≡ true
  unfolding fixed_from deed
  stays_from p fx [] t i e b k = absurd (omega arith)
  stays_from p fx (c ∷ cs) t zero e b k = let z : t ≡ p = omega arith in rw z at k
  stays_from p fx (c ∷ cs) t (suc i) e b k =
      let n : ℕ = pin_for c (get_or fx p empty) in
      stays_from (suc p) (fixing p (pin_deed K g stop p n) fx) cs t i (omega arith) (omega arith) (stays p n (pin_deed K g stop p n) (which K g stop p n) fx t k)

  module _ (cl : List ℕ) (S : (q : ℕ) → 1 ≤ q → q < 2 ^ (K + 1) → Settled K g stop cl q) where
    -- the cell at q fixes the cell at t
    abbrev pub Fixes : ℕ → ℕ → Type 0
    Fixes q t = (fx : List ℕ) → length fx ≡ 2 ^ (K + 1) → filled (get_or (fixing q (pin_deed K g stop q (cell_pin (get_or cl q empty))) fx) t empty) ≡ true

    fixed_from_lem : (p : ℕ) (fx cs : List ℕ) → 1 ≤ p → p + length cs ≤ 2 ^ (K + 1) → length fx ≡ 2 ^ (K + 1) → ((i q : ℕ) → q ≡ p + i → get_or cs i empty ≡ get_or cl q empty) → Agrees K g stop cl p fx →
        (q j t i : ℕ) → q ≡ p + j → q < t → t ≡ p + i → i < length cs → Fixes q t → filled (get_or (fixed_from K g stop p fx cs) i empty) ≡ true
    unfolding fixed_from deed
    fixed_from_lem p fx [] a b l C A q j t i e u v w X = absurd (omega arith)
    fixed_from_lem p fx (c ∷ cs) a b l C A q j t zero e u v w X = absurd (omega arith)
    fixed_from_lem p fx (c ∷ cs) a b l C A q zero t (suc i) e u v w X =
        let m : ℕ = cell_pin (get_or cl p empty) in
        let y : pin_for c (get_or fx p empty) ≡ m = own_pin K g stop cl p fx c (C 0 p (omega arith)) A in
        let z : q ≡ p = omega arith in
        let Y : Fixes p t = rw z at X in
        rw y (stays_from (suc p) (fixing p (pin_deed K g stop p m) fx) cs t i (omega arith) (omega arith) (Y fx l))
    fixed_from_lem p fx (c ∷ cs) a b l C A q (suc j) t (suc i) e u v w X =
        let m : ℕ = cell_pin (get_or cl p empty) in
        let y : pin_for c (get_or fx p empty) ≡ m = own_pin K g stop cl p fx c (C 0 p (omega arith)) A in
        let d : Deed = pin_deed K g stop p m in
        rw y (fixed_from_lem (suc p) (fixing p d fx) cs (omega arith) (omega arith) (length_fixing p d fx ∙ l) (λ o r h. C (suc o) r (omega arith))
        (fixing_agrees K g stop cl p fx d (S p a (omega arith)).under A) q j t i (omega arith) u (omega arith) (omega arith) X)

-- ---- a stage

module _ (K : ℕ) (g : List Node) (ok : Valid g) (few : length g ≤ 65536) (stop : List ℕ) where
  fixed_stage_lem : (cl : List ℕ) → length cl ≡ 2 ^ (K + 1) → (S : (q : ℕ) → 1 ≤ q → q < 2 ^ (K + 1) → Settled K g stop cl q) → (q t : ℕ) → 1 ≤ q → q < t → t < 2 ^ (K + 1) → Fixes K g ok few stop cl S q t → filled (get_or (fixed_stage K g stop cl) t empty) ≡ true
  unfolding fixed_stage nothing_fixed
  fixed_stage_lem [] l S q t a b h X = absurd (omega arith)
  fixed_stage_lem (c ∷ cs) l S q zero a b h X = absurd (omega arith)
  fixed_stage_lem (c ∷ cs) l S q (suc t) a b h X = fixed_from_lem K g ok few stop (c ∷ cs) S 1 (nothing_fixed K) cs (omega arith) (omega arith) (length-replicate (stage_size K) empty)
      (λ i r e. let z : r ≡ suc i = omega arith in rw z) (λ r u k. true_false k (blank_replicate (stage_size K) r)) q (q - 1) (suc t) t (omega arith) b (omega arith) (omega arith) X

  module _ (cl : List ℕ) (l : length cl ≡ 2 ^ (K + 1)) (S : (q : ℕ) → 1 ≤ q → q < 2 ^ (K + 1) → Settled K g stop cl q) (q : ℕ) (a : 1 ≤ q) (b : q < 2 ^ K) where
    abbrev n : ℕ
    n = cell_pin (get_or cl q empty)

    -- under a copy the first lower cell
    pub copy_fixes : n < length g → pin_deed K g stop q n ≡ copies n → filled (get_or (fixed_stage K g stop cl) (first_lower q) empty) ≡ true
    unfolding fixing
    copy_fixes h e =
        let L = lower_cells K q a b in
        fixed_stage_lem cl l S q (first_lower q) a L.above (omega (arith, L.next, L.inside))
        (λ fx m. rw e (rw (get_or-set_same fx (first_lower q) n empty (omega (arith, L.next, L.inside))) (small_filled n (omega arith))))

    -- under an AND both
    pub join_fixes : (x y : ℕ) → n < length g → get_or g n leaf ≡ gate x y → pin_deed K g stop q n ≡ joins n x y →
        (filled (get_or (fixed_stage K g stop cl) (first_lower q) empty) ≡ true) × (filled (get_or (fixed_stage K g stop cl) (second_lower q) empty) ≡ true)
    unfolding fixing
    join_fixes x y h o e =
        let L = lower_cells K q a b in
        let v = ok.inside n x y o in (
          fixed_stage_lem cl l S q (first_lower q) a L.above (omega (arith, L.next, L.inside))
              (λ fx m. rw e (set_stays K g ok few stop (set fx (first_lower q) (pin_of x)) (second_lower q) (pin_of y) (first_lower q) (small_filled (pin_of y) (omega (arith, v.1)))
              (rw (get_or-set_same fx (first_lower q) (pin_of x) empty (omega (arith, L.next, L.inside))) (small_filled (pin_of x) (omega (arith, v.0)))))),
          fixed_stage_lem cl l S q (second_lower q) a (omega (arith, L.above, L.next)) L.inside
              (λ fx m. rw e (rw (get_or-set_same (set fx (first_lower q) (pin_of x)) (second_lower q) (pin_of y) empty (omega (arith, L.inside, length-set fx (first_lower q) (pin_of x)))) (small_filled (pin_of y) (omega (arith, v.1))))),
        )

    -- both at once, for a filled cell whose pin fits
    pub under_fixed : (A : Above g) → Fits K g ok A stop q n →
        (filled (get_or (fixed_stage K g stop cl) (first_lower q) empty) ≡ true) × (ands (get_or cl q empty) ≡ true → filled (get_or (fixed_stage K g stop cl) (second_lower q) empty) ≡ true)
    unfolding mended
    under_fixed A F = go (pin_deed K g stop q n) (which K g stop q n) refl
      where
        plain : (d : Deed) → pin_deed K g stop q n ≡ d → mended d (get_or cl q empty) ≡ n → get_or cl q empty ≡ n
        plain d e f = sym (S q a (omega (arith, two_step K))).same ∙ ap (λ (x : Deed). mended x (get_or cl q empty)) e ∙ f

        go : (d : Deed) → Case K g stop q n d → pin_deed K g stop q n ≡ d →
            (filled (get_or (fixed_stage K g stop cl) (first_lower q) empty) ≡ true) × (ands (get_or cl q empty) ≡ true → filled (get_or (fixed_stage K g stop cl) (second_lower q) empty) ≡ true)
        go d (is_kept (inl j)) e = true_false (graph_in g n F.above F.below) j
        go d (is_kept (inr j)) e = absurd (omega (arith, F.level))
        go d (is_stands j h m) e = absurd (omega (arith, (lower_cells K q a b).level))
        go d (is_copies j h) e = (copy_fixes F.below e, λ t. true_false t (rw (plain (copies n) e refl) (ands_plain n (omega (arith, F.below)))))
        go d (is_joins {a = x} {b = y} j h m o) e = let r = join_fixes x y F.below o e in (r.0, λ t. r.1)

-- ---- what the placer built

-- under every filled cell, in every stage in turn
abbrev pub AllUnder : ℕ → List Node → List ℕ → List Stage → Type 0
AllUnder K g stop [] = Unit {0}
AllUnder K g stop (s ∷ ss) = ((q : ℕ) → 1 ≤ q → q < 2 ^ K → filled (get_or s.plan q empty) ≡ true →
    (filled (get_or (fixed_stage K g stop s.plan) (first_lower q) empty) ≡ true) × (ands (get_or s.plan q empty) ≡ true → filled (get_or (fixed_stage K g stop s.plan) (second_lower q) empty) ≡ true))
    × AllUnder K g (stop_after K s.plan stop) ss

module _ (rule : WordRule) (I : Input) where
  sound_under : (stop : List ℕ) (ss : List Stage) → AllSound I.K (inputs.graph I) (valid I) (above I) stop ss → AllUnder I.K (inputs.graph I) stop ss
  sound_under stop [] S = tt
  sound_under stop (s ∷ ss) S = (
    λ q a b k. under_fixed I.K (inputs.graph I) (valid I) (few I) stop s.plan S.0.size S.0.settled q a b (above I) (S.0.fit q a (omega (arith, two_step I.K)) k),
    sound_under (stop_after I.K s.plan stop) ss S.1,
  )

  -- in the placer's plan every cell under a filled one is fixed, but the second lower cell of a copy
  pub built_under : (rooms : ℕ) (ss : List Stage) → built rule I rooms ≡ whole ss → AllUnder I.K (inputs.graph I) I.given (coded_stages I.K (inputs.graph I) ss)
  built_under rooms ss e = sound_under I.given (coded_stages I.K (inputs.graph I) ss) (built_sound rule I rooms ss e)
