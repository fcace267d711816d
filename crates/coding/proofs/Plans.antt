-- A plan as far as its stages are coded, and the stages of a build. Assumes nothing.
use Prim.Native.Nat.{ℕ, suc, ◌+◌, ◌-◌, ◌*◌, ◌^◌, ◌≤◌, ◌<◌}
use mathlib.Core.Path.{◌≡◌, refl, sym, ◌∙◌, ap}
use mathlib.Core.Bool.{true}
use mathlib.Core.List.{List, [], ◌∷◌, ◌++◌, append_assoc}
use native.Mathlib.Omega.{arith}
use native.Mathlib.Nat.{suc-mul, mul-le-mul_right}
use native.Mathlib.Numerals.{add-one}
use lib.Dec.{ltb}
use lib.ListN.{length, get_or, take, drop, length-append, length-drop, length-take, get_or-eq_default, take-append-drop}
use lib.Seq.{length-take-le, take_at, drop_at, get_or-take, get_or-drop, drop-drop}
use borrow.Author.Tests.{ltb-true, ltb-false}
use Rattle.rules.specs.Lists.{padded}
use Rattle.rules.specs.Cells.{is_height, empty, filled}
use Rattle.rules.specs.Graph.{Node}
use Rattle.rules.specs.Coded.{coded}
use Rattle.rules.specs.Build.{Stage, cells_of, coded_stages}
use Rattle.rules.proofs.Lists.Members.{split}
use Rattle.rules.proofs.Build.Lengths.{Sized}
use Rattle.rules.proofs.Build.Coding.{length_coded, cells_coded}
use Rattle.cells.specs.Answers.{or_zero}
use Rattle.cells.proofs.Heights.{or_zero_true}
use Rattle.coding.specs.Stages.{StageAt, PlanAt, coded_plan}

-- of n stages k are coded, up to `at`
pub record Reached (K n : ℕ) (g : List Node) (pl : List ℕ) (k at : ℕ) (now : List ℕ) : Type 0 where
  pub len : length now ≡ length pl
  pub upto : k ≤ n
  pub place : at ≡ k * 2 ^ (K + 1)
  pub whole : coded_plan n K g pl ≡ take at now ++ coded_plan (n - k) K g (drop at now)
  pub back : drop at now ≡ drop at pl

none_filled : filled empty ≡ true → ⊥
unfolding filled empty
none_filled e = let z : ◌≡◌ {A = ℕ} 0 1 = cc in omega arith

-- a pin of a part is one of the plan
part_pin : (pl : List ℕ) (at s p : ℕ) → ((q : ℕ) → filled (get_or pl q empty) ≡ true → get_or pl q empty < 65536) → filled (get_or (take s (drop at pl)) p empty) ≡ true → get_or (take s (drop at pl)) p empty < 65536
part_pin pl at s p h f = split (ltb p s)
    (λ t.
    let e : get_or (take s (drop at pl)) p empty ≡ get_or pl (at + p) empty = get_or-take s (drop at pl) p empty (ltb-true p s t) ∙ get_or-drop at pl p empty in
    rw e (h (at + p) (rw e at f)))
    (λ t.
    let e : get_or (take s (drop at pl)) p empty ≡ empty = get_or-eq_default (take s (drop at pl)) empty {n = p} (omega (arith, length-take s (drop at pl), ltb-false p s t)) in
    absurd (none_filled (rw e at f)))

next_coded : (n K : ℕ) (g : List Node) (pl : List ℕ) (m : ℕ) → n ≡ suc m → coded_plan n K g pl ≡ coded K g (take (2 ^ (K + 1)) pl) ++ coded_plan m K g (drop (2 ^ (K + 1)) pl)
unfolding coded_plan
next_coded n K g pl m e = rw e refl

none_left : (n K : ℕ) (g : List Node) (pl : List ℕ) → n ≡ 0 → coded_plan n K g pl ≡ pl
unfolding coded_plan
none_left n K g pl e = rw e refl

-- the size of a stage, as the code gets it for a right height
pub size_is : {K n s : ℕ} {pl : List ℕ} → PlanAt K n pl → s ≡ or_zero (is_height K) (2 ^ (K + 1)) → s ≡ 2 ^ (K + 1)
size_is {K} P e = rw (P.height, or_zero_true (2 ^ (K + 1))) at e

module _ (K n : ℕ) (g : List Node) (pl : List ℕ) (P : PlanAt K n pl) where
  -- at the start nothing is coded
  pub reached_none : Reached K n g pl 0 0 pl
  reached_none = record { len = refl; upto = omega arith; place = omega arith; whole = let e : n - 0 ≡ n = omega arith in rw e; back = refl }

  module _ (k at : ℕ) (now : List ℕ) (R : Reached K n g pl k at now) (h : k < n) (s e : ℕ) (es : s ≡ 2 ^ (K + 1)) (ee : e ≡ at + s) where
    -- the next stage is in the plan
    pub stage_inside : e ≤ length now
    stage_inside = omega (arith, R.place, R.len, P.room, suc-mul k (2 ^ (K + 1)), mul-le-mul_right (2 ^ (K + 1)) h)

    gap : e - at ≡ 2 ^ (K + 1)
    gap = omega arith

    fits : at + 2 ^ (K + 1) ≤ length now
    fits = omega (arith, stage_inside)

    part_size : length (take (2 ^ (K + 1)) (drop at now)) ≡ 2 ^ (K + 1)
    part_size = length-take-le (2 ^ (K + 1)) (drop at now) (omega (arith, length-drop at now, fits))

    -- it holds pins
    pub stage_at : StageAt K (take (e - at) (drop at now))
    stage_at = record {
      height = P.height;
      low = P.low;
      high = P.high;
      double = P.double;
      size = rw gap part_size;
      pins = λ p f. rw R.back (part_pin pl at (e - at) p P.pins (rw R.back at f));
    }

    abbrev cells : List ℕ
    cells = coded K g (take (2 ^ (K + 1)) (drop at now))

    abbrev next : List ℕ
    next = take at now ++ (cells ++ drop (2 ^ (K + 1)) (drop at now))

    front : length (take at now ++ cells) ≡ at + 2 ^ (K + 1)
    front = length-append (take at now) cells ∙ omega (arith, length-take-le at now (omega (arith, fits)), length_coded K g (take (2 ^ (K + 1)) (drop at now)))

    joined : next ≡ (take at now ++ cells) ++ drop (2 ^ (K + 1)) (drop at now)
    joined = sym (append_assoc (take at now) cells (drop (2 ^ (K + 1)) (drop at now)))

    next_front : take (at + 2 ^ (K + 1)) next ≡ take at now ++ cells
    next_front = ap (take (at + 2 ^ (K + 1))) joined ∙ take_at (take at now ++ cells) (drop (2 ^ (K + 1)) (drop at now)) (at + 2 ^ (K + 1)) front

    next_back : drop (at + 2 ^ (K + 1)) next ≡ drop (2 ^ (K + 1)) (drop at now)
    next_back = ap (drop (at + 2 ^ (K + 1))) joined ∙ drop_at (take at now ++ cells) (drop (2 ^ (K + 1)) (drop at now)) (at + 2 ^ (K + 1)) front

    next_length : length next ≡ length now
    next_length = ap length joined ∙ length-append (take at now ++ cells) (drop (2 ^ (K + 1)) (drop at now)) ∙ omega (arith, front, fits, length-drop (2 ^ (K + 1)) (drop at now), length-drop at now)

    further : Reached K n g pl (suc k) (at + 2 ^ (K + 1)) next
    further =
        let m : n - k ≡ suc (n - suc k) = omega arith in
        record {
          len = next_length ∙ R.len;
          upto = h;
          place = omega (arith, R.place, suc-mul k (2 ^ (K + 1)));
          whole = R.whole
              ∙ ap (λ (x : List ℕ). take at now ++ x) (next_coded (n - k) K g (drop at now) (n - suc k) m)
              ∙ sym (append_assoc (take at now) cells (coded_plan (n - suc k) K g (drop (2 ^ (K + 1)) (drop at now))))
              ∙ (λ i. sym next_front i ++ coded_plan (n - suc k) K g (sym next_back i));
          back = next_back ∙ ap (drop (2 ^ (K + 1))) R.back ∙ drop-drop (2 ^ (K + 1)) at pl;
        }

    -- it is coded
    pub reached_more : (x : List ℕ) → x ≡ coded K g (take (e - at) (drop at now)) → Reached K n g pl (k + 1) e (take at now ++ (x ++ drop (e - at) (drop at now)))
    reached_more x d =
        let z : e ≡ at + 2 ^ (K + 1) = omega arith in
        rw (d, gap, add-one k, z) further

  -- at the end all are
  pub reached_all : (k at : ℕ) (now : List ℕ) → Reached K n g pl k at now → n ≤ k → now ≡ coded_plan n K g pl
  reached_all k at now R h = let z : n - k ≡ 0 = omega arith in sym (R.whole ∙ ap (λ (x : List ℕ). take at now ++ x) (none_left (n - k) K g (drop at now) z) ∙ take-append-drop at now)

-- ---- the stages of a build

module _ (K : ℕ) (g : List Node) where
  behind : (ss : List Stage) → Sized (2 ^ (K + 1)) ss → (rest : List ℕ) → coded_plan (length ss) K g (cells_of ss ++ rest) ≡ cells_of (coded_stages K g ss) ++ rest
  unfolding coded_plan coded_stages cells_of
  behind [] S rest = refl
  behind (s ∷ ss) S rest =
      let a : (s.plan ++ cells_of ss) ++ rest ≡ s.plan ++ (cells_of ss ++ rest) = append_assoc s.plan (cells_of ss) rest in
      let t : take (2 ^ (K + 1)) ((s.plan ++ cells_of ss) ++ rest) ≡ s.plan = ap (take (2 ^ (K + 1))) a ∙ take_at s.plan (cells_of ss ++ rest) (2 ^ (K + 1)) S.0 in
      let d : drop (2 ^ (K + 1)) ((s.plan ++ cells_of ss) ++ rest) ≡ cells_of ss ++ rest = ap (drop (2 ^ (K + 1))) a ∙ drop_at s.plan (cells_of ss ++ rest) (2 ^ (K + 1)) S.0 in
      (λ i. coded K g (t i) ++ coded_plan (length ss) K g (d i)) ∙ ap (λ (x : List ℕ). coded K g s.plan ++ x) (behind ss S.1 rest) ∙ sym (append_assoc (coded K g s.plan) (cells_of (coded_stages K g ss)) rest)

  -- in a plan area
  pub plan_coded : (L : ℕ) (ss : List Stage) → Sized (2 ^ (K + 1)) ss → coded_plan (length ss) K g (padded L empty (cells_of ss)) ≡ padded L empty (cells_of (coded_stages K g ss))
  unfolding padded
  plan_coded L ss S = behind ss S _ ∙ rw (cells_coded K g ss S)
