-- The line of a refused stage is the one that the rules give. Assumes nothing.
use Prim.Native.Nat.{ℕ, ◌+◌, ◌-◌, ◌≤◌}
use mathlib.Core.Path.{◌≡◌, refl}
use mathlib.Core.List.{List, [], ◌∷◌}
use native.Mathlib.Omega.{arith}
use lib.Pow.{pow_mono}
use lib.ListN.{length}
use borrow.Author.Tests.{lt-ltb, le-ltb}
use Rattle.rules.specs.Cells.{empty, is_height, level_one_size}
use Rattle.rules.specs.Graph.{Node}
use Rattle.rules.specs.Traversal.{WordRule, Setting, setting}
use Rattle.rules.specs.Placing.{filled_plan}
use Rattle.rules.specs.Ending.{written}
use Rattle.rules.specs.Capacity.{StageOver, seven, eight}
use Rattle.rules.specs.Inside.Walks.{Graph, Ready}
use Rattle.rules.proofs.Stage.Crowd.{refused_over}
use Rattle.cells.specs.Answers.{or_zero}
use Rattle.cells.proofs.Heights.{tall_answer}
use Rattle.std.specs.Prelude.{Err}
use Rattle.refusals.specs.Numbers.{number_of}
use Rattle.stage.specs.declared.finish.Stopped.{Stopped}
use Rattle.stage.specs.declared.finish.Stopped.TheVariants.{OverWords, NoCell}
use Rattle.stage.specs.Stopped.{refusal_of, Tells}
use Rattle.placer.specs.Stages.{StageTold}
use Rattle.why_form.specs.Why.{numbers, seventh, eighth, over_line}
use Rattle.explain_stages.specs.Over.{Few, OverAt, over_six}

module _ {K room : ℕ} {s : Stopped} (A : OverAt K room s) where
  -- the size of level 1
  pub size_is : {r : ℕ} → r ≡ or_zero (is_height K) (level_one_size K) → r ≡ level_one_size K
  size_is e = tall_answer K A.low A.high e

  -- is from 1 to 4,096
  pub size_within : {r : ℕ} → r ≡ or_zero (is_height K) (level_one_size K) → (1 ≤ r) × (r ≤ 4096)
  size_within e = let d = size_is e in (omega (arith, d, pow_mono {i = 0} {j = K - 1} (omega arith)), omega (arith, d, pow_mono {i = K - 1} {j = 12} (omega (arith, A.high))))

  -- 8
  pub eight_line : (stage cells waiting : ℕ) → {r : ℕ} → r ≡ or_zero (is_height K) (level_one_size K) → 8 ∷ stage ∷ (r - 1) ∷ (cells + waiting) ∷ cells ∷ waiting ∷ [] ≡ over_six K stage room (NoCell cells waiting)
  unfolding over_six
  eight_line stage cells waiting e = rw (size_is e)

-- 7
pub seven_line : (K stage room words : ℕ) → 7 ∷ stage ∷ room ∷ words ∷ 0 ∷ 0 ∷ [] ≡ over_six K stage room (OverWords words)
unfolding over_six
seven_line K stage room words = refl

-- what stops a stage has small counts
pub few_of : (X : Setting) (pl : List ℕ) (s : Stopped) → Tells X pl s → Few s
few_of X pl (OverWords n) t = t.1
few_of X pl (NoCell ones left) t = t.2

module _ (rule : WordRule) (K : ℕ) (g : List Node) (r : ℕ → ℕ) (G : Graph g r) (tall : 6 ≤ K) (small : length g ≤ empty) (done waiting : List ℕ) (R : Ready g r waiting) (room k : ℕ) where
  abbrev X : Setting
  X = setting rule K g done waiting

  abbrev pl : List ℕ
  pl = filled_plan (setting rule K g done waiting)

  over_cases : {number : ℕ} (s : Stopped) → StageOver X room 0 pl number → number ≡ number_of (refusal_of s) → Tells X pl s → numbers (over_line X k room pl) ≡ over_six K k room s
  unfolding over_six over_line seventh eighth numbers setting
  over_cases (OverWords n) (seven h) z t = rw (lt-ltb room (length (written X pl).words) (omega arith), over_line, t.0)
  over_cases (NoCell o l) (seven h) z t = absurd (omega arith)
  over_cases (OverWords n) (eight h c) z t = absurd (omega arith)
  over_cases (NoCell o l) (eight h c) z t = rw (le-ltb room (length (written X pl).words) (omega arith), over_line, t.0, t.1)

  -- the six numbers of a stage that is over
  pub over_six_lem : {m : ℕ} {s : Stopped} {w w' : List ℕ} → StageTold X m room w (Err s) w' → numbers (over_line X k room pl) ≡ over_six K k room s
  unfolding setting
  over_six_lem {s = s} T = over_cases s (refused_over rule K g r G tall small done waiting R room 0 room (omega arith) (number_of (refusal_of s)) T.refuses.is) refl T.refuses.tells
