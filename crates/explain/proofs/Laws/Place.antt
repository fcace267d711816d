-- The list measured, then told; the plan coded. Assumes nothing.
use Prim.Native.Nat.{ℕ, ◌+◌, ◌-◌, ◌*◌, ◌≤◌, ◌<◌}
use mathlib.Core.Path.{◌≡◌, refl, sym, ap, ◌∙◌}
use mathlib.Core.Bool.{Bool, true, false}
use mathlib.Core.List.{List, [], ◌∷◌, ◌++◌}
use native.Mathlib.Omega.{arith}
use native.Mathlib.Nat.{mul-le-mul_left}
use lib.Dec.{ltb}
use lib.Pow.{pow_mono}
use lib.ListN.{length, take, drop, replicate}
use borrow.Author.Tests.{ltb-true, ltb-false, le-ltb}
use Rattle.rules.specs.Lists.{padded}
use Rattle.rules.specs.Cells.{empty, stage_size, rooms}
use Rattle.rules.specs.Graph.{Node, graph_of}
use Rattle.rules.specs.Records.{groups_of}
use Rattle.rules.specs.Build as rules
use Rattle.rules.specs.Traversal.{needed_runs}
use Rattle.cells.proofs.Heights.{tall_height}
use Rattle.coding.specs.Stages.{PlanAt, coded_plan}
use Rattle.std.specs.Prelude.{Result, Ok, Err}
use Rattle.placer.specs.declared.Built.{Built}
use Rattle.placer.specs.declared.Refused.{Refused}
use Rattle.refusals.specs.declared.Refusal.TheVariants.{ShortLines}
use Rattle.placer.specs.Answers.{told}
use Rattle.placer.specs.Build.{PlaceAt, Emptied, Laid}
use Rattle.placer.proofs.Laws.Laying.{padded_none}
use Rattle.placer.proofs.Laws.Coding.{code_at, placed}
use Rattle.why_form.specs.Why.{Line, why_of}
use Rattle.why_form.proofs.Lines.{why_few}
use Rattle.explain_lines.specs.Lines.{put_lines}
use Rattle.explain_lines.proofs.Lines.{lines_all}
use Rattle.explain_stages.specs.declared.Explanation.{Explanation}
use Rattle.explain_build.specs.Call.{Explained}
use Rattle.explain.specs.Call.{Measured, Ends}

-- a part of no numbers leaves the list as it was
no_part : (list part : List ℕ) → length part ≡ 0 → take 0 list ++ (part ++ drop (0 - 0) (drop 0 list)) ≡ list
no_part list [] e = refl
no_part list (x ∷ xs) e = absurd (omega arith)

module _ {K : ℕ} {gates given records pl ws cs w : List ℕ} (A : PlaceAt K gates given records pl ws cs w) where
  low : 6 ≤ K
  low = (tall_height K A.passed.height).low

  high : K ≤ 13
  high = (tall_height K A.passed.height).high

  -- the height as the code has it
  pub tall : {v : ℕ} → v ≡ K → 6 ≤ v
  tall e = omega (arith, low)

  -- a room has 128 plan numbers at least
  pub rooms_few : 128 * length cs ≤ length pl
  rooms_few =
      let s : 128 ≤ stage_size K = pow_mono {i = 7} {j = K + 1} (omega (arith, low)) in
      omega (arith, A.plan, A.counts, mul-le-mul_left (rooms K (length pl)) s)

  -- twelve lines a room at most
  pub levels_few : {v : ℕ} → v ≡ K → length cs * (v - 1) ≤ 12 * length cs
  levels_few {v} e = let b : v - 1 ≤ 12 = omega (arith, high) in omega (arith, mul-le-mul_left (length cs) b)

  module _ where
    abbrev ls : List Line
    ls = why_of needed_runs K gates given records (length pl)

    lines_most : length ls ≤ length cs * (K - 1) + 1
    unfolding why_of
    lines_most = rw A.counts (why_few needed_runs K (graph_of gates) given (groups_of records) (rooms K (length pl)))

    -- a list with room for all that there may be
    pub measured_none : (list : List ℕ) {v : ℕ} → v ≡ K → 6 * (length cs * (v - 1) + 1) ≤ length list → Measured ls pl ws cs w list false pl ws cs w list
    measured_none list {v} e h =
        let b : length ls ≤ length cs * (v - 1) + 1 = rw e lines_most in
        record { is = sym (le-ltb (length list) (6 * length ls) (omega arith)); same = refl; kept = record { plan = refl; words = refl; counts = refl; work = refl } }

    module _ {b : rules.Answer} {part : List ℕ} {e : Explanation} {pl' ws' cs' w' part' : List ℕ} (E : Explained b ls pl ws cs w part e pl' ws' cs' w' part') where
      -- there are few lines
      pub lines_few : e.lines ≤ 12 * length cs + 1
      lines_few = omega (arith, E.count, lines_most, levels_few refl)

      -- the lines counted in a part of no numbers
      pub measured : (list : List ℕ) → length part' ≡ 0 → length pl' ≡ length pl → length ws' ≡ length ws → length cs' ≡ length cs → length w' ≡ length w →
          Measured ls pl ws cs w list (ltb (length list) (6 * e.lines)) pl' ws' cs' w' (take 0 list ++ (part' ++ drop (0 - 0) (drop 0 list)))
      measured list z a c d f = record { is = rw E.count refl; same = no_part list part' z; kept = record { plan = a; words = c; counts = d; work = f } }

-- a refused build has no stages to code
pub uncoded : (a : Result Built Refused) → ((x : Built) → a ≡ Ok x → ⊥) → (K : ℕ) (g : List Node) (pl : List ℕ) → pl ≡ coded_plan (told a).stages K g pl
unfolding told coded_plan
uncoded (Ok x) h K g pl = absurd (h x refl)
uncoded (Err x) h K g pl = refl

-- ---- both together

module _ {K : ℕ} {gates given records pl ws cs w : List ℕ} (A : PlaceAt K gates given records pl ws cs w) {list : List ℕ} {r : Bool} {pl₁ ws₁ cs₁ w₁ list₁ : List ℕ}
    (M : Measured (why_of needed_runs K gates given records (length pl)) pl ws cs w list r pl₁ ws₁ cs₁ w₁ list₁) where
  abbrev b : rules.Answer
  b = rules.answer_of needed_runs K gates given records (length pl)

  abbrev es : List Line
  es = why_of needed_runs K gates given records (length pl)

  -- too short: 21, and every area is empty
  pub ends_short : r ≡ true → {pl₂ ws₂ cs₂ w₂ : List ℕ} → Emptied pl₁ ws₁ cs₁ w₁ pl₂ ws₂ cs₂ w₂ → Ends (graph_of gates) b es K pl ws cs w list (record { answer = Err (record { why = ShortLines; stage = 0 }); lines = 0 }) pl₂ ws₂ cs₂ w₂ list₁
  unfolding told rules.refuse rules.cells_of rules.words_of rules.counts_of
  ends_short e E =
      let h : length list < 6 * length es = ltb-true (length list) (6 * length es) (sym M.is ∙ e) in
      record {
        short = λ z. refl;
        short_lines = λ z. refl;
        short_list = λ z. M.same;
        short_areas = λ z. record {
          plan = E.plan ∙ ap (λ (i : ℕ). replicate i empty) M.kept.plan ∙ sym (padded_none (length pl) empty);
          words = E.words ∙ ap (λ (i : ℕ). replicate i empty) M.kept.words ∙ sym (padded_none (length ws) empty);
          counts = E.counts ∙ ap (λ (i : ℕ). replicate i 0) M.kept.counts ∙ sym (padded_none (length cs) 0);
        };
        placed = λ z. absurd (omega arith);
        lines = λ z. absurd (omega arith);
        told_list = λ z. absurd (omega arith);
        work = E.work ∙ ap (λ (i : ℕ). replicate i 0) M.kept.work;
      }

  -- else the build may run again
  pub place_again : PlaceAt K gates given records pl₁ ws₁ cs₁ w₁
  place_again = record { sized = A.sized; passed = A.passed; plan = rw M.kept.plan A.plan; words = M.kept.words ∙ A.words; counts = M.kept.counts ∙ rw M.kept.plan A.counts; work = M.kept.work ∙ A.work }

  module _ (f : r ≡ false) {e : Explanation} {pl₂ ws₂ cs₂ w₂ list₂ : List ℕ}
      (E : Explained (rules.answer_of needed_runs K gates given records (length pl₁)) (why_of needed_runs K gates given records (length pl₁)) pl₁ ws₁ cs₁ w₁ list₁ e pl₂ ws₂ cs₂ w₂ list₂) where
    laid_there : Laid b pl ws cs w e.answer pl₂ ws₂ cs₂ w₂
    laid_there =
        let D : Laid b pl₁ ws₁ cs₁ w₁ e.answer pl₂ ws₂ cs₂ w₂ = rw M.kept.plan at E.laid in
        record {
          reply = D.reply;
          filled = record {
            plan = D.filled.plan ∙ ap (λ (i : ℕ). padded i empty (rules.cells_of (rules.stages_of b))) M.kept.plan;
            words = D.filled.words ∙ ap (λ (i : ℕ). padded i empty (rules.words_of (rules.stages_of b))) M.kept.words;
            counts = D.filled.counts ∙ ap (λ (i : ℕ). padded i 0 (rules.counts_of (rules.stages_of b))) M.kept.counts;
          };
          work = D.work ∙ ap (λ (i : ℕ). replicate i 0) M.kept.work;
        }

    -- its stages may be coded
    pub again_code : length pl₂ ≡ length pl → PlanAt K (told e.answer).stages pl₂
    again_code l = code_at A needed_runs laid_there l

    -- the whole plan, and its lines
    pub ends_told : {pl₃ : List ℕ} → pl₃ ≡ coded_plan (told e.answer).stages K (graph_of gates) pl₂ → Ends (graph_of gates) b es K pl ws cs w list e pl₃ ws₂ cs₂ w₂ list₂
    ends_told c =
        let h : 6 * length es ≤ length list = ltb-false (length list) (6 * length es) (sym M.is ∙ f) in
        record {
          short = λ z. absurd (omega arith);
          short_lines = λ z. absurd (omega arith);
          short_list = λ z. absurd (omega arith);
          short_areas = λ z. absurd (omega arith);
          placed = λ z. placed A needed_runs laid_there c;
          lines = λ z. E.count ∙ ap (λ (i : ℕ). length (why_of needed_runs K gates given records i)) M.kept.plan;
          told_list = λ z. E.lines ∙ (λ i. put_lines 0 (why_of needed_runs K gates given records (M.kept.plan i)) (M.same i)) ∙ lines_all es list h;
          work = laid_there.work;
        }
