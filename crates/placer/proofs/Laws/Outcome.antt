-- The whole call: what the checks say, and the parts of the areas that count. Assumes nothing.
use Prim.Native.Nat.{ℕ, zero, suc, ◌+◌, ◌-◌, ◌*◌, ◌≤◌, ◌<◌}
use mathlib.Core.Bool.{Bool, true, ◌&&◌}
use mathlib.Core.List.{List, ◌++◌}
use mathlib.Core.Path.{◌≡◌, refl, sym, ap, ◌∙◌}
use native.Mathlib.Omega.{arith}
use lib.Dec.{leb}
use lib.ListN.{length, take, drop, replicate}
use lib.Seq.{length-take-le}
use borrow.Author.Tests.{leb-true, eqb-true}
use Rattle.rules.proofs.Lists.Parts.{part_laid, divides}
use Rattle.rules.specs.Lists.{padded, laid_over}
use Rattle.rules.specs.Cells.{empty, word_limit, stage_size, rooms, is_height}
use Rattle.rules.specs.Graph.{graph_of, pin_count}
use Rattle.rules.specs.Checks.{work_size, plan_sized, areas_sized, refusal_of, pin_shown}
use Rattle.rules.specs.Traversal.{WordRule}
use Rattle.rules.specs.Build as rules
use Rattle.rules.proofs.Lists.Members.{and_true}
use Rattle.cells.specs.Answers.{or_zero}
use Rattle.cells.proofs.Heights.{or_zero_true}
use Rattle.std.specs.Prelude.{Result, Ok, Err}
use Rattle.refusals.specs.declared.Refusal.{Refusal}
use Rattle.refusals.specs.Numbers.{number_of, pin_of}
use Rattle.refusals.proofs.Numbers.{number_above}
use Rattle.checks.specs.Values.{Says}
use Rattle.checks.specs.Passed.{Passed}
use Rattle.checks.proofs.Laws.Passed.{passed}
use Rattle.placer.specs.declared.Built.{Built}
use Rattle.placer.specs.declared.Refused.{Refused}
use Rattle.placer.specs.Answers.{told, areas, outcome}
use Rattle.placer.specs.Build.{PlaceAt, Placed}

-- the size at which the work area counts, as the code adds it up
pub need_is : (gates records : List ℕ) (m : ℕ) → m ≡ pin_count gates → 16 * m + 8 * length records + 512 ≡ work_size gates records
unfolding work_size
need_is gates records m e = rw e refl

module _ (rule : WordRule) (K : ℕ) (gates given records pl ws cs w : List ℕ) where
  abbrev sized : Bool
  sized = areas_sized K (work_size gates records) (length pl) (length ws) (length cs) (length w)

  abbrev at_entry : rules.Areas
  at_entry = areas pl ws cs w

  refused_at_lem : (n : ℕ) → n ≡ refusal_of K sized gates given records → 0 < n → (why : Refusal) → number_of why ≡ n → pin_of why ≡ pin_shown n gates →
      outcome (Err (record { why = why; stage = 0 })) pl ws cs w ≡ rules.placer rule K gates given records at_entry
  unfolding outcome told areas rules.placer rules.sizes_right rules.refuse_checked
  refused_at_lem zero e h why s d = absurd (omega arith)
  refused_at_lem (suc n) e h why s d = rw (s, d, ← e, rules.placer)

  -- what the checks refuse changes nothing
  pub outcome_refused : {A : Type 0} (why : Refusal) → Says {A = A} (refusal_of K sized gates given records) gates (Err why) → outcome (Err (record { why = why; stage = 0 })) pl ws cs w ≡ rules.placer rule K gates given records at_entry
  outcome_refused why S = refused_at_lem (number_of why) S.number (number_above why) why refl (S.pin ∙ ap (λ (n : ℕ). pin_shown n gates) (sym S.number))

-- no check refuses areas of these lengths
pub record Checked (K : ℕ) (gates given records : List ℕ) (plan words counts work : ℕ) : Type 0 where
  pub none : refusal_of K (areas_sized K (work_size gates records) plan words counts work) gates given records ≡ 0

-- checks that refuse nothing
pub checked : {A : Type 0} {K : ℕ} {gates given records : List ℕ} {plan words counts work : ℕ} {x : A} → Says (refusal_of K (areas_sized K (work_size gates records) plan words counts work) gates given records) gates (Ok x) → Checked K gates given records plan words counts work
checked S = record { none = sym S.number }

module _ {K : ℕ} {gates given records : List ℕ} {plan words counts work : ℕ} (H : Checked K gates given records plan words counts work) where
  passes : Passed K (areas_sized K (work_size gates records) plan words counts work) gates given records
  passes = passed K (areas_sized K (work_size gates records) plan words counts work) gates given records H.none

  -- where no check refuses there are at most 65,536 pins
  pub pins_few : pin_count gates ≤ 65536
  pins_few = passes.few

  -- and at most 65,536 record numbers
  pub records_few : length records ≤ 65536
  records_few = passes.short

  parts : (plan_sized K plan ≡ true) × (word_limit K ≤ words) × (rooms K plan ≤ counts) × (work_size gates records ≤ work)
  unfolding areas_sized
  parts =
      let a = and_true (plan_sized K plan && leb (word_limit K) words && leb (rooms K plan) counts) (leb (work_size gates records) work) passes.areas in
      let b = and_true (plan_sized K plan && leb (word_limit K) words) (leb (rooms K plan) counts) a.0 in
      let c = and_true (plan_sized K plan) (leb (word_limit K) words) b.0 in
      (c.0, leb-true _ _ c.1, leb-true _ _ b.1, leb-true _ _ a.1)

  whole_stages : plan ≡ rooms K plan * stage_size K
  unfolding plan_sized rooms
  whole_stages = divides plan (stage_size K) (eqb-true _ _ parts.0)

  module _ {limit rms need : ℕ} (el : limit ≡ or_zero (is_height K) (word_limit K)) (er : rms ≡ or_zero (is_height K) (rooms K plan)) (en : need ≡ work_size gates records) where
    limit_is : limit ≡ word_limit K
    limit_is = el ∙ rw (passes.height, or_zero_true (word_limit K)) refl

    rooms_is : rms ≡ rooms K plan
    rooms_is = er ∙ rw (passes.height, or_zero_true (rooms K plan)) refl

    -- the words that count lie in their area
    pub words_inside : limit ≤ words
    words_inside = omega (arith, limit_is, parts.1)

    -- the counts that count lie in their area
    pub counts_inside : rms ≤ counts
    counts_inside = omega (arith, rooms_is, parts.2)

    -- the work numbers that count lie in their area
    pub work_inside : need ≤ work
    work_inside = omega (arith, parts.3)

module _ {K : ℕ} {gates given records : List ℕ} (pl ws cs w : List ℕ) (H : Checked K gates given records (length pl) (length ws) (length cs) (length w)) where
  module _ {limit rms need : ℕ} (el : limit ≡ or_zero (is_height K) (word_limit K)) (er : rms ≡ or_zero (is_height K) (rooms K (length pl))) (en : need ≡ work_size gates records) where
    -- in the parts that count the build may run
    pub place_at : PlaceAt K gates given records pl (take (limit - 0) ws) (take (rms - 0) cs) (take (need - 0) w)
    place_at = record {
      sized = _;
      passed = passes H;
      plan = whole_stages H;
      words = length-take-le (limit - 0) ws (omega (arith, words_inside H el er en)) ∙ omega (arith, limit_is H el er en);
      counts = length-take-le (rms - 0) cs (omega (arith, counts_inside H el er en)) ∙ omega (arith, rooms_is H el er en);
      work = length-take-le (need - 0) w (omega (arith, work_inside H el er en)) ∙ omega (arith, en);
    }

    module _ (rule : WordRule) {a : Result Built Refused} {pl' ys zs vs : List ℕ} (D : Placed (graph_of gates) (rules.answer_of rule K gates given records (length pl)) K pl (take (limit - 0) ws) (take (rms - 0) cs) (take (need - 0) w) a pl' ys zs vs)
        (ly : length ys ≡ length (take (limit - 0) ws)) (lz : length zs ≡ length (take (rms - 0) cs)) (lv : length vs ≡ length (take (need - 0) w)) where
      abbrev ss : List rules.Stage
      ss = rules.coded_stages K (graph_of gates) (rules.stages_of (rules.answer_of rule K gates given records (length pl)))

      words_laid : ys ++ drop (limit - 0) ws ≡ laid_over (padded (word_limit K) empty (rules.words_of ss)) ws
      words_laid = part_laid (limit - 0) ws ys (omega (arith, words_inside H el er en)) ly ∙ ap (λ (x : List ℕ). laid_over x ws) (D.filled.words ∙ ap (λ (i : ℕ). padded i empty (rules.words_of ss)) place_at.words)

      counts_laid : zs ++ drop (rms - 0) cs ≡ laid_over (padded (rooms K (length pl)) 0 (rules.counts_of ss)) cs
      counts_laid = part_laid (rms - 0) cs zs (omega (arith, counts_inside H el er en)) lz ∙ ap (λ (x : List ℕ). laid_over x cs) (D.filled.counts ∙ ap (λ (i : ℕ). padded i 0 (rules.counts_of ss)) place_at.counts)

      work_laid : vs ++ drop (need - 0) w ≡ laid_over (replicate (work_size gates records) 0) w
      work_laid = part_laid (need - 0) w vs (omega (arith, work_inside H el er en)) lv ∙ ap (λ (x : List ℕ). laid_over x w) (D.work ∙ ap (λ (i : ℕ). replicate i 0) place_at.work)

      -- what the build leaves there, with the rest as it was, is the rules' outcome
      pub outcome_built : outcome a pl' (ys ++ drop (limit - 0) ws) (zs ++ drop (rms - 0) cs) (vs ++ drop (need - 0) w) ≡ rules.placer rule K gates given records (areas pl ws cs w)
      unfolding outcome areas rules.placer rules.sizes_right rules.areas_after
      outcome_built = rw (H.none, rules.placer, D.reply, D.filled.plan, words_laid, counts_laid, work_laid)
