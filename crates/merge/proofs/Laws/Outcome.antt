-- The whole call: what the checks say, and the parts of the areas that count. Assumes nothing.
use Prim.Native.Nat.{ℕ, zero, suc, ◌+◌, ◌-◌, ◌*◌, ◌≤◌, ◌<◌}
use mathlib.Core.Bool.{true, ◌&&◌}
use mathlib.Core.List.{List, [], ◌++◌}
use mathlib.Core.Logic.{◌≢◌}
use mathlib.Core.Path.{◌≡◌, refl, sym, ap, ◌∙◌}
use native.Mathlib.Omega.{arith}
use lib.Dec.{leb, eqb}
use lib.ListN.{length, take, drop, replicate, length-replicate}
use lib.Seq.{length-take-le}
use borrow.Author.Tests.{leb-true, eqb-true}
use Rattle.rules.proofs.Lists.Parts.{part_laid, divides}
use Rattle.rules.specs.Lists.{sum, padded, laid_over}
use Rattle.rules.specs.Cells.{empty, word_limit, stage_size, rooms, is_height}
use Rattle.rules.specs.Graph.{pin_count}
use Rattle.rules.specs.Checks.{work_size, plan_sized, areas_sized, refusal_of, pin_shown}
use Rattle.rules.specs.Build.{Areas, areas_after, cells_of, words_of, counts_of}
use Rattle.rules.specs.Traversal.{WordRule}
use Rattle.rules.specs.Merge.{GroupList, merge_work_size, merge_sized, mergeable, merge_refusal, refuse_merge_checked, merger}
use Rattle.rules.proofs.Lists.Members.{split, and_true}
use Rattle.cells.specs.Answers.{or_zero}
use Rattle.cells.proofs.Heights.{or_zero_true}
use Rattle.std.specs.Prelude.{Result, Ok, Err}
use Rattle.refusals.specs.declared.Refusal.{Refusal}
use Rattle.refusals.specs.Numbers.{number_of, pin_of}
use Rattle.refusals.proofs.Numbers.{number_above}
use Rattle.checks.specs.Values.{Says}
use Rattle.checks.specs.Passed.{Passed}
use Rattle.checks.proofs.Laws.Passed.{passed}
use Rattle.placer.proofs.Laws.Laying.{padded_none}
use Rattle.merge_checks.specs.Values.{group_list, areas}
use Rattle.merge.specs.declared.Merged.{Merged}
use Rattle.merge.specs.declared.Refused.{Refused}
use Rattle.merge.specs.Merge.{told, outcome, PlaceAt, Placed}
use Rattle.merge.proofs.Laws.Placing.{Able, able}

-- the size at which the work area counts, as the code adds it up
pub need_is : (gates records xs ls st : List ℕ) (m : ℕ) → m ≡ pin_count gates → 16 * m + 8 * length records + 512 + (8 * length ls + 8 * length xs) ≡ merge_work_size gates records (group_list xs ls st)
unfolding merge_work_size work_size group_list
need_is gates records xs ls st m e = omega arith

module _ (K : ℕ) (gates given records xs ls st : List ℕ) (extra : ℕ) (pl ws cs w : List ℕ) where
  abbrev l : GroupList
  l = group_list xs ls st

  abbrev lent : Areas
  lent = areas pl ws cs w

  refused_at_lem : (rule : WordRule) (n : ℕ) → n ≡ merge_refusal K gates given records l extra lent → 0 < n → (why : Refusal) → number_of why ≡ n → pin_of why ≡ pin_shown n gates
      → outcome (Err (record { why = why; stage = 0; part = 0 })) xs ls st pl ws cs w ≡ merger rule K gates given records l extra lent
  unfolding outcome told refuse_merge_checked merger
  refused_at_lem rule zero e h why s d = absurd (omega arith)
  refused_at_lem rule (suc n) e h why s d = rw (s, d, ← e, merger) refl

  -- what the checks refuse changes nothing
  pub outcome_refused : {A : Type 0} (rule : WordRule) (why : Refusal) → Says {A = A} (merge_refusal K gates given records l extra lent) gates (Err why)
      → outcome (Err (record { why = why; stage = 0; part = 0 })) xs ls st pl ws cs w ≡ merger rule K gates given records l extra lent
  outcome_refused rule why S = refused_at_lem rule (number_of why) S.number (number_above why) why refl (S.pin ∙ ap (λ (n : ℕ). pin_shown n gates) (sym S.number))

  both : (k : ℕ) → refusal_of K (merge_sized K gates records l lent) gates given records ≡ k → merge_refusal K gates given records l extra lent ≡ 0 → (refusal_of K (merge_sized K gates records l lent) gates given records ≡ 0) × (mergeable records l extra ≡ true)
  unfolding merge_refusal
  both zero e h = split (mergeable records l extra)
      (λ t. (e, t))
      (λ t. absurd (let z : merge_refusal K gates given records l extra lent ≡ 10 = rw (e, merge_refusal, t) refl in omega arith))
  both (suc k) e h = absurd (let z : merge_refusal K gates given records l extra lent ≡ suc k = rw (e, merge_refusal) refl in omega arith)

-- no check refuses
pub record Checked (K : ℕ) (gates given records xs ls st : List ℕ) (extra : ℕ) (pl ws cs w : List ℕ) : Type 0 where
  pub none : merge_refusal K gates given records (group_list xs ls st) extra (areas pl ws cs w) ≡ 0

-- checks that refuse nothing
pub checked : {A : Type 0} {K : ℕ} {gates given records xs ls st : List ℕ} {extra : ℕ} {pl ws cs w : List ℕ} {x : A} → Says (merge_refusal K gates given records (group_list xs ls st) extra (areas pl ws cs w)) gates (Ok x)
    → Checked K gates given records xs ls st extra pl ws cs w
checked S = record { none = sym S.number }

module _ {K : ℕ} {gates given records xs ls st : List ℕ} {extra : ℕ} {pl ws cs w : List ℕ} (H : Checked K gates given records xs ls st extra pl ws cs w) where
  clear : (refusal_of K (merge_sized K gates records (group_list xs ls st) (areas pl ws cs w)) gates given records ≡ 0) × (mergeable records (group_list xs ls st) extra ≡ true)
  clear = both K gates given records xs ls st extra pl ws cs w _ refl H.none

  passes : Passed K (merge_sized K gates records (group_list xs ls st) (areas pl ws cs w)) gates given records
  passes = passed K (merge_sized K gates records (group_list xs ls st) (areas pl ws cs w)) gates given records clear.0

  can : Able records xs ls extra
  can = able records xs ls st extra clear.1

  -- where no check refuses there are at most 65,536 pins
  pub pins_few : pin_count gates ≤ 65536
  pins_few = passes.few

  -- and at most 65,536 record numbers
  pub records_few : length records ≤ 65536
  records_few = passes.short

  -- the indices can be counted
  pub indices_few : length xs ≤ 4294967295
  indices_few = can.short

  -- there are at most 1,024 partitions
  pub lengths_few : length ls ≤ 1024
  lengths_few = can.few

  abbrev need : ℕ
  need = merge_work_size gates records (group_list xs ls st)

  parts : (plan_sized K (length pl) ≡ true) × (word_limit K ≤ length ws) × (rooms K (length pl) ≤ length cs) × (need ≤ length w) × (length ls ≡ length st) × (sum ls ≡ length xs)
  unfolding merge_sized areas_sized group_list areas
  parts =
      let f = and_true (plan_sized K (length pl) && leb (word_limit K) (length ws) && leb (rooms K (length pl)) (length cs) && leb need (length w) && eqb (length ls) (length st)) (eqb (sum ls) (length xs)) passes.areas in
      let e = and_true (plan_sized K (length pl) && leb (word_limit K) (length ws) && leb (rooms K (length pl)) (length cs) && leb need (length w)) (eqb (length ls) (length st)) f.0 in
      let a = and_true (plan_sized K (length pl) && leb (word_limit K) (length ws) && leb (rooms K (length pl)) (length cs)) (leb need (length w)) e.0 in
      let b = and_true (plan_sized K (length pl) && leb (word_limit K) (length ws)) (leb (rooms K (length pl)) (length cs)) a.0 in
      let c = and_true (plan_sized K (length pl)) (leb (word_limit K) (length ws)) b.0 in
      (c.0, leb-true _ _ c.1, leb-true _ _ b.1, leb-true _ _ a.1, eqb-true _ _ e.1, eqb-true _ _ f.1)

  module _ {limit rms size : ℕ} (el : limit ≡ or_zero (is_height K) (word_limit K)) (er : rms ≡ or_zero (is_height K) (rooms K (length pl))) (en : size ≡ need) where
    limit_is : limit ≡ word_limit K
    limit_is = el ∙ rw (passes.height, or_zero_true (word_limit K)) refl

    rooms_is : rms ≡ rooms K (length pl)
    rooms_is = er ∙ rw (passes.height, or_zero_true (rooms K (length pl))) refl

    -- the words that count lie in their area
    pub words_inside : limit ≤ length ws
    words_inside = omega (arith, limit_is, parts.1)

    -- the counts that count lie in their area
    pub counts_inside : rms ≤ length cs
    counts_inside = omega (arith, rooms_is, parts.2)

    -- the work numbers that count lie in their area
    pub work_inside : size ≤ length w
    work_inside = omega (arith, parts.3)

    whole_stages : length pl ≡ rooms K (length pl) * stage_size K
    unfolding plan_sized rooms
    whole_stages = divides (length pl) (stage_size K) (eqb-true _ _ parts.0)

    -- in the parts that count the merge may run
    pub place_at : PlaceAt K extra gates given records xs ls st pl (take (limit - 0) ws) (take (rms - 0) cs) (take (size - 0) w)
    place_at = record {
      sized = _;
      passed = passes;
      may = clear.1;
      same = parts.4;
      all = parts.5;
      plan_size = whole_stages;
      words_size = length-take-le (limit - 0) ws (omega (arith, words_inside)) ∙ omega (arith, limit_is);
      counts_size = length-take-le (rms - 0) cs (omega (arith, counts_inside)) ∙ omega (arith, rooms_is);
      work_size = length-take-le (size - 0) w (omega (arith, work_inside)) ∙ omega (arith, en);
    }

    module _ {rule : WordRule} {a : Result Merged Refused} {xs' ls' st' pl' ys zs vs : List ℕ} (D : Placed rule K extra gates given records xs ls st pl (take (limit - 0) ws) (take (rms - 0) cs) (take (size - 0) w) a xs' ls' st' pl' ys zs vs) where
      words_laid : ys ++ drop (limit - 0) ws ≡ laid_over (padded (word_limit K) empty []) ws
      words_laid =
          part_laid (limit - 0) ws ys (omega (arith, words_inside)) (ap length D.words ∙ length-replicate (length (take (limit - 0) ws)) empty)
          ∙ ap (λ (x : List ℕ). laid_over x ws) (D.words ∙ ap (λ (i : ℕ). replicate i empty) place_at.words_size ∙ sym (padded_none (word_limit K) empty))

      counts_laid : zs ++ drop (rms - 0) cs ≡ laid_over (padded (rooms K (length pl)) 0 []) cs
      counts_laid =
          part_laid (rms - 0) cs zs (omega (arith, counts_inside)) (ap length D.counts ∙ length-replicate (length (take (rms - 0) cs)) 0)
          ∙ ap (λ (x : List ℕ). laid_over x cs) (D.counts ∙ ap (λ (i : ℕ). replicate i 0) place_at.counts_size ∙ sym (padded_none (rooms K (length pl)) 0))

      work_laid : vs ++ drop (size - 0) w ≡ laid_over (replicate need 0) w
      work_laid =
          part_laid (size - 0) w vs (omega (arith, work_inside)) (ap length D.work ∙ length-replicate (length (take (size - 0) w)) 0)
          ∙ ap (λ (x : List ℕ). laid_over x w) (D.work ∙ ap (λ (i : ℕ). replicate i 0) place_at.work_size)

      plan_empty : pl' ≡ padded (length pl) empty []
      plan_empty = D.plan ∙ sym (padded_none (length pl) empty)

      -- what the merge leaves there, with the rest as it was, is the rules' outcome
      pub outcome_merged : outcome a xs' ls' st' pl' (ys ++ drop (limit - 0) ws) (zs ++ drop (rms - 0) cs) (vs ++ drop (size - 0) w) ≡ merger rule K gates given records (group_list xs ls st) extra (areas pl ws cs w)
      unfolding outcome areas merger areas_after cells_of words_of counts_of
      outcome_merged = rw (H.none, merger, D.joined.reply, D.joined.groups, plan_empty, words_laid, counts_laid, work_laid) refl
