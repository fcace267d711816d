-- The whole call: what the checks say, and the parts of the areas that count. Assumes nothing.
use Prim.Native.Nat.{ℕ, zero, suc, ◌-◌, ◌*◌, ◌≤◌, ◌<◌}
use mathlib.Core.Path.{◌≡◌, refl, sym, ap, ◌∙◌}
use mathlib.Core.Bool.{Bool}
use mathlib.Core.List.{List, [], ◌++◌}
use native.Mathlib.Omega.{arith}
use lib.Dec.{leb}
use lib.ListN.{length, take, drop, replicate}
use borrow.Author.Tests.{leb-true, leb-false}
use Rattle.rules.specs.Lists.{padded, laid_over}
use Rattle.rules.specs.Cells.{empty, word_limit, rooms, is_height}
use Rattle.rules.specs.Graph.{graph_of}
use Rattle.rules.specs.Checks.{work_size, areas_sized, refusal_of, pin_shown}
use Rattle.rules.specs.Traversal.{WordRule}
use Rattle.rules.specs.Build as rules
use Rattle.rules.proofs.Lists.Members.{split}
use Rattle.rules.proofs.Lists.Parts.{part_laid}
use Rattle.cells.specs.Answers.{or_zero}
use Rattle.std.specs.Prelude.{Err}
use Rattle.refusals.specs.declared.Refusal.{Refusal}
use Rattle.refusals.specs.Numbers.{number_of, pin_of}
use Rattle.refusals.proofs.Numbers.{number_is}
use Rattle.checks.specs.Values.{Says}
use Rattle.placer.specs.Answers.{told, areas}
use Rattle.placer.specs.Build.{Filled}
use Rattle.placer.proofs.Laws.Outcome.{Checked, words_inside, counts_inside, work_inside, place_at}
use Rattle.why_form.specs.Why.{Line, why_of, explainer}
use Rattle.explain_stages.specs.declared.Explanation.{Explanation}
use Rattle.explain.specs.Call.{Ends}
use Rattle.explain.specs.Answers.{explained}

module _ (rule : WordRule) (K : ℕ) (gates given records pl ws cs w list : List ℕ) where
  abbrev sized : Bool
  sized = areas_sized K (work_size gates records) (length pl) (length ws) (length cs) (length w)

  refused_at_lem : (why : Refusal) (n : ℕ) → n ≡ number_of why → n ≡ refusal_of K sized gates given records → pin_of why ≡ pin_shown n gates →
      explained (record { answer = Err (record { why = why; stage = 0 }); lines = 0 }) pl ws cs w list ≡ explainer rule K gates given records list (areas pl ws cs w)
  unfolding explained told areas explainer rules.sizes_right rules.refuse_checked
  refused_at_lem why zero q e d = absurd (number_is why (sym q))
  refused_at_lem why (suc n) q e d = rw (← e, explainer, d, ← q)

  -- what the checks refuse changes nothing
  pub outcome_refused : (why : Refusal) → Says {A = Unit {0}} (refusal_of K sized gates given records) gates (Err why) →
      explained (record { answer = Err (record { why = why; stage = 0 }); lines = 0 }) pl ws cs w list ≡ explainer rule K gates given records list (areas pl ws cs w)
  outcome_refused why S = refused_at_lem why (number_of why) refl S.number (S.pin ∙ ap (λ (n : ℕ). pin_shown n gates) (sym S.number))

module _ {K : ℕ} {gates given records : List ℕ} (pl ws cs w : List ℕ) (H : Checked K gates given records (length pl) (length ws) (length cs) (length w)) {limit rms need : ℕ} (el : limit ≡ or_zero (is_height K) (word_limit K))
    (er : rms ≡ or_zero (is_height K) (rooms K (length pl))) (en : need ≡ work_size gates records) {pl' ys zs vs : List ℕ} (ly : length ys ≡ length (take (limit - 0) ws)) (lz : length zs ≡ length (take (rms - 0) cs)) (lv : length vs ≡ length (take (need - 0) w)) where
  -- some stages in the parts that count
  areas_laid : (ss : List rules.Stage) → Filled (length pl) (length (take (limit - 0) ws)) (length (take (rms - 0) cs)) ss pl' ys zs → vs ≡ replicate (length (take (need - 0) w)) 0 →
      areas pl' (ys ++ drop (limit - 0) ws) (zs ++ drop (rms - 0) cs) (vs ++ drop (need - 0) w) ≡ rules.areas_after K (work_size gates records) ss (areas pl ws cs w)
  unfolding areas rules.areas_after
  areas_laid ss F e =
      let at = place_at pl ws cs w H el er en in
      let a : ys ++ drop (limit - 0) ws ≡ laid_over (padded (word_limit K) empty (rules.words_of ss)) ws = part_laid (limit - 0) ws ys (omega (arith, words_inside H el er en)) ly ∙ ap (λ (x : List ℕ). laid_over x ws) (F.words ∙ ap (λ (i : ℕ). padded i empty (rules.words_of ss)) at.words) in
      let c : zs ++ drop (rms - 0) cs ≡ laid_over (padded (rooms K (length pl)) 0 (rules.counts_of ss)) cs = part_laid (rms - 0) cs zs (omega (arith, counts_inside H el er en)) lz ∙ ap (λ (x : List ℕ). laid_over x cs) (F.counts ∙ ap (λ (i : ℕ). padded i 0 (rules.counts_of ss)) at.counts) in
      let d : vs ++ drop (need - 0) w ≡ laid_over (replicate (work_size gates records) 0) w = part_laid (need - 0) w vs (omega (arith, work_inside H el er en)) lv ∙ ap (λ (x : List ℕ). laid_over x w) (e ∙ ap (λ (i : ℕ). replicate i 0) at.work) in
      rw (F.plan, a, c, d) refl

  -- what the explanation leaves there, with the rest as it was, is the rules' outcome
  pub outcome_told : (rule : WordRule) {list list' : List ℕ} {e : Explanation} →
      Ends (graph_of gates) (rules.answer_of rule K gates given records (length pl)) (why_of rule K gates given records (length pl)) K pl (take (limit - 0) ws) (take (rms - 0) cs) (take (need - 0) w) list e pl' ys zs vs list' →
      explained e pl' (ys ++ drop (limit - 0) ws) (zs ++ drop (rms - 0) cs) (vs ++ drop (need - 0) w) list' ≡ explainer rule K gates given records list (areas pl ws cs w)
  unfolding explained explainer rules.sizes_right areas
  outcome_told rule {list} {list'} {e} D =
      let ls : List Line = why_of rule K gates given records (length pl) in
      split (leb (6 * length ls) (length list))
      (λ t.
      let h : 6 * length ls ≤ length list = leb-true (6 * length ls) (length list) t in
      let P = D.placed h in
      rw (H.none, t, explainer, P.reply, D.lines h, D.told_list h, areas_laid _ P.filled D.work) refl)
      (λ t.
      let h : length list < 6 * length ls = leb-false (6 * length ls) (length list) t in
      rw (H.none, t, explainer, D.short h, D.short_lines h, D.short_list h, areas_laid [] (D.short_areas h) D.work) refl)
