-- What a build in the program's areas leaves prints the job's text. Assumes nothing.
use mathlib.Core.Path.{◌≡◌, refl, sym, ◌∙◌, ap}
use mathlib.Core.Bool.{true}
use mathlib.Core.List.{List}
use Prim.Native.Nat.{ℕ, zero, suc, ◌+◌, ◌-◌, ◌*◌, ◌%◌, ◌≤◌}
use native.Mathlib.Nat.{mul-mod_left, mul-div_cancel}
use native.Mathlib.Omega.{arith}
use lib.Dec.{leb, eqb}
use lib.ListN.{length, take}
use lib.Pow.{pow_pos, pow_mono}
use lib.Seq.{length-take-le}
use borrow.Author.Tests.{le-leb, eq-eqb}
use Rattle.rules.specs.Cells.{empty, is_height, word_limit, stage_size, rooms}
use Rattle.rules.specs.Graph.{graph_of, pin_count}
use Rattle.rules.specs.Records.{groups_of}
use Rattle.rules.specs.Checks.{plan_sized, work_size, areas_sized, refusal_of}
use Rattle.rules.specs.Traversal.{WordRule, needed_runs}
use Rattle.rules.specs.Build as rules
use Rattle.rules.specs.Listing.{answer_text, job_text, refused_line}
use Rattle.rules.proofs.Lists.Members.{split}
use Rattle.cells.specs.Answers.{or_zero}
use Rattle.checks.specs.Passed.{Passed}
use Rattle.checks.proofs.Laws.Passed.{passed}
use Rattle.std.specs.Prelude.{Ok, Err}
use Rattle.refusals.specs.Numbers.{number_of, pin_of}
use Rattle.refusals.proofs.Numbers.{number_is}
use Rattle.placer.specs.declared.Built.{Built}
use Rattle.placer.specs.declared.Refused.{Refused}
use Rattle.placer.specs.Answers.{told, areas, outcome}
use Rattle.listing.specs.Listing.{written, listed, answered}
use Rattle.listing.proofs.Laws.Answered.{at_height, answered_no, answered_yes}
use Rattle.listing.proofs.Laws.Built.{answer_printed}
use Rattle.program.specs.Sizes.{job_of, AreasAt, BuildAt}

number_cases : {P : Type 0} (n : ℕ) → (n ≡ 0 → P) → ((m : ℕ) → n ≡ suc m → P) → P
number_cases zero f g = f refl
number_cases (suc n) f g = g n refl

-- areas of right sizes with four rooms, wherever there is such a height
module _ (rule : WordRule) (K : ℕ) (gates given records : List ℕ) (A : rules.Areas) (out : List ℕ)
    (right : is_height K ≡ true → rules.sizes_right K gates records A ≡ true) (four : is_height K ≡ true → rooms K (length A.plan) ≡ 4) where
  same_refusal : refusal_of K (rules.sizes_right K gates records A) gates given records ≡ refusal_of K true gates given records
  unfolding refusal_of
  same_refusal = split (is_height K) (λ t. rw (right t)) (λ t. rw (t, refusal_of))

  placed_text : answered K (rules.placer rule K gates given records A).reply.number (rules.placer rule K gates given records A).reply.stages (rules.placer rule K gates given records A).reply.stage (rules.placer rule K gates given records A).reply.pin
      (rules.placer rule K gates given records A).areas.plan (rules.placer rule K gates given records A).areas.words (rules.placer rule K gates given records A).areas.counts out ≡ written (job_text rule (job_of K gates given records)) out
  unfolding rules.placer job_text job_of rules.refuse rules.refuse_checked rules.answer_of empty
  placed_text = number_cases (refusal_of K true gates given records)
      (λ z.
      let P : Passed K true gates given records = passed K true gates given records z in
      rw (same_refusal, z, rules.placer, job_text)
      (answer_printed rule (record { K = K; sized = true; gates = gates; given = given; records = records; passes = z }) A (work_size gates records) out
      ∙ ap (λ (r : ℕ). written (answer_text K (rules.build rule K (graph_of gates) given (groups_of records) r)) out) (four P.height)))
      (λ n z. rw (same_refusal, z, rules.placer, job_text) (sym (answered_no K 0 _ _ _ out (suc n) 0 _ (λ e. omega arith))))

module _ {K : ℕ} {gates records pl ws cs w : List ℕ} (B : BuildAt K gates records pl ws cs w) where
  four_rooms : is_height K ≡ true → rooms K (length pl) ≡ 4
  unfolding rooms
  four_rooms h = rw (B.plan h) (mul-div_cancel 4 {n = stage_size K} (pow_pos (K + 1)))

  all_right : is_height K ≡ true → rules.sizes_right K gates records (areas pl ws cs w) ≡ true
  unfolding rules.sizes_right areas areas_sized plan_sized work_size word_limit
  all_right h =
      let p : eqb (length pl % stage_size K) 0 ≡ true = rw (B.plan h) (eq-eqb (4 * stage_size K % stage_size K) 0 (mul-mod_left 4 (stage_size K))) in
      let q : leb (word_limit K) (length ws) ≡ true = le-leb (word_limit K) (length ws) (omega (arith, B.words, pow_mono {i = K - 5} {j = 5} (omega (arith, B.fits.height)))) in
      let r : leb (rooms K (length pl)) (length cs) ≡ true = le-leb (rooms K (length pl)) (length cs) (omega (arith, four_rooms h, B.counts)) in
      let t : leb (16 * pin_count gates + 8 * length records + 512) (length w) ≡ true = le-leb (16 * pin_count gates + 8 * length records + 512) (length w) (omega (arith, B.work, B.fits.pins, B.fits.numbers)) in
      rw (p, q, r, t)

  -- what the build left, listed
  pub text_built : (given out pl' ws' cs' w' : List ℕ) (b : Built) → outcome (Ok b) pl' ws' cs' w' ≡ rules.placer needed_runs K gates given records (areas pl ws cs w) →
      listed K b.stages pl' ws' cs' out ≡ written (job_text needed_runs (job_of K gates given records)) out
  unfolding outcome told areas
  text_built given out pl' ws' cs' w' b e = answered_yes K b.stages pl' ws' cs' out 0 0 0 refl ∙ (rw (← e) at (placed_text needed_runs K gates given records (areas pl ws cs w) out all_right four_rooms))

  -- why it was refused
  pub text_refused : (given out pl' ws' cs' w' : List ℕ) (r : Refused) → outcome (Err r) pl' ws' cs' w' ≡ rules.placer needed_runs K gates given records (areas pl ws cs w) →
      written (refused_line (number_of r.why) r.stage (pin_of r.why)) out ≡ written (job_text needed_runs (job_of K gates given records)) out
  unfolding outcome told areas
  text_refused given out pl' ws' cs' w' r e = answered_no K 0 pl' ws' cs' out (number_of r.why) r.stage (pin_of r.why) (number_is r.why) ∙ (rw (← e) at (placed_text needed_runs K gates given records (areas pl ws cs w) out all_right four_rooms))

-- the front of the plan area
module _ {K : ℕ} {gates records pl ws cs w : List ℕ} (A : AreasAt K gates records pl ws cs w) (s : ℕ) (e : s ≡ or_zero (is_height K) (stage_size K)) where
  -- four rooms of the job's height lie in the plan area
  pub size_in : 4 * s ≤ 8192
  unfolding or_zero
  size_in = split (is_height K)
      (λ t. let d : s ≡ stage_size K = rw (t, or_zero) at e in omega (arith, pow_mono {i = K + 1} {j = 11} (omega (arith, A.fits.height))))
      (λ t. let d : s ≡ 0 = rw (t, or_zero) at e in omega arith)

  -- with the plan cut to four rooms the job may be built
  pub build_at : BuildAt K gates records (take (4 * s - 0) pl) ws cs w
  build_at = record {
    fits = A.fits;
    plan = λ h. length-take-le (4 * s - 0) pl (omega (arith, size_in, A.plan)) ∙ (let d : s ≡ stage_size K = at_height K (stage_size K) e h in omega arith);
    words = A.words;
    counts = A.counts;
    work = A.work;
  }
