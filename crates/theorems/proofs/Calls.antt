-- The same for the code: what the contracts of `placer::build` and `fold::fold` say, by the theorems. Assumes nothing.
use Prim.Native.Nat.{ℕ, zero, suc, ◌+◌, ◌*◌, ◌^◌, ◌≤◌, ◌<◌}
use mathlib.Core.Path.{◌≡◌, refl, sym, ◌∙◌, ap}
use mathlib.Core.Logic.{◌⊎◌, inl, inr, ◌≢◌}
use mathlib.Core.Bool.{Bool}
use mathlib.Core.List.{List, ◌++◌, append_assoc}
use native.Mathlib.Omega.{arith}
use native.Mathlib.Nat.{mul-le-mul_right, suc-mul}
use lib.ListN.{length, get_or, take, drop, length-append, get_or-append}
use Rattle.std.specs.Prelude.{Result}
use Rattle.rules.specs.Lists.{padded, laid_over}
use Rattle.rules.specs.Cells.{empty, is_height, word_limit, stage_size, rooms}
use Rattle.rules.specs.Graph.{graph_of, pin_count, own_bit, value}
use Rattle.rules.specs.Records.{groups_of, Ends}
use Rattle.rules.specs.Traversal.{WordRule}
use Rattle.rules.specs.Checks.{graph_right, loops_right, records_right, given_right, refusal_of}
use Rattle.rules.specs.Build as rules
use Rattle.rules.specs.Fold.{as_number}
use Rattle.rules.specs.Coded.{load_of, cell_bits, fold_stages, fold_cells, fold_refusal, FoldOutcome, folder}
use Rattle.rules.proofs.Lists.Members.{split}
use Rattle.rules.proofs.Stage.Refusals.{refused_some}
use Rattle.rules.proofs.Stage.Staged.{two_step}
use Rattle.rules.proofs.Build.Coding.{words_coded, counts_coded}
use Rattle.coded.specs.Reading.{Read}
use Rattle.coded.proofs.Bits.{length-cell_bits}
use Rattle.refusals.specs.declared.Refusal.{Refusal}
use Rattle.refusals.specs.Numbers.{number_said}
use Rattle.placer.specs.declared.Built.{Built}
use Rattle.placer.specs.declared.Refused.{Refused as BuildRefused}
use Rattle.placer.specs.Answers.{told, areas, outcome}
use Rattle.fold.specs.Answers.{outcome as outcomeOf}
use Rattle.theorems.specs.Inputs.{Input, D, built, plan_area, Refused}
use Rattle.theorems.proofs.Rooms.{rooms_enough, refused_where, refusal_given}
use Rattle.theorems.proofs.Folding.{stages_there}
use Rattle.theorems.proofs.Reading.{endpoints_read}

-- a call of `build`, by its contract; of the old word rule too, by the contract that `build` had under it, so that what follows holds of the plans and sheets
-- that it left
pub record Call : Type 0 where
  pub rule : WordRule
  pub height : ℕ
  pub gates : List ℕ
  pub given : List ℕ
  pub records : List ℕ
  pub entry : rules.Areas
  pub answer : Result Built BuildRefused
  pub exit : rules.Areas
  pub ensures : outcome answer exit.plan exit.words exit.counts exit.work ≡ rules.placer rule height gates given records entry

-- what it answers, as the rules have it
abbrev pub reply : Call → rules.Reply
reply C = told C.answer

-- the number of its first refusal by a check, or 0
abbrev pub checked : Call → ℕ
checked C = refusal_of C.height (rules.sizes_right C.height C.gates C.records C.entry) C.gates C.given C.records

-- a call that the checks let pass
abbrev pub input : (C : Call) → checked C ≡ 0 → Input
input C e = record { rule = C.rule; K = C.height; sized = rules.sizes_right C.height C.gates C.records C.entry; gates = C.gates; given = C.given; records = C.records; passes = e }

-- the rooms that a call lends
abbrev pub rooms_of : Call → ℕ
rooms_of C = rooms C.height (length C.entry.plan)

-- it tells the answer of the rules, and leaves the areas as they say
pub record Told (C : Call) (b : rules.Answer) : Type 0 where
  pub reply : reply C ≡ rules.reply b
  pub plan : C.exit.plan ≡ padded (length C.entry.plan) empty (rules.cells_of (rules.coded_stages C.height (graph_of C.gates) (rules.stages_of b)))
  pub words : C.exit.words ≡ laid_over (padded (word_limit C.height) empty (rules.words_of (rules.stages_of b))) C.entry.words
  pub counts : C.exit.counts ≡ laid_over (padded (rooms_of C) 0 (rules.counts_of (rules.stages_of b))) C.entry.counts

-- a call that the checks let pass tells the rules' answer
pub answered : (C : Call) (e : checked C ≡ 0) → Told C (built (input C e) (rooms_of C))
unfolding outcome areas rules.placer rules.answer_of rules.areas_after
answered C e =
    let E = rw (e, rules.placer) at C.ensures in
    let ss = rules.stages_of (built (input C e) (rooms_of C)) in
    record {
      reply = ap (λ (o : rules.Outcome). o.reply) E;
      plan = ap (λ (o : rules.Outcome). o.areas.plan) E;
      words = ap (λ (o : rules.Outcome). o.areas.words) E ∙ ap (λ (ws : List ℕ). laid_over (padded (word_limit C.height) empty ws) C.entry.words) (words_coded C.height (graph_of C.gates) ss);
      counts = ap (λ (o : rules.Outcome). o.areas.counts) E ∙ ap (λ (cs : List ℕ). laid_over (padded (rooms_of C) 0 cs) C.entry.counts) (counts_coded C.height (graph_of C.gates) ss);
    }

-- an answer of 0 passed the checks
pub passed_checks : (C : Call) → (reply C).number ≡ 0 → checked C ≡ 0
unfolding outcome rules.placer rules.refuse rules.refuse_checked
passed_checks C z = number (checked C) refl
  where
    number : (n : ℕ) → checked C ≡ n → n ≡ 0
    number zero e = refl
    number (suc n) e = absurd (let E = ap (λ (o : rules.Outcome). o.reply.number) (rw (e, rules.placer) at C.ensures) in omega arith)

-- ---- a whole plan

-- what an answer of 0 leaves: the stages of the rules, with their words and counts
pub record Whole (C : Call) : Type 0 where
  pub passes : checked C ≡ 0
  pub ss : List rules.Stage
  pub built : built (input C passes) (rooms_of C) ≡ rules.whole ss
  pub stages : (reply C).stages ≡ length ss
  pub plan : C.exit.plan ≡ plan_area (input C passes) (length C.entry.plan) ss
  pub behind : List ℕ
  pub words : C.exit.words ≡ rules.words_of ss ++ behind
  pub after : List ℕ
  pub counts : C.exit.counts ≡ rules.counts_of ss ++ after

whole_told : (C : Call) (e : checked C ≡ 0) (b : rules.Answer) → built (input C e) (rooms_of C) ≡ b → (reply C).number ≡ 0 → Told C b → Whole C
unfolding rules.reply rules.refuse rules.stages_of padded laid_over
whole_told C e (rules.refusal n k) d z t =
    absurd (refused_some C.rule C.height (graph_of C.gates) C.given (groups_of C.records) (rooms_of C) n k d (ap (λ (r : rules.Reply). r.number) (sym t.reply) ∙ z))
whole_told C e (rules.whole ss) d z t = record {
  passes = e;
  ss = ss;
  built = d;
  stages = ap (λ (r : rules.Reply). r.stages) t.reply;
  plan = t.plan;
  behind = _;
  words = t.words ∙ append_assoc (rules.words_of ss) _ _;
  after = _;
  counts = t.counts ∙ append_assoc (rules.counts_of ss) _ _;
}

-- An answer of 0 stands for a whole plan of the rules, so that the theorems hold of it.
pub whole : (C : Call) → (reply C).number ≡ 0 → Whole C
whole C z = let e = passed_checks C z in whole_told C e (built (input C e) (rooms_of C)) refl z (answered C e)

-- ---- rooms

-- With D + 1 rooms an input that passes the checks is answered with 0, 6, 7 or 8.
pub enough : (C : Call) (e : checked C ≡ 0) → D (input C e) < rooms_of C → ((reply C).number ≡ 0) ⊎ (((reply C).number ≡ 6) ⊎ (((reply C).number ≡ 7) ⊎ ((reply C).number ≡ 8)))
unfolding rules.reply rules.refuse
enough C e h = told_enough (built (input C e) (rooms_of C)) refl (answered C e)
  where
    told_enough : (b : rules.Answer) → built (input C e) (rooms_of C) ≡ b → Told C b → ((reply C).number ≡ 0) ⊎ (((reply C).number ≡ 6) ⊎ (((reply C).number ≡ 7) ⊎ ((reply C).number ≡ 8)))
    told_enough (rules.refusal n k) d t = let a : (reply C).number ≡ n = ap (λ (r : rules.Reply). r.number) t.reply in rw a (inr (rooms_enough (input C e) (rooms_of C) h n k d))
    told_enough (rules.whole ss) d t = inl (ap (λ (r : rules.Reply). r.number) t.reply)

-- ---- refusals

same_refused : (I : Input) (rooms n m k j : ℕ) → m ≡ n → j ≡ k → Refused I rooms n k → Refused I rooms m j
same_refused I rooms n m k j a b h = rw (a, b) h

-- An answer of 6, 7, 8 or 9 means these counts, which `refused_where` says in words: of an input that passes the checks, any answer but 0 is
-- such a number, with its stage, and the counts behind it are over.
pub refused_counts : (C : Call) (e : checked C ≡ 0) → (reply C).number ≢ 0 → Refused (input C e) (rooms_of C) (reply C).number (reply C).stage
unfolding rules.reply rules.refuse
refused_counts C e z = told_refused (built (input C e) (rooms_of C)) refl (answered C e)
  where
    told_refused : (b : rules.Answer) → built (input C e) (rooms_of C) ≡ b → Told C b → Refused (input C e) (rooms_of C) (reply C).number (reply C).stage
    told_refused (rules.refusal n k) d t =
        same_refused (input C e) (rooms_of C) n (reply C).number k (reply C).stage
        (ap (λ (r : rules.Reply). r.number) t.reply) (ap (λ (r : rules.Reply). r.stage) t.reply) (refused_where (input C e) (rooms_of C) n k d)
    told_refused (rules.whole ss) d t = absurd (z (ap (λ (r : rules.Reply). r.number) t.reply))

-- the checks refuse with 1 to 5 or 23
pub checked_few : (K : ℕ) (s : Bool) (gates given records : List ℕ) → (refusal_of K s gates given records ≤ 5) ⊎ (refusal_of K s gates given records ≡ 23)
unfolding refusal_of
checked_few K s gates given records =
    split (is_height K)
    (λ h. split s
    (λ a. split (graph_right gates)
    (λ g. split (loops_right gates)
    (λ l. split (records_right (pin_count gates) records)
    (λ r. split (given_right (pin_count gates) given) (λ v. rw (h, a, g, l, r, v, refusal_of) (inl (omega arith))) (λ v. rw (h, a, g, l, r, v, refusal_of) (inl (omega arith))))
    (λ r. rw (h, a, g, l, r, refusal_of) (inl (omega arith))))
    (λ l. rw (h, a, g, l, refusal_of) (inr refl)))
    (λ g. rw (h, a, g, refusal_of) (inl (omega arith))))
    (λ a. rw (h, a, refusal_of) (inl (omega arith))))
    (λ h. rw (h, refusal_of) (inl (omega arith)))

-- a check's refusal is the answer
checked_told : (C : Call) (n : ℕ) → checked C ≡ suc n → (reply C).number ≡ suc n
unfolding outcome rules.placer rules.refuse_checked
checked_told C n e = ap (λ (o : rules.Outcome). o.reply.number) (rw (e, rules.placer) at C.ensures)

-- So whoever sees an answer from 6 to 9 knows that the checks let the input pass, and the counts.
pub six_to_nine : (C : Call) → 6 ≤ (reply C).number → (reply C).number ≤ 9 → (e : checked C ≡ 0) × Refused (input C e) (rooms_of C) (reply C).number (reply C).stage
six_to_nine C l h = passing (checked C) refl
  where
    passing : (n : ℕ) → checked C ≡ n → (e : checked C ≡ 0) × Refused (input C e) (rooms_of C) (reply C).number (reply C).stage
    passing zero e = (e, refused_counts C e (λ z. omega arith))
    passing (suc n) e = absurd (elim (checked_few C.height (rules.sizes_right C.height C.gates C.records C.entry) C.gates C.given C.records) [
      | inl a ↦ omega (arith, checked_told C n e)
      | inr a ↦ omega (arith, checked_told C n e)
    ])

-- And where these counts are over, the call answers with that number and stage.
pub counts_refused : (C : Call) (e : checked C ≡ 0) (n k : ℕ) → Refused (input C e) (rooms_of C) n k → ((reply C).number ≡ n) × ((reply C).stage ≡ k)
unfolding rules.reply rules.refuse
counts_refused C e n k h =
    let t : reply C ≡ rules.reply (rules.refusal n k) = rw (refusal_given (input C e) (rooms_of C) n k h) at (answered C e).reply in
    (ap (λ (r : rules.Reply). r.number) t, ap (λ (r : rules.Reply). r.stage) t)

-- ---- reading

within : (s r size p : ℕ) → s < r → p < size → s * size + p < r * size
within s r size p a b = omega (arith, mul-le-mul_right size a, suc-mul s size)

length_cells : (n K : ℕ) (load : ℕ → Bool) (plan : List ℕ) → length (fold_stages n K load plan) ≡ n * 2 ^ (K + 1)
unfolding fold_stages
length_cells zero K load plan = omega arith
length_cells (suc n) K load plan =
    length-append (cell_bits K (take (stage_size K) plan) load) _
    ∙ rw (length-cell_bits K (take (stage_size K) plan) load, length_cells n K (load_of K (take (stage_size K) plan) load) (drop (stage_size K) plan)) (omega (arith, suc-mul n (2 ^ (K + 1))))

same_read : {K n q b : ℕ} {p p' w w' c c' : List ℕ} (f : List ℕ → List ℕ) → p' ≡ p → w' ≡ w → c' ≡ c → Read K n p w c (f p) q b → Read K n p' w' c' (f p') q b
same_read f ep ew ec R = rw (ep, ew, ec) R

fold_laid : (K : ℕ) (plan bits result work : List ℕ) (n : ℕ) → n ≡ fold_refusal K (length plan) (length result) (length work) →
    (folder K plan bits result work).number ≡ 0 → (folder K plan bits result work).result ≡ laid_over (fold_cells K plan bits) result
unfolding folder
fold_laid K plan bits result work zero e z = rw (← e, folder) refl
fold_laid K plan bits result work (suc n) e z = let d : suc n ≡ 0 = rw (← e, folder) at z in absurd (omega arith)

-- Fold the plan that an answer of 0 left, read the bits of its written words, and every endpoint's graph value is there.
pub reads : (C : Call) (z : (reply C).number ≡ 0) (bits result work : List ℕ) (a : Result (Unit {0}) Refusal) (result' work' : List ℕ) →
    outcomeOf a result' work' ≡ folder C.height C.exit.plan bits result work → number_said a ≡ 0 →
    (q : ℕ) → 0 < q → Ends q (groups_of C.records) →
    Read C.height (reply C).stages C.exit.plan C.exit.words C.exit.counts result' q (as_number (value (length (graph_of C.gates)) (graph_of C.gates) C.given bits q))
unfolding outcomeOf laid_over fold_cells
reads C z bits result work a result' work' e f q b i =
    let W = whole C z in
    let I = input C W.passes in
    let R = endpoints_read I (length C.entry.plan) W.ss W.built bits W.behind W.after q b i in
    let P = C.exit.plan in
    let r = same_read (λ p. fold_cells C.height p bits) W.plan W.words W.counts R in
    let s = fold_cells C.height P bits in
    let l : length s ≡ rooms C.height (length P) * stage_size C.height = length_cells (rooms C.height (length P)) C.height (own_bit bits) P in
    let u : rooms C.height (length P) ≡ rooms C.height (length (plan_area I (length C.entry.plan) W.ss)) = ap (λ (x : List ℕ). rooms C.height (length x)) W.plan in
    let there : length W.ss ≤ rooms C.height (length P) = omega (arith, u, stages_there I (length C.entry.plan) W.ss W.built) in
    let k : r.stage * stage_size C.height + r.position < length s =
    omega (arith, l, within r.stage (rooms C.height (length P)) (stage_size C.height) r.position (omega (arith, r.room, there)) (omega (arith, r.high, two_step C.height))) in
    let o = fold_laid C.height P bits result work _ refl (sym (ap (λ (x : FoldOutcome). x.number) e) ∙ f) in
    let v : get_or result' (r.stage * stage_size C.height + r.position) 0 ≡ get_or s (r.stage * stage_size C.height + r.position) 0 =
    ap (λ (x : List ℕ). get_or x (r.stage * stage_size C.height + r.position) 0) (ap (λ (x : FoldOutcome). x.result) e ∙ o) ∙ get_or-append s _ 0 _ k in
    record {
      stage = r.stage;
      at = r.at;
      position = r.position;
      room = omega (arith, r.room, W.stages);
      from = r.from;
      to = r.to;
      word = r.word;
      low = r.low;
      high = r.high;
      cell = r.cell;
      bit = v ∙ r.bit;
    }
