-- The four frauds of the scope document: no function that plays one of them meets the contract of `placer::build`, since one of the document's
-- examples comes out otherwise. Assumes nothing.
use Prim.Native.Nat.{ℕ, ◌*◌, ◌^◌}
use mathlib.Core.Path.{◌≡◌, refl, sym, ◌∙◌, ap}
use mathlib.Core.Logic.{◌≢◌}
use mathlib.Core.Bool.{true}
use mathlib.Core.List.{List, [], ◌∷◌, ◌++◌, map}
use native.Mathlib.Omega.{arith}
use lib.Dec.{ltb}
use lib.ListN.{length, get_or}
use Rattle.std.specs.Prelude.{Result}
use Rattle.rules.specs.Lists.{every, up_to}
use Rattle.rules.specs.Cells.{empty, stage_of}
use Rattle.rules.specs.Traversal.{needed_runs}
use Rattle.rules.specs.Checks.{work_size}
use Rattle.rules.specs.Build.{Areas, Reply, Outcome, placer}
use Rattle.rules.specs.Inside.Opened.{everything}
use Rattle.rules.proofs.Bench.{leaves, outputs, first, chain, sevens}
use Rattle.placer.specs.declared.Built.{Built}
use Rattle.placer.specs.declared.Refused.{Refused}
use Rattle.placer.specs.Answers.{told, areas, outcome}

-- numbers of 32 bits
abbrev pub Fits : List ℕ → Type 0
Fits ns = every (λ n. ltb n (2 ^ 32)) ns ≡ true

-- what a call hands in and lends
pub record Handed : Type 0 where
  pub height : ℕ
  pub gates : List ℕ
  pub given : List ℕ
  pub records : List ℕ
  pub entry : Areas
  pub fits : Fits (height ∷ gates ++ given ++ records ++ entry.plan ++ entry.words ++ entry.counts ++ entry.work)

-- what it gives back
pub record Left : Type 0 where
  pub answer : Result Built Refused
  pub exit : Areas

-- what it answers, as the rules have it
abbrev pub reply : Left → Reply
reply l = told l.answer

-- what the rules make of it
abbrev pub right : Handed → Outcome
right x = placer needed_runs x.height x.gates x.given x.records x.entry

-- a function, any at all, meets the contract: whatever it is handed, its answer and the areas at exit are those of the rules
pub record Meets (f : Handed → Left) : Type 0 where
  pub ensures : (x : Handed) → outcome (f x).answer (f x).exit.plan (f x).exit.words (f x).exit.counts (f x).exit.work ≡ right x

-- ---- three of the document's examples, each with four rooms and areas full of sevens

abbrev lent : (gates records : List ℕ) → Areas
lent gates records = sevens 6 4 (work_size gates records)

abbrev all : (gates records : List ℕ) → List ℕ
all gates records = 6 ∷ gates ++ [] ++ records ++ (lent gates records).plan ++ (lent gates records).words ++ (lent gates records).counts ++ (lent gates records).work

abbrev handed : (gates records : List ℕ) → Fits (all gates records) → Handed
handed gates records fits = record { height = 6; gates = gates; given = []; records = records; entry = lent gates records; fits = fits }

one_fits : Fits (all first (outputs (14 ∷ [])))
unfolding everything
one_fits = refl

-- three gates, one stage
abbrev one : Handed
one = handed first (outputs (14 ∷ [])) one_fits

abbrev literals : List ℕ
literals = map (λ p. 2 * p) (up_to 31 1)

many_fits : Fits (all (leaves 31) (outputs literals))
unfolding everything
many_fits = refl

-- 31 leaves, one stage
abbrev many : Handed
many = handed (leaves 31) (outputs literals) many_fits

two_fits : Fits (all chain (outputs (30 ∷ [])))
unfolding everything
two_fits = refl

-- a chain of seven gates, two stages
abbrev two : Handed
two = handed chain (outputs (30 ∷ [])) two_fits

-- accepted, with one word; pin 7, which ANDs, at position 16, and position 0 empty
one_reply : ((right one).reply.number ≡ 0) × ((right one).reply.words ≡ 1)
unfolding everything
one_reply = (refl, refl)

one_cells : (get_or (right one).areas.plan 16 empty ≡ 65543) × (get_or (right one).areas.plan 0 empty ≡ 4294967295)
unfolding everything
one_cells = (refl, refl)

one_entry : get_or one.entry.plan 0 empty ≡ 7
one_entry = refl

-- accepted, and position 16 is empty
many_reply : (right many).reply.number ≡ 0
unfolding everything
many_reply = refl

many_cell : get_or (right many).areas.plan 16 empty ≡ 4294967295
unfolding everything
many_cell = refl

-- accepted, with two stages; pin 14 stands at position 1 of the first alone, and only the second writes a word
two_reply : ((right two).reply.number ≡ 0) × ((right two).reply.stages ≡ 2)
unfolding everything
two_reply = (refl, refl)

two_cells : (get_or (stage_of 6 1 (right two).areas.plan) 1 empty ≡ 65550) × (get_or (stage_of 6 2 (right two).areas.plan) 1 empty ≡ 4294967295)
unfolding everything
two_cells = (refl, refl)

two_counts : (get_or (right two).areas.counts 0 7 ≡ 0) × (get_or (right two).areas.counts 1 7 ≡ 1)
unfolding everything
two_counts = (refl, refl)

-- ---- the frauds

module _ (f : Handed → Left) (M : Meets f) where
  reply_is : (x : Handed) → reply (f x) ≡ (right x).reply
  unfolding outcome
  reply_is x = ap (λ (o : Outcome). o.reply) (M.ensures x)

  number_is : (x : Handed) {n : ℕ} → (right x).reply.number ≡ n → (reply (f x)).number ≡ n
  number_is x e = ap (λ r. r.number) (reply_is x) ∙ e

  plan_is : (x : Handed) → (f x).exit.plan ≡ (right x).areas.plan
  unfolding outcome areas
  plan_is x = ap (λ (o : Outcome). o.areas.plan) (M.ensures x)

  counts_are : (x : Handed) → (f x).exit.counts ≡ (right x).areas.counts
  unfolding outcome areas
  counts_are x = ap (λ (o : Outcome). o.areas.counts) (M.ensures x)

  -- It doesn't refuse everything.
  pub not_all_refused : ((x : Handed) → (reply (f x)).number ≢ 0) → ⊥
  not_all_refused h = h one (number_is one one_reply.0)

  -- It doesn't give a single fixed plan: not the same plan area at exit in any two accepted calls whose plan areas are of one length.
  pub not_one_plan : ((x y : Handed) → (reply (f x)).number ≡ 0 → (reply (f y)).number ≡ 0 → length x.entry.plan ≡ length y.entry.plan → (f x).exit.plan ≡ (f y).exit.plan) → ⊥
  not_one_plan h =
      let e : (f one).exit.plan ≡ (f many).exit.plan = h one many (number_is one one_reply.0) (number_is many many_reply) refl in
      let d : ◌≡◌ {A = ℕ} 65543 4294967295 = sym one_cells.0 ∙ ap (λ (p : List ℕ). get_or p 16 empty) (sym (plan_is one) ∙ e ∙ plan_is many) ∙ many_cell in
      omega arith

  -- It doesn't write nothing: accepted calls don't all leave the areas as they were,
  pub not_unchanged : ((x : Handed) → (reply (f x)).number ≡ 0 → (f x).exit ≡ x.entry) → ⊥
  not_unchanged h =
      let e : (f one).exit.plan ≡ one.entry.plan = ap (λ (a : Areas). a.plan) (h one (number_is one one_reply.0)) in
      let d : ◌≡◌ {A = ℕ} 4294967295 7 = sym one_cells.1 ∙ ap (λ (p : List ℕ). get_or p 0 empty) (sym (plan_is one) ∙ e) ∙ one_entry in
      omega arith

  -- nor a plan of empty marks alone,
  pub not_empty : ((x : Handed) → (reply (f x)).number ≡ 0 → (p : ℕ) → get_or (f x).exit.plan p empty ≡ empty) → ⊥
  unfolding empty
  not_empty h =
      let d : ◌≡◌ {A = ℕ} 65543 4294967295 = sym one_cells.0 ∙ ap (λ (p : List ℕ). get_or p 16 empty) (sym (plan_is one)) ∙ h one (number_is one one_reply.0) 16 in
      omega arith

  -- nor do they all report no word.
  pub not_wordless : ((x : Handed) → (reply (f x)).number ≡ 0 → (reply (f x)).words ≡ 0) → ⊥
  not_wordless h =
      let d : ◌≡◌ {A = ℕ} 1 0 = sym one_reply.1 ∙ ap (λ r. r.words) (sym (reply_is one)) ∙ h one (number_is one one_reply.0) in
      omega arith

  -- It doesn't build the first stage and repeat it: in accepted calls of two stages the cells of the second aren't always those of the first,
  pub not_repeated : ((x : Handed) → (reply (f x)).number ≡ 0 → (reply (f x)).stages ≡ 2 → stage_of x.height 2 (f x).exit.plan ≡ stage_of x.height 1 (f x).exit.plan) → ⊥
  not_repeated h =
      let e = h two (number_is two two_reply.0) (ap (λ r. r.stages) (reply_is two) ∙ two_reply.1) in
      let p : (f two).exit.plan ≡ (right two).areas.plan = plan_is two in
      let d : ◌≡◌ {A = ℕ} 4294967295 65550 = sym two_cells.1 ∙ ap (λ (c : List ℕ). get_or c 1 empty) (ap (stage_of 6 2) (sym p) ∙ e ∙ ap (stage_of 6 1) p) ∙ two_cells.0 in
      omega arith

  -- nor are its words as many.
  pub words_not_repeated : ((x : Handed) → (reply (f x)).number ≡ 0 → (reply (f x)).stages ≡ 2 → get_or (f x).exit.counts 1 7 ≡ get_or (f x).exit.counts 0 7) → ⊥
  words_not_repeated h =
      let e = h two (number_is two two_reply.0) (ap (λ r. r.stages) (reply_is two) ∙ two_reply.1) in
      let c : (f two).exit.counts ≡ (right two).areas.counts = counts_are two in
      let d : ◌≡◌ {A = ℕ} 1 0 = sym two_counts.1 ∙ ap (λ (n : List ℕ). get_or n 1 7) (sym c) ∙ e ∙ ap (λ (n : List ℕ). get_or n 0 7) c ∙ two_counts.0 in
      omega arith
