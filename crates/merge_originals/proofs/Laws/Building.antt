-- Every slot in turn: what the loop keeps. Assumes nothing.
use Prim.Native.Nat.{ℕ, ◌+◌, ◌-◌, ◌*◌, ◌<◌, ◌≤◌, max}
use mathlib.Core.Bool.{true}
use mathlib.Core.List.{List, []}
use mathlib.Core.Logic.{◌≢◌}
use mathlib.Core.Path.{◌≡◌, refl, sym, ap, ◌∙◌}
use native.Mathlib.Numerals.{add-one}
use native.Mathlib.Omega.{arith}
use lib.Dec.{eqb}
use lib.ListN.{length, get_or, take, drop, length-drop, take-append-drop}
use lib.Seq.{length-take-le}
use borrow.Author.Tests.{eqb-true, eqb-false}
use Rattle.rules.specs.Lists.{sum, In}
use Rattle.rules.specs.Traversal.{WordRule}
use Rattle.rules.specs.Build as rules
use Rattle.rules.specs.Merge.{Common, built_of, size_for, part_of, most_stages, split_by}
use Rattle.rules.proofs.Lists.Members.{split, in_append_left, in_append_right}
use Rattle.placer.specs.declared.Built as placer
use Rattle.placer.specs.declared.Refused.{Refused}
use Rattle.std.specs.Prelude.{Result, Ok, Err}
use Rattle.refusals.specs.Numbers.{number_of, pin_of}
use Rattle.refusals.proofs.Numbers.{number_above}
use Rattle.placer.specs.Answers.{told}
use Rattle.merge_unions.specs.Unions.{Places}
use Rattle.merge_slots.specs.Slots.{own, gathered, listed, held}
use Rattle.merge_slots.specs.Stores.{Stored}
use Rattle.merge_slots.proofs.Laws.Sums.{sum_next, sum_part}
use Rattle.merge_slots.proofs.Laws.Rounds.{listed_same}
use Rattle.merge_slots.proofs.Laws.Splits.{length_split}
use Rattle.merge_layout.specs.Layout.{owned}
use Rattle.merge_layout.proofs.Laws.Gathers.{slot_part}
use Rattle.merge_originals.specs.Originals.{Changes, Noted, MeasureAt, Measures, OriginalsAt, all_held, parts_for, Given}
use Rattle.merge_originals.proofs.Laws.Measuring.{changes_none, changes_then, ground_changes}
use Rattle.merge_originals.proofs.Laws.Parts.{Right, all_right, one_refused, most_next}

-- a build shows no pin
no_pin : (b : rules.Answer) → (rules.reply b).pin ≡ 0
unfolding rules.reply rules.refuse
no_pin (rules.refusal n k) = refl
no_pin (rules.whole ss) = refl

in_part : (i a k : ℕ) (xs : List ℕ) → In i (take k (drop a xs)) → In i xs
in_part i a k xs e =
    let d : In i (drop a xs) = rw (take-append-drop k (drop a xs)) at (in_append_left i (take k (drop a xs)) (drop k (drop a xs)) e) in
    rw (take-append-drop a xs) at (in_append_right i (take a xs) (drop a xs) d)

-- ---- one slot's own numbers stored

module _ {n s size stages words cells : ℕ} {o o' : List ℕ} (S : Stored n s size stages words cells o o') (inside : s < n) (ls xs : List ℕ) where
  stored_other : (t : ℕ) → t < n → t ≢ s → held n ls xs o' t ≡ held n ls xs o t
  unfolding held own
  stored_other t h d =
      let a : get_or o' (0 * n + t) 0 ≡ get_or o (0 * n + t) 0 = S.others (0 * n + t) (λ z. d (omega arith)) (λ z. omega arith) (λ z. omega arith) (λ z. omega arith) in
      let b : get_or o' (1 * n + t) 0 ≡ get_or o (1 * n + t) 0 = S.others (1 * n + t) (λ z. omega arith) (λ z. d (omega arith)) (λ z. omega arith) (λ z. omega arith) in
      let c : get_or o' (2 * n + t) 0 ≡ get_or o (2 * n + t) 0 = S.others (2 * n + t) (λ z. omega arith) (λ z. omega arith) (λ z. d (omega arith)) (λ z. omega arith) in
      let e : get_or o' (3 * n + t) 0 ≡ get_or o (3 * n + t) 0 = S.others (3 * n + t) (λ z. omega arith) (λ z. omega arith) (λ z. omega arith) (λ z. d (omega arith)) in
      rw (a, b, c, e) refl

  stored_this : (J : Common) → size ≡ size_for J (get_or (split_by ls xs) s []) → stages ≡ (rules.reply (built_of J (get_or (split_by ls xs) s []))).stages → words ≡ (rules.reply (built_of J (get_or (split_by ls xs) s []))).words → cells ≡ (rules.reply (built_of J (get_or (split_by ls xs) s []))).cells
      → held n ls xs o' s ≡ part_of s (get_or (split_by ls xs) s []) (size_for J (get_or (split_by ls xs) s [])) (built_of J (get_or (split_by ls xs) s []))
  unfolding held part_of
  stored_this J e f g h = rw (S.size_is, S.stages_are, S.words_are, S.cells_are, ← e, ← f, ← g, ← h) refl

-- ---- the first s slots are built

-- the first s partitions are built and measured, with the greatest count of stages
pub record Building (rule : WordRule) (K m table base : ℕ) (gates given records xs ls pl ws cs w pl' ws' cs' w' : List ℕ) (most at s : ℕ) : Type 0 where
  pub upto : s ≤ length ls
  pub start : at ≡ sum (take s ls)
  pub plan : pl' ≡ pl
  pub words : ws' ≡ ws
  pub counts : cs' ≡ cs
  pub changes : Changes m table base (length ls) w w'
  pub right : (J : Common) → Places rule K (length pl) gates given records J → (t : ℕ) → t < s → Right J (get_or (split_by ls xs) t []) t (held (length ls) ls xs (owned base (length ls) w') t)
  pub greatest : most_stages (listed (held (length ls) ls xs (owned base (length ls) w')) (λ _. true) s 0) 0 ≡ most
  pub few : most ≤ m

module _ {K m table base : ℕ} {gates given records xs ls pl ws cs w : List ℕ} (A : OriginalsAt K m table base gates given records xs ls pl ws cs w) where
  -- before the first slot none is
  pub building_none : {rule : WordRule} → Building rule K m table base gates given records xs ls pl ws cs w pl ws cs w 0 0 0
  unfolding sum listed gathered most_stages
  building_none = record {
    upto = omega arith;
    start = refl;
    plan = refl;
    words = refl;
    counts = refl;
    changes = changes_none A.ground;
    right = λ J h t b. absurd (omega arith);
    greatest = refl;
    few = omega arith;
  }

  abbrev n : ℕ
  n = length ls

  abbrev hs : List (List ℕ)
  hs = split_by ls xs

  module _ {rule : WordRule} {pl₁ ws₁ cs₁ w₁ : List ℕ} {most at s : ℕ} (N : Building rule K m table base gates given records xs ls pl ws cs w pl₁ ws₁ cs₁ w₁ most at s) where
    module _ (h : s < length ls) {l : ℕ} (el : l ≡ get_or ls s 0) where
      -- the next slot's groups end within the indices
      pub part_end : at + l ≤ length xs
      part_end = omega (arith, N.start, sum_next ls s h, sum_part ls (s + 1), A.all)

      abbrev part : List ℕ
      part = take (at + l - at) (drop at xs)

      part_is : part ≡ get_or hs s []
      part_is = let z : at + l - at ≡ get_or ls s 0 = omega arith in rw (z, N.start) (sym (slot_part ls xs s))

      part_length : length part ≤ length xs
      part_length = omega (arith, length-take-le (at + l - at) (drop at xs) (rw length-drop (omega (arith, part_end))), part_end)

      -- the next slot's partition may be built and measured
      pub building_at : MeasureAt K m table base n s gates given records part pl₁ ws₁ cs₁ w₁
      building_at = record {
        ground = ground_changes A.ground N.changes;
        blank = rw (N.plan, N.words, N.counts) A.blank;
        groups = record { named = λ i e. A.groups.named i (in_part i at (at + l - at) xs e); room = omega (arith, A.groups.room, part_length); few = omega (arith, A.groups.few, part_length) };
        inside = h;
      }

      module _ {a : Result placer.Built Refused} {pl₂ ws₂ cs₂ w₂ : List ℕ} (M : Measures rule K m table base n s gates given records part pl₁ ws₁ cs₁ w₁ a pl₂ ws₂ cs₂ w₂) where
        replied : (J : Common) → Places rule K (length pl) gates given records J → told a ≡ rules.reply (built_of J (get_or hs s []))
        replied J f = rw part_is at (M.reply J (rw N.plan f))

        changed : Changes m table base n w w₂
        changed = changes_then N.changes M.changes

      module _ {r : Refused} {pl₂ ws₂ cs₂ w₂ : List ℕ} (M : Measures rule K m table base n s gates given records part pl₁ ws₁ cs₁ w₁ (Err r) pl₂ ws₂ cs₂ w₂) where
        number_refused : (J : Common) → Places rule K (length pl) gates given records J → number_of r.why ≡ (rules.reply (built_of J (get_or hs s []))).number
        unfolding told
        number_refused J f = ap (λ (x : rules.Reply). x.number) (replied M J f)

        stage_refused : (J : Common) → Places rule K (length pl) gates given records J → r.stage ≡ (rules.reply (built_of J (get_or hs s []))).stage
        unfolding told
        stage_refused J f = ap (λ (x : rules.Reply). x.stage) (replied M J f)

        pin_refused : (J : Common) → Places rule K (length pl) gates given records J → pin_of r.why ≡ (rules.reply (built_of J (get_or hs s []))).pin
        unfolding told
        pin_refused J f = ap (λ (x : rules.Reply). x.pin) (replied M J f)

        -- a refused partition refuses the merge, with its number
        pub building_refused : Given rule K m table base gates given records xs ls pl ws cs w (Err (record { part = s + 1; refused = r })) pl₂ ws₂ cs₂ w₂
        unfolding parts_for
        building_refused = record {
          plan = M.plan ∙ N.plan;
          words = M.words ∙ N.words;
          counts = M.counts ∙ N.counts;
          changes = changed M;
          answer = λ J f. rw (add-one s, number_refused J f, stage_refused J f) (one_refused J hs (held n ls xs (owned base n w₁)) s 0 s (omega arith) (omega (arith, length_split ls xs)) (λ t b c. N.right J f t c) (λ y. omega (arith, number_above r.why, number_refused J f)));
          plain = λ J f. pin_refused J f ∙ no_pin (built_of J (get_or hs s []));
          most = tt;
          few = tt;
        }

      module _ {b : placer.Built} {pl₂ ws₂ cs₂ w₂ : List ℕ} (M : Measures rule K m table base n s gates given records part pl₁ ws₁ cs₁ w₁ (Ok b) pl₂ ws₂ cs₂ w₂) where
        number_is : (J : Common) → Places rule K (length pl) gates given records J → 0 ≡ (rules.reply (built_of J (get_or hs s []))).number
        unfolding told
        number_is J f = ap (λ (x : rules.Reply). x.number) (replied M J f)

        stages_are : (J : Common) → Places rule K (length pl) gates given records J → b.stages ≡ (rules.reply (built_of J (get_or hs s []))).stages
        unfolding told
        stages_are J f = ap (λ (x : rules.Reply). x.stages) (replied M J f)

        words_are : (J : Common) → Places rule K (length pl) gates given records J → b.words ≡ (rules.reply (built_of J (get_or hs s []))).words
        unfolding told
        words_are J f = ap (λ (x : rules.Reply). x.words) (replied M J f)

        cells_are : (J : Common) → Places rule K (length pl) gates given records J → b.cells ≡ (rules.reply (built_of J (get_or hs s []))).cells
        unfolding told
        cells_are J f = ap (λ (x : rules.Reply). x.cells) (replied M J f)

        O : Noted m table base n s b.stages b.words b.cells gates given records part w₁ w₂
        O = M.noted

        size_is : (J : Common) → Places rule K (length pl) gates given records J → O.size ≡ size_for J (get_or hs s [])
        size_is J f = rw part_is at (O.measured J f.shares)

        same : (t : ℕ) → t < n → t ≢ s → held n ls xs (owned base n w₂) t ≡ held n ls xs (owned base n w₁) t
        same t i d = stored_other O.stored h ls xs t i d

        this_stages : (held n ls xs (owned base n w₂) s).stages ≡ b.stages
        unfolding held
        this_stages = O.stored.stages_are

        -- one more partition is built and measured
        pub building_more : {most' : ℕ} → most' ≡ max b.stages most → Building rule K m table base gates given records xs ls pl ws cs w pl₂ ws₂ cs₂ w₂ most' (at + l) (s + 1)
        building_more e = record {
          upto = omega arith;
          start = omega (arith, N.start, sum_next ls s h);
          plan = M.plan ∙ N.plan;
          words = M.words ∙ N.words;
          counts = M.counts ∙ N.counts;
          changes = changed M;
          right = λ J f t i. split (eqb t s)
              (λ c. let d : t ≡ s = eqb-true t s c in rw d (record { whole = sym (number_is J f); part = stored_this O.stored h ls xs J (size_is J f) (stages_are J f) (words_are J f) (cells_are J f) }))
              (λ c. let d : t ≢ s = eqb-false t s c in rw (same t (omega arith) d) (N.right J f t (omega arith)));
          greatest =
              let y : 0 + s ≡ s = omega arith in
              let x : listed (held n ls xs (owned base n w₂)) (λ _. true) s 0 ≡ listed (held n ls xs (owned base n w₁)) (λ _. true) s 0 = listed_same _ _ _ _ s 0 (λ t i j. refl) (λ t i j k. same t (omega arith) (λ q. omega arith)) in
              rw (add-one s) (most_next (held n ls xs (owned base n w₂)) s 0 0 ∙ rw (y, this_stages, x, N.greatest, e) refl);
          few = omega (arith, N.few, M.few);
        }

    -- past the last slot all partitions are built
    pub building_done : length ls ≤ s → Given rule K m table base gates given records xs ls pl ws cs w (Ok most) pl₁ ws₁ cs₁ w₁
    unfolding parts_for all_held
    building_done h =
        let e : s ≡ length ls = omega (arith, N.upto) in
        let R : (J : Common) → Places rule K (length pl) gates given records J → (t : ℕ) → t < length ls → Right J (get_or hs t []) t (held n ls xs (owned base n w₁) t) = λ J f t b. N.right J f t (omega arith) in
        record {
          plan = N.plan;
          words = N.words;
          counts = N.counts;
          changes = N.changes;
          answer = λ J f. all_right J hs (held n ls xs (owned base n w₁)) (length ls) 0 (omega (arith, length_split ls xs)) (λ t a b. R J f t (omega arith));
          plain = λ J f. tt;
          most = rw e at N.greatest;
          few = N.few;
        }
