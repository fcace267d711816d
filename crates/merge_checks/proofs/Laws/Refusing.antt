-- The areas of a merge, check 10, and the first refusal that applies. Assumes nothing.
use Prim.Native.Nat.{ℕ, zero, suc, ◌+◌, ◌*◌, ◌/◌, ◌≤◌, ◌<◌}
use mathlib.Core.Bool.{Bool, true, false, ◌&&◌}
use mathlib.Core.List.{List}
use mathlib.Core.Logic.{◌≢◌}
use mathlib.Core.Path.{◌≡◌, refl, sym, ap, ◌∙◌}
use native.Mathlib.Omega.{arith}
use lib.Dec.{leb, ltb, eqb}
use lib.ListN.{length}
use borrow.Author.Tests.{le-leb, lt-leb, eq-eqb, ne_eqb}
use Rattle.rules.specs.Lists.{sum, every}
use Rattle.rules.specs.Cells.{is_height}
use Rattle.rules.specs.Graph.{pin_count}
use Rattle.rules.specs.Records.{groups_of}
use Rattle.rules.specs.Checks.{work_size, areas_sized, given_right, refusal_of}
use Rattle.rules.specs.Merge.{mergeable, merge_sized, merge_work_size, merge_refusal}
use Rattle.rules.proofs.Bools.{and_right, and_none}
use Rattle.std.specs.Prelude.{Option, Some, Result, Err}
use Rattle.std.specs.Option.{is_some}
use Rattle.sizes.specs.Values.{less}
use Rattle.sizes.proofs.Rooms.{less_less, others_wrong, work_tested}
use Rattle.checks.proofs.Laws.Passed.{passed}
use Rattle.refusals.specs.declared.Refusal.{Refusal}
use Rattle.refusals.specs.declared.Refusal.TheVariants.{WrongGroups}
use Rattle.refusals.specs.Numbers.{number_said}
use Rattle.refusals.proofs.Numbers.{number_above}
use Rattle.checks.specs.Values.{Says}
use Rattle.checks.proofs.Laws.Refusing.{height_first, says, says_same}
use Rattle.merge_checks.specs.Values.{group_list, areas, merge_areas, Readable}

module _ (K gates records indices : ℕ) (ls : List ℕ) (stages plan words counts work : ℕ) where
  abbrev need : ℕ
  need = 16 * (gates / 2) + 8 * records + 512 + 8 * length ls + 8 * indices

  abbrev answer : Bool
  answer = is_height K && merge_areas K gates records indices ls stages plan words counts work

  none : (a : Bool) → a && false ≡ false
  none a = and_none a

  -- lists of lengths and stages that differ are refused with 2
  pub lists_differ : length ls ≢ stages → false ≡ answer
  unfolding merge_areas
  lists_differ h = rw (ne_eqb (length ls) stages h, none (areas_sized K need plan words counts work)) (sym (none (is_height K)))

  -- lengths that don't sum to the indices are refused with 2
  pub sum_differs : eqb (sum ls) indices ≡ false → false ≡ answer
  unfolding merge_areas
  sum_differs h = rw (h, none (areas_sized K need plan words counts work && eqb (length ls) stages)) (sym (none (is_height K)))

  module _ (same : length ls ≡ stages) (sums : eqb (sum ls) indices ≡ true) where
    plain : is_height K && areas_sized K need plan words counts work ≡ answer
    unfolding merge_areas
    plain = rw (eq-eqb (length ls) stages same, sums, and_right (areas_sized K need plan words counts work), and_right (areas_sized K need plan words counts work)) refl

    -- a wrong plan, words or counts are refused with 2
    pub others_refuse : is_height K && areas_sized K 0 plan words counts 0 ≡ false → false ≡ answer
    others_refuse e = others_wrong K need plan words counts work e ∙ plain

    -- with lists, plan, words and counts right, the work area decides
    pub work_decides : is_height K && areas_sized K 0 plan words counts 0 ≡ true → (l₁ l₂ l₃ : Option ℕ) → l₁ ≡ less (Some work) (16 * (gates / 2) + 8 * records + 512) → l₂ ≡ less l₁ (8 * stages) → l₃ ≡ less l₂ (8 * indices)
        → (b : Bool) → b ≡ is_some l₃ → b ≡ answer
    work_decides e l₁ l₂ l₃ d₁ d₂ d₃ b d =
        let q : l₃ ≡ less (Some work) need =
        d₃ ∙ ap (λ (x : Option ℕ). less x (8 * indices)) (d₂ ∙ ap (λ (x : Option ℕ). less x (8 * stages)) d₁) ∙ ap (λ (x : Option ℕ). less x (8 * indices)) (less_less (Some work) (16 * (gates / 2) + 8 * records + 512) (8 * stages)) ∙ less_less (Some work) (16 * (gates / 2) + 8 * records + 512 + 8 * stages) (8 * indices) ∙ rw same refl in
        work_tested K need plan words counts work e b (d ∙ ap is_some q) ∙ plain

-- check 10
module _ (records xs ls : List ℕ) (extra : ℕ) where
  abbrev able : Bool
  able = mergeable records (group_list xs ls ls) extra

  -- no partition is refused with 10
  pub no_partition : length ls ≡ 0 → false ≡ able
  unfolding mergeable group_list
  no_partition e = rw e refl

  module _ (some : length ls ≢ 0) where
    -- more than 1,024 partitions are refused with 10
    pub many_partitions : 1024 < length ls → false ≡ able
    unfolding mergeable group_list
    many_partitions h = rw (le-leb 1 (length ls) (omega arith), lt-leb (length ls) 1024 h) refl

    module _ (few : length ls ≤ 1024) where
      -- more indices than a length can count are refused with 10
      pub many_indices : 4294967295 < length xs → false ≡ able
      unfolding mergeable group_list
      many_indices h = rw (lt-leb (length xs) 4294967295 h) (sym (and_none (leb 1 (length ls) && leb (length ls) 1024 && every (λ i. ltb i (length (groups_of records))) xs && leb extra 255)))

      module _ (short : length xs ≤ 4294967295) where
        -- more than 255 extra stages are refused with 10
        pub much_extra : 255 < extra → false ≡ able
        unfolding mergeable group_list
        much_extra h = rw (le-leb 1 (length ls) (omega arith), le-leb (length ls) 1024 few, lt-leb extra 255 h, le-leb (length xs) 4294967295 short, and_none (every (λ i. ltb i (length (groups_of records))) xs)) refl

        -- with counts and extra stages right, the indices decide: each names a group
        pub named_decide : extra ≤ 255 → (n : ℕ) → n ≡ length (groups_of records) → given_right n xs ≡ able
        unfolding mergeable group_list given_right
        named_decide h n e = rw (e, le-leb 1 (length ls) (omega arith), le-leb (length ls) 1024 few, le-leb extra 255 h, le-leb (length xs) 4294967295 short, and_right (every (λ i. ltb i (length (groups_of records))) xs), and_right (every (λ i. ltb i (length (groups_of records))) xs)) refl

early : (K : ℕ) (gates given records xs ls st : List ℕ) (extra : ℕ) (pl ws cs w : List ℕ) (k : ℕ) → k ≡ refusal_of K (merge_sized K gates records (group_list xs ls st) (areas pl ws cs w)) gates given records → k ≢ 0
    → k ≡ merge_refusal K gates given records (group_list xs ls st) extra (areas pl ws cs w)
unfolding merge_refusal
early K gates given records xs ls st extra pl ws cs w zero e h = absurd (h refl)
early K gates given records xs ls st extra pl ws cs w (suc k) e h = rw (← e, merge_refusal) refl

module _ (K : ℕ) (gates given records xs ls st : List ℕ) (extra : ℕ) (pl ws cs w : List ℕ) where
  abbrev sized : Bool
  sized = merge_sized K gates records (group_list xs ls st) (areas pl ws cs w)

  abbrev number : ℕ
  number = merge_refusal K gates given records (group_list xs ls st) extra (areas pl ws cs w)

  same_size : merge_areas K (length gates) (length records) (length xs) ls (length st) (length pl) (length ws) (length cs) (length w) ≡ sized
  unfolding merge_areas merge_sized merge_work_size work_size pin_count group_list areas
  same_size = refl

  module _ (b : Bool) (eb : b ≡ is_height K && merge_areas K (length gates) (length records) (length xs) ls (length st) (length pl) (length ws) (length cs) (length w)) {B : Type 0} (v : Result B Refusal) (S : Says (refusal_of K b gates given records) gates v) where
    first : number_said v ≡ refusal_of K sized gates given records
    first = S.number ∙ height_first K sized gates given records b (eb ∙ ap (λ (x : Bool). is_height K && x) same_size)

    said : number_said v ≡ number → Says number gates v
    said e = says_same S (sym S.number ∙ e)

    -- what the checks of a build refuse is refused first
    pub refused_early : (why : Refusal) → v ≡ Err why → Says number gates v
    refused_early why r = let h : number_said v ≢ 0 = (λ z. omega (arith, number_above why, ap number_said r)) in said (early K gates given records xs ls st extra pl ws cs w (number_said v) first h)

    module _ (z : number_said v ≡ 0) where
      clear : refusal_of K sized gates given records ≡ 0
      clear = sym first ∙ z

      -- records that they let pass can be read
      pub readable : Readable records
      readable = let p = passed K sized gates given records clear in record { short = p.short; readable = p.readable }

      same_list_lem : mergeable records (group_list xs ls ls) extra ≡ mergeable records (group_list xs ls st) extra
      unfolding mergeable group_list
      same_list_lem = refl

      -- what check 10 does not let pass is refused with 10
      pub refused_late : mergeable records (group_list xs ls ls) extra ≡ false → Says {A = B} number gates (Err WrongGroups)
      unfolding merge_refusal
      refused_late e = says refl (λ c. omega arith) (sym (rw (clear, merge_refusal, sym same_list_lem ∙ e) refl))

      -- what passes all checks is not refused
      pub not_refused : mergeable records (group_list xs ls ls) extra ≡ true → Says number gates v
      unfolding merge_refusal
      not_refused e = said (z ∙ rw (clear, merge_refusal, sym same_list_lem ∙ e) refl)
