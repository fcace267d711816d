-- The whole call: what the checks say, and the part of the work area that counts. Assumes nothing.
use Prim.Native.Nat.{ℕ, zero, suc, ◌+◌, ◌-◌, ◌*◌, ◌/◌, ◌≤◌, ◌<◌}
use mathlib.Core.Bool.{Bool}
use mathlib.Core.List.{List, ◌++◌}
use mathlib.Core.Path.{◌≡◌, sym, ap, ◌∙◌}
use native.Mathlib.Omega.{arith}
use lib.Dec.{leb}
use lib.ListN.{length, take, drop, replicate}
use lib.Seq.{length-take-le}
use borrow.Author.Tests.{leb-true}
use Rattle.rules.specs.Lists.{laid_over}
use Rattle.rules.specs.Graph.{pin_count}
use Rattle.rules.specs.Checks.{work_size, refusal_of, pin_shown}
use Rattle.rules.proofs.Lists.Parts.{part_laid}
use Rattle.std.specs.Prelude.{Some, Result, Ok, Err}
use Rattle.std.specs.Option.{is_some}
use Rattle.sizes.specs.Values.{less}
use Rattle.sizes.proofs.Rooms.{less_is_some}
use Rattle.refusals.specs.declared.Refusal.{Refusal}
use Rattle.refusals.specs.Numbers.{number_of, pin_of}
use Rattle.refusals.proofs.Numbers.{number_above}
use Rattle.checks.specs.Values.{Says}
use Rattle.checks.specs.Passed.{Passed}
use Rattle.checks.proofs.Laws.Passed.{passed}
use Rattle.depth.specs.Calls.{Said, SizeAt, telling, tell_refusal, teller}
use Rattle.depth.specs.Walks.{MeasureAt}

-- by the size that the code finds
pub said : {A : Type 0} (w : List ℕ) (b : Bool) (gates given records : List ℕ) {r : Result A Refusal} → b ≡ is_some (less (Some (length w)) (16 * (length gates / 2) + 8 * length records + 512)) → Says (refusal_of 6 b gates given records) gates r → Said gates given records w r
unfolding tell_refusal work_size pin_count
said w b gates given records e S =
    let s : b ≡ leb (work_size gates records) (length w) = e ∙ less_is_some (length w) (16 * (length gates / 2) + 8 * length records + 512) in
    record { says = rw s at S }

refused_at_lem : {A : Type 0} (none some : A) (gates given records w : List ℕ) (n : ℕ) → n ≡ tell_refusal gates given records w → 0 < n → (p : ℕ) → p ≡ pin_shown n gates → telling n none p w ≡ teller none some gates given records w
unfolding teller
refused_at_lem none some gates given records w zero e h p d = absurd (omega arith)
refused_at_lem none some gates given records w (suc n) e h p d = rw (← e, teller, d)

module _ {gates given records w : List ℕ} where
  -- what the checks refuse changes nothing
  pub told_refused : {A B : Type 0} {r : Refusal} → Said {B = B} gates given records w (Err r) → (none some : A) → telling (number_of r) none (pin_of r) w ≡ teller none some gates given records w
  told_refused {r = r} S none some = refused_at_lem none some gates given records w (number_of r) S.says.number (number_above r) (pin_of r) (S.says.pin ∙ ap (λ (n : ℕ). pin_shown n gates) (sym S.says.number))

  module _ {B : Type 0} {x : B} (S : Said gates given records w (Ok x)) where
    none_refused : tell_refusal gates given records w ≡ 0
    none_refused = sym S.says.number

    passes : Passed 6 (leb (work_size gates records) (length w)) gates given records
    unfolding tell_refusal
    passes = passed 6 (leb (work_size gates records) (length w)) gates given records none_refused

    -- there are at most 65,536 pins and record numbers
    pub sizes_few : SizeAt gates records
    sizes_few = record { pins = passes.few; short = passes.short }

    module _ {need : ℕ} (is : need ≡ work_size gates records) where
      -- the numbers that count lie in the area
      pub work_inside : need ≤ length w
      work_inside = rw is (leb-true _ _ passes.areas)

      -- in them it may be measured
      pub measure_at : MeasureAt gates given records (take (need - 0) w)
      measure_at = record { K = 6; sized = _; passed = passes; size = length-take-le (need - 0) w (omega (arith, work_inside)) ∙ omega (arith, is) }

      -- and what is measured is told, with the rest of the area as it was
      pub told_measured : {A : Type 0} (none some : A) {vs : List ℕ} → vs ≡ replicate (length (take (need - 0) w)) 0 → length vs ≡ length (take (need - 0) w) → telling 0 some 0 (vs ++ drop (need - 0) w) ≡ teller none some gates given records w
      unfolding teller
      told_measured none some {vs} e l =
          let y : vs ++ drop (need - 0) w ≡ laid_over (replicate (work_size gates records) 0) w = part_laid (need - 0) w vs (omega (arith, work_inside)) l ∙ ap (λ (x : List ℕ). laid_over x w) (e ∙ ap (λ (i : ℕ). replicate i 0) measure_at.size) in
          rw (none_refused, teller, y)
