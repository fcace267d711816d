-- What follows a build. Assumes nothing.
use Prim.Native.Nat.{ℕ, ◌≤◌}
use mathlib.Core.Path.{◌≡◌, refl, ◌∙◌, ap}
use mathlib.Core.Bool.{Bool, true, false}
use Rattle.rules.proofs.Lists.Members.{true_false}
use mathlib.Core.List.{List, ◌++◌}
use lib.ListN.{length, take, drop, replicate, length-replicate}
use Rattle.rules.specs.Lists.{laid_over}
use Rattle.rules.proofs.Lists.Parts.{part_laid}
use Rattle.replay_plan.specs.Runs.{RunOut}
use Rattle.replay.specs.Answers.{Finished}

-- a part of an area that is cleared
pub cleared : (k i : ℕ) (xs ys : List ℕ) → k ≤ length xs → length (take k xs) ≡ i → ys ≡ replicate (length (take k xs)) 0 → ys ++ drop k xs ≡ laid_over (replicate i 0) xs
cleared k i xs ys b e c = part_laid k xs ys b (ap length c ∙ length-replicate {A = ℕ} (length (take k xs)) 0) ∙ ap (λ (y : List ℕ). laid_over y xs) (c ∙ ap (λ (j : ℕ). replicate j 0) e)

module _ (whole : Bool) (gates records driven starting : List ℕ) (lines : ℕ) (recording work tape slots bits out end : List ℕ) where
  -- a refused build: the lists are cleared
  pub finished_refused : whole ≡ false → work ≡ replicate (length work) 0 → (t s b : List ℕ) → t ≡ replicate (length tape) 0 → s ≡ replicate (length slots) 0 → b ≡ replicate (length bits) 0 →
      Finished whole gates records driven starting lines recording work tape slots bits out end work t s b out end
  finished_refused n w t s b et es eb = record {
    work_cleared = w;
    tape_cleared = et;
    slots_cleared = es;
    bits_cleared = eb;
    out_kept = λ d. refl;
    end_kept = λ d. refl;
    out_bits = λ d. true_false d n;
    end_bits = λ d. true_false d n;
  }

  -- a whole plan: it is run, and all is cleared
  pub finished_run_lem : whole ≡ true → (w1 t1 s1 b1 o e : List ℕ) → RunOut gates records driven starting lines recording work tape slots bits out w1 t1 s1 b1 o e →
      (w t s b : List ℕ) → w ≡ replicate (length w1) 0 → t ≡ replicate (length t1) 0 → s ≡ replicate (length s1) 0 → b ≡ replicate (length b1) 0 →
      Finished whole gates records driven starting lines recording work tape slots bits out end w t s b o e
  finished_run_lem z w1 t1 s1 b1 o e R w t s b ew et es eb = record {
    work_cleared = ew ∙ ap (λ (n : ℕ). replicate n 0) R.work_kept;
    tape_cleared = et ∙ ap (λ (n : ℕ). replicate n 0) R.tape_kept;
    slots_cleared = es ∙ ap (λ (n : ℕ). replicate n 0) R.slots_kept;
    bits_cleared = eb ∙ ap (λ (n : ℕ). replicate n 0) R.bits_kept;
    out_kept = λ d. true_false z d;
    end_kept = λ d. true_false z d;
    out_bits = λ d. R.hands;
    end_bits = λ d. R.ends;
  }
