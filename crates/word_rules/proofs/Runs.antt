-- Rule 8 under both word rules: the same cells, and the same words unless the old one writes an idle run. Assumes nothing.
use Prim.Native.Nat.{◌+◌, ◌≤◌, ◌<◌}
use mathlib.Core.Path.{◌≡◌, refl, ◌∙◌, ap}
use mathlib.Core.Bool.{Bool, true, false}
use mathlib.Core.List.{List, [], ◌∷◌}
use native.Mathlib.Omega.{arith}
use lib.ListN.{length, length-append}
use Rattle.rules.specs.Lists.{is_nil}
use Rattle.rules.specs.Cells.{row_at}
use Rattle.rules.specs.Traversal.{every_run, needed_runs, Setting}
use Rattle.rules.specs.Ending.{Sparse, Put, put_cells, put_run, allows, goes_on, put_runs}
use Rattle.rules.proofs.Lists.Members.{split, true_false}
use Rattle.rules.proofs.Stage.Puts.{list}
use Rattle.rules.proofs.Stage.Branches.{cells_idle}
use Rattle.rules.proofs.Stage.Same.{same_run}
use Rattle.rules.proofs.Stage.Under.{old, new}
use Rattle.word_rules.specs.Parting.{idle_from}

-- what the old rule leaves (t) beside what the new one leaves (s): only words may be more, and are exactly where a run is idle
pub record Beside (idles : Bool) (s t : Put) : Type 0 where
  pub plan : t.plan ≡ s.plan
  pub left : t.left ≡ s.left
  pub real : t.real ≡ s.real
  pub words : idles ≡ false → t.words ≡ s.words
  pub more : idles ≡ true → (length s.words < length t.words) × (s.left ≡ [])

same_put : (s : Put) → Beside false s s
same_put s = record { plan = refl; left = refl; real = refl; words = λ h. refl; more = λ h. true_false h refl }

module _ (X : Setting) where
  stops : (last : Bool) (rs : List Sparse) (s : Put) → s.left ≡ [] → put_runs (new X) last rs s ≡ s
  unfolding put_runs goes_on allows
  stops last [] s e = refl
  stops last (r ∷ rs) s e = let z : goes_on needed_runs last r.filled (length s.left) ≡ false = rw (e, goes_on, allows) in rw (z, put_runs)

  pub beside : (last : Bool) (rs : List Sparse) (s : Put) → Beside (idle_from (old X) last rs s) (put_runs (new X) last rs s) (put_runs (old X) last rs s)
  unfolding put_runs put_run goes_on allows idle_from is_nil
  beside last [] s = same_put s
  beside last (r ∷ rs) s = list s.left
      (λ e.
      let z : goes_on needed_runs last r.filled (length s.left) ≡ false = rw (e, goes_on, allows) in
      let l : is_nil s.left ≡ true = rw e in
      split (goes_on every_run last r.filled (length s.left))
      (λ b.
      let i : put_cells (old X) 32 (row_at X.K 1 + r.start) s ≡ s = cells_idle (old X) 32 (row_at X.K 1 + r.start) s e in
      let t : Put = put_run (old X) r s in
      let n : put_runs (new X) last rs t ≡ t = stops last rs t (rw i e) in
      let h = rw n at (beside last rs t) in
      let w : length t.words ≡ length s.words + 1 = rw i (length-append s.words _) in
      let v : length t.words ≤ length (put_runs (old X) last rs t).words = split (idle_from (old X) last rs t) (λ a. omega (arith, (h.more a).0)) (λ a. omega (arith, ap length (h.words a))) in
      rw (z, b, l, put_runs, idle_from) (record { plan = h.plan ∙ rw i; left = h.left ∙ rw i; real = h.real ∙ rw i; words = λ a. true_false refl a; more = λ a. (omega arith, e) }))
      (λ b. rw (z, b, put_runs, idle_from) (same_put s)))
      (λ y ys e.
      let z : goes_on needed_runs last r.filled (length s.left) ≡ goes_on every_run last r.filled (length s.left) = rw (e, goes_on, allows) in
      let l : is_nil s.left ≡ false = rw e in
      split (goes_on every_run last r.filled (length s.left))
      (λ b. rw (z, b, l, same_run needed_runs (old X) r s, put_runs, idle_from) (beside last rs (put_run (old X) r s)))
      (λ b. rw (z, b, put_runs, idle_from) (same_put s)))
