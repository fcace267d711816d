-- What can be seen of an idle run: nothing is untouched, every needed waiting pin is placed, and a sparse run is left over. Assumes nothing.
use Prim.Native.Nat.{ℕ, ◌+◌, ◌<◌}
use mathlib.Core.Path.{◌≡◌, refl, sym, ◌∙◌, ap}
use mathlib.Core.Logic.{◌↔◌}
use mathlib.Core.Bool.{Bool, true, false}
use mathlib.Core.List.{List, [], ◌∷◌}
use native.Mathlib.Nat.{zero-add}
use native.Mathlib.Omega.{arith}
use lib.ListN.{length, length-append}
use Rattle.rules.specs.Lists.{is_nil}
use Rattle.rules.specs.Cells.{row_at}
use Rattle.rules.specs.Graph.{Node}
use Rattle.rules.specs.Traversal.{every_run, needed_runs, Setting, setting}
use Rattle.rules.specs.Placing.{tree_of, filled_plan}
use Rattle.rules.specs.Ending.{Sparse, sparse_runs, Put, put_cells, put_run, allows, goes_on, put_runs, in_need, last_stage, written}
use Rattle.rules.proofs.Lists.Members.{split, true_false}
use Rattle.rules.proofs.Stage.Puts.{list}
use Rattle.rules.proofs.Written.Words.{cells_words}
use Rattle.rules.proofs.Stage.Same.{same_need, same_plan, same_run}
use Rattle.rules.proofs.Stage.Under.{old, new, Gaps, none, more, runs_gaps, no_gap, same_last}
use Rattle.word_rules.specs.Parting.{idle_from, idle, idle_stage}

-- ---- a run adds one word

module _ (X : Setting) where
  run_words : (r : Sparse) (s : Put) → length (put_run X r s).words ≡ length s.words + 1
  unfolding put_run
  run_words r s = length-append (put_cells X 32 (row_at X.K 1 + r.start) s).words _ ∙ ap (λ (ws : List ℕ). length ws + 1) (cells_words X 32 (row_at X.K 1 + r.start) s)

-- ---- idle runs

module _ (X : Setting) where
  seen_from : (last : Bool) {rs : List Sparse} → Gaps rs → (s : Put) →
      (idle_from (old X) last rs s ≡ true) ↔ ((last ≡ true) × ((put_runs (new X) last rs s).left ≡ []) × (length (put_runs (new X) last rs s).words < length s.words + length rs))
  unfolding put_runs goes_on allows idle_from is_nil
  seen_from last none s = (λ i. true_false i refl, λ h. absurd (omega (arith, h.2)))
  seen_from last (more {r = r} {rs = rs} h k) s = list s.left
      (λ e.
      let z : goes_on needed_runs last r.filled (length s.left) ≡ false = rw (e, goes_on, allows) in
      let l : is_nil s.left ≡ true = rw e in
      split (goes_on every_run last r.filled (length s.left))
      (λ b. rw (z, b, l, put_runs, idle_from) (λ i. (no_gap X last r.filled h (rw e at b), e, omega arith), λ i. refl))
      (λ b. rw (z, b, put_runs, idle_from) (λ i. true_false i refl, λ i. true_false (rw (i.0, goes_on, allows) refl) b)))
      (λ y ys e.
      let z : goes_on needed_runs last r.filled (length s.left) ≡ goes_on every_run last r.filled (length s.left) = rw (e, goes_on, allows) in
      let l : is_nil s.left ≡ false = rw e in
      split (goes_on every_run last r.filled (length s.left))
      (λ b. let t = seen_from last k (put_run (old X) r s) in
      let w = run_words (old X) r s in
      rw (z, b, l, same_run needed_runs (old X) r s, put_runs, idle_from) (λ i. let u = t.0 i in (u.0, u.1, omega (arith, u.2)), λ i. t.1 (i.0, i.1, omega (arith, i.2))))
      (λ b. rw (z, b, put_runs, idle_from) (λ i. true_false i refl, λ i. absurd (let c : y ∷ ys ≡ [] = sym e ∙ i.1 in omega (arith, ap length c)))))

  seen : (pl : List ℕ) → (idle (old X) pl ≡ true) ↔ ((last_stage (new X) pl ≡ true) × ((written (new X) pl).left ≡ []) × (length (written (new X) pl).words < length (sparse_runs X.K pl)))
  unfolding idle written in_need tree_of
  seen pl = rw (same_last X pl, same_need needed_runs (old X) pl) (rw zero-add at (seen_from (last_stage (old X) pl) (runs_gaps X.K pl) (record { plan = pl; left = in_need (old X) pl; real = []; words = [] })))

module _ (K : ℕ) (g : List Node) (done waiting : List ℕ) where
  -- the stage under the new rule
  abbrev N : Setting
  N = setting needed_runs K g done waiting

  -- the old rule writes an idle run exactly where, under the new one, nothing is untouched and every needed waiting pin is placed before the sparse runs end
  pub idle_seen : (idle_stage K g done waiting ≡ true) ↔ ((last_stage N (filled_plan N) ≡ true) × ((written N (filled_plan N)).left ≡ []) × (length (written N (filled_plan N)).words < length (sparse_runs K (filled_plan N))))
  unfolding idle_stage setting
  idle_seen = rw (same_plan needed_runs (setting every_run K g done waiting)) (seen (setting every_run K g done waiting) (filled_plan (setting every_run K g done waiting)))
