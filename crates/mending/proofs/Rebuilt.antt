-- The rebuilt plan, cut into stages again. Assumes nothing.
use Prim.Native.Nat.{ℕ, zero, suc, ◌+◌, ◌-◌, ◌*◌, ◌≤◌}
use mathlib.Core.Path.{◌≡◌, refl, sym, ◌∙◌, ap}
use mathlib.Core.List.{List, [], ◌∷◌, ◌++◌, append_assoc}
use native.Mathlib.Omega.{arith}
use lib.ListN.{length, get_or, take, drop, length-append, length-take, length-drop}
use lib.Seq.{take-append_seam, drop-append_seam}
use Rattle.rules.specs.Lists.{laid_over}
use Rattle.rules.specs.Cells.{empty, stage_size}
use Rattle.rules.specs.Graph.{Node, graph_of}
use Rattle.rules.specs.Build.{cells_of}
use Rattle.rules.specs.Faults.{cut}
use Rattle.mending.specs.Mend.{deed, fixing, mend_from, nothing_fixed, mend_stage, stop_after, mend_stages}
use Rattle.mending.specs.Call.{rebuilt}
use Rattle.mending.proofs.Twice.{mending_twice}

length_from : (K : ℕ) (g : List Node) (stop : List ℕ) (p : ℕ) (fx cs : List ℕ) → length (mend_from K g stop p fx cs) ≡ length cs
unfolding mend_from
length_from K g stop p fx [] = refl
length_from K g stop p fx (c ∷ cs) = ap suc (length_from K g stop (suc p) (fixing p (deed K g stop p c (get_or fx p empty)) fx) cs)

-- a mended stage has as many cells
pub length_mended : (K : ℕ) (g : List Node) (stop cl : List ℕ) → length (mend_stage K g stop cl) ≡ length cl
unfolding mend_stage
length_mended K g stop [] = refl
length_mended K g stop (c ∷ cs) = ap suc (length_from K g stop 1 (nothing_fixed K) cs)

module _ (K : ℕ) (g : List Node) where
  first_size : (n : ℕ) (stop plan : List ℕ) → suc n * stage_size K ≤ length plan → length (mend_stage K g stop (take (stage_size K) plan)) ≡ stage_size K
  first_size n stop plan h = length_mended K g stop (take (stage_size K) plan) ∙ length-take (stage_size K) plan ∙ omega arith

  rest_size : (n : ℕ) (plan : List ℕ) → suc n * stage_size K ≤ length plan → n * stage_size K ≤ length (drop (stage_size K) plan)
  rest_size n plan h = rw length-drop (omega arith)

  cut_mended : (n : ℕ) (stop plan words counts more : List ℕ) → n * stage_size K ≤ length plan →
      cut n K (cells_of (mend_stages K g stop (cut n K plan words counts)) ++ more) words counts ≡ mend_stages K g stop (cut n K plan words counts)
  unfolding cut mend_stages cells_of
  cut_mended zero stop plan words counts more h = refl
  cut_mended (suc n) stop plan words counts more h =
      let cl : List ℕ = mend_stage K g stop (take (stage_size K) plan) in
      let rest : List ℕ = cells_of (mend_stages K g (stop_after K cl stop) (cut n K (drop (stage_size K) plan) (drop (get_or counts 0 0) words) (drop 1 counts))) ++ more in
      let l : length cl ≡ stage_size K = first_size n stop plan h in
      let t : take (stage_size K) (cl ++ rest) ≡ cl = ap (λ (k : ℕ). take k (cl ++ rest)) (sym l) ∙ take-append_seam cl rest in
      let d : drop (stage_size K) (cl ++ rest) ≡ rest = ap (λ (k : ℕ). drop k (cl ++ rest)) (sym l) ∙ drop-append_seam cl rest in
      rw (append_assoc, t, d, cut_mended n (stop_after K cl stop) (drop (stage_size K) plan) (drop (get_or counts 0 0) words) (drop 1 counts) more (rest_size n plan h))

  cells_size : (n : ℕ) (stop plan words counts : List ℕ) → n * stage_size K ≤ length plan → length (cells_of (mend_stages K g stop (cut n K plan words counts))) ≡ n * stage_size K
  unfolding cut mend_stages cells_of
  cells_size zero stop plan words counts h = omega arith
  cells_size (suc n) stop plan words counts h =
      let cl : List ℕ = mend_stage K g stop (take (stage_size K) plan) in
      let rest : List ℕ = cells_of (mend_stages K g (stop_after K cl stop) (cut n K (drop (stage_size K) plan) (drop (get_or counts 0 0) words) (drop 1 counts))) in
      length-append cl rest ∙ omega (arith, first_size n stop plan h, cells_size n (stop_after K cl stop) (drop (stage_size K) plan) (drop (get_or counts 0 0) words) (drop 1 counts) (rest_size n plan h))

module _ (K : ℕ) (gates given plan words counts : List ℕ) (n : ℕ) (h : n * stage_size K ≤ length plan) where
  -- the stages of the rebuilt plan are the mended stages
  pub rebuilt_stages : cut n K (rebuilt K gates given plan words counts n) words counts ≡ mend_stages K (graph_of gates) given (cut n K plan words counts)
  unfolding rebuilt laid_over
  rebuilt_stages = cut_mended K (graph_of gates) n given plan words counts _ h

  -- a plan keeps its length
  pub rebuilt_size : length (rebuilt K gates given plan words counts n) ≡ length plan
  unfolding rebuilt laid_over
  rebuilt_size =
      let cells : List ℕ = cells_of (mend_stages K (graph_of gates) given (cut n K plan words counts)) in
      length-append cells (drop (length cells) plan) ∙ omega (arith, length-drop (length cells) plan, cells_size K (graph_of gates) n given plan words counts h)

  -- rebuilding twice changes nothing more
  pub rebuilt_twice : length (graph_of gates) ≤ 65536 → rebuilt K gates given (rebuilt K gates given plan words counts n) words counts n ≡ rebuilt K gates given plan words counts n
  unfolding rebuilt laid_over
  rebuilt_twice count =
      let cells : List ℕ = cells_of (mend_stages K (graph_of gates) given (cut n K plan words counts)) in
      let new : List ℕ = cells ++ drop (length cells) plan in
      let e : cells_of (mend_stages K (graph_of gates) given (cut n K new words counts)) ≡ cells =
      ap cells_of (ap (mend_stages K (graph_of gates) given) (cut_mended K (graph_of gates) n given plan words counts (drop (length cells) plan) h) ∙ mending_twice K (graph_of gates) count given (cut n K plan words counts)) in
      (λ i. e i ++ drop (length (e i)) new) ∙ ap (λ (xs : List ℕ). cells ++ xs) (drop-append_seam cells (drop (length cells) plan))
