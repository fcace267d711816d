-- Mending twice changes nothing more. Assumes nothing.
use Prim.Native.Nat.{ℕ, suc, ◌≤◌}
use mathlib.Core.Path.{◌≡◌, refl, ◌∙◌, ap}
use mathlib.Core.List.{List, [], ◌∷◌}
use lib.ListN.{length, get_or}
use Rattle.rules.specs.Cells.{empty}
use Rattle.rules.specs.Graph.{Node}
use Rattle.rules.specs.Build.{Stage}
use Rattle.mending.specs.Mend.{Deed, deed, mended, fixing, mend_from, nothing_fixed, mend_stage, stop_after, mend_stages}
use Rattle.mending.proofs.Deeds.{mended_twice, same_deed}

module _ (K : ℕ) (g : List Node) (few : length g ≤ 65536) where
  again : (stop : List ℕ) (p : ℕ) (fx cs : List ℕ) → mend_from K g stop p fx (mend_from K g stop p fx cs) ≡ mend_from K g stop p fx cs
  unfolding mend_from
  again stop p fx [] = refl
  again stop p fx (c ∷ cs) =
      let d : Deed = deed K g stop p c (get_or fx p empty) in
      let e : deed K g stop p (mended d c) (get_or fx p empty) ≡ d = same_deed K g stop p c (get_or fx p empty) few in
      let rest : List ℕ = mend_from K g stop (suc p) (fixing p d fx) cs in
      (λ i. mended (e i) (mended d c) ∷ mend_from K g stop (suc p) (fixing p (e i) fx) rest)
      ∙ (λ i. mended_twice d c i ∷ again stop (suc p) (fixing p d fx) cs i)

  -- a mended stage mends to itself
  pub stage_twice : (stop cl : List ℕ) → mend_stage K g stop (mend_stage K g stop cl) ≡ mend_stage K g stop cl
  unfolding mend_stage
  stage_twice stop [] = refl
  stage_twice stop (c ∷ cs) = ap (λ (xs : List ℕ). c ∷ xs) (again stop 1 (nothing_fixed K) cs)

  -- and so do mended stages: the pins to stop at are those of the mended ones both times
  pub mending_twice : (stop : List ℕ) (ss : List Stage) → mend_stages K g stop (mend_stages K g stop ss) ≡ mend_stages K g stop ss
  unfolding mend_stages
  mending_twice stop [] = refl
  mending_twice stop (s ∷ ss) =
      let cl : List ℕ = mend_stage K g stop s.plan in
      let e : mend_stage K g stop cl ≡ cl = stage_twice stop s.plan in
      let next : List Stage = mend_stages K g (stop_after K cl stop) ss in
      (λ i. record { plan = e i; words = s.words } ∷ mend_stages K g (stop_after K (e i) stop) next)
      ∙ ap (λ (ts : List Stage). record { plan = cl; words = s.words } ∷ ts) (mending_twice (stop_after K cl stop) ss)
