-- Coding the stages of a build changes neither their words nor how many cells they have. Assumes nothing.
use Prim.Native.Nat.{ℕ, suc, ◌+◌, ◌^◌}
use mathlib.Core.Path.{◌≡◌, refl, sym, ◌∙◌, ap}
use mathlib.Core.List.{List, [], ◌∷◌, ◌++◌}
use lib.ListN.{length, length-append, length-map}
use Rattle.rules.specs.Lists.{up_to}
use Rattle.rules.specs.Cells.{stage_size}
use Rattle.rules.specs.Graph.{Node}
use Rattle.rules.specs.Coded.{coded_at, coded}
use Rattle.rules.specs.Build.{Stage, cells_of, words_of, counts_of, coded_stages}
use Rattle.rules.proofs.Lists.Lengths.{length-up_to}
use Rattle.rules.proofs.Build.Lengths.{Sized}

module _ (K : ℕ) (g : List Node) where
  -- a coded stage has a cell a position
  pub length_coded : (pl : List ℕ) → length (coded K g pl) ≡ 2 ^ (K + 1)
  unfolding coded
  length_coded pl = length-map (up_to (stage_size K) 0) (coded_at K g pl) ∙ length-up_to (stage_size K) 0

  pub stages_coded : (ss : List Stage) → length (coded_stages K g ss) ≡ length ss
  unfolding coded_stages
  stages_coded [] = refl
  stages_coded (s ∷ ss) = ap suc (stages_coded ss)

  pub words_coded : (ss : List Stage) → words_of (coded_stages K g ss) ≡ words_of ss
  unfolding coded_stages words_of
  words_coded [] = refl
  words_coded (s ∷ ss) = ap (λ (ws : List ℕ). s.words ++ ws) (words_coded ss)

  pub counts_coded : (ss : List Stage) → counts_of (coded_stages K g ss) ≡ counts_of ss
  unfolding coded_stages counts_of
  counts_coded [] = refl
  counts_coded (s ∷ ss) = ap (λ (cs : List ℕ). length s.words ∷ cs) (counts_coded ss)

  pub sized_coded : (ss : List Stage) → Sized (2 ^ (K + 1)) (coded_stages K g ss)
  unfolding coded_stages
  sized_coded [] = tt
  sized_coded (s ∷ ss) = (length_coded s.plan, sized_coded ss)

  pub cells_coded : (ss : List Stage) → Sized (2 ^ (K + 1)) ss → length (cells_of (coded_stages K g ss)) ≡ length (cells_of ss)
  unfolding coded_stages cells_of
  cells_coded [] S = refl
  cells_coded (s ∷ ss) S =
      let e : length (coded K g s.plan) ≡ length s.plan = length_coded s.plan ∙ sym S.0 in
      length-append (coded K g s.plan) (cells_of (coded_stages K g ss)) ∙ rw (e, cells_coded ss S.1, length-append)
