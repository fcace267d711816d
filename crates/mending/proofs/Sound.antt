-- Stages whose cells do what their levels say: the rebuild leaves them as they are, and gives them back from the tops of their trees. Assumes nothing.
use Prim.Native.Nat.{ℕ, suc, ◌+◌, ◌^◌, ◌≤◌, ◌<◌}
use mathlib.Core.Path.{◌≡◌, refl, sym, ◌∙◌, ap}
use mathlib.Core.Bool.{true, false}
use mathlib.Core.List.{List, [], ◌∷◌, ◌++◌}
use native.Mathlib.Omega.{arith}
use lib.Pow.{pow_pos}
use lib.ListN.{length, get_or, take, drop, length-append, length-take, length-drop, get_or-append}
use lib.Seq.{get_or-take, get_or-drop, get_or-append-add}
use Rattle.rules.specs.Cells.{empty, filled}
use Rattle.rules.specs.Graph.{Node}
use Rattle.rules.specs.Loops.{Valid}
use Rattle.rules.specs.Coded.{cell_pin}
use Rattle.rules.specs.Build.{Stage, cells_of}
use Rattle.rules.specs.Faults.{cut}
use Rattle.rules.proofs.Lists.Members.{split}
use Rattle.rules.proofs.Build.Above.{Above}
use Rattle.coded.proofs.Cells.{filled_pin}
use Rattle.coded.proofs.Coding.{not_filled}
use Rattle.mending.specs.Mend.{pin_deed, deed, mended, fixing, fixed_from, nothing_fixed, mend_stage, fixed_stage, stop_after, mend_stages}
use Rattle.mending.specs.Damage.{fixed_pins}
use Rattle.mending.proofs.Deeds.{graph_in, rewrites}
use Rattle.mending.proofs.Fixed.{Fits, Alike, stages_agree}
use Rattle.mending.proofs.Settled.{Settled, settled_stage}

-- something fixed, or nothing, a cell
length_fixing : (K : ℕ) (g : List Node) (stop : List ℕ) (p : ℕ) (fx cs : List ℕ) → length (fixed_from K g stop p fx cs) ≡ length cs
unfolding fixed_from
length_fixing K g stop p fx [] = refl
length_fixing K g stop p fx (c ∷ cs) = ap suc (length_fixing K g stop (suc p) (fixing p (deed K g stop p c (get_or fx p empty)) fx) cs)

-- and so in a stage
pub length_fixed : (K : ℕ) (g : List Node) (stop cl : List ℕ) → length (fixed_stage K g stop cl) ≡ length cl
unfolding fixed_stage
length_fixed K g stop [] = refl
length_fixed K g stop (c ∷ cs) = ap suc (length_fixing K g stop 1 (nothing_fixed K) cs)

-- and in a plan
pub length_pins : (K : ℕ) (g : List Node) (stop : List ℕ) (ss : List Stage) → length (fixed_pins K g stop ss) ≡ length (cells_of ss)
unfolding fixed_pins cells_of
length_pins K g stop [] = refl
length_pins K g stop (s ∷ ss) = length-append (fixed_stage K g stop s.plan) (fixed_pins K g (stop_after K s.plan stop) ss)
    ∙ omega (arith, length_fixed K g stop s.plan, length_pins K g (stop_after K s.plan stop) ss, length-append s.plan (cells_of ss))

module _ (K : ℕ) (g : List Node) (ok : Valid g) (A : Above g) where
  -- a stage whose cells are settled, with pins that fit
  pub record SoundStage (stop cl : List ℕ) : Type 0 where
    pub size : length cl ≡ 2 ^ (K + 1)
    pub settled : (q : ℕ) → 1 ≤ q → q < 2 ^ (K + 1) → Settled K g stop cl q
    pub fit : (q : ℕ) → 1 ≤ q → q < 2 ^ (K + 1) → filled (get_or cl q empty) ≡ true → Fits K g ok A stop q (cell_pin (get_or cl q empty))
    pub zeroth : filled (get_or cl 0 empty) ≡ false

  -- and every stage in turn
  abbrev pub AllSound : List ℕ → List Stage → Type 0
  AllSound stop [] = Unit {0}
  AllSound stop (s ∷ ss) = SoundStage stop s.plan × AllSound (stop_after K s.plan stop) ss

  stage_kept : (stop cl : List ℕ) → SoundStage stop cl → mend_stage K g stop cl ≡ cl
  stage_kept stop cl s = settled_stage K g stop cl (omega (arith, s.size)) s.settled

  -- stages that are sound are left as they are
  pub kept : (stop : List ℕ) (ss : List Stage) → AllSound stop ss → mend_stages K g stop ss ≡ ss
  unfolding mend_stages
  kept stop [] S = refl
  kept stop (s ∷ ss) S =
      let e : mend_stage K g stop s.plan ≡ s.plan = stage_kept stop s.plan S.0 in
      (λ i. record { plan = e i; words = s.words } ∷ mend_stages K g (stop_after K (e i) stop) ss) ∙ ap (λ (us : List Stage). s ∷ us) (kept (stop_after K s.plan stop) ss S.1)

  -- ---- damage

  stage_recovered : (stop cl ds : List ℕ) → SoundStage stop cl → length ds ≡ length cl →
      ((q : ℕ) → q < length cl → filled (get_or (fixed_stage K g stop cl) q empty) ≡ false → cell_pin (get_or ds q empty) ≡ cell_pin (get_or cl q empty)) → mend_stage K g stop ds ≡ cl
  unfolding fixed_stage
  stage_recovered stop cl ds S l tops = stages_agree K g ok A stop cl ds (omega (arith, S.size)) l zero_same alike ∙ stage_kept stop cl S
    where
      empty_same : (q : ℕ) → filled (get_or cl q empty) ≡ false → cell_pin (get_or ds q empty) ≡ cell_pin (get_or cl q empty) → get_or ds q empty ≡ get_or cl q empty
      empty_same q k e = not_filled (get_or ds q empty) (sym (filled_pin (get_or ds q empty)) ∙ ap filled e ∙ filled_pin (get_or cl q empty) ∙ k) ∙ sym (not_filled (get_or cl q empty) k)

      top_free : (xs : List ℕ) → filled (get_or (fixed_stage K g stop xs) 0 empty) ≡ filled empty
      top_free [] = refl
      top_free (x ∷ xs) = refl

      zero_same : get_or ds 0 empty ≡ get_or cl 0 empty
      zero_same = empty_same 0 S.zeroth (tops 0 (omega (arith, S.size, pow_pos (K + 1))) (top_free cl ∙ ap filled (sym (not_filled (get_or cl 0 empty) S.zeroth)) ∙ S.zeroth))

      alike : (q : ℕ) → 1 ≤ q → q < length cl → filled (get_or (fixed_stage K g stop cl) q empty) ≡ false → Alike K g ok A stop q (get_or cl q empty) (get_or ds q empty)
      alike q a b f =
          let e : cell_pin (get_or ds q empty) ≡ cell_pin (get_or cl q empty) = tops q b f in
          record {
            pin = e;
            cell = split (filled (get_or cl q empty))
                (λ k. let F = S.fit q a (omega (arith, S.size)) k in rewrites K g stop q (cell_pin (get_or cl q empty)) (graph_in g (cell_pin (get_or cl q empty)) F.above F.below) F.level (get_or ds q empty) (get_or cl q empty))
                (λ k. ap (mended (pin_deed K g stop q (cell_pin (get_or cl q empty)))) (empty_same q k e));
          }

  -- the stages of a plan area come back from the pins at the places that no cell above fixes, whatever words and counts say
  pub recovered : (stop : List ℕ) (ss : List Stage) (bad words counts : List ℕ) → AllSound stop ss → length (cells_of ss) ≤ length bad →
      ((i : ℕ) → i < length (cells_of ss) → filled (get_or (fixed_pins K g stop ss) i empty) ≡ false → cell_pin (get_or bad i empty) ≡ cell_pin (get_or (cells_of ss) i empty)) →
      cells_of (mend_stages K g stop (cut (length ss) K bad words counts)) ≡ cells_of ss
  unfolding mend_stages cut cells_of fixed_pins
  recovered stop [] bad words counts S l tops = refl
  recovered stop (s ∷ ss) bad words counts S l tops =
      let cl : List ℕ = s.plan in
      let rest : List ℕ = cells_of ss in
      let fx : List ℕ = fixed_stage K g stop cl in
      let behind : List ℕ = fixed_pins K g (stop_after K cl stop) ss in
      let n : ℕ = 2 ^ (K + 1) in
      let whole : length (cl ++ rest) ≡ n + length rest = length-append cl rest ∙ omega (arith, S.0.size) in
      let fixed : length fx ≡ n = length_fixed K g stop cl ∙ S.0.size in
      let e : mend_stage K g stop (take n bad) ≡ cl = stage_recovered stop cl (take n bad) S.0 (length-take n bad ∙ omega (arith, S.0.size))
      (λ q h f.
      let b : q < n = omega (arith, S.0.size) in
      ap cell_pin (get_or-take n bad q empty b) ∙ tops q (omega arith) (ap filled (get_or-append fx behind empty q (omega arith)) ∙ f) ∙ ap cell_pin (get_or-append cl rest empty q h)) in
      (λ i. e i ++ cells_of (mend_stages K g (stop_after K (e i) stop) (cut (length ss) K (drop n bad) (drop (get_or counts 0 0) words) (drop 1 counts))))
      ∙ ap (λ (xs : List ℕ). cl ++ xs) (recovered (stop_after K cl stop) ss (drop n bad) (drop (get_or counts 0 0) words) (drop 1 counts) S.1 (rw length-drop (omega arith))
      (λ i h f.
      let y : n + i ≡ length cl + i = omega (arith, S.0.size) in
      let z : n + i ≡ length fx + i = omega arith in
      ap cell_pin (get_or-drop n bad i empty)
      ∙ tops (n + i) (omega arith) (ap filled (ap (λ (u : ℕ). get_or (fx ++ behind) u empty) z ∙ get_or-append-add fx behind i empty) ∙ f)
      ∙ ap cell_pin (ap (λ (u : ℕ). get_or (cl ++ rest) u empty) y ∙ get_or-append-add cl rest i empty)))
