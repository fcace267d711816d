-- On plans that the placer builds, folding the coded cells with the same bits gives the same result, and decoding gives the plan. Assumes nothing.
use Prim.Native.Nat.{ℕ, zero, suc, ◌+◌, ◌-◌, ◌*◌, ◌^◌, ◌≤◌, ◌<◌}
use mathlib.Core.Path.{◌≡◌, refl, sym, ◌∙◌, ap}
use mathlib.Core.Bool.{Bool}
use mathlib.Core.List.{List, [], ◌∷◌, ◌++◌, map, append_assoc}
use native.Mathlib.Omega.{arith}
use native.Mathlib.Nat.{le-div_iff_mul-le}
use lib.Pow.{pow_pos}
use lib.ListN.{length, get_or, take, drop, replicate, length-append}
use lib.Seq.{take-append_seam, drop-append_seam}
use Rattle.rules.specs.Lists.{padded, up_to}
use Rattle.rules.specs.Cells.{filled, empty, stage_size, rooms}
use Rattle.rules.specs.Graph.{Node, pin_count, own_bit}
use Rattle.rules.specs.Traversal.{WordRule}
use Rattle.rules.specs.Build.{Stage, whole, cells_of, coded_stages}
use Rattle.rules.specs.Fold.{bit_at, first_load, load_from, as_number, stage_bits, fold_from, fold_bits}
use Rattle.rules.proofs.Lists.Members.{split}
use Rattle.rules.proofs.Stage.Runs.{Blank, blank_take, blank_drop}
use Rattle.rules.proofs.Stage.Flat.{blank_replicate}
use Rattle.rules.proofs.Build.Lengths.{length_padded}
use Rattle.rules.proofs.Fold.Whole.{above_zero}
use Rattle.rules.proofs.Fold.Flat.{value_take}
use Rattle.rules.specs.Loops.{Valid}
use Rattle.rules.proofs.Demand.{Right, whole_right, whole_sizes}
use Rattle.coded.specs.Inputs.{Input, graph, groups, built}
use Rattle.coded.proofs.Passing.{tall, small, few, valid, named, counted}
use Rattle.rules.specs.Coded.{cell_pin, coded, pins, bit_of, load_of, cell_bits, fold_stages, fold_cells}
use Rattle.rules.specs.Faults.{first_may}
use Rattle.coded.proofs.Cells.{pin_empty}
use Rattle.coded.proofs.Bits.{bit_empty}
use Rattle.coded.proofs.Sound.{val, first_right}
use Rattle.coded.proofs.Stages.{Folded, all_folded}
use Rattle.coded.proofs.Reading.{accepted_parts}
use Rattle.coded.proofs.Shapes.{Shape, Shapes}
use Rattle.rules.proofs.Build.Coding.{length_coded}
use Rattle.coded.proofs.Coding.{pins_coded, pin_is, filled_same}
use Rattle.coded.proofs.Complete.{built_shapes, built_right}
use Rattle.rules.proofs.Fold.Bits as old

map-up_to : (f h : ℕ → ℕ) (n i : ℕ) → ((p : ℕ) → i ≤ p → p < i + n → f p ≡ h p) → map f (up_to n i) ≡ map h (up_to n i)
unfolding up_to
map-up_to f h zero i e = refl
map-up_to f h (suc n) i e = λ j. e i (omega arith) (omega arith) j ∷ map-up_to f h n (suc i) (λ p a b. e p (omega arith) (omega arith)) j

-- ---- stages of empty cells

module _ (K : ℕ) (g : List Node) where
  blank_bits : (load load' : ℕ → Bool) (pl : List ℕ) → Blank pl → cell_bits K pl load' ≡ stage_bits K g pl load
  unfolding cell_bits stage_bits
  blank_bits load load' pl b = map-up_to (λ p. as_number (bit_of K pl load' p)) (λ p. as_number (bit_at K g pl load p)) (stage_size K) 0
      (λ p x y. ap as_number (bit_empty K pl load' p (b p) ∙ sym (old.bit_empty K g pl load p (b p))))

  blank_fold : (n : ℕ) (load load' : ℕ → Bool) (pl : List ℕ) → Blank pl → fold_stages n K load' pl ≡ fold_from n K g load pl
  unfolding fold_stages fold_from
  blank_fold zero load load' pl b = refl
  blank_fold (suc n) load load' pl b = λ j.
      blank_bits load load' (take (stage_size K) pl) (blank_take (stage_size K) pl b) j
      ++ blank_fold n (load_from K g (take (stage_size K) pl) load) (load_of K (take (stage_size K) pl) load') (drop (stage_size K) pl) (blank_drop (stage_size K) pl b) j

-- ---- stages of a build

module _ (K : ℕ) (g : List Node) (ok : Valid g) (count : length g ≤ 65536) (given bits : List ℕ) (m : ℕ) (all : length g ≤ m) where
  same_bits : (load load' : ℕ → Bool) (held held' : ℕ → Type 0) (room : ℕ) (s : Stage) (ss : List Stage) → Right K g given (take m bits) load held (s ∷ ss) →
      Folded K g ok count given bits load' (coded_stages K g (s ∷ ss)) → Shape K g given held' room s → cell_bits K (coded K g s.plan) load' ≡ stage_bits K g s.plan load
  unfolding cell_bits stage_bits coded_stages
  same_bits load load' held held' room s ss R F H = map-up_to (λ p. as_number (bit_of K (coded K g s.plan) load' p)) (λ p. as_number (bit_at K g s.plan load p)) (stage_size K) 0
      (λ p x y. ap as_number (split (filled (get_or s.plan p empty))
      (λ k.
      let a : 1 ≤ p = above_zero s.plan p (get_or s.plan p empty) H.zeroth refl k in
      let b : p < 2 ^ (K + 1) = omega arith in
      F.0 p a b (filled_same K g ok count given held' room s H p ∙ k) ∙ ap (val K g ok count given bits) (pin_is K g ok count given held' room s H p)
      ∙ sym (value_take g ok given bits m all (length g) (get_or s.plan p empty) (omega (arith, all, (H.names p k).1))) ∙ sym (R.0.folds p a b k))
      (λ k. bit_empty K (coded K g s.plan) load' p (filled_same K g ok count given held' room s H p ∙ k) ∙ sym (old.bit_empty K g s.plan load p k))))

  module _ (s : Stage) (l : length s.plan ≡ 2 ^ (K + 1)) (more more' : List ℕ) (n : ℕ) where
    old_step : (load : ℕ → Bool) → fold_from (suc n) K g load (s.plan ++ more) ≡ stage_bits K g s.plan load ++ fold_from n K g (load_from K g s.plan load) more
    unfolding fold_from
    old_step load =
        let t : take (2 ^ (K + 1)) (s.plan ++ more) ≡ s.plan = ap (λ (k : ℕ). take k (s.plan ++ more)) (sym l) ∙ take-append_seam s.plan more in
        let d : drop (2 ^ (K + 1)) (s.plan ++ more) ≡ more = ap (λ (k : ℕ). drop k (s.plan ++ more)) (sym l) ∙ drop-append_seam s.plan more in
        rw (t, d)

    new_step : (load : ℕ → Bool) → fold_stages (suc n) K load (coded K g s.plan ++ more') ≡ cell_bits K (coded K g s.plan) load ++ fold_stages n K (load_of K (coded K g s.plan) load) more'
    unfolding fold_stages
    new_step load =
        let cl : List ℕ = coded K g s.plan in
        let z : length cl ≡ 2 ^ (K + 1) = length_coded K g s.plan in
        let t : take (2 ^ (K + 1)) (cl ++ more') ≡ cl = ap (λ (k : ℕ). take k (cl ++ more')) (sym z) ∙ take-append_seam cl more' in
        let d : drop (2 ^ (K + 1)) (cl ++ more') ≡ more' = ap (λ (k : ℕ). drop k (cl ++ more')) (sym z) ∙ drop-append_seam cl more' in
        rw (t, d)

  same_fold : (ss : List Stage) (load load' : ℕ → Bool) (held held' : ℕ → Type 0) (room : ℕ) → Right K g given (take m bits) load held ss → Folded K g ok count given bits load' (coded_stages K g ss) → Shapes K g given held' room ss →
      (n : ℕ) → length ss ≤ n → (more : List ℕ) → Blank more → fold_stages n K load' (cells_of (coded_stages K g ss) ++ more) ≡ fold_from n K g load (cells_of ss ++ more)
  unfolding coded_stages cells_of
  same_fold [] load load' held held' room R F H n h more b = blank_fold K g n load load' more b
  same_fold (s ∷ ss) load load' held held' room R F H zero h more b = absurd (omega arith)
  same_fold (s ∷ ss) load load' held held' room R F H (suc n) h more b =
      ap (fold_stages (suc n) K load') (append_assoc (coded K g s.plan) (cells_of (coded_stages K g ss)) more)
      ∙ new_step s H.0.size [] (cells_of (coded_stages K g ss) ++ more) n load'
      ∙ (λ j. same_bits load load' held held' room s ss R F H.0 j
      ++ same_fold ss (load_from K g s.plan load) (load_of K (coded K g s.plan) load') _ _ _ R.1 F.2 H.1 n (omega arith) more b j)
      ∙ sym (old_step s H.0.size (cells_of ss ++ more) [] n load)
      ∙ ap (fold_from (suc n) K g load) (sym (append_assoc s.plan (cells_of ss) more))

  -- ---- lengths, and pins

  same_length : (ss : List Stage) (held : ℕ → Type 0) (room : ℕ) → Shapes K g given held room ss → length (cells_of (coded_stages K g ss)) ≡ length (cells_of ss)
  unfolding coded_stages cells_of
  same_length [] held room H = refl
  same_length (s ∷ ss) held room H =
      length-append (coded K g s.plan) (cells_of (coded_stages K g ss))
      ∙ (let e : length (coded K g s.plan) ≡ length s.plan = length_coded K g s.plan ∙ sym H.0.size in rw (e, same_length ss _ _ H.1, length-append))

  pins_append : (xs ys : List ℕ) → pins (xs ++ ys) ≡ pins xs ++ pins ys
  unfolding pins
  pins_append [] ys = refl
  pins_append (x ∷ xs) ys = ap (λ (zs : List ℕ). cell_pin x ∷ zs) (pins_append xs ys)

  pins_blank : (n : ℕ) → pins (replicate n empty) ≡ replicate n empty
  unfolding pins filled empty
  pins_blank zero = refl
  pins_blank (suc n) = λ j. pin_empty empty refl j ∷ pins_blank n j

  pins_all : (ss : List Stage) (held : ℕ → Type 0) (room : ℕ) → Shapes K g given held room ss → pins (cells_of (coded_stages K g ss)) ≡ cells_of ss
  unfolding coded_stages cells_of pins
  pins_all [] held room H = refl
  pins_all (s ∷ ss) held room H = pins_append (coded K g s.plan) (cells_of (coded_stages K g ss)) ∙ (λ j. pins_coded K g ok count given held room s H.0 j ++ pins_all ss _ _ H.1 j)

-- ---- the theorems

module _ (rule : WordRule) (I : Input) (L : ℕ) (ss : List Stage) (e : built rule I (rooms I.K L) ≡ whole ss) where
  fewer : length ss ≤ rooms I.K L
  fewer = (whole_sizes rule I.K (graph I) (valid I) (tall I) (small I) I.given [] (groups I) (named I) (rooms I.K L) ss e).few

  cells_fit : length (cells_of ss) ≤ L
  unfolding rooms
  cells_fit =
      let c : length (cells_of ss) ≡ length ss * 2 ^ (I.K + 1) = (whole_sizes rule I.K (graph I) (valid I) (tall I) (small I) I.given [] (groups I) (named I) (rooms I.K L) ss e).cells in
      omega (arith, (le-div_iff_mul-le (pow_pos (I.K + 1))).0 fewer)

  lengths : length (cells_of (coded_stages I.K (graph I) ss)) ≡ length (cells_of ss)
  lengths = same_length I.K (graph I) (valid I) (few I) I.given [] (length (graph I)) (omega arith) ss _ _ (built_shapes rule I (rooms I.K L) ss e)

  -- Decoding the pins of the coded plan gives the plan.
  pub decoded : pins (padded L empty (cells_of (coded_stages I.K (graph I) ss))) ≡ padded L empty (cells_of ss)
  unfolding padded
  decoded =
      let z : length (graph I) ≤ length (graph I) = omega arith in
      pins_append I.K (graph I) (valid I) (few I) I.given [] (length (graph I)) z (cells_of (coded_stages I.K (graph I) ss)) (replicate (L - length (cells_of (coded_stages I.K (graph I) ss))) empty)
      ∙ (λ j. pins_all I.K (graph I) (valid I) (few I) I.given [] (length (graph I)) z ss _ _ (built_shapes rule I (rooms I.K L) ss e) j
      ++ pins_blank I.K (graph I) (valid I) (few I) I.given [] (length (graph I)) z (L - length (cells_of (coded_stages I.K (graph I) ss))) j)
      ∙ ap (λ (k : ℕ). cells_of ss ++ replicate (L - k) empty) lengths

  -- On a plan that the placer builds, the fold of its coded cells needs the bits alone and gives the same result, at all positions.
  pub same_result : (bits : List ℕ) → fold_cells I.K (padded L empty (cells_of (coded_stages I.K (graph I) ss))) bits ≡ fold_bits I.K (padded L empty (cells_of ss)) I.gates I.given bits
  unfolding fold_cells fold_bits padded
  same_result bits =
      let m : ℕ = pin_count I.gates in
      let c : length (graph I) ≤ m = omega (arith, counted I) in
      let R = whole_right rule I.K (graph I) (valid I) (tall I) (small I) I.given (take m bits) (groups I) (named I) (rooms I.K L) ss e in
      let F : Folded I.K (graph I) (valid I) (few I) I.given bits (own_bit bits) (coded_stages I.K (graph I) ss) =
      all_folded I.K (graph I) (valid I) (few I) I.given bits (first_may (graph I) I.given) (own_bit bits) (first_right I.K (graph I) (valid I) (few I) I.given bits) _ 1 _
      (accepted_parts I.K (graph I) I.given (groups I) (coded_stages I.K (graph I) ss) (built_right rule I (rooms I.K L) ss e)).0 in
      rw (length_padded L empty (cells_of ss) cells_fit, length_padded L empty (cells_of (coded_stages I.K (graph I) ss)) (omega (arith, lengths, cells_fit)), lengths)
      (same_fold I.K (graph I) (valid I) (few I) I.given bits m c ss (first_load (graph I) I.given (take m bits)) (own_bit bits) _ _ _ R F (built_shapes rule I (rooms I.K L) ss e)
      (rooms I.K L) fewer (replicate (L - length (cells_of ss)) empty) (blank_replicate (L - length (cells_of ss))))
