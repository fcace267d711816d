-- Flip-flops, and outputs behind them, tested number by number. Assumes nothing.
use Prim.Native.Nat.{min, ℕ, zero, suc, ◌+◌, ◌-◌, ◌*◌, ◌≤◌, ◌<◌}
use mathlib.Core.Path.{◌≡◌, refl, sym, ap, ◌∙◌}
use mathlib.Core.Bool.{true, false, ◌&&◌}
use mathlib.Core.List.{List, [], ◌∷◌, ◌++◌, map}
use native.Mathlib.Omega.{arith}
use lib.Dec.{ltb, eqb}
use lib.ListN.{length, get_or, drop, length-drop}
use lib.Seq.{get_or-drop, drop-drop}
use borrow.Author.Tests.{lt-ltb, le-ltb, ltb-true, eq-eqb, ne_eqb, eqb-true}
use Rattle.rules.specs.Lists.{gather}
use Rattle.rules.specs.Records.{output, flip_flop, groups, size_of, group_at, whole_at, and_then, read}
use Rattle.rules.proofs.Lists.Members.{true_false, and_true}
use Rattle.records.proofs.Reading.{read_step, read_end}
use Rattle.aiger_form.proofs.Flat.{data_numbers, out_numbers}
use Rattle.aiger_write.specs.Jobs.{flip_at, output_at, outputs_only, shaped}

-- ---- the record at an index, from what the code tests

module _ (xs : List ℕ) (at : ℕ) where
  first : get_or (drop at xs) 0 0 ≡ get_or xs at 0
  first = get_or-drop at xs 0 0 ∙ ap (λ (i : ℕ). get_or xs i 0) (omega arith)

  -- fewer than three numbers are no flip-flop
  pub flip_short : length xs - at < 3 → false ≡ flip_at (drop at xs)
  unfolding flip_at
  flip_short h = rw (le-ltb 2 (length (drop at xs)) (omega (arith, length-drop at xs)))

  -- another kind is none
  pub flip_kind : (get_or xs at 0 ≡ 2 → ⊥) → 3 ≤ length xs - at → false ≡ flip_at (drop at xs)
  unfolding flip_at
  flip_kind k h = rw (lt-ltb 2 (length (drop at xs)) (omega (arith, length-drop at xs)), first, ne_eqb (get_or xs at 0) 2 k)

  -- the enable literal decides
  pub flip_enable : get_or xs at 0 ≡ 2 → 3 ≤ length xs - at → eqb (get_or xs (at + 1) 0) 1 ≡ flip_at (drop at xs)
  unfolding flip_at
  flip_enable k h = rw (lt-ltb 2 (length (drop at xs)) (omega (arith, length-drop at xs)), first, eq-eqb (get_or xs at 0) 2 k, get_or-drop at xs 1 0)

-- ---- record after record

flips_front : (n : ℕ) (xs : List ℕ) → shaped (suc n) xs ≡ flip_at xs && shaped n (drop 3 xs)
unfolding shaped flip_at
flips_front n [] = refl
flips_front n (k ∷ []) = refl
flips_front n (k ∷ e ∷ []) = refl
flips_front n (k ∷ e ∷ d ∷ xs) = rw (lt-ltb 2 (suc (suc (suc (length xs)))) (omega arith)) refl

flip_room : (xs : List ℕ) (at : ℕ) → flip_at (drop at xs) ≡ true → at + 3 ≤ length xs
unfolding flip_at
flip_room xs at t = omega (arith, length-drop at xs, ltb-true 2 (length (drop at xs)) (and_true (ltb 2 (length (drop at xs))) (eqb (get_or (drop at xs) 0 0) 2 && eqb (get_or (drop at xs) 1 0) 1) t).0)

-- the chunk of two in front, which is short where less is left
pub outputs_cut : (ys zs : List ℕ) → length ys ≡ min 2 (length (ys ++ zs)) → 0 < length (ys ++ zs) → outputs_only (ys ++ zs) ≡ output_at ys && outputs_only zs
unfolding outputs_only output_at
outputs_cut [] zs e h = absurd (omega arith)
outputs_cut (k ∷ []) [] e h = refl
outputs_cut (k ∷ []) (z ∷ zs) e h = absurd (omega arith)
outputs_cut (k ∷ l ∷ []) zs e h = refl
outputs_cut (k ∷ l ∷ m ∷ ys) zs e h = absurd (omega arith)

-- none is left
pub outputs_end : (xs : List ℕ) → length xs ≡ 0 → true ≡ outputs_only xs
unfolding outputs_only
outputs_end [] e = refl
outputs_end (x ∷ xs) e = absurd (omega arith)

-- i flip-flops stand in front, and so many are left
pub record Flips (n : ℕ) (xs : List ℕ) (i : ℕ) : Type 0 where
  pub inside : 3 * i ≤ length xs
  pub same : shaped n xs ≡ shaped (n - i) (drop (3 * i) xs)

-- at first none does
pub flips_start : (n : ℕ) (xs : List ℕ) → Flips n xs 0
flips_start n xs = let e : n - 0 ≡ n = omega arith in record { inside = omega arith; same = rw e }

flips_step : {n : ℕ} {xs : List ℕ} {i : ℕ} → Flips n xs i → i < n → shaped n xs ≡ flip_at (drop (3 * i) xs) && shaped (n - (i + 1)) (drop 3 (drop (3 * i) xs))
flips_step {n} {xs} {i} F h = let e : n - i ≡ suc (n - (i + 1)) = omega arith in F.same ∙ ap (λ (k : ℕ). shaped k (drop (3 * i) xs)) e ∙ flips_front (n - (i + 1)) (drop (3 * i) xs)

module _ {n : ℕ} {xs : List ℕ} {i : ℕ} (F : Flips n xs i) where
  -- something that is no flip-flop
  pub flips_none : i < n → flip_at (drop (3 * i) xs) ≡ false → false ≡ shaped n xs
  flips_none h f = sym (flips_step F h ∙ rw f refl)

  -- one flip-flop more
  pub flips_more : i < n → flip_at (drop (3 * i) xs) ≡ true → Flips n xs (i + 1)
  flips_more h t =
      let e : 3 * (i + 1) ≡ 3 * i + 3 = omega arith in
      record { inside = omega (arith, flip_room xs (3 * i) t); same = flips_step F h ∙ rw (t, drop-drop 3 (3 * i) xs, e) refl }

-- none is left: the outputs decide
pub flips_end : {n : ℕ} {xs : List ℕ} → Flips n xs n → outputs_only (drop (3 * n) xs) ≡ shaped n xs
unfolding shaped
flips_end {n} {xs} F = let e : n - n ≡ 0 = omega arith in sym (F.same ∙ ap (λ (k : ℕ). shaped k (drop (3 * n) xs)) e)

-- ---- and as lists

-- records with these data literals and outputs, number by number
abbrev pub flat : (ds os : List ℕ) → List ℕ
flat ds os = gather data_numbers ds ++ gather out_numbers os

pub record Flat (n : ℕ) (xs : List ℕ) : Type 0 where
  pub inputs : List ℕ
  pub outs : List ℕ
  pub same : xs ≡ flat inputs outs
  pub many : length inputs ≡ n

outs_flat : (xs : List ℕ) → outputs_only xs ≡ true → (os : List ℕ) × (xs ≡ gather out_numbers os)
unfolding outputs_only gather
outs_flat [] t = ([], refl)
outs_flat (k ∷ []) t = true_false t refl
outs_flat (k ∷ l ∷ xs) t =
    let w = and_true (eqb k 1) (outputs_only xs) t in
    let R = outs_flat xs w.1 in
    (l ∷ R.0, ap (λ (x : ℕ). x ∷ l ∷ xs) (eqb-true k 1 w.0) ∙ ap (λ (r : List ℕ). 1 ∷ l ∷ r) R.1)

-- numbers that pass the test are such records
pub shaped_flat : (n : ℕ) (xs : List ℕ) → shaped n xs ≡ true → Flat n xs
unfolding shaped gather
shaped_flat zero xs t = let R = outs_flat xs t in record { inputs = []; outs = R.0; same = R.1; many = refl }
shaped_flat (suc n) [] t = true_false t refl
shaped_flat (suc n) (k ∷ []) t = true_false t refl
shaped_flat (suc n) (k ∷ e ∷ []) t = true_false t refl
shaped_flat (suc n) (k ∷ e ∷ d ∷ xs) t =
    let w = and_true (eqb k 2 && eqb e 1) (shaped n xs) t in
    let v = and_true (eqb k 2) (eqb e 1) w.0 in
    let R = shaped_flat n xs w.1 in
    record {
      inputs = d ∷ R.inputs;
      outs = R.outs;
      same = ap (λ (x : ℕ). x ∷ e ∷ d ∷ xs) (eqb-true k 2 v.0) ∙ ap (λ (x : ℕ). 2 ∷ x ∷ d ∷ xs) (eqb-true e 1 v.1) ∙ ap (λ (r : List ℕ). 2 ∷ 1 ∷ d ∷ r) R.same;
      many = ap suc R.many;
    }

-- and such records pass
pub flat_shaped : (ds os : List ℕ) → shaped (length ds) (flat ds os) ≡ true
unfolding shaped outputs_only gather
flat_shaped [] [] = refl
flat_shaped [] (l ∷ os) = flat_shaped [] os
flat_shaped (d ∷ ds) os = flat_shaped ds os

read_flip : (d : ℕ) (xs : List ℕ) → read (2 ∷ 1 ∷ d ∷ xs) ≡ and_then (flip_flop 1 d) (read xs)
unfolding whole_at size_of group_at
read_flip d xs = read_step (2 ∷ 1 ∷ d ∷ xs) 0 (rw (lt-ltb 2 (suc (suc (suc (length xs)))) (omega arith)) refl)

read_output : (l : ℕ) (xs : List ℕ) → read (1 ∷ l ∷ xs) ≡ and_then (output l) (read xs)
unfolding whole_at size_of group_at
read_output l xs = read_step (1 ∷ l ∷ xs) 0 (rw (lt-ltb 1 (suc (suc (length xs))) (omega arith)) refl)

-- what they are read as
pub flat_read : (ds os : List ℕ) → read (flat ds os) ≡ groups (map (λ d. flip_flop 1 d) ds ++ map (λ l. output l) os)
unfolding gather and_then
flat_read [] [] = read_end [] 0 (omega arith)
flat_read [] (l ∷ os) = read_output l (flat [] os) ∙ rw (flat_read [] os) refl
flat_read (d ∷ ds) os = read_flip d (flat ds os) ∙ rw (flat_read ds os) refl

outs_length : (os : List ℕ) → length (gather out_numbers os) ≡ 2 * length os
unfolding gather
outs_length [] = refl
outs_length (l ∷ os) = omega (arith, outs_length os)

-- how many numbers they are
pub flat_length : (ds os : List ℕ) → length (flat ds os) ≡ 3 * length ds + 2 * length os
unfolding gather
flat_length [] os = omega (arith, outs_length os)
flat_length (d ∷ ds) os = omega (arith, flat_length ds os)

-- where a data literal stands
pub flat_data : (ds os : List ℕ) (i : ℕ) → i < length ds → get_or (flat ds os) (3 * i + 2) 0 ≡ get_or ds i 0
unfolding gather
flat_data [] os i h = absurd (omega arith)
flat_data (d ∷ ds) os zero h = refl
flat_data (d ∷ ds) os (suc i) h = let e : 3 * suc i + 2 ≡ suc (suc (suc (3 * i + 2))) = omega arith in rw e (flat_data ds os i (omega arith))

-- and an output's literal
pub flat_out : (ds os : List ℕ) (i : ℕ) → i < length os → get_or (flat ds os) (3 * length ds + 2 * i + 1) 0 ≡ get_or os i 0
unfolding gather
flat_out [] [] i h = absurd (omega arith)
flat_out [] (l ∷ os) zero h = refl
flat_out [] (l ∷ os) (suc i) h = let e : 3 * 0 + 2 * suc i + 1 ≡ suc (suc (3 * 0 + 2 * i + 1)) = omega arith in rw e (flat_out [] os i (omega arith))
flat_out (d ∷ ds) os i h = let e : 3 * suc (length ds) + 2 * i + 1 ≡ suc (suc (suc (3 * length ds + 2 * i + 1))) = omega arith in rw e (flat_out ds os i h)
