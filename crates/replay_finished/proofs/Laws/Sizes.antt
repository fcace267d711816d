-- Sizes taken off step by step. Assumes nothing.
use Prim.Native.Nat.{ℕ, ◌+◌, ◌-◌, ◌*◌, ◌/◌, ◌^◌, ◌≤◌, ◌<◌}
use mathlib.Core.Path.{◌≡◌, sym, ◌∙◌, ap}
use mathlib.Core.Bool.{Bool, true, false, ◌&&◌}
use mathlib.Core.List.{List}
use native.Mathlib.Omega.{arith}
use native.Mathlib.Nat.{mul-le-mul_right, div-mul-le_self}
use lib.Dec.{leb}
use lib.ListN.{length}
use borrow.Author.Tests.{le-leb, lt-leb, leb-true, leb-false}
use Rattle.rules.specs.Cells.{is_height, rooms}
use Rattle.rules.specs.Graph.{pin_count}
use Rattle.rules.specs.Checks.{plan_sized}
use Rattle.rules.proofs.Lists.Members.{split, and_true}
use Rattle.cells.specs.Answers.{or_zero}
use Rattle.fold.proofs.Laws.Stages.{size_there}
use Rattle.replay.specs.Sizes.{lists_sized}
use Rattle.plan_check.specs.Answers.{plan_fits}
use Rattle.replay_finished.specs.Calls.{used, places_size, slots_fit, finished_sized}

module _ (gates records : List ℕ) (n work m : ℕ) (em : m ≡ pin_count gates) where
  -- literals that don't fit
  pub literals_over : 4294967296 < 2 * m + n → false ≡ slots_fit gates records n work
  unfolding slots_fit
  literals_over h = rw (lt-leb (2 * pin_count gates + n) 4294967296 (omega arith))

  module _ (h : 2 * m + n ≤ 4294967296) where
    -- fewer numbers than pins
    pub work_short : work < m → false ≡ slots_fit gates records n work
    unfolding slots_fit places_size
    work_short k = rw (le-leb (2 * pin_count gates + n) 4294967296 (omega arith), lt-leb (pin_count gates + length records) work (omega arith))

    -- else those left decide
    pub work_left : m ≤ work → leb (length records) (work - m) ≡ slots_fit gates records n work
    unfolding slots_fit places_size
    work_left k = rw (le-leb (2 * pin_count gates + n) 4294967296 (omega arith)) (split (leb (length records) (work - m))
        (λ t. rw t (sym (le-leb (pin_count gates + length records) work (omega (arith, leb-true (length records) (work - m) t)))))
        (λ t. rw t (sym (lt-leb (pin_count gates + length records) work (omega (arith, leb-false (length records) (work - m) t))))))

-- stages that a plan has
pub stages_there : (K plan counts n : ℕ) → plan_fits K plan counts n ≡ true → (n * 2 ^ (K + 1) ≤ plan) × (n ≤ counts)
unfolding plan_fits rooms
stages_there K plan counts n e =
    let a = and_true (plan_sized K plan && leb n (rooms K plan)) (leb n counts) e in
    let b = and_true (plan_sized K plan) (leb n (rooms K plan)) a.0 in
    let m : n * 2 ^ (K + 1) ≤ plan / 2 ^ (K + 1) * 2 ^ (K + 1) = mul-le-mul_right (2 ^ (K + 1)) (leb-true n (plan / 2 ^ (K + 1)) b.1) in
    (omega (arith, div-mul-le_self plan (2 ^ (K + 1))), leb-true _ _ a.1)

module _ (K : ℕ) (gates records : List ℕ) (plan counts n work tape slots bits : ℕ) (t : Bool) (et : t ≡ is_height K && plan_fits K plan counts n) where
  -- no such plan
  pub plan_wrong : t ≡ false → false ≡ (is_height K && finished_sized K gates records plan counts n work tape slots bits)
  unfolding finished_sized
  plan_wrong e = split (is_height K) (λ h. let d : plan_fits K plan counts n ≡ false = rw h at (sym et ∙ e) in rw (h, d)) (λ h. rw h)

  module _ (e : t ≡ true) (s : ℕ) (es : s ≡ or_zero (is_height K) (2 ^ (K + 1))) where
    fits : (is_height K ≡ true) × (plan_fits K plan counts n ≡ true)
    fits = and_true (is_height K) (plan_fits K plan counts n) (sym et ∙ e)

    -- its stages are there
    pub used_small : n * s ≤ plan
    used_small = let z : n * s ≡ n * 2 ^ (K + 1) = ap (λ (x : ℕ). n * x) (size_there K s fits.0 es) in omega (arith, (stages_there K plan counts n fits.1).0)

    module _ (u : ℕ) (eu : u ≡ n * s) where
      used_is : u ≡ used K n
      unfolding used
      used_is = eu ∙ ap (λ (x : ℕ). n * x) (size_there K s fits.0 es)

      -- the work area or the literals
      pub slots_wrong : slots_fit gates records u work ≡ false → false ≡ (is_height K && finished_sized K gates records plan counts n work tape slots bits)
      unfolding finished_sized
      slots_wrong w = let d : slots_fit gates records (used K n) work ≡ false = rw used_is at w in rw (fits.0, fits.1, d)

      -- the others decide
      pub lists_decide : slots_fit gates records u work ≡ true → (b : Bool) → b ≡ lists_sized gates records u tape slots bits → b ≡ (is_height K && finished_sized K gates records plan counts n work tape slots bits)
      unfolding finished_sized
      lists_decide w b eb = let d : slots_fit gates records (used K n) work ≡ true = rw used_is at w in rw (fits.0, fits.1, d) (eb ∙ ap (λ (x : ℕ). lists_sized gates records x tape slots bits) used_is)
