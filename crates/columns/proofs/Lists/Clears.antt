-- Columns that are 0 throughout, and fronts that were cleared. Assumes nothing.
use mathlib.Core.Path.{◌≡◌, sym, ◌∙◌}
use mathlib.Core.Logic.{inl, inr}
use mathlib.Core.Bool.{false}
use mathlib.Core.List.{List}
use Prim.Native.Nat.{ℕ, ◌+◌, ◌*◌, ◌<◌, ◌≤◌}
use native.Mathlib.Omega.{arith}
use native.Mathlib.Decide.{dec_lt}
use lib.ListN.{length, get_or, set, replicate, length-replicate, get_or-replicate}
use Rattle.rules.proofs.Tree.Loads.{set_either}
use Rattle.columns.specs.Area.{col, put, Frame, among}
use Rattle.columns.specs.Lists.{Clear}
use Rattle.columns.proofs.Area.Columns.{col_is}
use Rattle.columns.proofs.Area.Puts.{at_put, at_put_past}

-- a store of 0 keeps what is 0
pub zero_stays : (w : List ℕ) (j i : ℕ) → get_or w i 0 ≡ 0 → get_or (set w j 0) i 0 ≡ 0
zero_stays w j i e = elim (set_either w j 0 i 0) [ inl d ↦ d.1 | inr d ↦ d ∙ e ]

module _ {g m : ℕ} {w : List ℕ} (Z : Clear g m w) where
  -- a clear column is m zeros
  pub clear_col : col g m w ≡ replicate m 0
  clear_col = col_is g m w (replicate m 0) (length-replicate m 0) (λ p h. Z.zero p h ∙ sym (get_or-replicate m p 0 0 h))

  -- a clear column that may not change stays clear
  pub clear_frame : {fs : List ℕ} {w' : List ℕ} → Frame fs m w w' → among fs g ≡ false → g < 16 → Clear g m w'
  clear_frame fr e h = record { zero = λ p k. fr.cell g e h p k ∙ Z.zero p k }

-- a front that became v, and what stands behind it
module _ (g m n : ℕ) (w : List ℕ) where
  -- within the front every number is v
  pub at_front : (v p : ℕ) → p < n → g * m + n ≤ length w → get_or (put g m w (replicate n v)) (g * m + p) 0 ≡ v
  at_front v p h hw = at_put g m w (replicate n v) p (omega (arith, length-replicate n v)) (omega arith) ∙ get_or-replicate n p v 0 h

  -- behind the front the column is as it was
  pub past_front : (v p : ℕ) → n ≤ p → get_or (put g m w (replicate n v)) (g * m + p) 0 ≡ get_or w (g * m + p) 0
  past_front v p h = at_put_past g m w (replicate n v) p (omega (arith, length-replicate n v))

  -- the column is clear if it was behind the front
  pub front_clear : (w' : List ℕ) → w' ≡ put g m w (replicate n 0) → g * m + m ≤ length w → n ≤ m → ((p : ℕ) → n ≤ p → p < m → get_or w (g * m + p) 0 ≡ 0) → Clear g m w'
  front_clear w' e hw few rest = rw e (record {
    zero = λ p h. elim (dec_lt p n) [ yes l ↦ at_front 0 p l (omega arith) | no l ↦ past_front 0 p (omega (arith, l)) ∙ rest p (omega (arith, l)) h ];
  })
