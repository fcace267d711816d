-- A sum taken number by number. Assumes nothing.
use Prim.Native.Nat.{ℕ, suc, ◌+◌, ◌≤◌, ◌<◌}
use mathlib.Core.Path.{◌≡◌}
use mathlib.Core.List.{List}
use native.Mathlib.Numerals.{add-one}
use native.Mathlib.Omega.{arith}
use lib.ListN.{length, get_or, drop}
use lib.Seq.{drop-cons, drop-length}
use Rattle.rules.specs.Lists.{sum}

-- i numbers are taken; these and those left are all
pub record Totalling (ns : List ℕ) (s i : ℕ) : Type 0 where
  pub upto : i ≤ length ns
  pub same : s + sum (drop i ns) ≡ sum ns

module _ {ns : List ℕ} {s i : ℕ} (T : Totalling ns s i) where
  step : i < length ns → sum (drop i ns) ≡ get_or ns i 0 + sum (drop (suc i) ns)
  unfolding sum
  step h = rw (drop-cons ns i 0 h)

  -- one more
  pub totalling_more : i < length ns → (x : ℕ) → x ≡ get_or ns i 0 → Totalling ns (s + x) (i + 1)
  totalling_more h x e = record { upto = omega arith; same = rw (add-one i) (omega (arith, T.same, step h)) }

  -- it stays below the whole sum
  pub totalling_fits : i < length ns → (x : ℕ) → x ≡ get_or ns i 0 → s + x ≤ sum ns
  totalling_fits h x e = omega (arith, T.same, step h)

  -- all are taken
  pub totalling_done : length ns ≤ i → s ≡ sum ns
  unfolding sum
  totalling_done h = let e : i ≡ length ns = omega (arith, T.upto) in let z : sum (drop i ns) ≡ 0 = rw (e, drop-length ns) in omega (arith, T.same)
