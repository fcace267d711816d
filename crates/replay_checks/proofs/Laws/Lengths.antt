-- Products compared by division. Assumes nothing.
use Prim.Native.Nat.{ℕ, ◌*◌, ◌%◌}
use mathlib.Core.Path.{◌≡◌, sym, ◌∙◌, ap}
use mathlib.Core.Logic.{◌⊎◌, inl, inr}
use mathlib.Core.Bool.{true, false}
use native.Mathlib.Nat.{mul-mod_left}
use lib.Dec.{leb, eqb}
use borrow.Author.Tests.{eq-eqb, ne_eqb}
use Rattle.replay_form.specs.Calls.{lengths_right, out_right}
use Rattle.replay_checks.specs.Values.{measured}

-- what `each` does not divide is no product
pub product_odd : (length n each : ℕ) → (length % each ≡ 0 → ⊥) → false ≡ eqb length (n * each)
product_odd length n each h = sym (ne_eqb length (n * each) (λ e. h (ap (λ (x : ℕ). x % each) e ∙ mul-mod_left n each)))

module _ (flips leaves driven starting lines recording : ℕ) where
  -- another number of driven pins or of starting bits
  pub lengths_wrong : ((driven ≡ flips) × (starting ≡ flips → ⊥)) ⊎ (driven ≡ flips → ⊥) → false ≡ lengths_right flips leaves driven starting lines recording
  unfolding lengths_right
  lengths_wrong (inl h) = rw (eq-eqb driven flips h.0, ne_eqb starting flips h.1)
  lengths_wrong (inr h) = rw (ne_eqb driven flips h)

  -- else the recording decides
  pub lengths_recording : driven ≡ flips → starting ≡ flips → eqb recording (lines * leaves) ≡ lengths_right flips leaves driven starting lines recording
  unfolding lengths_right
  lengths_recording d e = rw (eq-eqb driven flips d, eq-eqb starting flips e)

module _ (flips bits lines out end : ℕ) where
  -- too short for the bits of the clocks
  pub out_short : leb (lines * bits) out ≡ false → false ≡ out_right flips bits lines out end
  unfolding out_right
  out_short e = rw e

  -- else the end bits decide
  pub out_end : leb (lines * bits) out ≡ true → leb flips end ≡ out_right flips bits lines out end
  unfolding out_right
  out_end e = rw e

module _ (flips bits leaves driven starting lines recording out end : ℕ) where
  -- 20
  pub measured_20 : lengths_right flips leaves driven starting lines recording ≡ false → 20 ≡ measured flips bits leaves driven starting lines recording out end
  unfolding measured
  measured_20 e = rw (e, measured)

  -- 17
  pub measured_17 : lengths_right flips leaves driven starting lines recording ≡ true → out_right flips bits lines out end ≡ false → 17 ≡ measured flips bits leaves driven starting lines recording out end
  unfolding measured
  measured_17 e d = rw (e, d, measured)

  -- neither
  pub measured_0 : lengths_right flips leaves driven starting lines recording ≡ true → out_right flips bits lines out end ≡ true → 0 ≡ measured flips bits leaves driven starting lines recording out end
  unfolding measured
  measured_0 e d = rw (e, d, measured)
