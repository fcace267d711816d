-- The word rules by their numbers. Assumes nothing.
use Prim.Native.Nat.{ℕ, zero, suc}
use mathlib.Core.Path.{◌≡◌, refl}
use Rattle.entries.specs.Rule.{rule_for, refusal_of}

-- a number that names no rule gives 2
pub none_named : (n : ℕ) → (n ≡ 0 → ⊥) → (n ≡ 1 → ⊥) → 2 ≡ refusal_of (rule_for n)
unfolding rule_for refusal_of
none_named zero a b = absurd (a refl)
none_named (suc zero) a b = absurd (b refl)
none_named (suc (suc n)) a b = refl
