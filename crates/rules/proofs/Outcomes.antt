-- Why any two outcomes that a promise allows are the same: a promise is an equation with a definition. Assumes nothing.
use mathlib.Core.Path.{◌≡◌, sym, ◌∙◌}

-- two outcomes that equal one definition are equal
pub one_outcome : {A : Type 0} {x y z : A} → x ≡ z → y ≡ z → x ≡ y
one_outcome e f = e ∙ sym f

-- where an answer is told by a value, and no two answers by the same
pub one_told : {A B : Type 0} (told : A → B) → ((x y : A) → told x ≡ told y → x ≡ y) → {x y : A} {z : B} → told x ≡ z → told y ≡ z → x ≡ y
one_told told one {x} {y} e f = one x y (e ∙ sym f)
