-- Tests in a row. Assumes nothing.
use mathlib.Core.Bool.{Bool, true, false, not, ◌&&◌}
use mathlib.Core.Path.{◌≡◌, refl, sym, ◌∙◌}
use borrow.Author.Tests.{not-true, not-false}

-- a passed test behind another changes nothing
pub and_right : (a : Bool) → a && true ≡ a
and_right true = refl
and_right false = refl

-- a failed test behind another fails both
pub and_none : (a : Bool) → a && false ≡ false
and_none true = refl
and_none false = refl

-- tests in a row may be grouped either way
pub and_assoc : (a b c : Bool) → (a && b) && c ≡ a && (b && c)
and_assoc true b c = refl
and_assoc false b c = refl

-- what a negated test of an answer tells
pub no : {t b : Bool} → t ≡ b → not t ≡ true → b ≡ false
no {t} e h = sym e ∙ not-true t h

-- and where the negated test fails, the answer is true
pub yes : {t b : Bool} → t ≡ b → not t ≡ false → b ≡ true
yes {t} e h = sym e ∙ not-false t h
