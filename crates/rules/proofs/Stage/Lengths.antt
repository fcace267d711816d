-- How a proof goes through the definitions: placing, and the loop of rules 2 to 7, keep a plan's length. Assumes nothing.
use Prim.Native.Nat.{ℕ, zero, suc, ◌+◌, ◌*◌}
use mathlib.Core.Path.{◌≡◌, refl, ◌∙◌}
use mathlib.Core.Bool.{Bool, true, false}
use mathlib.Core.List.{List}
use lib.Dec.{ltb}
use lib.ListN.{length, length-set, set, get_or}
use Rattle.rules.specs.Lists.{Found, nothing, found}
use Rattle.rules.specs.Graph.{Node, leaf, gate, pin_of}
use Rattle.rules.specs.Traversal.{Setting, level_at}
use Rattle.rules.specs.Placing.{place, fill, cell_at, pin_at, roomy, placed}
use Rattle.rules.specs.Ending.{refused, finish, written}

-- placing at level h keeps a plan's length
abbrev pub LenAt : Setting → ℕ → Type 0
LenAt X h = (w p n : ℕ) (plan : List ℕ) → length (place X h w p n plan) ≡ length plan

step : (X : Setting) (h : ℕ) → LenAt X h → (w p n : ℕ) (plan : List ℕ) (b : Bool) → ltb (level_at X n) (suc h) ≡ b → (x : Node) → get_or X.g n leaf ≡ x → length (place X (suc h) w p n plan) ≡ length plan
unfolding place
step X h ih w p n plan true e x d = rw (e, place) (ih (2 * w) (p + w) n (set plan p n) ∙ length-set plan p n)
step X h ih w p n plan false e leaf d = rw (e, d, place) (length-set plan p n)
step X h ih w p n plan false e (gate a b) d = rw (e, d, place) (ih (2 * w) (p + 2 * w) (pin_of b) _ ∙ ih (2 * w) (p + w) (pin_of a) _ ∙ length-set plan p n)

-- placing keeps a plan's length at every level
pub len_place : (X : Setting) (h : ℕ) → LenAt X h
unfolding place
len_place X zero w p n plan = length-set plan p n
len_place X (suc h) w p n plan = step X h (len_place X h) w p n plan (ltb (level_at X n) (suc h)) refl (get_or X.g n leaf) refl

-- the loop with so much fuel keeps a plan's length
abbrev pub FillAt : Setting → ℕ → Type 0
FillAt X f = (h : ℕ) (pl : List ℕ) → length (fill X f h pl) ≡ length pl

turn : (X : Setting) (f : ℕ) → FillAt X f → (l : ℕ) (pl : List ℕ) (c : Found) → cell_at X (suc (suc l)) pl ≡ c → (q : Found) → pin_at X (suc (suc l)) pl ≡ q →
    ((p n : ℕ) → (b : Bool) → roomy X (placed X (suc (suc l)) p n pl) ≡ b → cell_at X (suc (suc l)) pl ≡ found p → pin_at X (suc (suc l)) pl ≡ found n → length (fill X (suc f) (suc (suc l)) pl) ≡ length pl) →
    length (fill X (suc f) (suc (suc l)) pl) ≡ length pl
unfolding fill
turn X f ih l pl nothing e q d k = rw (e, fill) (ih (suc l) pl)
turn X f ih l pl (found p) e nothing d k = rw (e, d, fill) (ih (suc l) pl)
turn X f ih l pl (found p) e (found n) d k = k p n (roomy X (placed X (suc (suc l)) p n pl)) refl e d

tried : (X : Setting) (f : ℕ) → FillAt X f → (l : ℕ) (pl : List ℕ) (p n : ℕ) (b : Bool) → roomy X (placed X (suc (suc l)) p n pl) ≡ b → cell_at X (suc (suc l)) pl ≡ found p → pin_at X (suc (suc l)) pl ≡ found n →
    length (fill X (suc f) (suc (suc l)) pl) ≡ length pl
unfolding fill placed
tried X f ih l pl p n true r e d = rw (e, d, r, fill) (ih (suc (suc l)) (placed X (suc (suc l)) p n pl) ∙ len_place X (suc (suc l)) _ p n pl)
tried X f ih l pl p n false r e d = rw (e, d, r, fill) (ih (suc l) pl)

-- the loop of rules 2 to 7 keeps it with any fuel
pub len_fill : (X : Setting) (f : ℕ) → FillAt X f
unfolding fill
len_fill X zero h pl = refl
len_fill X (suc f) zero pl = refl
len_fill X (suc f) (suc zero) pl = refl
len_fill X (suc f) (suc (suc l)) pl = turn X f (len_fill X f) l pl (cell_at X (suc (suc l)) pl) refl (pin_at X (suc (suc l)) pl) refl (tried X f (len_fill X f) l pl)

seven : (X : Setting) (room : ℕ) (pl : List ℕ) → ltb room (length (written X pl).words) ≡ true → finish X room pl ≡ refused 7
unfolding finish
seven X room pl e = rw (e, finish)
