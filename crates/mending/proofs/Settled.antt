-- A stage whose cells do what their levels say is left as it is. Assumes nothing.
use Prim.Native.Nat.{ℕ, suc, ◌+◌, ◌^◌, ◌≤◌, ◌<◌}
use mathlib.Core.Path.{◌≡◌, refl, sym, ◌∙◌, ap}
use mathlib.Core.Logic.{inl, inr}
use mathlib.Core.Bool.{true, false}
use mathlib.Core.List.{List, [], ◌∷◌}
use native.Mathlib.Omega.{arith}
use lib.ListN.{length, get_or, set}
use Rattle.rules.specs.Cells.{empty, filled, first_lower, second_lower, stage_size}
use Rattle.rules.specs.Graph.{Node, pin_of}
use Rattle.rules.proofs.Lists.Members.{split, true_false}
use Rattle.rules.proofs.Stage.Flat.{blank_replicate}
use Rattle.rules.proofs.Tree.Loads.{set_either}
use Rattle.rules.specs.Coded.{cell_pin}
use Rattle.coded.proofs.Cells.{pin_empty}
use Rattle.mending.specs.Mend.{Deed, kept, stands, copies, joins, pin_for, pin_deed, deed, mended, fixing, mend_from, nothing_fixed, mend_stage}
use Rattle.mending.proofs.Deeds.{no_pin, deed_kept, for_fixed, for_free}

-- what a deed fixes is what the cells under it hold
abbrev pub Under : List ℕ → ℕ → Deed → Type 0
Under cl q kept = Unit {0}
Under cl q (stands n) = Unit {0}
Under cl q (copies n) = cell_pin (get_or cl (first_lower q) empty) ≡ n
Under cl q (joins n a b) = (cell_pin (get_or cl (first_lower q) empty) ≡ pin_of a) × (cell_pin (get_or cl (second_lower q) empty) ≡ pin_of b)

-- the cell at q by its own pin
pub record Settled (K : ℕ) (g : List Node) (stop cl : List ℕ) (q : ℕ) : Type 0 where
  pub same : mended (pin_deed K g stop q (cell_pin (get_or cl q empty))) (get_or cl q empty) ≡ get_or cl q empty
  pub under : Under cl q (pin_deed K g stop q (cell_pin (get_or cl q empty)))

-- an empty cell
pub empty_settled : (K : ℕ) (g : List Node) (stop cl : List ℕ) → length g ≤ 65536 → (q : ℕ) → filled (get_or cl q empty) ≡ false → Settled K g stop cl q
unfolding mended
empty_settled K g stop cl few q k =
    let z : cell_pin (get_or cl q empty) ≡ empty = pin_empty (get_or cl q empty) k in
    let e : pin_deed K g stop q (cell_pin (get_or cl q empty)) ≡ kept = ap (pin_deed K g stop q) z ∙ deed_kept K g stop q empty (no_pin g few) in
    record { same = ap (λ (x : Deed). mended x (get_or cl q empty)) e; under = rw e tt }

module _ (K : ℕ) (g : List Node) (stop cl : List ℕ) where
  -- what is fixed from position p on is what stands there
  abbrev pub Agrees : ℕ → List ℕ → Type 0
  Agrees p fx = (q : ℕ) → p ≤ q → filled (get_or fx q empty) ≡ true → get_or fx q empty ≡ cell_pin (get_or cl q empty)

  set_agrees : (p : ℕ) (fx : List ℕ) (c n : ℕ) → Agrees p fx → cell_pin (get_or cl c empty) ≡ n → Agrees p (set fx c n)
  set_agrees p fx c n A e q a k = elim (set_either fx c n q empty) [
    | inl d ↦ d.1 ∙ sym e ∙ ap (λ (u : ℕ). cell_pin (get_or cl u empty)) (sym d.0)
    | inr d ↦ d ∙ A q a (rw d at k)
  ]

  -- what a settled cell fixes is what stands there
  pub fixing_agrees : (p : ℕ) (fx : List ℕ) (d : Deed) → Under cl p d → Agrees p fx → Agrees (suc p) (fixing p d fx)
  unfolding fixing
  fixing_agrees p fx kept u A = λ q h k. A q (omega arith) k
  fixing_agrees p fx (stands n) u A = λ q h k. A q (omega arith) k
  fixing_agrees p fx (copies n) u A = set_agrees (suc p) fx (first_lower p) n (λ q h k. A q (omega arith) k) u
  fixing_agrees p fx (joins n a b) u A = set_agrees (suc p) (set fx (first_lower p) (pin_of a)) (second_lower p) (pin_of b) (set_agrees (suc p) fx (first_lower p) (pin_of a) (λ q h k. A q (omega arith) k) u.0) u.1

  -- so the pin taken is the cell's own
  pub own_pin : (p : ℕ) (fx : List ℕ) (c : ℕ) → c ≡ get_or cl p empty → Agrees p fx → pin_for c (get_or fx p empty) ≡ cell_pin (get_or cl p empty)
  own_pin p fx c z A = split (filled (get_or fx p empty)) (λ k. for_fixed c (get_or fx p empty) k ∙ A p (omega arith) k) (λ k. for_free c (get_or fx p empty) k ∙ ap cell_pin z)

  module _ (S : (q : ℕ) → 1 ≤ q → q < 2 ^ (K + 1) → Settled K g stop cl q) where
    settled_from : (p : ℕ) (fx cs : List ℕ) → 1 ≤ p → p + length cs ≤ 2 ^ (K + 1) → ((i q : ℕ) → q ≡ p + i → get_or cs i empty ≡ get_or cl q empty) → Agrees p fx → mend_from K g stop p fx cs ≡ cs
    unfolding mend_from deed
    settled_from p fx [] a b C A = refl
    settled_from p fx (c ∷ cs) a b C A =
        let f : ℕ = get_or fx p empty in
        let z : c ≡ get_or cl p empty = C 0 p (omega arith) in
        let n : ℕ = cell_pin (get_or cl p empty) in
        let e : pin_for c f ≡ n = own_pin p fx c z A in
        let t = S p a (omega arith) in
        (λ i. mended (pin_deed K g stop p (e i)) c ∷ mend_from K g stop (suc p) (fixing p (pin_deed K g stop p (e i)) fx) cs)
        ∙ (λ i. (ap (mended (pin_deed K g stop p n)) z ∙ t.same ∙ sym z) i
        ∷ settled_from (suc p) (fixing p (pin_deed K g stop p n) fx) cs (omega arith) (omega arith) (λ j q h. C (suc j) q (omega arith)) (fixing_agrees p fx (pin_deed K g stop p n) t.under A) i)

-- a stage of settled cells is left as it is
pub settled_stage : (K : ℕ) (g : List Node) (stop cl : List ℕ) → length cl ≤ 2 ^ (K + 1) → ((q : ℕ) → 1 ≤ q → q < 2 ^ (K + 1) → Settled K g stop cl q) → mend_stage K g stop cl ≡ cl
unfolding mend_stage nothing_fixed
settled_stage K g stop [] l S = refl
settled_stage K g stop (c ∷ cs) l S = ap (λ (xs : List ℕ). c ∷ xs) (settled_from K g stop (c ∷ cs) S 1 (nothing_fixed K) cs (omega arith) (omega arith)
    (λ i q e. let z : q ≡ suc i = omega arith in rw z) (λ q a k. true_false k (blank_replicate (stage_size K) q)))
