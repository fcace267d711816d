-- The advice on rooms, for the code: what a call of `depth::depth` tells is enough for a build. Assumes nothing.
use Prim.Native.Nat.{ℕ, zero, suc, ◌<◌}
use mathlib.Core.Path.{◌≡◌, refl, ◌∙◌, ap}
use mathlib.Core.Logic.{◌⊎◌, inl, inr, ◌≢◌}
use mathlib.Core.Bool.{true}
use mathlib.Core.List.{List}
use native.Mathlib.Omega.{arith}
use Rattle.std.specs.Prelude.{Result}
use Rattle.rules.specs.Cells.{is_height}
use Rattle.rules.specs.Graph.{graph_of}
use Rattle.rules.specs.Records.{groups_of}
use Rattle.rules.specs.Depth.{deepest}
use Rattle.rules.specs.Build as rules
use Rattle.checks.proofs.Laws.Passed.{passed, any_height_lem}
use Rattle.refusals.specs.declared.Refusal.{Refusal}
use Rattle.depth.specs.Calls.{Told, telling, outcome, tell_refusal, teller, tell_depth}
use Rattle.theorems.specs.Inputs.{D}
use Rattle.theorems.proofs.Calls.{Call, reply, checked, input, rooms_of, enough, six_to_nine}

-- a call of `depth` for what a build is called with, by its contract
pub record DepthCall (C : Call) : Type 0 where
  pub entry : List ℕ
  pub answer : Result ℕ Refusal
  pub exit : List ℕ
  pub ensures : outcome answer exit ≡ tell_depth C.gates C.given C.records entry

-- what it tells
abbrev pub tells : {C : Call} → DepthCall C → Told ℕ
tells T = outcome T.answer T.exit

module _ (C : Call) (T : DepthCall C) (z : (tells T).number ≡ 0) where
  abbrev refused : ℕ
  refused = tell_refusal C.gates C.given C.records T.entry

  told : (n : ℕ) → refused ≡ n → (n ≡ 0) × ((tells T).told ≡ deepest (graph_of C.gates) C.given (groups_of C.records))
  unfolding telling teller tell_depth
  told zero e = (refl, ap (λ (o : Told ℕ). o.told) (rw (e, teller) at T.ensures))
  told (suc n) e = absurd (let E = ap (λ (o : Told ℕ). o.number) (rw (e, teller) at T.ensures) in omega arith)

  -- An answer of 0 tells D.
  pub told_D : (e : checked C ≡ 0) → (tells T).told ≡ D (input C e)
  told_D e = (told refused refl).1

  module _ (more : (tells T).told < rooms_of C) where
    within : (e : checked C ≡ 0) → D (input C e) < rooms_of C
    within e = omega (arith, told_D e)

    -- A build that is lent more rooms than `depth` told is never refused for rooms.
    pub never_nine : (reply C).number ≢ 9
    never_nine n =
        let e = (six_to_nine C (omega arith) (omega arith)).0 in
        elim (enough C e (within e)) [
          | inl a ↦ omega arith
          | inr a ↦ elim a [ inl b ↦ omega arith | inr b ↦ elim b [ inl c ↦ omega arith | inr c ↦ omega arith ] ]
        ]

    -- And where its height is one and its areas have a right size it is whole, or refused with 6, 7 or 8: for want of capacity.
    pub lent_enough : is_height C.height ≡ true → rules.sizes_right C.height C.gates C.records C.entry ≡ true →
        ((reply C).number ≡ 0) ⊎ (((reply C).number ≡ 6) ⊎ (((reply C).number ≡ 7) ⊎ ((reply C).number ≡ 8)))
    unfolding tell_refusal
    lent_enough h s =
        let t : refused ≡ 0 = (told refused refl).0 in
        let P = passed 6 _ C.gates C.given C.records t in
        let e : checked C ≡ 0 = rw s (any_height_lem C.height 6 true C.gates C.given C.records h P.height ∙ rw P.areas at t) in
        enough C e (within e)
