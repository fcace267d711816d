-- The steps of a walk over records, for loops that go with it. Assumes nothing.
use Prim.Native.Nat.{ℕ, ◌+◌, ◌≤◌, ◌<◌}
use mathlib.Core.List.{List}
use mathlib.Core.Path.{◌≡◌, ◌∙◌}
use native.Mathlib.Omega.{arith}
use native.Mathlib.Decide.{dec_lt}
use lib.ListN.{length}
use Rattle.std.specs.Prelude.{Some, None}
use Rattle.records.specs.declared.Walk.{Walk}
use Rattle.records.specs.Values.{size_at}
use Rattle.records.specs.Walk.{Steps}
use Rattle.records.proofs.Reading.{Stands, stands}

-- a step of a walk over these records, from this place
pub record Stepped (xs : List ℕ) (s : Walk) (at : ℕ) (s' : Walk) : Type 0 where
  pub start : at ≡ s.at
  pub here : Stands xs s.at
  pub same : s'.records.now ≡ xs
  pub next : s'.at ≡ s.at + (1 + size_at xs s.at)

module _ {xs : List ℕ} where
  pub stepped : (s s' : Walk) → s.records.now ≡ xs → {at : ℕ} → Steps s (Some at) s' → Stepped xs s at s'
  unfolding Steps
  stepped s s' same S = record {
    start = S.start;
    here = stands xs s.at (rw same at S.there);
    same = S.records ∙ same;
    next = rw (S.next, same) (omega arith);
  }

  -- the walk ends at the end, where records stand one behind the other
  pub walked : (s s' : Walk) → s.records.now ≡ xs → Steps s None s' → (s.at < length xs → Stands xs s.at) → length xs ≤ s.at
  unfolding Steps
  walked s s' same S f = elim (dec_lt s.at (length xs)) [
    | yes h ↦ absurd (omega (arith, (f h).some, rw same at S.none))
    | no h ↦ omega (arith, h)
  ]
