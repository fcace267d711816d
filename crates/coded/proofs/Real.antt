-- A fault that is found is one, and the first in the order. Assumes nothing.
use Prim.Native.Nat.{ℕ, zero, suc, ◌+◌, ◌-◌, ◌≤◌, ◌<◌}
use mathlib.Core.Path.{◌≡◌}
use mathlib.Core.Logic.{◌⊎◌, inl, inr}
use mathlib.Core.Bool.{Bool, true, false}
use mathlib.Core.List.{List, [], ◌∷◌}
use native.Mathlib.Omega.{arith}
use lib.Dec.{eqb}
use lib.ListN.{length}
use Rattle.rules.specs.Lists.{nothing, found}
use Rattle.rules.specs.Cells.{stage_size, word_limit}
use Rattle.rules.specs.Graph.{Node}
use Rattle.rules.specs.Records.{Group}
use Rattle.rules.specs.Reservation.{reserved}
use Rattle.rules.specs.Build.{Stage}
use Rattle.rules.specs.Faults.{faultless, fault_at, right_at, first_not, end_right, first_may, held_in, fault_from, last_right, fault_of}
use Rattle.rules.proofs.Lists.Members.{split, eqb_true, eqb_false}
use Rattle.rules.proofs.Stage.Puts.{cell}
use Rattle.coded.specs.Faults.{Faulty, wrong_cell, wrong_end, later}
use Rattle.coded.proofs.Tests.{none_fails}
use Rattle.coded.proofs.Reading.{fault_cases}

-- the first position that fails a test
record First (f : ℕ → Bool) (n i p : ℕ) : Type 0 where
  low : i ≤ p
  high : p < i + n
  fails : f p ≡ false
  before : (q : ℕ) → i ≤ q → q < p → f q ≡ true

first_fails : (f : ℕ → Bool) (n i p : ℕ) → first_not f n i ≡ found p → First f n i p
unfolding first_not
first_fails f zero i p e = absurd (let z : ◌≡◌ {A = ℕ} 0 1 = cc in omega arith)
first_fails f (suc n) i p e = split (f i)
    (λ t.
    let r = first_fails f n (suc i) p (rw (t, first_not) at e) in
    record { low = omega (arith, r.low); high = omega (arith, r.high); fails = r.fails; before = λ q a b. split (eqb q i) (λ c. rw (eqb_true q i c) t) (λ c. r.before q (omega (arith, eqb_false q i c)) b) })
    (λ t.
    let d : found i ≡ found p = rw (t, first_not) at e in
    let z : i ≡ p = cc in
    record { low = omega arith; high = omega arith; fails = rw z at t; before = λ q a b. absurd (omega arith) })

module _ (K : ℕ) (g : List Node) (given : List ℕ) where
  -- in the stages from number k on
  stage_fault : (may : ℕ → Bool) (room k : ℕ) (ss : List Stage) (j p : ℕ) → fault_from K g given may room k ss ≡ fault_at j p → Faulty K g given may room k ss j p
  unfolding fault_from
  stage_fault may room k [] j p e = absurd (let z : ◌≡◌ {A = ℕ} 0 1 = cc in omega arith)
  stage_fault may room k (s ∷ ss) j p e = cell (first_not (right_at K g given may s.plan) (stage_size K - 1) 1)
      (λ d.
      let all : (q : ℕ) → 1 ≤ q → q < stage_size K → right_at K g given may s.plan q ≡ true = λ q a b. none_fails (right_at K g given may s.plan) (stage_size K - 1) 1 d q a (omega arith) in
      split (end_right K room s)
      (λ t. later (record { cells = all; end = t }) (stage_fault (held_in K s.plan) (room - length s.words) (suc k) ss j p (rw (d, t, fault_from) at e)))
      (λ t.
      let z : fault_at k 0 ≡ fault_at j p = rw (d, t, fault_from) at e in
      let x : k ≡ j = cc in
      let y : 0 ≡ p = cc in
      rw (← x, ← y) (wrong_end t all)))
      (λ c d.
      let r = first_fails (right_at K g given may s.plan) (stage_size K - 1) 1 c d in
      let z : fault_at k c ≡ fault_at j p = rw (d, fault_from) at e in
      let x : k ≡ j = cc in
      let y : c ≡ p = cc in
      rw (← x, ← y) (wrong_cell r.low (omega (arith, r.low, r.high)) r.fails r.before))

  -- A fault that is found is a fault of that stage at that position, the first in the order; or, where no stage has one, stands at stage 0,
  -- position 0: the reservation is over, or an endpoint is not written.
  pub fault_real : (groups : List Group) (ss : List Stage) (j p : ℕ) → fault_of K g given groups ss ≡ fault_at j p →
      Faulty K g given (first_may g given) (word_limit K - reserved groups) 1 ss j p
      ⊎ ((fault_from K g given (first_may g given) (word_limit K - reserved groups) 1 ss ≡ faultless) × (last_right K groups ss ≡ false) × (j ≡ 0) × (p ≡ 0))
  unfolding fault_of
  fault_real groups ss j p e = fault_cases (fault_from K g given (first_may g given) (word_limit K - reserved groups) 1 ss)
      (λ a. split (last_right K groups ss)
      (λ t. absurd (let z : faultless ≡ fault_at j p = rw (a, t, fault_of) at e in let y : ◌≡◌ {A = ℕ} 0 1 = cc in omega arith))
      (λ t.
      let z : fault_at 0 0 ≡ fault_at j p = rw (a, t, fault_of) at e in
      let x : 0 ≡ j = cc in
      let y : 0 ≡ p = cc in
      inr (a, t, omega arith, omega arith)))
      (λ k q a.
      let z : fault_at k q ≡ fault_at j p = rw (a, fault_of) at e in
      let x : k ≡ j = cc in
      let y : q ≡ p = cc in
      inl (stage_fault (first_may g given) (word_limit K - reserved groups) 1 ss j p (rw (x, y) at a)))
