-- Every record counted, whatever may be reserved. Assumes nothing.
use mathlib.Core.Path.{◌≡◌, refl, ap, ◌∙◌}
use mathlib.Core.Bool.{false}
use mathlib.Core.List.{List, ◌++◌, append-nil}
use Prim.Native.Nat.{ℕ, ◌+◌, ◌-◌, ◌<◌, ◌≤◌}
use native.Mathlib.Omega.{arith}
use lib.Pow.{pow_pos}
use lib.ListN.{length}
use Rattle.rules.specs.Cells.{word_limit}
use Rattle.rules.specs.Records.{Group, groups_of}
use Rattle.rules.specs.Inside.Some.{Every}
use Rattle.checks.proofs.Laws.Passed.{read_last}
use Rattle.records.specs.Values.{size_at}
use Rattle.placer_start.specs.declared.reservation.Count.{Count}
use Rattle.placer_start.specs.Reservation.{CountAt, Counted, Judged, ReserveAt}
use Rattle.placer_start.proofs.Laws.Reserving.{Reserving, reserving_small, reserving_more}
use Rattle.depth.specs.Walks.{WalkAt, Totalled}

-- no height has a word limit of 0, so a count that is judged by 0 is never over
never : (c : Count) → Judged c 0 false
unfolding word_limit
never c = record { is = λ K xs e n. absurd (omega (arith, e, pow_pos (K - 5))) }

module _ {m at : ℕ} {count : Count} {records w w₁ : List ℕ} (A : ReserveAt m records w) (R : Reserving m 0 at count records w w₁) where
  -- the next record is counted with the others
  pub counted_more : (h : at < length records) {w₂ : List ℕ} {c : Count} → Every (λ xs. CountAt m at at count xs records w₁) (λ xs. Counted m at at xs records w₁ w₂ c) → (size : ℕ) → size ≡ size_at records at → Reserving m 0 (at + (1 + size)) c records w w₂
  counted_more h {c = c} E size e = reserving_more A R h E false (never c) refl size e

  -- past the last record all are
  pub counted_all : length records ≤ at → Totalled records w count w₁
  counted_all h =
      let z = read_last records at R.rest R.unread h in
      let a : groups_of records ≡ R.xs = R.all ∙ ap (λ (l : List Group). R.xs ++ l) z ∙ append-nil R.xs in
      record { counts = rw a R.counts; few = reserving_small A R; len = R.touched.frame.len }

-- a cleared area may be counted in
pub reserve_at : {m : ℕ} {gates given records w : List ℕ} → WalkAt m gates given records w → ReserveAt m records w
reserve_at A = record { area = A.begin.area; room = A.begin.room; right = A.begin.right; clear = record { zero = λ p h. A.begin.zeros _ (omega arith) } }
