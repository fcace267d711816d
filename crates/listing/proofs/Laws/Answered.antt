-- What the areas hold, tested in order, and what is answered. Assumes nothing.
use mathlib.Core.Path.{◌≡◌, refl, sym}
use mathlib.Core.Bool.{true, false, ◌&&◌}
use mathlib.Core.List.{List}
use Prim.Native.Nat.{ℕ, suc, ◌+◌, ◌/◌, ◌≤◌, ◌<◌}
use native.Mathlib.Nat.{mul-le-mul_right, div-mul-le_self}
use native.Mathlib.Omega.{arith}
use lib.Dec.{leb}
use lib.ListN.{length, take, get_or}
use borrow.Author.Tests.{leb-true, le-leb, lt-leb, ne_eqb, eq-eqb}
use Rattle.rules.specs.Lists.{sum}
use Rattle.rules.specs.Cells.{is_height, stage_size, rooms}
use Rattle.rules.specs.Listing.{listing, refused_line}
use Rattle.rules.proofs.Lists.Members.{and_true}
use Rattle.cells.specs.Answers.{or_zero}
use Rattle.listing_lines.specs.Stages.{stages_in, Holds}
use Rattle.listing.specs.Listing.{outcome, written, hold, listed, answered}
use Rattle.listing_lines.proofs.Laws.Lines.{sum_next, sum_less, sum_add}

-- a height's number is itself
pub at_height : (K x : ℕ) {r : ℕ} → r ≡ or_zero (is_height K) x → is_height K ≡ true → r ≡ x
unfolding or_zero
at_height K x e h = rw (h, or_zero) at e

-- ---- counts

module _ (counts : List ℕ) (n most left i : ℕ) (long : n ≤ length counts) (h : i < n) (e : left + sum (take i counts) ≡ most) where
  -- a count above what is left: the words are too few
  pub spent_over : left < get_or counts i 0 → false ≡ leb (sum (take n counts)) most
  spent_over k = sym (lt-leb (sum (take n counts)) most (omega (arith, sum_next counts i (omega arith), sum_less counts (suc i) n h)))

  -- a count taken from what is left
  pub spent_on : (left2 : ℕ) → left ≡ left2 + get_or counts i 0 → left2 + sum (take (i + 1) counts) ≡ most
  spent_on left2 d = omega (arith, sum_add counts i (sum (take i counts)) (omega arith) refl)

-- at first nothing is spent
pub spent_start : (counts : List ℕ) (most : ℕ) → most + sum (take 0 counts) ≡ most
unfolding sum
spent_start counts most = omega arith

-- all counts taken: the words are enough
pub spent_end : (counts : List ℕ) (n most left i : ℕ) → i ≡ n → left + sum (take i counts) ≡ most → true ≡ leb (sum (take n counts)) most
spent_end counts n most left i z e = let e2 : left + sum (take n counts) ≡ most = rw z at e in sym (le-leb (sum (take n counts)) most (omega arith))

-- ---- the areas

module _ (K n : ℕ) (plan words counts : List ℕ) where
  -- more stages than rooms: the areas don't hold them
  pub hold_rooms : rooms K (length plan) < n → false ≡ hold K n plan words counts
  unfolding hold
  hold_rooms h = rw (lt-leb n (rooms K (length plan)) h)

  -- fewer counts than stages: they don't either
  pub hold_counts : n ≤ rooms K (length plan) → length counts < n → false ≡ hold K n plan words counts
  unfolding hold
  hold_counts g h = rw (le-leb n (rooms K (length plan)) g, lt-leb n (length counts) h)

  -- with rooms and counts right, the words decide
  pub hold_words : n ≤ rooms K (length plan) → n ≤ length counts → leb (sum (take n counts)) (length words) ≡ hold K n plan words counts
  unfolding hold
  hold_words g h = rw (le-leb n (rooms K (length plan)) g, le-leb n (length counts) h)

  -- areas that pass the tests hold so many stages
  pub hold_holds : hold K n plan words counts ≡ true → Holds (stage_size K) n plan words counts
  unfolding hold rooms
  hold_holds h =
      let a = and_true (leb n (rooms K (length plan)) && leb n (length counts)) (leb (sum (take n counts)) (length words)) h in
      let b = and_true (leb n (rooms K (length plan))) (leb n (length counts)) a.0 in
      let r = leb-true n (rooms K (length plan)) b.0 in
      record {
        cells = omega (arith, div-mul-le_self (length plan) (stage_size K), mul-le-mul_right {m = n} {n = length plan / stage_size K} (stage_size K) r);
        counted = leb-true n (length counts) b.1;
        spent = leb-true (sum (take n counts)) (length words) a.1;
      }

  module _ (out : List ℕ) where
    -- a bad height answers 1, nothing written
    pub listed_none : is_height K ≡ false → outcome 1 0 out ≡ listed K n plan words counts out
    unfolding listed
    listed_none h = rw (h, listed)

    -- areas that don't hold so many stages answer 2, nothing written
    pub listed_short : is_height K ≡ true → hold K n plan words counts ≡ false → outcome 2 0 out ≡ listed K n plan words counts out
    unfolding listed
    listed_short h g = rw (h, g, listed)

    -- areas that hold the stages have their listing written, where it fits
    pub listed_all : is_height K ≡ true → hold K n plan words counts ≡ true → written (listing K (stages_in (stage_size K) n plan words counts)) out ≡ listed K n plan words counts out
    unfolding listed
    listed_all h g = rw (h, g, listed)

    module _ (number stage pin : ℕ) where
      -- a refusal prints its line
      pub answered_no : (number ≡ 0 → ⊥) → written (refused_line number stage pin) out ≡ answered K number n stage pin plan words counts out
      unfolding answered
      answered_no h = rw (ne_eqb number 0 h, answered)

      -- an accepted build prints its listing
      pub answered_yes : number ≡ 0 → listed K n plan words counts out ≡ answered K number n stage pin plan words counts out
      unfolding answered
      answered_yes h = rw (eq-eqb number 0 h, answered)
