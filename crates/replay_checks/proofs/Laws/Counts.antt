-- Memories, flip-flops and bits, record after record. Assumes nothing.
use Prim.Native.Nat.{ℕ, ◌+◌, ◌≤◌, ◌<◌}
use mathlib.Core.Path.{◌≡◌, sym, ◌∙◌, ap}
use mathlib.Core.Bool.{true}
use mathlib.Core.List.{List, [], ◌∷◌}
use native.Mathlib.Omega.{arith}
use lib.Dec.{eqb}
use lib.ListN.{length, get_or, drop}
use lib.Seq.{length-take-le, get_or-drop}
use borrow.Author.Tests.{eq-eqb, ne_eqb}
use Rattle.rules.specs.Records.{Group, groups, size_of, group_at, whole_at, read, groups_of}
use Rattle.rules.specs.Reservation.{memories}
use Rattle.rules.proofs.Lists.Members.{split}
use Rattle.records.specs.Values.{size_at}
use Rattle.records.proofs.Reading.{standing}
use Rattle.checks.proofs.Laws.Passed.{read_next, read_last}
use Rattle.replay_form.specs.Clocks.{bits_out, flip_flops}
use Rattle.replay_run.proofs.Laws.Flips.{kinds, whole_some}
use Rattle.replay_checks.specs.Values.{Readable, one_if}

-- a kind is the one asked for
pub one_if_lem : (n k a : ℕ) → k ≡ a → n + 1 ≡ n + one_if k a
unfolding one_if
one_if_lem n k a e = rw (eq-eqb k a e, one_if)

-- or another
pub none_if : (n k a : ℕ) → (k ≡ a → ⊥) → n ≡ n + one_if k a
unfolding one_if
none_if n k a e = rw (ne_eqb k a e, one_if) (omega arith)

-- ---- a record

record Front (xs : List ℕ) (gs : List Group) : Type 0 where
  pub memory : memories (group_at xs ∷ gs) ≡ one_if (get_or xs 0 0) 3 + memories gs
  pub flip : flip_flops (group_at xs ∷ gs) ≡ one_if (get_or xs 0 0) 2 + flip_flops gs
  pub bit : bits_out (group_at xs ∷ gs) ≡ size_of (get_or xs 0 0) + bits_out gs

front : (xs : List ℕ) → whole_at xs ≡ true → (gs : List Group) → Front xs gs
unfolding group_at size_of memories flip_flops bits_out one_if
front [] t gs = let w = whole_some [] t in absurd (omega (arith, w.1))
front (x ∷ xs) t gs =
    let w = whole_some (x ∷ xs) t in
    kinds x
    (λ e. record { memory = rw e (omega arith); flip = rw e (omega arith); bit = rw e (omega arith) })
    (λ e. record { memory = rw e (omega arith); flip = rw e (omega arith); bit = rw e (omega arith) })
    (λ e. record { memory = rw e (omega arith); flip = rw e (omega arith); bit = rw (e, length-take-le 91 xs (omega (arith, w.1, ap size_of e))) (omega arith) })
    (λ e. record { memory = rw e (omega arith); flip = rw e (omega arith); bit = rw e (omega arith) })
    (λ e. absurd (omega (arith, w.0)))

-- ---- all records

-- those before an index are counted
pub record CountTo (records : List ℕ) (at m f b : ℕ) : Type 0 where
  pub rest : List Group
  pub unread : read (drop at records) ≡ groups rest
  pub inside : at ≤ length records
  pub memory_few : m ≤ at
  pub flip_few : f ≤ at
  pub bit_few : b ≤ at
  pub memory : memories (groups_of records) ≡ m + memories rest
  pub flip : flip_flops (groups_of records) ≡ f + flip_flops rest
  pub bit : bits_out (groups_of records) ≡ b + bits_out rest

one_most : (k a : ℕ) → one_if k a ≤ 1
unfolding one_if
one_most k a = split (eqb k a) (λ t. rw (t, one_if) (omega arith)) (λ t. rw (t, one_if) (omega arith))

module _ (records : List ℕ) (A : Readable records) where
  -- none at the beginning
  pub count_none : CountTo records 0 0 0 0
  count_none = record {
    rest = groups_of records;
    unread = A.readable;
    inside = omega arith;
    memory_few = omega arith;
    flip_few = omega arith;
    bit_few = omega arith;
    memory = omega arith;
    flip = omega arith;
    bit = omega arith;
  }

  module _ (at m f b : ℕ) (R : CountTo records at m f b) (h : at < length records) (size : ℕ) (es : size ≡ size_at records at) where
    -- the record stands whole
    pub count_inside : at + 1 + size ≤ length records
    count_inside = let S = standing records at (read_next records at R.rest R.unread h).whole in omega (arith, S.inside)

    -- and is counted
    pub count_more : (k : ℕ) → k ≡ get_or records at 0 → (m' f' : ℕ) → m' ≡ m + one_if k 3 → f' ≡ f + one_if k 2 → CountTo records (at + (1 + size)) m' f' (b + size)
    count_more k ek m' f' em ef =
        let N = read_next records at R.rest R.unread h in
        let S = standing records at N.whole in
        let e : size ≡ size_of (get_or records at 0) = es ∙ S.size in
        let d : get_or (drop at records) 0 0 ≡ k = get_or-drop at records 0 0 ∙ ap (λ (i : ℕ). get_or records i 0) (omega arith) ∙ sym ek in
        let F : Front (drop at records) N.rest = front (drop at records) N.whole N.rest in
        let s : size_of k ≡ size = ap size_of ek ∙ sym e in
        record {
          rest = N.rest;
          unread = rw e N.others;
          inside = omega (arith, count_inside);
          memory_few = omega (arith, R.memory_few, one_most k 3);
          flip_few = omega (arith, R.flip_few, one_most k 2);
          bit_few = omega (arith, R.bit_few);
          memory = R.memory ∙ ap (λ (g : List Group). m + memories g) N.these ∙ omega (arith, rw d at F.memory);
          flip = R.flip ∙ ap (λ (g : List Group). f + flip_flops g) N.these ∙ omega (arith, rw d at F.flip);
          bit = R.bit ∙ ap (λ (g : List Group). b + bits_out g) N.these ∙ omega (arith, rw d at F.bit);
        }

  -- all are counted
  pub count_done : (at m f b : ℕ) → CountTo records at m f b → length records ≤ at → (m ≡ memories (groups_of records)) × (f ≡ flip_flops (groups_of records)) × (b ≡ bits_out (groups_of records))
  unfolding memories flip_flops bits_out
  count_done at m f b R h =
      let e : R.rest ≡ [] = read_last records at R.rest R.unread h in (
        sym (R.memory ∙ rw e (omega arith)),
        sym (R.flip ∙ rw e (omega arith)),
        sym (R.bit ∙ rw e (omega arith)),
      )
