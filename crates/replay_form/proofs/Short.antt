-- The tape has at most one entry a filled cell, and at most half as many as the plan has numbers. Assumes nothing.
use Prim.Native.Nat.{ℕ, zero, suc, ◌+◌, ◌-◌, ◌*◌, ◌^◌, ◌≤◌}
use mathlib.Core.Path.{◌≡◌, ap}
use mathlib.Core.Bool.{true, false}
use mathlib.Core.List.{List, [], ◌∷◌}
use native.Mathlib.Omega.{arith}
use native.Mathlib.Nat.{suc-mul}
use lib.Dec.{leb}
use lib.ListN.{length, get_or, take, drop, length-append, length-drop, take-append-drop}
use lib.Seq.{drop-cons, length-take-le}
use borrow.Author.Tests.{leb-false}
use Rattle.rules.specs.Lists.{count}
use Rattle.rules.specs.Cells.{empty, filled}
use Rattle.rules.specs.Graph.{Node}
use Rattle.rules.proofs.Lists.Members.{split, count-append}
use Rattle.rules.proofs.Stage.Staged.{two_step}
use Rattle.replay_form.specs.Tape.{Source, old, new, source_at, Made, put, scan, stage_made, later_slot, made_from}

put_most : (m : ℕ) (r : Made) (x : Source) → length (put m r x).tape ≤ suc (length r.tape)
unfolding put
put_most m r (old s) = omega arith
put_most m r (new x) = omega (arith, length-append r.tape (x ∷ []))

count-drop : (k : ℕ) (xs : List ℕ) → count filled (drop k xs) ≤ count filled xs
count-drop k xs = omega (arith, count-append filled (take k xs) (drop k xs), ap (count filled) (take-append-drop k xs))

module _ (m K : ℕ) (cl : List ℕ) (load : ℕ → ℕ) (tape : List Node) where
  abbrev made : ℕ → Made
  made n = scan n m K cl load tape

  -- an empty cell and one of level 0 have no entry
  none_empty : (r : Made) (slot : ℕ → ℕ) (p : ℕ) → filled (get_or cl p empty) ≡ false → (put m r (source_at K cl load slot p)).tape ≡ r.tape
  unfolding put source_at
  none_empty r slot p e = rw (e, source_at)

  none_load : (r : Made) (slot : ℕ → ℕ) (p : ℕ) → leb (2 ^ K) p ≡ true → (put m r (source_at K cl load slot p)).tape ≡ r.tape
  unfolding put source_at
  none_load r slot p e = split (filled (get_or cl p empty)) (λ f. rw (f, e, source_at)) (λ f. rw (f, source_at))

  scan_filled : length cl ≡ 2 ^ (K + 1) → (n : ℕ) → n ≤ 2 ^ (K + 1) → length (made n).tape ≤ length tape + count filled (drop (2 ^ (K + 1) - n) cl)
  unfolding scan count
  scan_filled l zero h = omega arith
  scan_filled l (suc n) h =
      let r = made n in
      let p = 2 ^ (K + 1) - suc n in
      let R = scan_filled l n (omega arith) in
      let s : suc p ≡ 2 ^ (K + 1) - n = omega arith in
      let d : drop p cl ≡ get_or cl p empty ∷ drop (2 ^ (K + 1) - n) cl = rw s at (drop-cons cl p empty (omega arith)) in
      split (filled (get_or cl p empty))
      (λ f. let c : count filled (drop p cl) ≡ suc (count filled (drop (2 ^ (K + 1) - n) cl)) = rw (d, count, f) in omega (arith, put_most m r (source_at K cl load (λ q. get_or r.slots (q - (2 ^ (K + 1) - n)) 0) p)))
      (λ f. let c : count filled (drop p cl) ≡ count filled (drop (2 ^ (K + 1) - n) cl) = rw (d, count, f) in omega (arith, ap length (none_empty r (λ q. get_or r.slots (q - (2 ^ (K + 1) - n)) 0) p f)))

  scan_half : (n : ℕ) → n ≤ 2 ^ (K + 1) → length (made n).tape ≤ length tape + (n - 2 ^ K)
  unfolding scan
  scan_half zero h = omega arith
  scan_half (suc n) h =
      let r = made n in
      let p = 2 ^ (K + 1) - suc n in
      let R = scan_half n (omega arith) in
      split (leb (2 ^ K) p)
      (λ t. omega (arith, ap length (none_load r (λ q. get_or r.slots (q - (2 ^ (K + 1) - n)) 0) p t)))
      (λ t. omega (arith, leb-false (2 ^ K) p t, two_step K, put_most m r (source_at K cl load (λ q. get_or r.slots (q - (2 ^ (K + 1) - n)) 0) p)))

  stage_filled : length cl ≡ 2 ^ (K + 1) → length (stage_made m K cl load tape).tape ≤ length tape + count filled cl
  unfolding stage_made
  stage_filled l = omega (arith, scan_filled l (2 ^ (K + 1) - 1) (omega arith), count-drop (2 ^ (K + 1) - (2 ^ (K + 1) - 1)) cl)

  stage_half : length (stage_made m K cl load tape).tape ≤ length tape + 2 ^ K
  unfolding stage_made
  stage_half = omega (arith, scan_half (2 ^ (K + 1) - 1) (omega arith), two_step K)

-- one entry a filled cell
pub tape_filled : (n m K : ℕ) (load : ℕ → ℕ) (tape : List Node) (plan : List ℕ) → n * 2 ^ (K + 1) ≤ length plan → length (made_from n m K load tape plan).tape ≤ length tape + count filled plan
unfolding made_from
tape_filled zero m K load tape plan h = omega arith
tape_filled (suc n) m K load tape plan h =
    let cl = take (2 ^ (K + 1)) plan in
    let a = suc-mul n (2 ^ (K + 1)) in
    let s = stage_made m K cl load tape in
    let S = stage_filled m K cl load tape (length-take-le (2 ^ (K + 1)) plan (omega arith)) in
    let R = tape_filled n m K (later_slot K cl s.slots) s.tape (drop (2 ^ (K + 1)) plan) (omega (arith, length-drop (2 ^ (K + 1)) plan)) in
    omega (arith, count-append filled cl (drop (2 ^ (K + 1)) plan), ap (count filled) (take-append-drop (2 ^ (K + 1)) plan))

-- at most 2^K a stage
pub tape_half : (n m K : ℕ) (load : ℕ → ℕ) (tape : List Node) (plan : List ℕ) → length (made_from n m K load tape plan).tape ≤ length tape + n * 2 ^ K
unfolding made_from
tape_half zero m K load tape plan = omega arith
tape_half (suc n) m K load tape plan =
    let cl = take (2 ^ (K + 1)) plan in
    let s = stage_made m K cl load tape in
    let S = stage_half m K cl load tape in
    let R = tape_half n m K (later_slot K cl s.slots) s.tape (drop (2 ^ (K + 1)) plan) in
    omega (arith, suc-mul n (2 ^ K))
