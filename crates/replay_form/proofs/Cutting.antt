-- A recording cut into two runs gives the same bits. Assumes nothing.
use Prim.Native.Nat.{ℕ, zero, suc, ◌+◌, ◌*◌, ◌≤◌}
use mathlib.Core.Path.{◌≡◌, refl, sym, ◌∙◌, ap}
use mathlib.Core.Bool.{Bool, true, false}
use mathlib.Core.List.{List, [], ◌∷◌, ◌++◌, map, append_assoc}
use native.Mathlib.Omega.{arith}
use native.Mathlib.Nat.{suc-mul}
use lib.ListN.{length, get_or, take, drop, length-drop}
use lib.Seq.{take-append-le, drop-append-le}
use Rattle.rules.specs.Records.{Group, output, flip_flop, memory, staged_pin}
use Rattle.rules.specs.Fold.{as_number}
use Rattle.replay_form.specs.Clocks.{is_one, ones, taken, next_bits, Circuit, Valuation, Ran, clock, line_size, and_then, run}

and_then_assoc : (a b c : Ran) → and_then (and_then a b) c ≡ and_then a (and_then b c)
unfolding and_then
and_then_assoc a b c = rw append_assoc

no_bits : (xs : List ℕ) → length xs ≡ 0 → xs ≡ []
no_bits [] e = refl
no_bits (x ∷ xs) e = absurd (omega arith)

module _ (C : Circuit) (B : Valuation) where
  -- lines past those run count for nothing
  pub run_front : (n : ℕ) (first more state : List ℕ) → length first ≡ n * line_size C → run C B n (first ++ more) state ≡ run C B n first state
  unfolding run
  run_front zero first more state e = refl
  run_front (suc n) first more state e =
      let s : suc n * line_size C ≡ line_size C + n * line_size C = omega (arith, suc-mul n (line_size C)) in
      let h : line_size C ≤ length first = omega arith in
      rw (take-append-le (line_size C) first more h, drop-append-le (line_size C) first more h)
      (ap (and_then (clock C B (take (line_size C) first) state)) (run_front n (drop (line_size C) first) more _ (length-drop (line_size C) first ∙ omega arith)))

  -- n lines and then m are a run of n lines, and a run of m that starts with the first one's end bits
  pub run_cut : (n m : ℕ) (first second state : List ℕ) → length first ≡ n * line_size C →
      run C B (n + m) (first ++ second) state ≡ and_then (run C B n first state) (run C B m second (run C B n first state).end)
  unfolding run and_then
  run_cut zero m first second state e =
      let z : 0 + m ≡ m = omega arith in
      let n : first ≡ [] = no_bits first (omega arith) in
      rw (z, n)
  run_cut (suc n) m first second state e =
      let s : suc n * line_size C ≡ line_size C + n * line_size C = omega (arith, suc-mul n (line_size C)) in
      let h : line_size C ≤ length first = omega arith in
      let z : suc n + m ≡ suc (n + m) = omega arith in
      let c = clock C B (take (line_size C) first) state in
      let d = drop (line_size C) first in
      rw (z, take-append-le (line_size C) first second h, drop-append-le (line_size C) first second h)
      (ap (and_then c) (run_cut n m d second c.end (length-drop (line_size C) first ∙ omega arith)) ∙ sym (and_then_assoc c (run C B n d c.end) (run C B m second (run C B n d c.end).end)))

-- ---- the bits between two runs are 0 or 1

-- a bit as a number is that bit
pub is_one_number : (b : Bool) → is_one (as_number b) ≡ b
unfolding is_one as_number
is_one_number true = refl
is_one_number false = refl

-- bits that are 0 or 1 stay
pub ones_ones : (bs : List ℕ) → ones (ones bs) ≡ ones bs
unfolding ones
ones_ones [] = refl
ones_ones (b ∷ bs) = rw (is_one_number (is_one b), ones_ones bs)

ones_next : (v : ℕ → Bool) (xs : List Group) (state : List ℕ) → ones (next_bits v xs state) ≡ next_bits v xs state
unfolding ones next_bits
ones_next v [] state = refl
ones_next v (output l ∷ xs) state = ones_next v xs state
ones_next v (flip_flop e d ∷ xs) state = rw (is_one_number (taken v e d (get_or state 0 0)), ones_next v xs (drop 1 state))
ones_next v (memory ls ∷ xs) state = ones_next v xs state
ones_next v (staged_pin p ∷ xs) state = ones_next v xs state

-- and a run leaves such bits
pub ones_run : (C : Circuit) (B : Valuation) (n : ℕ) (recording state : List ℕ) → ones state ≡ state → ones (run C B n recording state).end ≡ (run C B n recording state).end
unfolding run and_then clock
ones_run C B zero recording state e = e
ones_run C B (suc n) recording state e = ones_run C B n (drop (line_size C) recording) _ (ones_next _ C.groups state)
