-- How many bits a run hands out and leaves. Assumes nothing.
use Prim.Native.Nat.{ℕ, zero, suc, ◌+◌, ◌*◌}
use mathlib.Core.Path.{◌≡◌, refl, ◌∙◌, ap}
use mathlib.Core.Bool.{Bool}
use mathlib.Core.List.{List, [], ◌∷◌, ◌++◌, map}
use native.Mathlib.Omega.{arith}
use native.Mathlib.Nat.{suc-mul}
use lib.ListN.{length, take, drop, length-append, length-map}
use Rattle.rules.specs.Records.{Group, output, flip_flop, memory, staged_pin}
use Rattle.rules.specs.Fold.{as_number}
use Rattle.replay_form.specs.Clocks.{is_one, ones, literal_out, record_out, handed_out, bits_out, flip_flops, next_bits, pin_bits, Circuit, Valuation, clock, line_size, and_then, run}

length_handed : (v : ℕ → Bool) (xs : List Group) → length (handed_out v xs) ≡ bits_out xs
unfolding handed_out record_out bits_out
length_handed v [] = refl
length_handed v (output l ∷ xs) = omega (arith, length_handed v xs)
length_handed v (flip_flop e d ∷ xs) = omega (arith, length_handed v xs)
length_handed v (memory ls ∷ xs) = length-append (map (λ l. as_number (literal_out v l)) ls) (handed_out v xs) ∙ omega (arith, length_handed v xs, length-map ls (λ l. as_number (literal_out v l)))
length_handed v (staged_pin p ∷ xs) = omega (arith, length_handed v xs)

length_next : (v : ℕ → Bool) (xs : List Group) (state : List ℕ) → length (next_bits v xs state) ≡ flip_flops xs
unfolding next_bits flip_flops
length_next v [] state = refl
length_next v (output l ∷ xs) state = length_next v xs state
length_next v (flip_flop e d ∷ xs) state = ap suc (length_next v xs (drop 1 state))
length_next v (memory ls ∷ xs) state = length_next v xs state
length_next v (staged_pin p ∷ xs) state = length_next v xs state

-- a bit for each
pub length_ones : (bs : List ℕ) → length (ones bs) ≡ length bs
unfolding ones
length_ones bs = length-map bs (λ b. as_number (is_one b))

module _ (C : Circuit) (B : Valuation) where
  -- n lines hand out n times the bits of a clock
  pub length_out : (n : ℕ) (recording state : List ℕ) → length (run C B n recording state).out ≡ n * bits_out C.groups
  unfolding run and_then clock
  length_out zero recording state = omega arith
  length_out (suc n) recording state =
      let c = clock C B (take (line_size C) recording) state in
      length-append c.out (run C B n (drop (line_size C) recording) c.end).out
      ∙ omega (arith, length_handed (B (pin_bits C.graph C.driven (take (line_size C) recording) state)) C.groups, length_out n (drop (line_size C) recording) c.end, suc-mul n (bits_out C.groups))

  -- and leave a bit for each flip-flop
  pub length_end : (n : ℕ) (recording state : List ℕ) → length state ≡ flip_flops C.groups → length (run C B n recording state).end ≡ flip_flops C.groups
  unfolding run and_then clock
  length_end zero recording state e = e
  length_end (suc n) recording state e = length_end n (drop (line_size C) recording) _ (length_next _ C.groups state)
