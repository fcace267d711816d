-- How many places and flip-flops records have, and where the indexes stand: what `run_lines` asks of both. Assumes nothing.
use Prim.Native.Nat.{ℕ, zero, suc, ◌+◌, ◌<◌}
use mathlib.Core.Path.{◌≡◌, refl, ◌∙◌, ap, ap₂}
use mathlib.Core.List.{List, [], ◌∷◌, ◌++◌, map}
use native.Mathlib.Omega.{arith}
use lib.ListN.{length, get_or, length-append, length-map}
use Rattle.rules.specs.Graph.{pin_of, inversion_of, literal_of}
use Rattle.rules.specs.Records.{Group, output, flip_flop, memory, staged_pin, endpoints_of}
use Rattle.rules.specs.Lists.{In}
use Rattle.rules.proofs.Lists.Members.{in_here, in_there}
use Rattle.rules.specs.Records.{Ends}
use Rattle.rules.specs.Records.{first, later}
use Rattle.replay_form.specs.Clocks.{bits_out, flip_flops}
use Rattle.replay_tape.specs.Clocks.{record_places, places_of, flips_from}

-- an index for each flip-flop
pub length_flips : (j : ℕ) (gs : List Group) → length (flips_from j gs) ≡ flip_flops gs
unfolding flips_from flip_flops
length_flips j [] = refl
length_flips j (output l ∷ gs) = length_flips (j + 1) gs
length_flips j (flip_flop e d ∷ gs) = ap suc (length_flips (j + 2) gs)
length_flips j (memory ls ∷ gs) = length_flips (j + length ls) gs
length_flips j (staged_pin p ∷ gs) = length_flips (j + 1) gs

-- a place for each bit handed out
pub length_places : (r : ℕ → ℕ) (gs : List Group) → length (places_of r gs) ≡ bits_out gs
unfolding places_of record_places bits_out
length_places r [] = refl
length_places r (output l ∷ gs) = omega (arith, length_places r gs)
length_places r (flip_flop e d ∷ gs) = omega (arith, length_places r gs)
length_places r (memory ls ∷ gs) =
    length-append (map (λ l. literal_of (r (pin_of l)) (inversion_of l)) ls) (places_of r gs) ∙ omega (arith, length_places r gs, length-map ls (λ l. literal_of (r (pin_of l)) (inversion_of l)))
length_places r (staged_pin p ∷ gs) = omega (arith, length_places r gs)

-- a flip-flop's enable and data are among the bits handed out
pub flips_inside : (j : ℕ) (gs : List Group) (i : ℕ) → i < length (flips_from j gs) → get_or (flips_from j gs) i 0 + 1 < j + bits_out gs
unfolding flips_from bits_out
flips_inside j [] i h = absurd (omega arith)
flips_inside j (output l ∷ gs) i h = omega (arith, flips_inside (j + 1) gs i h)
flips_inside j (flip_flop e d ∷ gs) zero h = omega arith
flips_inside j (flip_flop e d ∷ gs) (suc i) h = omega (arith, flips_inside (j + 2) gs i (omega arith))
flips_inside j (memory ls ∷ gs) i h = omega (arith, flips_inside (j + length ls) gs i h)
flips_inside j (staged_pin p ∷ gs) i h = omega (arith, flips_inside (j + 1) gs i h)

-- ---- places by slots that agree on the pins named

module _ (r t : ℕ → ℕ) where
  abbrev place : (ℕ → ℕ) → ℕ → ℕ
  place f l = literal_of (f (pin_of l)) (inversion_of l)

  memory_agree : (ls : List ℕ) → ((q : ℕ) → In q (map pin_of ls) → r q ≡ t q) → map (λ l. place r l) ls ≡ map (λ l. place t l) ls
  memory_agree [] e = refl
  memory_agree (l ∷ ls) e =
      ap₂ (λ (a : ℕ) (b : List ℕ). literal_of a (inversion_of l) ∷ b) (e (pin_of l) (in_here (pin_of l) (map pin_of ls))) (memory_agree ls (λ q i. e q (in_there q (pin_of l) (map pin_of ls) i)))

  record_agree : (x : Group) → ((q : ℕ) → In q (endpoints_of x) → r q ≡ t q) → record_places r x ≡ record_places t x
  unfolding record_places endpoints_of
  record_agree (output l) e = ap (λ (a : ℕ). literal_of a (inversion_of l) ∷ []) (e (pin_of l) (in_here (pin_of l) []))
  record_agree (flip_flop n d) e =
      ap₂ (λ (a b : ℕ). literal_of a (inversion_of n) ∷ literal_of b (inversion_of d) ∷ []) (e (pin_of n) (in_here (pin_of n) (pin_of d ∷ []))) (e (pin_of d) (in_there (pin_of d) (pin_of n) (pin_of d ∷ []) (in_here (pin_of d) [])))
  record_agree (memory ls) e = memory_agree ls e
  record_agree (staged_pin p) e = ap (λ (a : ℕ). literal_of a 0 ∷ []) (e p (in_here p []))

  -- the places are the same where the slots of the pins named are
  pub places_agree : (gs : List Group) → ((q : ℕ) → Ends q gs → r q ≡ t q) → places_of r gs ≡ places_of t gs
  unfolding places_of
  places_agree [] e = refl
  places_agree (x ∷ gs) e = ap₂ (λ (a b : List ℕ). a ++ b) (record_agree x (λ q i. e q (first i))) (places_agree gs (λ q i. e q (later i)))
