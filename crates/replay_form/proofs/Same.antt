-- A run looks at the pins of its records alone: where two ways to give them bits agree on those, the runs are the same. Assumes nothing.
use Prim.Native.Nat.{ℕ, zero, suc}
use mathlib.Core.Path.{◌≡◌, refl, ap₂}
use mathlib.Core.Bool.{Bool, true, false}
use mathlib.Core.List.{List, [], ◌∷◌, ◌++◌, map}
use lib.ListN.{get_or, take, drop}
use Rattle.rules.specs.Graph.{pin_of}
use Rattle.rules.specs.Records.{Group, output, flip_flop, memory, staged_pin, endpoints_of}
use Rattle.rules.specs.Fold.{as_number}
use Rattle.rules.specs.Lists.{In}
use Rattle.rules.proofs.Lists.Members.{in_here, in_there}
use Rattle.rules.specs.Records.{Ends}
use Rattle.rules.specs.Records.{first, later}
use Rattle.replay_form.specs.Clocks.{is_one, literal_out, record_out, handed_out, taken, next_bits, Circuit, Valuation, Ran, pin_bits, clock, line_size, and_then, run}

module _ (v w : ℕ → Bool) where
  literal_same : (l : ℕ) → v (pin_of l) ≡ w (pin_of l) → literal_out v l ≡ literal_out w l
  unfolding literal_out
  literal_same l e = rw e

  literals_same : (ls : List ℕ) → ((q : ℕ) → In q (map pin_of ls) → v q ≡ w q) → map (λ l. as_number (literal_out v l)) ls ≡ map (λ l. as_number (literal_out w l)) ls
  literals_same [] h = refl
  literals_same (l ∷ ls) h = rw (literal_same l (h (pin_of l) (in_here (pin_of l) (map pin_of ls))), literals_same ls (λ q i. h q (in_there q (pin_of l) (map pin_of ls) i)))

  record_same : (x : Group) → ((q : ℕ) → In q (endpoints_of x) → v q ≡ w q) → record_out v x ≡ record_out w x
  unfolding record_out endpoints_of
  record_same (output l) h = rw (literal_same l (h (pin_of l) (in_here (pin_of l) [])))
  record_same (flip_flop e d) h = rw (literal_same e (h (pin_of e) (in_here (pin_of e) (pin_of d ∷ []))), literal_same d (h (pin_of d) (in_there (pin_of d) (pin_of e) (pin_of d ∷ []) (in_here (pin_of d) []))))
  record_same (memory ls) h = literals_same ls h
  record_same (staged_pin p) h = rw (h p (in_here p []))

  -- records hand out the same bits where their pins have the same
  pub handed_same : (xs : List Group) → ((q : ℕ) → Ends q xs → v q ≡ w q) → handed_out v xs ≡ handed_out w xs
  unfolding handed_out
  handed_same [] h = refl
  handed_same (x ∷ xs) h = rw (record_same x (λ q i. h q (first i)), handed_same xs (λ q i. h q (later i)))

  taken_same : (e d b : ℕ) → literal_out v e ≡ literal_out w e → literal_out v d ≡ literal_out w d → taken v e d b ≡ taken w e d b
  unfolding taken
  taken_same e d b p q = ap₂ (λ (x y : Bool). elim x as (λ z. Bool) [ true ↦ y | false ↦ is_one b ]) p q

  -- and the flip-flops take the same
  pub next_same : (xs : List Group) → ((q : ℕ) → Ends q xs → v q ≡ w q) → (state : List ℕ) → next_bits v xs state ≡ next_bits w xs state
  unfolding next_bits endpoints_of
  next_same [] h state = refl
  next_same (output l ∷ xs) h state = next_same xs (λ q i. h q (later i)) state
  next_same (flip_flop e d ∷ xs) h state =
      let f : (q : ℕ) → In q (pin_of e ∷ pin_of d ∷ []) → v q ≡ w q = λ q i. h q (first i) in
      let a = literal_same e (f (pin_of e) (in_here (pin_of e) (pin_of d ∷ []))) in
      let b = literal_same d (f (pin_of d) (in_there (pin_of d) (pin_of e) (pin_of d ∷ []) (in_here (pin_of d) []))) in
      rw (taken_same e d (get_or state 0 0) a b, next_same xs (λ q i. h q (later i)) (drop 1 state))
  next_same (memory ls ∷ xs) h state = next_same xs (λ q i. h q (later i)) state
  next_same (staged_pin p ∷ xs) h state = next_same xs (λ q i. h q (later i)) state

module _ (C : Circuit) (A B : Valuation) where
  -- two ways to give pins their bits agree on the pins of the records, at every clock
  abbrev pub Agree : Type 0
  Agree = (line state : List ℕ) (q : ℕ) → Ends q C.groups → A (pin_bits C.graph C.driven line state) q ≡ B (pin_bits C.graph C.driven line state) q

  clock_same : Agree → (line state : List ℕ) → clock C A line state ≡ clock C B line state
  unfolding clock
  clock_same same line state =
      let bits = pin_bits C.graph C.driven line state in
      rw (handed_same (A bits) (B bits) C.groups (same line state), next_same (A bits) (B bits) C.groups (same line state) state)

  -- then every run is the same
  pub run_same : Agree → (n : ℕ) (recording state : List ℕ) → run C A n recording state ≡ run C B n recording state
  unfolding run
  run_same same zero recording state = refl
  run_same same (suc n) recording state =
      rw (clock_same same (take (line_size C) recording) state, run_same same n (drop (line_size C) recording) (clock C B (take (line_size C) recording) state).end)
