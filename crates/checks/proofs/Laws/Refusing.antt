-- The first refusal that applies. Assumes nothing.
use Prim.Native.Nat.{ℕ, ◌%◌}
use mathlib.Core.Bool.{Bool, true, false, ◌&&◌}
use mathlib.Core.List.{List}
use mathlib.Core.Path.{◌≡◌, sym, ◌∙◌, ap}
use native.Mathlib.Omega.{arith}
use lib.ListN.{length}
use lib.Dec.{leb}
use borrow.Author.Tests.{le-leb, eq-eqb, ne_eqb}
use Rattle.rules.specs.Cells.{is_height}
use Rattle.rules.specs.Graph.{graph_of, pin_count}
use Rattle.rules.specs.Checks.{nodes_right, graph_right, loops_right, records_right, given_right, refusal_of, pin_found, pin_shown}
use Rattle.rules.specs.Loops.{loop_pin, is_nothing, loopless}
use Rattle.rules.proofs.Lists.Members.{split}
use Rattle.graph.specs.declared.Pin.{Pin}
use Rattle.std.specs.Prelude.{Option, Some, None, Result, Err}
use Rattle.refusals.specs.declared.Refusal.{Refusal}
use Rattle.refusals.specs.declared.Refusal.TheVariants.{Loop}
use Rattle.refusals.specs.Numbers.{number_said, pin_said}
use Rattle.refusals.proofs.Numbers.{number_is}
use Rattle.graph_loops.specs.Answers.{loop_for}
use Rattle.checks.specs.Values.{graph_sized, graph_refusal, Says}

module _ (gates : List ℕ) where
  -- an odd count of numbers is no graph
  pub gates_odd : (length gates % 2 ≡ 0 → ⊥) → false ≡ graph_sized gates
  unfolding graph_sized
  gates_odd n = rw (ne_eqb (length gates % 2) 0 n)

  module _ (even : length gates % 2 ≡ 0) (pins : ℕ) (e : pins ≡ pin_count gates) where
    -- a graph has at least pin 0
    pub no_pins : pins ≡ 0 → false ≡ graph_sized gates
    unfolding graph_sized
    no_pins z = rw (eq-eqb (length gates % 2) 0 even, ← e, z)

    -- an even count above 0 is right where it is at most 65,536 pins
    pub pins_few : (pins ≡ 0 → ⊥) → leb pins 65536 ≡ graph_sized gates
    unfolding graph_sized
    pins_few n = rw (eq-eqb (length gates % 2) 0 even, ← e, le-leb 1 pins (omega arith))

  -- a graph of a wrong size fails check 3
  pub size_wrong : graph_sized gates ≡ false → graph_right gates ≡ false
  unfolding graph_right graph_sized
  size_wrong e = rw (e, graph_right)

  -- with the size right, check 3 is up to the gates
  pub size_right : graph_sized gates ≡ true → graph_right gates ≡ nodes_right (pin_count gates) 0 (graph_of gates)
  unfolding graph_right graph_sized
  size_right e = rw (e, graph_right)

  -- 3 and 23
  pub graph_3 : graph_right gates ≡ false → 3 ≡ graph_refusal gates
  unfolding graph_refusal
  graph_3 a = rw (a, graph_refusal)

  module _ (g : graph_right gates ≡ true) where
    -- a right graph with a loop gives 23
    pub graph_23 : loops_right gates ≡ false → 23 ≡ graph_refusal gates
    unfolding graph_refusal
    graph_23 a = rw (g, graph_refusal, a)

    -- a right graph without a loop gives 0
    pub graph_0 : loops_right gates ≡ true → 0 ≡ graph_refusal gates
    unfolding graph_refusal
    graph_0 a = rw (g, graph_refusal, a)

-- the pin shown
pub pin_none_lem : (n : ℕ) (gates : List ℕ) → (n ≡ 23 → ⊥) → 0 ≡ pin_shown n gates
unfolding pin_shown
pin_none_lem n gates h = rw (ne_eqb n 23 h, pin_shown)

-- a number but 23 shows none
pub says : {A : Type 0} {n : ℕ} {gates : List ℕ} {r : Result A Refusal} → pin_said r ≡ 0 → (number_said r ≡ 23 → ⊥) → number_said r ≡ n → Says n gates r
says {n = n} {gates = gates} p h e = record { number = e; pin = p ∙ pin_none_lem n gates (λ z. h (e ∙ z)) }

-- what is refused has another number than 0
pub refused : {A : Type 0} {n : ℕ} {gates : List ℕ} {e : Refusal} → Says {A = A} n gates (Err e) → n ≡ 0 → ⊥
refused {e = e} S z = number_is e (S.number ∙ z)

-- a verdict tells a number by any other name for it
pub says_same : {n k : ℕ} {gates : List ℕ} {A : Type 0} {r : Result A Refusal} → Says n gates r → n ≡ k → Says k gates r
says_same S e = rw e at S

-- what the search for a loop tells
module _ (gates : List ℕ) (r : Option Pin) (d : loop_for r ≡ loop_pin (graph_of gates)) where
  -- no pin on a loop: the graph passes the check for loops
  pub loops_none : r ≡ None → loops_right gates ≡ true
  unfolding loops_right loopless loop_for is_nothing
  loops_none e = ap is_nothing (sym d ∙ ap loop_for e)

  -- a pin on a loop: the graph fails it
  pub loops_some : (p : Pin) → r ≡ Some p → loops_right gates ≡ false
  unfolding loops_right loopless loop_for is_nothing
  loops_some p e = ap is_nothing (sym d ∙ ap loop_for e)

  -- 23 is told with the smallest pin on a loop
  pub says_looped : {A : Type 0} (n : ℕ) (p : Pin) → 23 ≡ n → r ≡ Some p → Says {A = A} n gates (Err (Loop p))
  unfolding pin_shown pin_found loop_for
  says_looped n p e c = record { number = e; pin = rw (← e) (ap pin_found (ap loop_for (sym c) ∙ d)) }

module _ (K : ℕ) (sized : Bool) (gates given records : List ℕ) where
  -- a bad height is refused with 1, before anything else
  pub refusal_1 : is_height K ≡ false → 1 ≡ refusal_of K sized gates given records
  unfolding refusal_of
  refusal_1 a = rw (a, refusal_of)

  module _ (h : is_height K ≡ true) where
    -- then areas of a wrong size are refused with 2
    pub refusal_2 : sized ≡ false → 2 ≡ refusal_of K sized gates given records
    unfolding refusal_of
    refusal_2 a = rw (h, refusal_of, a)

    module _ (s : sized ≡ true) where
      -- then a wrong graph with 3
      pub refusal_3 : graph_right gates ≡ false → 3 ≡ refusal_of K sized gates given records
      unfolding refusal_of
      refusal_3 a = rw (h, refusal_of, s, a)

      module _ (g : graph_right gates ≡ true) where
        -- then a graph with a loop with 23
        pub refusal_23 : loops_right gates ≡ false → 23 ≡ refusal_of K sized gates given records
        unfolding refusal_of
        refusal_23 a = rw (h, refusal_of, s, g, a)

      module _ (g : graph_right gates ≡ true) (f : loops_right gates ≡ true) (pins : ℕ) (e : pins ≡ pin_count gates) where
        -- then wrong records with 4
        pub refusal_4 : records_right pins records ≡ false → 4 ≡ refusal_of K sized gates given records
        unfolding refusal_of
        refusal_4 a = rw (h, refusal_of, s, g, f, ← e, a)

        module _ (r : records_right pins records ≡ true) where
          -- then a given pin above N with 5
          pub refusal_5 : given_right pins given ≡ false → 5 ≡ refusal_of K sized gates given records
          unfolding refusal_of
          refusal_5 a = rw (h, refusal_of, s, g, f, ← e, r, ← e, a)

          -- with all of these right nothing is refused
          pub refusal_0 : given_right pins given ≡ true → 0 ≡ refusal_of K sized gates given records
          unfolding refusal_of
          refusal_0 a = rw (h, refusal_of, s, g, f, ← e, r, ← e, a)

  -- where 1 and 2 do not apply, 3 and 23 are the graph's
  pub refusal_graph : is_height K ≡ true → sized ≡ true → (graph_refusal gates ≡ 0 → ⊥) → graph_refusal gates ≡ refusal_of K sized gates given records
  unfolding graph_refusal
  refusal_graph h s n =
      split (graph_right gates)
      (λ g. split (loops_right gates) (λ f. absurd (n (sym (graph_0 gates g f)))) (λ f. sym (graph_23 gates g f) ∙ refusal_23 h s g f))
      (λ g. sym (graph_3 gates g) ∙ refusal_3 h s g)

  -- sizes need no answer for a bad height
  pub height_first : (b : Bool) → b ≡ is_height K && sized → refusal_of K b gates given records ≡ refusal_of K sized gates given records
  unfolding refusal_of
  height_first b e = rw e (split (is_height K) (λ h. rw h) (λ h. rw (h, refusal_of)))

-- a graph that neither refuses
pub graph_free : (gates : List ℕ) → graph_refusal gates ≡ 0 → (graph_right gates ≡ true) × (loops_right gates ≡ true)
graph_free gates e =
    split (graph_right gates)
    (λ g. split (loops_right gates) (λ f. (g, f)) (λ f. absurd (omega (arith, graph_23 gates g f))))
    (λ g. absurd (omega (arith, graph_3 gates g)))
