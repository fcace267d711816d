-- Replay, clock by clock, over any way to give pins their bits: the leaves of a line, what is handed out, the next bits, a run. Assumes nothing.
use Rattle.std.specs.Prelude.{ℕ, zero, suc, ◌+◌, ◌-◌, Bool, true, false, not, ◌&&◌, List, [], ◌∷◌, ◌++◌, map, ltb, eqb, length, get_or, take, drop}
use Rattle.rules.specs.Lists.{mem, keep, up_to}
use Rattle.rules.specs.Graph.{Node, leaf, pin_of, literal_bit, value}
use Rattle.rules.specs.Records.{Group, output, flip_flop, memory, staged_pin}
use Rattle.rules.specs.Fold.{is_leaf, as_number}

-- bits are numbers: 0 or not 0 going in, 0 or 1 coming out
unfoldable pub is_one : ℕ → Bool
is_one b = not (eqb b 0)

-- bits going in as bits coming out
unfoldable pub ones : List ℕ → List ℕ
ones bs = map (λ b. as_number (is_one b)) bs

-- a pin from 1 to N that no gate drives
unfoldable pub leaf_pin : List Node → ℕ → Bool
leaf_pin g p = ltb 0 p && ltb p (length g) && is_leaf (get_or g p leaf)

-- the leaves not driven, in pin order: a line has one bit for each
unfoldable pub line_leaves : List Node → List ℕ → List ℕ
line_leaves g driven = keep (λ p. leaf_pin g p && not (mem p driven)) (up_to (length g) 0)

-- the bit that stands beside a pin
unfoldable pub beside : ℕ → (pins bits : List ℕ) → ℕ
beside p [] bs = 0
beside p (q ∷ qs) bs = elim (eqb p q) [ true ↦ get_or bs 0 0 | false ↦ beside p qs (drop 1 bs) ]

-- the bits of all pins at a clock: a driven leaf's is its flip-flop's, another leaf's that of the line, and 0 for pin 0 and what no leaf is
unfoldable pub pin_bits : List Node → (driven line state : List ℕ) → List ℕ
pin_bits g driven line state = 0 ∷ map (λ p. as_number (is_one (beside p (driven ++ line_leaves g driven) (state ++ line)))) (up_to (length g - 1) 1)

-- a literal's bit, inversion applied
unfoldable pub literal_out : (ℕ → Bool) → ℕ → Bool
literal_out v l = literal_bit l (v (pin_of l))

-- what a record hands out: the bit of each of its literals, or of its pin, in order
unfoldable pub record_out : (ℕ → Bool) → Group → List ℕ
record_out v (output l) = as_number (literal_out v l) ∷ []
record_out v (flip_flop e d) = as_number (literal_out v e) ∷ as_number (literal_out v d) ∷ []
record_out v (memory ls) = map (λ l. as_number (literal_out v l)) ls
record_out v (staged_pin p) = as_number (v p) ∷ []

-- what all records hand out
unfoldable pub handed_out : (ℕ → Bool) → List Group → List ℕ
handed_out v [] = []
handed_out v (x ∷ xs) = record_out v x ++ handed_out v xs

-- how many bits a clock hands out
unfoldable pub bits_out : List Group → ℕ
bits_out [] = 0
bits_out (output l ∷ xs) = 1 + bits_out xs
bits_out (flip_flop e d ∷ xs) = 2 + bits_out xs
bits_out (memory ls ∷ xs) = length ls + bits_out xs
bits_out (staged_pin p ∷ xs) = 1 + bits_out xs

-- how many flip-flops there are
unfoldable pub flip_flops : List Group → ℕ
flip_flops [] = 0
flip_flops (output l ∷ xs) = flip_flops xs
flip_flops (flip_flop e d ∷ xs) = suc (flip_flops xs)
flip_flops (memory ls ∷ xs) = flip_flops xs
flip_flops (staged_pin p ∷ xs) = flip_flops xs

-- a flip-flop takes its data where its enable is 1, and otherwise keeps its bit
unfoldable pub taken : (ℕ → Bool) → (enable input bit : ℕ) → Bool
taken v e d b = elim (literal_out v e) [ true ↦ literal_out v d | false ↦ is_one b ]

-- the bits of the flip-flops after a clock, the i-th flip-flop's being bit i
unfoldable pub next_bits : (ℕ → Bool) → List Group → List ℕ → List ℕ
next_bits v [] state = []
next_bits v (output l ∷ xs) state = next_bits v xs state
next_bits v (flip_flop e d ∷ xs) state = as_number (taken v e d (get_or state 0 0)) ∷ next_bits v xs (drop 1 state)
next_bits v (memory ls ∷ xs) state = next_bits v xs state
next_bits v (staged_pin p ∷ xs) state = next_bits v xs state

-- a graph, its records and the leaf that each flip-flop drives
pub record Circuit : Type 0 where
  pub graph : List Node
  pub groups : List Group
  pub driven : List ℕ

-- how the bits of all pins give each pin its bit
abbrev pub Valuation : Type 0
Valuation = List ℕ → ℕ → Bool

-- the bits handed out, and those of the flip-flops after them
pub record Ran : Type 0 where
  pub out : List ℕ
  pub end : List ℕ

-- one clock
unfoldable pub clock : Circuit → Valuation → (line state : List ℕ) → Ran
clock C B line state =
    let v = B (pin_bits C.graph C.driven line state) in
    record { out = handed_out v C.groups; end = next_bits v C.groups state }

-- the bits of a line
unfoldable pub line_size : Circuit → ℕ
line_size C = length (line_leaves C.graph C.driven)

-- one run, then another
unfoldable pub and_then : Ran → Ran → Ran
and_then a b = record { out = a.out ++ b.out; end = b.end }

-- n lines of a recording, one a clock
unfoldable pub run : Circuit → Valuation → ℕ → (recording state : List ℕ) → Ran
run C B zero recording state = record { out = []; end = state }
run C B (suc n) recording state =
    let c = clock C B (take (line_size C) recording) state in
    and_then c (run C B n (drop (line_size C) recording) c.end)

-- the plain graph's
unfoldable pub plain_bits : List Node → Valuation
plain_bits g bits p = value (length g) g [] bits p

-- a run of the plain graph
unfoldable pub plain_run : Circuit → ℕ → (recording starting : List ℕ) → Ran
plain_run C n recording starting = run C (plain_bits C.graph) n recording (ones starting)
