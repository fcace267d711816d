-- Where some jobs part, in one computed table that carries one claim. Assumes nothing.
use Prim.Native.Nat.{ℕ, ◌*◌}
use mathlib.Core.Bool.{not, ◌&&◌}
use mathlib.Core.List.{List, [], ◌∷◌, ◌++◌, map}
use lib.Dec.{T}
use Rattle.rules.specs.Lists.{Found, nothing, found, same_list, up_to}
use Rattle.rules.specs.Graph.{graph_of}
use Rattle.rules.specs.Records.{groups_of}
use Rattle.rules.specs.Inside.Opened.{everything}
use Rattle.rules.proofs.Bench.{leaves, outputs, first, chain}
use Rattle.word_rules.specs.Parting.{alike, parts_from, parts, idle_from, idle, idle_stage}

abbrev number : Found → ℕ
number nothing = 0
number (found k) = k

-- outputs of a graph, with no given pins, at height 6 in four rooms
abbrev parting : (gates literals : List ℕ) → ℕ
parting gates literals = number (parts 6 (graph_of gates) [] (groups_of (outputs literals)) 4)

-- a chain of eight gates, the last of which stands in the second stage's tree: 10 = (2, 4), 11 = (20, 6), and so on to 17 = (32, 18)
abbrev longer : List ℕ
longer = leaves 9 ++ (2 ∷ 4 ∷ 20 ∷ 6 ∷ 22 ∷ 8 ∷ 24 ∷ 10 ∷ 26 ∷ 12 ∷ 28 ∷ 14 ∷ 30 ∷ 16 ∷ 32 ∷ 18 ∷ [])

-- the first example by an idle run's word; the same asked for in two ways, where that word leaves the output no room; a chain in its second stage.
-- Not at all: the chain of seven gates, 31 outputs that are leaves, and 32, which both rules refuse with 8
abbrev numbers : List ℕ
numbers =
    parting first (14 ∷ [])
    ∷ parting first (14 ∷ 15 ∷ [])
    ∷ parting longer (34 ∷ [])
    ∷ parting chain (30 ∷ [])
    ∷ parting (leaves 31) (map (λ p. 2 * p) (up_to 31 1))
    ∷ parting (leaves 32) (map (λ p. 2 * p) (up_to 32 1))
    ∷ []

-- and the run of the first example is idle, that of the 31 outputs not
pub examples : T (same_list numbers (1 ∷ 1 ∷ 2 ∷ 0 ∷ 0 ∷ 0 ∷ []) && idle_stage 6 (graph_of first) [] (7 ∷ []) && not (idle_stage 6 (graph_of (leaves 31)) [] (up_to 31 1)))
unfolding everything alike parts_from parts idle_from idle idle_stage
examples = tt
