-- The checks 1, 2, 3, 23, 4, 5, in their order. Sizes are compared as true numbers. Assumes nothing.
use Rattle.std.specs.Prelude.{ℕ, suc, ◌+◌, ◌*◌, ◌%◌, Bool, true, false, ◌&&◌, List, [], ◌∷◌, leb, ltb, eqb, length}
use Rattle.rules.specs.Lists.{every, Found, nothing, found}
use Rattle.rules.specs.Cells.{is_height, stage_size, word_limit, rooms}
use Rattle.rules.specs.Graph.{Node, leaf, gate, pin_of, graph_of, pin_count}
use Rattle.rules.specs.Loops.{loop_pin, loopless}
use Rattle.rules.specs.Records.{Groups?, unreadable, groups, read, all_named}

-- 2. a plan is a whole multiple of a stage, one multiple a room; words: at least W; counts: at least one per room
unfoldable pub plan_sized : ℕ → ℕ → Bool
plan_sized K plan = eqb (plan % stage_size K) 0

-- the size at which the work area counts: 16(N+1) + 8E + 512
unfoldable pub work_size : List ℕ → List ℕ → ℕ
work_size gates records = 16 * pin_count gates + 8 * length records + 512

-- the areas of a build, by their lengths, with a work area of at least `need`
unfoldable pub areas_sized : ℕ → ℕ → (plan words counts work : ℕ) → Bool
areas_sized K need plan words counts work = plan_sized K plan && leb (word_limit K) words && leb (rooms K plan) counts && leb need work

-- 3. a gate's pins are above 0 and below n, which is N + 1, in any order; pin 0, the first of the list where p is 0, is no gate
unfoldable pub nodes_right : ℕ → ℕ → List Node → Bool
nodes_right n p [] = true
nodes_right n p (leaf ∷ g) = nodes_right n (suc p) g
nodes_right n p (gate a b ∷ g) = ltb 0 p && ltb 0 (pin_of a) && ltb (pin_of a) n && ltb 0 (pin_of b) && ltb (pin_of b) n && nodes_right n (suc p) g

-- at most 65,535 pins, two numbers for each and for pin 0
unfoldable pub graph_right : List ℕ → Bool
graph_right gates = eqb (length gates % 2) 0 && leb 1 (pin_count gates) && leb (pin_count gates) 65536 && nodes_right (pin_count gates) 0 (graph_of gates)

-- 23. no pin is on a loop, gates counted whether given or not; judged of a graph that 3 lets pass
unfoldable pub loops_right : List ℕ → Bool
loops_right gates = loopless (graph_of gates)

-- the pin shown with a refusal: with 23 the smallest on any loop, else 0
unfoldable pub pin_found : Found → ℕ
pin_found nothing = 0
pin_found (found p) = p

unfoldable pub pin_shown : ℕ → List ℕ → ℕ
pin_shown n gates = elim (eqb n 23) [ true ↦ pin_found (loop_pin (graph_of gates)) | false ↦ 0 ]

-- 4. no record is unknown or cut, E is at most 65,536, and no pin is above N
unfoldable pub groups_right : ℕ → Groups? → Bool
groups_right n unreadable = false
groups_right n (groups xs) = all_named n xs

unfoldable pub records_right : ℕ → List ℕ → Bool
records_right n records = leb (length records) 65536 && groups_right n (read records)

-- 5. no given pin is above N
unfoldable pub given_right : ℕ → List ℕ → Bool
given_right n given = every (λ p. ltb p n) given

-- the first of 1, 2, 3, 23, 4, 5 that applies, or 0; `sized` says whether every lent area has a right size
unfoldable pub refusal_of : ℕ → Bool → (gates given records : List ℕ) → ℕ
refusal_of K sized gates given records =
    elim (is_height K) [
      | false ↦ 1
      | true ↦ elim sized [
        | false ↦ 2
        | true ↦ elim (graph_right gates) [
          | false ↦ 3
          | true ↦ elim (loops_right gates) [
            | false ↦ 23
            | true ↦ elim (records_right (pin_count gates) records) [
              | false ↦ 4
              | true ↦ elim (given_right (pin_count gates) given) [ false ↦ 5 | true ↦ 0 ]
            ]
          ]
        ]
      ]
    ]
