-- Endpoint records: what their numbers say, and the pins that they make wait. Assumes nothing.
use Rattle.std.specs.Prelude.{ℕ, zero, suc, Bool, true, false, ◌&&◌, List, [], ◌∷◌, map, ltb, eqb, length, get_or, take, drop}
use Rattle.rules.specs.Lists.{keep, insert_all, every, In}
use Rattle.rules.specs.Graph.{pin_of}

-- kind 1: primary output (literal); 2: flip-flop (enable, data literals); 3: memory (91 literals); 4: staged pin (pin)
pub data Group : Type 0 where
  output : ℕ → Group
  flip_flop : (enable input : ℕ) → Group
  memory : List ℕ → Group
  staged_pin : ℕ → Group

-- how many numbers stand behind a kind; 0 for an unknown one.
-- A memory: read enable; read and write address bit i for i = 0..12; write enable and write data bit i for i = 0..31
unfoldable pub size_of : ℕ → ℕ
size_of k = elim (eqb k 1) [
  | true ↦ 1
  | false ↦ elim (eqb k 2) [ true ↦ 2 | false ↦ elim (eqb k 3) [ true ↦ 91 | false ↦ elim (eqb k 4) [ true ↦ 1 | false ↦ 0 ] ] ]
]

-- a record of a known kind, by the numbers from its kind on
unfoldable pub group_at : List ℕ → Group
group_at xs =
    elim (eqb (get_or xs 0 0) 1) [
      | true ↦ output (get_or xs 1 0)
      | false ↦ elim (eqb (get_or xs 0 0) 2) [
        | true ↦ flip_flop (get_or xs 1 0) (get_or xs 2 0)
        | false ↦ elim (eqb (get_or xs 0 0) 3) [ true ↦ memory (take 91 (drop 1 xs)) | false ↦ staged_pin (get_or xs 1 0) ]
      ]
    ]

-- is there a whole record of a known kind at the front
unfoldable pub whole_at : List ℕ → Bool
whole_at xs = ltb 0 (size_of (get_or xs 0 0)) && ltb (size_of (get_or xs 0 0)) (length xs)

-- the records, or where one is unknown or cut: none
pub data Groups? : Type 0 where
  unreadable : Groups?
  groups : List Group → Groups?

unfoldable pub and_then : Group → Groups? → Groups?
and_then x unreadable = unreadable
and_then x (groups xs) = groups (x ∷ xs)

-- each record takes one number of the list at least, so the list's length is fuel enough and the second case is never reached
unfoldable pub read_from : ℕ → List ℕ → Groups?
read_from zero [] = groups []
read_from zero (x ∷ xs) = unreadable
read_from (suc f) [] = groups []
read_from (suc f) (x ∷ xs) = elim (whole_at (x ∷ xs)) [
  | true ↦ and_then (group_at (x ∷ xs)) (read_from f (drop (size_of x) xs))
  | false ↦ unreadable
]

unfoldable pub read : List ℕ → Groups?
read xs = read_from (length xs) xs

-- the pins that a group waits for, in its order
unfoldable pub endpoints_of : Group → List ℕ
endpoints_of (output l) = pin_of l ∷ []
endpoints_of (flip_flop e d) = pin_of e ∷ pin_of d ∷ []
endpoints_of (memory ls) = map pin_of ls
endpoints_of (staged_pin p) = p ∷ []

-- the waiting list: pin 0 and pins already present are passed over
unfoldable pub waiting_of : List Group → List ℕ → List ℕ
waiting_of [] ws = ws
waiting_of (x ∷ xs) ws = waiting_of xs (insert_all (keep (ltb 0) (endpoints_of x)) ws)

-- does a group name pins below n only
unfoldable pub all_named : ℕ → List Group → Bool
all_named n [] = true
all_named n (x ∷ xs) = every (λ p. ltb p n) (endpoints_of x) && all_named n xs

-- the groups of readable records; none otherwise (check 4 refuses those)
unfoldable pub groups_of : List ℕ → List Group
groups_of xs = elim (read xs) [ unreadable ↦ [] | groups gs ↦ gs ]

-- a pin that a group of the list waits for
pub data Ends (q : ℕ) : List Group → Type 0 where
  first : {x : Group} {xs : List Group} → In q (endpoints_of x) → Ends q (x ∷ xs)
  later : {x : Group} {xs : List Group} → Ends q xs → Ends q (x ∷ xs)
