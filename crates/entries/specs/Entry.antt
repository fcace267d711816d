-- What an entry for other languages returns and leaves, for any areas and any reply. Assumes nothing.
use Rattle.std.specs.Prelude.{true, false, List, ◌∷◌, ℕ, suc, ltb, length, Result, Ok, Err}
use Rattle.refusals.specs.declared.Refusal.{Refusal}
use Rattle.rules.specs.Lists.{laid_over}

-- the number returned, the lent areas and the slice for the answer
pub record Entry (A : Type 0) : Type 0 where
  pub number : ℕ
  pub areas : A
  pub answer : List ℕ

unfoldable pub entry : {A : Type 0} → ℕ → A → List ℕ → Entry A
entry n a xs = record { number = n; areas = a; answer = xs }

-- numbers over the front of a slice; one that is shorter stays as it is
unfoldable pub written : List ℕ → List ℕ → List ℕ
written ns xs = elim (ltb (length xs) (length ns)) [ true ↦ xs | false ↦ laid_over ns xs ]

-- the length that is told beside the number: 0 where a file is refused
abbrev pub length_said : Result ℕ Refusal → ℕ
length_said (Ok n) = n
length_said (Err r) = 0

-- a reply, its number first, and the areas as they were and as it leaves them; a slice shorter than the reply gives 2 and nothing is changed
unfoldable pub entered : {A : Type 0} → (before after : A) → ℕ → List ℕ → List ℕ → Entry A
entered a b n ns xs = elim (ltb (length xs) (suc (length ns))) [ true ↦ entry 2 a xs | false ↦ entry n b (written (n ∷ ns) xs) ]

-- turned away before anything is looked at: nothing lent is changed, and a slice that is long enough has the number
unfoldable pub turned_away : {A : Type 0} → A → ℕ → List ℕ → List ℕ → Entry A
turned_away a n ns xs = entry n a (written (n ∷ ns) xs)
