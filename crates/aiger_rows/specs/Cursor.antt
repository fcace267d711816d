-- A cursor over the bytes of a file: the next byte of a kind, and numbers that stop at a cap. Assumes nothing.
use Rattle.std.specs.Prelude.{ℕ, suc, min, ◌+◌, ◌-◌, ◌<◌, ◌≤◌, ◌≡◌, true, false, Option, Some, None, List, [], ◌∷◌, eqb, length, get_or, take, drop}
use Rattle.rules.specs.Lists.{Found, nothing, found, every}
use Rattle.aiger_form.specs.Text.{words, is_digit, more_digits, number, Numbers?, numbers, numbers_of}

-- how many bytes stand before the first e, all where there is none
unfoldable pub until : ℕ → List ℕ → ℕ
until e [] = 0
until e (c ∷ cs) = elim (eqb c e) [ true ↦ 0 | false ↦ suc (until e cs) ]

-- a word of the machine holds no more
abbrev pub cap : ℕ
cap = 18446744073709551615

abbrev pub capped : ℕ → ℕ
capped n = min n cap

unfoldable pub capped_found : Found → Found
capped_found nothing = nothing
capped_found (found n) = found (capped n)

unfoldable pub numeral : Option ℕ → Found
numeral None = nothing
numeral (Some v) = found v

-- the numbers of a line: how many, and the first five, each capped
pub record Got (r : Numbers?) (count : ℕ) (values : List ℕ) : Type 0 where
  pub ns : List ℕ
  pub is : r ≡ numbers ns
  pub counted : count ≡ length ns
  pub held : (i : ℕ) → i < 5 → get_or values i 0 ≡ capped (get_or ns i 0)

-- digits from a place up to e, and their number
pub record Figured (bytes : List ℕ) (at e v : ℕ) : Type 0 where
  pub from : at ≤ e
  pub inside : e ≤ length bytes
  pub is : more_digits 0 (take (e - at) (drop at bytes)) ≡ found v
  pub digits : every is_digit (take (e - at) (drop at bytes)) ≡ true

-- a number of digits there, which byte b ends
pub record Worded (bytes : List ℕ) (at b e v : ℕ) : Type 0 where
  pub from : at ≤ e
  pub inside : e < length bytes
  pub ends : get_or bytes e 0 ≡ b
  pub is : number (take (e - at) (drop at bytes)) ≡ found v
  pub digits : every is_digit (take (e - at) (drop at bytes)) ≡ true

-- a line of three numbers there, up to e
pub record Tripled (bytes : List ℕ) (at e a b c : ℕ) : Type 0 where
  pub line : e ≡ at + until 10 (drop at bytes)
  pub inside : e < length bytes
  pub is : numbers_of (words (take (e - at) (drop at bytes))) ≡ numbers (a ∷ b ∷ c ∷ [])
