-- A step of the walk through a job file: where it ends, and the area with what was read. Assumes nothing.
use Rattle.std.specs.Prelude.{◌≡◌, Option, Some, None, List, [], ◌∷◌, ℕ, ◌+◌, ◌*◌, ◌<◌, ◌≤◌, length, drop}
use Rattle.std.proofs.lemmas.List.Edits.{sets}
use Rattle.job.specs.declared.steps.Step.{Step}
use Rattle.rules.specs.Job.{Read, cut, got, next, field}
use Rattle.bits.specs.Fields.{bits_in}

-- one field, as a list
unfoldable pub one_field : ℕ → List ℕ → Read (List ℕ)
one_field w bs = next (field w bs) (λ x cs. got (x ∷ []) cs)

-- a count of 16 bits, and so many of something
unfoldable pub counted : (ℕ → List ℕ → Read (List ℕ)) → List ℕ → Read (List ℕ)
counted f bs = next (field 16 bs) f

-- the walk stands at a bit, with s numbers stored
pub record At (at s : ℕ) (xs : List ℕ) : Type 0 where
  pub small : length xs ≤ 8192
  pub inside : at ≤ 8 * length xs
  pub room : s ≤ 2 * at + 2

pub record FieldsAt (at w s : ℕ) (xs : List ℕ) : Type 0 where
  pub small : length xs ≤ 8192
  pub inside : at ≤ 8 * length xs
  pub room : s ≤ 2 * at + 2
  pub some : 1 ≤ w
  pub short : w ≤ 17

-- what was read stands in the area from s on, as far as the area reaches; a bit holds two numbers at most
pub record All (one : List ℕ → Read (List ℕ)) (xs : List ℕ) (at s : ℕ) (a a' : List ℕ) (at' s' : ℕ) : Type 0 where
  pub from : at ≤ 8 * length xs
  pub these : List ℕ
  pub is : one (drop at (bits_in xs)) ≡ got these (drop at' (bits_in xs))
  pub area : a' ≡ sets a s these
  pub count : s' ≡ s + length these
  pub few : s' + 2 * at ≤ s + 2 * at'

-- past the end: cut
pub record Took (one : List ℕ → Read (List ℕ)) (xs : List ℕ) (at s : ℕ) (a a' : List ℕ) (at' s' : ℕ) : Type 0 where
  pub len : length a' ≡ length a
  pub lost : 8 * length xs < at' → at ≤ 8 * length xs → one (drop at (bits_in xs)) ≡ cut
  pub read : at' ≤ 8 * length xs → All one xs at s a a' at' s'

-- a count of 16 bits
pub record CountIs (xs : List ℕ) (at at' n : ℕ) : Type 0 where
  pub from : at ≤ 8 * length xs
  pub is : field 16 (drop at (bits_in xs)) ≡ got n (drop at' (bits_in xs))
  pub behind : at' ≡ at + 16

pub record Counted (xs : List ℕ) (at at' n : ℕ) : Type 0 where
  pub lost : 8 * length xs < at' → at ≤ 8 * length xs → field 16 (drop at (bits_in xs)) ≡ cut
  pub read : at' ≤ 8 * length xs → CountIs xs at at' n

-- a step by what it reads up to a bit, and how many numbers are stored then; past the end the file is cut
abbrev pub TookAs : (ℕ → ℕ → Type 0) → List ℕ → Option Step → Type 0
TookAs P xs None = P (8 * length xs + 1) 0
TookAs P xs (Some r) = P r.at r.count × (r.at ≤ 8 * length xs)
