-- Endpoint records for any numbers: what the enum of kinds stands for, and what is read where no whole record stands. Assumes nothing.
use Rattle.std.specs.Prelude.{ℕ, Option, Some, None, Bool, List, [], ◌∷◌, ltb, get_or, drop}
use Rattle.rules.specs.Lists.{every}
use Rattle.rules.specs.Records.{size_of, group_at, whole_at, endpoints_of}
use Rattle.cells.specs.Answers.{or_zero}
use Rattle.records.specs.declared.Kind.{Kind}
use Rattle.records.specs.declared.Kind.TheVariants.{Output, FlipFlop, Memory, StagedPin}

-- the kind's number
unfoldable pub number_of : Kind → ℕ
number_of Output = 1
number_of FlipFlop = 2
number_of Memory = 3
number_of StagedPin = 4

-- the same, 0 for no kind
unfoldable pub number_or_zero : Option Kind → ℕ
number_or_zero None = 0
number_or_zero (Some k) = number_of k

-- a number that is the kind of a record, else 0
unfoldable pub known : ℕ → ℕ
known k = or_zero (ltb 0 (size_of k)) k

-- the pin that number x behind kind k names
unfoldable pub named_by : ℕ → ℕ → ℕ
named_by k x = get_or (endpoints_of (group_at (k ∷ x ∷ []))) 0 0

-- the size of the whole record at an index, 0 if none stands there
unfoldable pub size_at : List ℕ → ℕ → ℕ
size_at xs at = or_zero (whole_at (drop at xs)) (size_of (get_or xs at 0))

-- the i-th pin that the whole record at an index waits for, 0 if there is none
unfoldable pub endpoint_at : List ℕ → ℕ → ℕ → ℕ
endpoint_at xs at i = or_zero (whole_at (drop at xs)) (get_or (endpoints_of (group_at (drop at xs))) i 0)

-- does the record at the front name pins below n only
unfoldable pub record_right : ℕ → List ℕ → Bool
record_right n xs = every (λ p. ltb p n) (endpoints_of (group_at xs))
