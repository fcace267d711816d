-- What every refusal's number is. Assumes nothing.
use Rattle.std.proofs.Common.{◌≡◌, ◌≢◌, ◌∙◌, ap, ◌<◌, arith}
use Rattle.std.specs.Prelude.{Result, Err}
use Rattle.std.specs.Result.{IsErrAnd}
use Rattle.std.proofs.lemmas.Result.{err_from_is_err_and}
use Rattle.refusals.specs.declared.Refusal.{Refusal}
use Rattle.refusals.specs.declared.Refusal.TheVariants.{NoHeight, WrongSize, WrongGraph, WrongRecord, WrongGiven, OverReserved, OverWords, NoCell, NoRoom, WrongGroups, NoJob, Malformed, BadReset, NoFile, NoSheet, UnknownSheet, TooShort, NotPlain, NotDriven, WrongLength, ShortLines, WrongPlan, Loop, ShortList, OldRule}
use Rattle.refusals.specs.Numbers.{number_of}

-- 0 is no refusal
pub number_above : (r : Refusal) → 0 < number_of r
number_above NoHeight = omega arith
number_above WrongSize = omega arith
number_above WrongGraph = omega arith
number_above WrongRecord = omega arith
number_above WrongGiven = omega arith
number_above OverReserved = omega arith
number_above OverWords = omega arith
number_above NoCell = omega arith
number_above NoRoom = omega arith
number_above WrongGroups = omega arith
number_above NoJob = omega arith
number_above Malformed = omega arith
number_above BadReset = omega arith
number_above NoFile = omega arith
number_above NoSheet = omega arith
number_above UnknownSheet = omega arith
number_above TooShort = omega arith
number_above NotPlain = omega arith
number_above NotDriven = omega arith
number_above WrongLength = omega arith
number_above ShortLines = omega arith
number_above WrongPlan = omega arith
number_above (Loop p) = omega arith
number_above ShortList = omega arith
number_above OldRule = omega arith

-- what `?` hands on is the error that it met
pub handed_on : {T E : Type 0} (r : Result T E) (e : E) → IsErrAnd r (λ y. y ≡ e) → r ≡ Err e
handed_on r e h = let x = err_from_is_err_and r h in x.1 ∙ ap Err x.2

pub number_is : (r : Refusal) → number_of r ≢ 0
number_is r e = absurd (omega (arith, number_above r))
