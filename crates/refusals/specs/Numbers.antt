-- What a refusal is in the documents: a number, and with 23 a pin. Assumes nothing.
use Rattle.std.specs.Prelude.{ℕ, Result, Ok, Err}
use Rattle.refusals.specs.declared.Refusal.{Refusal}
use Rattle.refusals.specs.declared.Refusal.TheVariants.{NoHeight, WrongSize, WrongGraph, WrongRecord, WrongGiven, OverReserved, OverWords, NoCell, NoRoom, WrongGroups, NoJob, Malformed, BadReset, NoFile, NoSheet, UnknownSheet, TooShort, NotPlain, NotDriven, WrongLength, ShortLines, WrongPlan, Loop, ShortList, OldRule}

abbrev pub number_of : Refusal → ℕ
number_of NoHeight = 1
number_of WrongSize = 2
number_of WrongGraph = 3
number_of WrongRecord = 4
number_of WrongGiven = 5
number_of OverReserved = 6
number_of OverWords = 7
number_of NoCell = 8
number_of NoRoom = 9
number_of WrongGroups = 10
number_of NoJob = 11
number_of Malformed = 12
number_of BadReset = 13
number_of NoFile = 14
number_of NoSheet = 15
number_of UnknownSheet = 16
number_of TooShort = 17
number_of NotPlain = 18
number_of NotDriven = 19
number_of WrongLength = 20
number_of ShortLines = 21
number_of WrongPlan = 22
number_of (Loop p) = 23
number_of ShortList = 24
number_of OldRule = 25

-- the smallest pin on any loop of gates, else 0
abbrev pub pin_of : Refusal → ℕ
pin_of NoHeight = 0
pin_of WrongSize = 0
pin_of WrongGraph = 0
pin_of WrongRecord = 0
pin_of WrongGiven = 0
pin_of OverReserved = 0
pin_of OverWords = 0
pin_of NoCell = 0
pin_of NoRoom = 0
pin_of WrongGroups = 0
pin_of NoJob = 0
pin_of Malformed = 0
pin_of BadReset = 0
pin_of NoFile = 0
pin_of NoSheet = 0
pin_of UnknownSheet = 0
pin_of TooShort = 0
pin_of NotPlain = 0
pin_of NotDriven = 0
pin_of WrongLength = 0
pin_of ShortLines = 0
pin_of WrongPlan = 0
pin_of (Loop p) = p.0
pin_of ShortList = 0
pin_of OldRule = 0

-- the number that is told: 0 where nothing is refused
abbrev pub number_said : {A : Type 0} → Result A Refusal → ℕ
number_said (Ok x) = 0
number_said (Err r) = number_of r

-- the pin that is told with it
abbrev pub pin_said : {A : Type 0} → Result A Refusal → ℕ
pin_said (Ok x) = 0
pin_said (Err r) = pin_of r
