-- The fields' numbers for contracts, under the names of src/lib.rt, which says what each holds. Assumes nothing.
use Rattle.std.specs.Prelude.{ℕ}

abbrev pub ORDER : ℕ
ORDER = 0

abbrev pub DONE : ℕ
DONE = 1

abbrev pub LEVEL : ℕ
LEVEL = 2

abbrev pub WAITING : ℕ
WAITING = 3

abbrev pub CELLS : ℕ
CELLS = 4

abbrev pub RANKED : ℕ
RANKED = 5

abbrev pub STARTS : ℕ
STARTS = 6

abbrev pub ENDS : ℕ
ENDS = 7

abbrev pub REVERSE : ℕ
REVERSE = 8

abbrev pub NEEDED : ℕ
NEEDED = 9

abbrev pub LISTED : ℕ
LISTED = 10

abbrev pub STACK : ℕ
STACK = 11

abbrev pub PHASE : ℕ
PHASE = 12

abbrev pub PLACE : ℕ
PLACE = 13

abbrev pub MARK : ℕ
MARK = 14

abbrev pub SPARE : ℕ
SPARE = 15

-- the tail's name in a frame
abbrev pub TAIL : ℕ
TAIL = 16

-- numbers of the tail
abbrev pub ONES : ℕ
ONES = 256

abbrev pub PINS : ℕ
PINS = 257

abbrev pub FILLED : ℕ
FILLED = 258

abbrev pub RECORDS : ℕ
RECORDS = 512
