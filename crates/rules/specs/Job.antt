-- "Job program": the job file, both ways. Bits stand most significant first. Assumes nothing.
use Rattle.std.specs.Prelude.{ℕ, zero, suc, ◌+◌, ◌-◌, ◌*◌, ◌/◌, ◌%◌, ◌^◌, Bool, true, false, ◌&&◌, List, [], ◌∷◌, ◌++◌, map, leb, ltb, eqb, length, take, drop, replicate}
use Rattle.rules.specs.Lists.{every, gather, up_to}
use Rattle.rules.specs.Cells.{empty}
use Rattle.rules.specs.Graph.{Node, leaf, gate, graph_of, pin_count}
use Rattle.rules.specs.Records.{Group, output, flip_flop, memory, staged_pin, unreadable, groups, read, size_of}

-- a job: the height, and the lent numbers of a build
pub record Job : Type 0 where
  pub height : ℕ
  pub gates : List ℕ
  pub given : List ℕ
  pub records : List ℕ

-- the program's sizes
abbrev pub most_bytes : ℕ
most_bytes = 8192

abbrev pub most_height : ℕ
most_height = 10

abbrev pub most_pins : ℕ
most_pins = 500

abbrev pub most_numbers : ℕ
most_numbers = 512

abbrev pub job_rooms : ℕ
job_rooms = 4

-- a number in w bits, and back
unfoldable pub bits_of : ℕ → ℕ → List ℕ
bits_of zero n = []
bits_of (suc w) n = n / 2 ^ w % 2 ∷ bits_of w n

unfoldable pub number_of : List ℕ → ℕ → ℕ
number_of [] n = n
number_of (b ∷ bs) n = number_of bs (2 * n + b)

-- what was read, and the bits behind it
pub data Read (A : Type 0) : Type 0 where
  cut : Read A
  got : A → List ℕ → Read A

unfoldable pub next : {A B : Type 0} → Read A → (A → List ℕ → Read B) → Read B
next cut f = cut
next (got a bs) f = f a bs

unfoldable pub field : ℕ → List ℕ → Read ℕ
field w bs = elim (leb w (length bs)) [ true ↦ got (number_of (take w bs) 0) (drop w bs) | false ↦ cut ]

-- n fields of w bits
unfoldable pub fields : ℕ → ℕ → List ℕ → Read (List ℕ)
fields zero w bs = got [] bs
fields (suc n) w bs = next (field w bs) (λ x cs. next (fields n w cs) (λ xs ds. got (x ∷ xs) ds))

-- a pin: 1 bit, 1 for a gate, and then two literals of 17
unfoldable pub read_pin : List ℕ → Read (List ℕ)
read_pin bs = next (field 1 bs) (λ b cs. elim (eqb b 1) [ true ↦ fields 2 17 cs | false ↦ got (empty ∷ empty ∷ []) cs ])

unfoldable pub read_pins : ℕ → List ℕ → Read (List ℕ)
read_pins zero bs = got [] bs
read_pins (suc n) bs = next (read_pin bs) (λ x cs. next (read_pins n cs) (λ xs ds. got (x ++ xs) ds))

-- a record: kind 3, and then literals of 17, of a staged pin 16
unfoldable pub number_width : ℕ → ℕ
number_width k = elim (eqb k 4) [ true ↦ 16 | false ↦ 17 ]

unfoldable pub read_record : List ℕ → Read (List ℕ)
read_record bs =
    next (field 3 bs) (λ k cs. elim (eqb (size_of k) 0) [
      | true ↦ cut
      | false ↦ next (fields (size_of k) (number_width k) cs) (λ xs ds. got (k ∷ xs) ds)
    ])

unfoldable pub read_records : ℕ → List ℕ → Read (List ℕ)
read_records zero bs = got [] bs
read_records (suc n) bs = next (read_record bs) (λ x cs. next (read_records n cs) (λ xs ds. got (x ++ xs) ds))

-- height 4, pins 16, the pins from 1 on; given count 16, pins of 16; group count 16, the groups
unfoldable pub read_fields : List ℕ → Read Job
read_fields bs =
    next (field 4 bs) (λ K b1. next (field 16 b1) (λ n b2. next (read_pins n b2) (λ gates b3.
    next (field 16 b3) (λ m b4. next (fields m 16 b4) (λ given b5. next (field 16 b5) (λ e b6. next (read_records e b6) (λ records b7.
    got (record { height = K; gates = empty ∷ empty ∷ gates; given = given; records = records }) b7)))))))

unfoldable pub fits_program : Job → Bool
fits_program J = leb J.height most_height && leb (pin_count J.gates) (suc most_pins) && leb (length J.records) most_numbers

-- zero bits up to a byte
unfoldable pub is_padding : List ℕ → Bool
is_padding bs = ltb (length bs) 8 && every (λ b. eqb b 0) bs

-- a job, or refusal 11
pub data Job? : Type 0 where
  no_job : Job?
  job : Job → Job?

unfoldable pub accept : Read Job → Job?
accept cut = no_job
accept (got J bs) = elim (is_padding bs && fits_program J) [ true ↦ job J | false ↦ no_job ]

unfoldable pub read_job : List ℕ → Job?
read_job bytes = elim (leb (length bytes) most_bytes) [ true ↦ accept (read_fields (gather (bits_of 8) bytes)) | false ↦ no_job ]

-- the writer
unfoldable pub pin_bits : Node → List ℕ
pin_bits leaf = 0 ∷ []
pin_bits (gate a b) = 1 ∷ bits_of 17 a ++ bits_of 17 b

unfoldable pub pins_bits : List Node → List ℕ
pins_bits [] = []
pins_bits (x ∷ xs) = pin_bits x ++ pins_bits xs

unfoldable pub group_bits : Group → List ℕ
group_bits (output l) = bits_of 3 1 ++ bits_of 17 l
group_bits (flip_flop e d) = bits_of 3 2 ++ bits_of 17 e ++ bits_of 17 d
group_bits (memory ls) = bits_of 3 3 ++ gather (bits_of 17) ls
group_bits (staged_pin p) = bits_of 3 4 ++ bits_of 16 p

unfoldable pub groups_bits : List Group → List ℕ
groups_bits [] = []
groups_bits (x ∷ xs) = group_bits x ++ groups_bits xs

unfoldable pub job_bits : Job → List Group → List ℕ
job_bits J xs =
    bits_of 4 J.height ++ bits_of 16 (pin_count J.gates - 1) ++ pins_bits (graph_of (drop 2 J.gates))
    ++ bits_of 16 (length J.given) ++ gather (bits_of 16) J.given
    ++ bits_of 16 (length xs) ++ groups_bits xs

unfoldable pub to_byte : List ℕ → List ℕ
to_byte bs = bs ++ replicate ((8 - length bs % 8) % 8) 0

unfoldable pub bytes_of : List ℕ → List ℕ
bytes_of bs = map (λ i. number_of (take 8 (drop (8 * i) bs)) 0) (up_to (length bs / 8) 0)

-- which jobs a file can hold: every number fits its field, and the sizes are the program's
unfoldable pub is_mark : ℕ → Bool
is_mark n = eqb n empty

unfoldable pub literal_fits : ℕ → Bool
literal_fits l = ltb l (2 ^ 17)

unfoldable pub pin_fits : ℕ → Bool
pin_fits p = ltb p (2 ^ 16)

unfoldable pub node_fits : Node → Bool
node_fits leaf = true
node_fits (gate a b) = literal_fits a && literal_fits b

unfoldable pub nodes_fit : List Node → Bool
nodes_fit [] = true
nodes_fit (x ∷ xs) = node_fits x && nodes_fit xs

unfoldable pub group_fits : Group → Bool
group_fits (output l) = literal_fits l
group_fits (flip_flop e d) = literal_fits e && literal_fits d
group_fits (memory ls) = every literal_fits ls
group_fits (staged_pin p) = pin_fits p

unfoldable pub groups_fit : List Group → Bool
groups_fit [] = true
groups_fit (x ∷ xs) = group_fits x && groups_fit xs

-- pin 0 is a leaf, and two numbers stand for each pin
unfoldable pub gates_fit : List ℕ → Bool
gates_fit gates = eqb (length gates % 2) 0 && leb 1 (pin_count gates) && every is_mark (take 2 gates) && nodes_fit (graph_of gates)

-- the file, or none for a job that no file can hold
pub data File? : Type 0 where
  no_file : File?
  file : List ℕ → File?

unfoldable pub file_of : Job → List Group → File?
file_of J xs =
    elim (gates_fit J.gates && ltb (length J.given) (2 ^ 16) && every pin_fits J.given && groups_fit xs && fits_program J && leb (length (bytes_of (to_byte (job_bits J xs)))) most_bytes) [
      | true ↦ file (bytes_of (to_byte (job_bits J xs)))
      | false ↦ no_file
    ]

unfoldable pub write_job : Job → File?
write_job J = elim (read J.records) [ unreadable ↦ no_file | groups xs ↦ file_of J xs ]
