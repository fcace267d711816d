-- Where the writer stands, and what it puts there. Assumes nothing.
use Rattle.std.specs.Prelude.{◌≡◌, List, ◌++◌, ℕ, ◌+◌, ◌-◌, ◌*◌, ◌^◌, ◌<◌, ◌≤◌, length, drop}
use Rattle.rules.specs.Lists.{gather}
use Rattle.rules.specs.Graph.{graph_of, pin_count}
use Rattle.rules.specs.Records.{groups, read, groups_of}
use Rattle.bits.specs.Putting.{Put}
use Rattle.rules.specs.Job.{Job, bits_of, pins_bits, groups_bits, job_bits, to_byte}

unfoldable pub head_bits : ℕ → List ℕ → List ℕ
head_bits K gates = bits_of 4 K ++ bits_of 16 (pin_count gates - 1) ++ pins_bits (graph_of (drop 2 gates))

unfoldable pub given_bits : List ℕ → List ℕ
given_bits given = bits_of 16 (length given) ++ gather (bits_of 16) given

unfoldable pub records_bits : List ℕ → List ℕ
records_bits records = bits_of 16 (length (groups_of records)) ++ groups_bits (groups_of records)

unfoldable pub file_bits : Job → List ℕ
file_bits J = to_byte (job_bits J (groups_of J.records))

-- the bits stand there, and are m at most
pub record PutIn (m : ℕ) (bs xs xs' : List ℕ) (at at' : ℕ) : Type 0 where
  pub put : Put bs xs xs' at at'
  pub near : at' ≤ at + m

-- no section reaches past bit 2^38
pub record NumbersTo (at w : ℕ) (xs : List ℕ) : Type 0 where
  pub near : at + 17 * length xs ≤ 2 ^ 38
  pub short : w ≤ 17

pub record RecordTo (at w : ℕ) (xs : List ℕ) : Type 0 where
  pub near : at + 3 + 17 * length xs ≤ 2 ^ 38
  pub short : w ≤ 17

pub record PinsTo (at : ℕ) (gates : List ℕ) : Type 0 where
  pub near : at + 18 * length gates ≤ 2 ^ 38

pub record RecordsTo (at : ℕ) (records : List ℕ) : Type 0 where
  pub near : at + 20 * length records ≤ 2 ^ 38
  pub readable : read records ≡ groups (groups_of records)

pub record HeadTo (gates : List ℕ) : Type 0 where
  pub some : 1 ≤ pin_count gates
  pub few : length gates ≤ 1003

pub record GivenTo (at : ℕ) (given : List ℕ) : Type 0 where
  pub near : at ≤ 2 ^ 20
  pub few : length given < 2 ^ 16

pub record GroupsTo (at : ℕ) (records : List ℕ) (n : ℕ) : Type 0 where
  pub near : at ≤ 2 ^ 22
  pub few : length records ≤ 512
  pub readable : read records ≡ groups (groups_of records)
  pub count : length (groups_of records) ≡ n

pub record Measured (J : Job) (xs xs' : List ℕ) (n : ℕ) : Type 0 where
  pub same : xs' ≡ xs
  pub bits : n ≡ length (file_bits J)
