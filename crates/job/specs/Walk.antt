-- The walk through a whole job file, and whether what it met is a job. Assumes nothing.
use Rattle.std.specs.Prelude.{◌≡◌, Option, Some, None, Bool, ◌&&◌, ◌+◌, List, ℕ, ◌*◌, ◌/◌, ◌<◌, ◌≤◌, leb, length, drop}
use Rattle.std.proofs.lemmas.List.Edits.{sets}
use Rattle.job.specs.declared.walk.Extent.{Extent}
use Rattle.rules.specs.Job.{Job, cut, got, is_padding, read_fields}
use Rattle.bits.specs.Fields.{bits_in}

-- the job that was read, and how many numbers its lists have
pub record Met (xs : List ℕ) (at K ng nv nc : ℕ) : Type 0 where
  pub J : Job
  pub is : read_fields (bits_in xs) ≡ got J (drop at (bits_in xs))
  pub height : K ≡ J.height
  pub gates : ng ≡ length J.gates
  pub given : nv ≡ length J.given
  pub records : nc ≡ length J.records

pub record Measured (xs : List ℕ) (at K ng nv nc : ℕ) : Type 0 where
  pub lost : 8 * length xs < at → read_fields (bits_in xs) ≡ cut
  pub read : at ≤ 8 * length xs → Met xs at K ng nv nc

pub record MeasuredIn (xs g v c g' v' c' : List ℕ) (at K ng nv nc : ℕ) : Type 0 where
  pub measured : Measured xs at K ng nv nc
  pub gates : g' ≡ g
  pub given : v' ≡ v
  pub records : c' ≡ c

-- its lists stand in the areas, as far as these reach
pub record Stored (J : Job) (g v c g' v' c' : List ℕ) : Type 0 where
  pub gates : g' ≡ sets g 0 J.gates
  pub given : v' ≡ sets v 0 J.given
  pub records : c' ≡ sets c 0 J.records

pub record Walked (xs g v c g' v' c' : List ℕ) (at K ng nv nc : ℕ) : Type 0 where
  pub gates : length g' ≡ length g
  pub given : length v' ≡ length v
  pub records : length c' ≡ length c
  pub measured : Measured xs at K ng nv nc
  pub stored : (h : at ≤ 8 * length xs) → Stored (measured.read h).J g v c g' v' c'

-- a walk by what it meets up to a bit; past the end the file is cut
abbrev pub WalkedAs : (ℕ → ℕ → ℕ → ℕ → ℕ → Type 0) → List ℕ → Option Extent → Type 0
WalkedAs P xs None = P (8 * length xs + 1) 0 0 0 0
WalkedAs P xs (Some e) = P e.at e.height e.gates e.given e.records × (e.at ≤ 8 * length xs)

-- the program's sizes, by the counts
abbrev pub sized : ℕ → ℕ → ℕ → Bool
sized K ng nc = leb K 10 && leb (ng / 2) 501 && leb nc 512

unfoldable pub accepts : List ℕ → ℕ → ℕ → ℕ → ℕ → Bool
accepts xs at K ng nc = leb at (8 * length xs) && is_padding (drop at (bits_in xs)) && sized K ng nc
