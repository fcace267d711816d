-- Lines of a recording over slots, a clock each. Assumes nothing.
use Rattle.std.specs.Prelude.{ℕ, zero, suc, ◌+◌, ◌*◌, ◌≤◌, ◌<◌, ◌≡◌, List, [], length, get_or, take, drop}
use Rattle.rules.specs.Graph.{pin_of}
use Rattle.rules.specs.Lists.{laid_over}
use Rattle.replay_form.specs.Clocks.{Ran, and_then}
use Rattle.replay_tape.specs.Running.{RunAt}
use Rattle.replay_tape.specs.Clocks.{handed, datas, bits_at}

-- what k lines hand out, and the bits of the flip-flops after them
unfoldable pub lines_run : (tape places flips driven leaves : List ℕ) → (pins n : ℕ) → ℕ → (recording bits state : List ℕ) → Ran
lines_run tape places flips driven leaves pins n zero recording bits state = record { out = []; end = state }
lines_run tape places flips driven leaves pins n (suc k) recording bits state =
    let b = bits_at tape driven leaves (take (length leaves) recording) bits state pins n in
    let o = handed places b in
    let s = datas flips o state in
    and_then (record { out = o; end = s }) (lines_run tape places flips driven leaves pins n k (drop (length leaves) recording) b s)

-- what is asked: a tape that can be run, places, indexes and pins that are there, a recording and room
pub record LinesIn (tape places flips driven leaves recording bits state out : List ℕ) (pins n k : ℕ) : Type 0 where
  pub run : RunAt pins n tape bits
  pub drives : length driven ≤ length state
  pub driven_in : (i : ℕ) → i < length driven → get_or driven i 0 < length bits
  pub leaves_in : (i : ℕ) → i < length leaves → get_or leaves i 0 < length bits
  pub named : (i : ℕ) → i < length places → pin_of (get_or places i 0) < pins + n
  pub flops : length state ≡ length flips
  pub flips_in : (i : ℕ) → i < length flips → get_or flips i 0 + 1 < length places
  pub recorded : k * length leaves ≤ length recording
  pub room : k * length places ≤ length out

-- the bits of all lines, one line after the other, and those of the flip-flops
pub record LinesOut (tape places flips driven leaves recording bits state out : List ℕ) (pins n k : ℕ) (bits' state' out' : List ℕ) : Type 0 where
  pub slots : length bits' ≡ length bits
  pub end : state' ≡ (lines_run tape places flips driven leaves pins n k recording bits state).end
  pub hands : out' ≡ laid_over (lines_run tape places flips driven leaves pins n k recording bits state).out out
