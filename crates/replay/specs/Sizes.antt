-- The sizes of tape, slots and bits. Assumes nothing.
use Rattle.std.specs.Prelude.{ℕ, Bool, ◌&&◌, List, leb}
use Rattle.replay_form.specs.Calls.{slots_size, bits_size}

-- by their lengths
unfoldable pub lists_sized : (gates records : List ℕ) → (plan tape slots bits : ℕ) → Bool
lists_sized gates records plan tape slots bits = leb plan tape && leb (slots_size records plan) slots && leb (bits_size gates plan) bits
