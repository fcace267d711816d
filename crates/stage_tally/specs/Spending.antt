-- What a tally is, and what adding to it leaves. Assumes nothing.
use Rattle.std.specs.Prelude.{ℕ, ◌+◌, ◌-◌, ◌^◌, ◌<◌, ◌≤◌}
use Rattle.stage_tally.specs.declared.Tally.{Tally}

abbrev pub spending : Tally → ℕ → Tally
spending t n = record { spent = t.spent + n; reserved = t.reserved; limit = t.limit }

-- how many words may be written in all, W - reserved
abbrev pub bound : Tally → ℕ
bound t = t.limit - t.reserved

-- how many of them are left
abbrev pub room : Tally → ℕ
room t = bound t - t.spent

-- no more is reserved than the limit, no more spent than that leaves
pub record Counted (t : Tally) : Type 0 where
  pub within : t.reserved ≤ t.limit
  pub spent : t.spent ≤ bound t
  pub small : t.limit < 2 ^ 63
