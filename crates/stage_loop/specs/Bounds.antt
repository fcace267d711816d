-- What the code tells of the needed pins, as the rules have it. Assumes nothing.
use Rattle.std.specs.Prelude.{ℕ, Result, Ok, Err}
use Rattle.rules.specs.Lists.{Found, nothing, found}
use Rattle.stage_loop.specs.declared.lean.NoRoom.{NoRoom}

abbrev pub as_found : Result ℕ NoRoom → Found
as_found (Ok b) = found b
as_found (Err c) = nothing
