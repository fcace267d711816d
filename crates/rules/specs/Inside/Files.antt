-- A job that a file holds. Assumes nothing.
use Rattle.std.specs.Prelude.{◌^◌, ◌≡◌, true, List, ltb, length}
use Rattle.rules.specs.Lists.{every}
use Rattle.rules.specs.Records.{Group, groups, read}
use Rattle.rules.specs.Job.{Job, gates_fit, pin_fits, groups_fit}

pub record Held (J : Job) (gs : List Group) : Type 0 where
  pub read : read J.records ≡ groups gs
  pub gates : gates_fit J.gates ≡ true
  pub few : ltb (length J.given) (2 ^ 16) ≡ true
  pub given : every pin_fits J.given ≡ true
  pub groups : groups_fit gs ≡ true
