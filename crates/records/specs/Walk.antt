-- A walk over records: what one step of it gives. Assumes nothing.
use Rattle.std.specs.Prelude.{◌≡◌, ℕ, ◌+◌, ◌<◌, Option, Some, None}
use Rattle.records.specs.declared.Walk.{Walk}
use Rattle.records.specs.Values.{size_at}

-- a whole record stands at the walk's place, and the next one behind it
pub record OneMore (s : Walk) (at : ℕ) (s' : Walk) : Type 0 where
  pub start : at ≡ s.at
  pub there : 0 < size_at s.records.now s.at
  pub records : s'.records.now ≡ s.records.now
  pub next : s'.at ≡ s.at + 1 + size_at s.records.now s.at

-- none stands there
pub record NoMore (s s' : Walk) : Type 0 where
  pub none : size_at s.records.now s.at ≡ 0
  pub records : s'.records.now ≡ s.records.now
  pub at : s'.at ≡ s.at

unfoldable pub Steps : Walk → Option ℕ → Walk → Type 0
Steps s (Some at) s' = OneMore s at s'
Steps s None s' = NoMore s s'
