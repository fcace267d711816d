-- A value that a contract inside the library speaks of and the program does not hold, as a stage's setting. A `requires` says that some value
-- fits, an `ensures` and an invariant what holds of every value that fitted. Assumes nothing.
pub record Some {A : Type 0} (P : A → Type 0) : Type 0 where
  pub it : A
  pub at : P it

pub record Every {A : Type 0} (P Q : A → Type 0) : Type 0 where
  pub all : (x : A) → P x → Q x
