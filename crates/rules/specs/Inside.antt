-- What laws and the contracts inside the library speak of. No promise to a user names any of it, so nobody has to believe it: it is checked
-- against the definitions beside this folder, or used up in proofs. Assumes nothing.
pub mod Lean
pub mod Some
pub mod Walks
pub mod Plans
pub mod Counts
pub mod Files
pub mod Opened
