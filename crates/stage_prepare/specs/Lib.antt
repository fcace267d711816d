pub mod Ranking
pub mod Prepared
