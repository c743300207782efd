pub mod LineLemmas
pub mod PickleLemmas
pub mod ToldLemmas
pub mod Readings
pub mod FileLemmas
pub mod LawLemmas
pub mod RanLemmas
