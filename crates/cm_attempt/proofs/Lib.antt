pub mod EntryLemmas
pub mod TableLaws
pub mod WorstLemmas
pub mod IdLaws
pub mod Growing
pub mod Standing
pub mod StepLemmas
pub mod Tracked
pub mod Fits
pub mod NextCall
pub mod Accepted
pub mod Converse
pub mod Refused
mod Listed
