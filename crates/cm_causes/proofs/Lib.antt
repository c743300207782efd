mod CauseLists
mod CaseLemmas
mod Shown
mod Known
mod Well
mod Exceptions
mod NothingFailed
mod EachLine
mod AtFault
pub mod KeptResults
