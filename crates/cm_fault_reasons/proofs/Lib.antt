mod DuplicateLemmas
mod DuplicateSame
mod UnknownLemmas
mod UnknownSame
mod DueSame
mod ToldSame
mod AtEnd
mod TextLemmas
pub mod AtLine
