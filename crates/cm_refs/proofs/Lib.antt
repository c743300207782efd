pub mod EntryLemmas
pub mod RepeatLemmas
