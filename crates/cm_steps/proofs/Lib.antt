pub mod ListingLemmas
pub mod StepLemmas
pub mod AttemptLemmas
mod CountLemmas
