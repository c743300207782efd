pub mod FirstLemmas
pub mod ListingLemmas
pub mod PlaceLemmas
mod JsonLemmas
