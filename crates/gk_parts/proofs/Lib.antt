pub mod ReadBack
pub mod Skeletons
pub mod Differences
pub mod Found
mod Adding
