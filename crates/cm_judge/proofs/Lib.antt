pub mod Cases
pub mod Judged
pub mod KeptRows
pub mod Parsed
pub mod Repeats
pub mod Runs
pub mod SameLists
pub mod Skeleton
