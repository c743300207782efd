pub mod Each
pub mod Judged
pub mod Walking
