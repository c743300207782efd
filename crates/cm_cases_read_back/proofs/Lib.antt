pub mod Strings
pub mod Values
pub mod Cases
