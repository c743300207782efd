pub mod Faultless
pub mod SomeGood
pub mod SomeBytes
