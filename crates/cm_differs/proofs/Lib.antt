pub mod DueEqual
pub mod PartTexts
pub mod Plain
pub mod Sent
pub mod Steps
