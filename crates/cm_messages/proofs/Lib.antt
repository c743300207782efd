pub mod Floats
pub mod Layouts
pub mod Plain
pub mod Sent
