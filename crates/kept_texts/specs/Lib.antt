-- What is in which file.
-- Kept: the bytes of a text that is kept
pub mod Kept
