-- What is in which file.
-- Optional: a member that may be absent, of an object that is there
pub mod Optional
