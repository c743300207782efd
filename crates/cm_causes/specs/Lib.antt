-- What is in which file.
-- Causes: why a run isn't successful
-- Told: the same of a test case, as the code comes to it
-- Laws: what the causes have to do with what is well
pub mod Causes
pub mod Told
pub mod Laws
