-- What is in which file.
-- Compiled: what is written for a feature file
-- Faults: why a text isn't compiled
pub mod Compiled
pub mod Faults
