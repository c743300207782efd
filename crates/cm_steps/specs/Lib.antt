-- What is in which file.
-- Steps: where the steps of a stream stand, and what a test step is told as
-- Attempts: which attempts of a stream are open, and which steps of one have a status
-- Kept: what is kept of a stream's envelopes for its steps and attempts
-- Entries: the same things by what is kept
pub mod Steps
pub mod Attempts
pub mod Kept
pub mod Entries
