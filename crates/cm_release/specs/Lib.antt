-- What is in which file.
-- Kept: what is kept of a stream's envelopes for its release
-- Tallied: the same with what the reasons name
-- Counts: what is counted of what is kept
-- Found: what the code finds that a release may be refused for
-- Reasons: the lines below that of a hold
-- Judged: what is said of a good run for its release
pub mod Kept
pub mod Tallied
pub mod Counts
pub mod Found
pub mod Reasons
pub mod Judged
