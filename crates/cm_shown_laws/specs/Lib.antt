-- What is in which file.
-- Texts: what a text, and JSON, looks like where it is shown within a line
-- Scenarios: where the scenarios of a good stream stand
-- Differences: what is expected, and what is found, where a stream differs from what its sources' texts compile to
pub mod Texts
pub mod Scenarios
pub mod Differences
