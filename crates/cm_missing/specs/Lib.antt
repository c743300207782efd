-- What is in which file.
-- PickleLines: the line of each pickle that a scenario gives
-- Missing: which lines tell what is missing of feature files
-- Findings: the line of each finding, in the contracts of private functions
-- Told: what is told of files and pickles, one after another, in the contracts of private functions
-- Laws: what holds of these lines
pub mod PickleLines
pub mod Missing
pub mod Findings
pub mod Told
pub mod Laws
