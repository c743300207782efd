-- What is in which file.
-- Features: what the bytes of a source are as a feature file, and what is printed of it
-- Gate: what the command `gate` prints
-- Cases: what the command `cases` prints, by the whole list of envelopes of a good stream
-- Output: what a command prints, the status that it ends with, and how a run shows both
-- Reading: what the functions of `results` leave on the way to a report
-- Results: what the command `results` prints, by the whole list of envelopes of a stream
-- Run: what a run leaves, one line a command
-- Runs: a gate over named runs
-- Judged: runs that are judged, and the streams of those that are released
-- FeatureFiles: feature files that were read
-- FilesAsked: whether the scenarios of feature files ran, and what is told of those that didn't
-- FilesKept: feature files as the code holds them
-- Asked: what a run leaves, by what the words ask for
-- Statuses: the words of the statuses of cases
-- TextInput: what the bytes of a source are as a text
-- Verdicts: what the command `audit` prints of a verdict
-- Standard: what a run over a reader of std says of the bytes that the reader gave
-- Laws: what holds of the definitions of a run
pub mod Features
pub mod Gate
pub mod Cases
pub mod Output
pub mod Reading
pub mod Results
pub mod Run
pub mod Runs
pub mod Judged
pub mod FeatureFiles
pub mod FilesAsked
pub mod FilesKept
pub mod Asked
pub mod Statuses
pub mod TextInput
pub mod Verdicts
pub mod Standard
pub mod Laws
