-- What is in which file.
-- Texts: texts, and lists of them, compared
-- Findings: what a check of a line reports
-- Skeleton: two documents of one skeleton, compared part by part
-- Readings: what a text is read as, by the grammar of feature files (the Gherkin reference, `gherkin.berp`)
-- OnePass: what one pass over the lines of a text makes of it
-- Sources: what the document and the pickles of a source have to be
-- Statuses: the statuses of a stream, as a record of attempts keeps them
-- Calls: the call on the record of attempts that an envelope makes
-- References: what a list of envelopes says
-- Good: good streams, as predicates on the whole list of envelopes
-- Checks: the checks of each line in order, over the lines before it
-- Redeclared: hooks and step definitions that a stream declares again
-- Stream: good streams of bytes, and the first fault of a stream
-- Record: the table of the record of attempts after the lines so far
-- FaultlessLines: lines without a fault, and the table of the record of attempts after them
-- Laws: what the definitions of good streams and of faults have to do with each other
-- StreamLaws: what is reported of a stream is right
-- CallFaults: what a record of attempts refuses, as the first failed of the checks that are its own
-- ByOnePass: the checks and the first fault of a stream where sources' texts are read in one pass, as a program
--   reads them
-- RedeclaredLaws: what a good stream says of its own envelopes, where hooks and step definitions may be declared again
-- Unsupported: why a stream isn't judged, by the line that shows it
-- Release: what a release may ask of a run, and which good runs are released
-- ReleasedRuns: what a released run says of its scenarios and of the run
-- Results: the results of a stream, which streams have results, and where another has its first fault
pub mod Texts
pub mod Findings
pub mod Skeleton
pub mod Readings
pub mod OnePass
pub mod Sources
pub mod Statuses
pub mod Calls
pub mod References
pub mod Good
pub mod Checks
pub mod Redeclared
pub mod Stream
pub mod Record
pub mod FaultlessLines
pub mod Laws
pub mod StreamLaws
pub mod CallFaults
pub mod ByOnePass
pub mod RedeclaredLaws
pub mod Unsupported
pub mod Release
pub mod ReleasedRuns
pub mod Results
