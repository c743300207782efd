-- What is in which file.
-- Lines: lines below one another, a hundred at most
-- Words: the words of statuses and of the faults of texts
-- Run: what is kept of a stream's envelopes for the lines of its sources and run hooks
-- RunReasons: the lines of sources that are refused and of run hooks
-- RunKept: those lines, by what is kept
-- Trail: what is kept of a stream's envelopes for its reasons
-- Reasons: the lines that say why a run is held
-- Laws: what holds of the lines of undefined steps, of sources that are refused and of run hooks
pub mod Lines
pub mod Words
pub mod Run
pub mod RunReasons
pub mod RunKept
pub mod Trail
pub mod Reasons
pub mod Laws
