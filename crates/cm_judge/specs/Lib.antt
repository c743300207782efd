-- What is in which file.
-- Matching: parts of a pickle that are compared one by one
-- Stops: why the reading of a stream ends at a line, and what is reported where what is kept refuses one
-- Due: the pickles of a source that are due
-- Kept: the sources that are kept, as rows of what was seen of them
-- State: what is kept, as a summary of the lines so far
-- Record: what the record of attempts answers to an envelope
-- Deciding: what the line that decides the verdict on a stream is
pub mod Matching
pub mod Stops
pub mod Due
pub mod Kept
pub mod State
pub mod Record
pub mod Deciding
