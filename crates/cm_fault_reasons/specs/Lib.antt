-- What is in which file.
-- Added: what is added to a text
-- Unknown: the first reference of an envelope that isn't declared, as it is told
-- UnknownKept: the same, by what an audit keeps
-- Duplicate: the id that makes an envelope a second declaration
-- DuplicateKept: the same, by what an audit keeps
-- NextMove: what an attempt has to go through next
-- AttemptLines: the lines of the test case and of the attempt that an envelope is about
-- RunLines: the lines of what a run leaves open, and of sources that are refused
-- ToldAt: what is told of the line that decides
-- ToldKept: the same, by what an audit keeps
-- AtLine: what is told of the line of a stream that decides
pub mod Added
pub mod Unknown
pub mod UnknownKept
pub mod Duplicate
pub mod DuplicateKept
pub mod NextMove
pub mod AttemptLines
pub mod RunLines
pub mod ToldAt
pub mod ToldKept
pub mod AtLine
