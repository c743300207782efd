-- What is in which file.
-- SourceReasons: what is told of a line at which a stream isn't what its sources compile to
-- DueLines: what is told of a pickle that is due, by its name and the nodes that it is made of
-- SourceKept: the same, by what an audit keeps
-- Deciding: what an audit keeps of lines without a fault, and what the line after them has
pub mod SourceReasons
pub mod DueLines
pub mod SourceKept
pub mod Deciding
