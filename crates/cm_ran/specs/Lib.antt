-- What is in which file.
-- RunAt: which scenarios of a text ran in a stream, and the law of it
-- Rows: rows of flags by texts
-- Marks: which scenarios of some texts are marked
-- Compiled: sources with as many flags as pickles, in the contracts of private functions
pub mod RunAt
pub mod Rows
pub mod Marks
pub mod Compiled
