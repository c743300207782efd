-- What is in which file.
-- Shown: a text as it is shown within a line
-- Places: where the pickles of a stream stand
-- JsonLines: the lines of a stream's cases as JSON
-- Listed: what is kept of a stream's envelopes for the lines of its cases
-- Firsts: the first of some values with each text, as a map has them, and what is shown of what a listing keeps
pub mod Shown
pub mod Places
pub mod JsonLines
pub mod Listed
pub mod Firsts
