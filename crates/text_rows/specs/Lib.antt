-- What is in which file.
-- Pieces: how a buffer is cut to texts, and those to rows
pub mod Pieces
-- Rows: the rows that begin with a text
pub mod Rows
