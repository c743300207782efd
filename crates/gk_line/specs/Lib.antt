-- What is in which file.
-- Cells: the cells of a table row
-- Characters: the characters that mark the tokens of a line, by their Unicode scalar values
-- Columns: the columns of the tags and of the cells of one line
-- DocStrings: the text of a line inside a doc string
-- Kinds: the kinds of a line
-- LineEnds: the lines of a text as what lies between its line ends
-- Lines: the lines of a text, each the list of its characters
-- LinesLeft: what an iterator over lines still has to give
-- Places: where the texts of a token are in their line
-- Tags: the tags of a tag line
-- Texts: words on a text as the list of its characters
-- Tokens: what one line reads as
-- Views: the lines and tokens that the code returns, with their texts as lists of characters
pub mod Cells
pub mod Characters
pub mod Columns
pub mod DocStrings
pub mod Kinds
pub mod LineEnds
pub mod Lines
pub mod LinesLeft
pub mod Places
pub mod Tags
pub mod Texts
pub mod Tokens
pub mod Views
