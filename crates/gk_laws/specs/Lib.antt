-- What is in which file.
-- Comments: which comments a document has
-- Documents: what holds of every list of lines and its document, and of the places of faults
-- Fences: a line inside a doc string as escaped fences cut it
-- KeywordLines: title lines, step lines and fence lines as their parts
-- LanguageLines: a language line as its parts
-- Marks: where the parts of a document stand in the lines of its text
-- Pickles: what the pickles of a document are made of, and which of them is of which row
-- Rows: a row as its units write it, and as its bars cut it
-- TagLines: a tag line as its pieces
-- TextAnswers: what a text is
-- TokenKinds: what the grammar reads of a line, against the kinds of a line
-- Trimming: white space, and lists without it at both their ends
pub mod Comments
pub mod Documents
pub mod Fences
pub mod KeywordLines
pub mod LanguageLines
pub mod Marks
pub mod Pickles
pub mod Rows
pub mod TagLines
pub mod TextAnswers
pub mod TokenKinds
pub mod Trimming
