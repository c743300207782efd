-- What is in which file.
-- Assembling: what comes after a block, in the grammar's terms, and the parts of blocks before it
-- EndViews: the last block, as the machine has it
-- Ends: what the end of the lines gives
-- Read: the first character of a text; a line with the token and the indent that the grammar has of it
-- Rows: one row more, of a table and after a step
-- Views: what the parser's values are in the machine's terms
pub mod Assembling
pub mod EndViews
pub mod Ends
pub mod Read
pub mod Rows
pub mod Views
