-- What is in which file.
-- Plain: the parts of a text, each with the grammar's rule of it, and the rules as a table
-- PlainLines: which kinds of lines the parts are that are cut no further
-- PlainFaults: the kind and the column of a fault, by the kinds of the lines
pub mod Plain
pub mod PlainLines
pub mod PlainFaults
