-- What is in which file.
-- Documents: what a document is read as
-- Laws: what is written is read back
-- Pickles: what a source and a pickle are read as
-- Values: values whose text is read back
pub mod Documents
pub mod Laws
pub mod Pickles
pub mod Values
