-- What is in which file.
-- ExampleRows: the rows of a table of examples
-- Fences: what encloses a doc string
-- MediaType: the media type of a doc string
-- Skeleton: what of a document two readings of one text agree in
-- Texts: a text as the list of its bytes, and the characters that its lines end by
pub mod ExampleRows
pub mod Fences
pub mod MediaType
pub mod Skeleton
pub mod Texts
