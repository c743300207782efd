-- What is in which file.
-- Audit: what an audit answers of the bytes of a stream, and how far it reads
-- Taking: the lines of a stream, taken one after another, and how that ends
-- Watched: what a watch is after an audit
-- Judging: the answer line by line
pub mod Audit
pub mod Taking
pub mod Watched
pub mod Judging
