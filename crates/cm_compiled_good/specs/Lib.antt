-- What is in which file.
-- Law: what a text compiles to is a good stream, once a run that does nothing follows it
pub mod Law
