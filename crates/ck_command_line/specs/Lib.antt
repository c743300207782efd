-- What is in which file.
-- Asked: what the words after the program's name ask for
-- CommandLine: the command line `cukecheck COMMAND`, as the crate `clap` reads it
pub mod Asked
pub mod CommandLine
