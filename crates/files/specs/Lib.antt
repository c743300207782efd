-- What is in which file.
-- Openings: what the files that a program opened gave
-- Looks: what stood under the paths that a program looked at
-- Kept: the openings and the looks, as the code keeps them
pub mod Openings
pub mod Looks
pub mod Kept
