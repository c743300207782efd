-- What is in which file. What reading gives is defined in `cm_envelope`.
-- Giving: what a function returned, beside what reading gives
-- Members: members of an object that are looked for by one walk
pub mod Giving
pub mod Members
