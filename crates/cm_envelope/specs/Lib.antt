-- What is in which file.
-- Device: what the calls of a device leave
-- Reads: what the reads of a source left, as the source has it
-- Writing: what was written where a write failed
-- Lines: the lines of some bytes (NDJSON: a line is ended by LF), and what a feed of them answers under two limits
-- Feeds: what a feed stores between two calls, and what one call does to it
-- Held: what a window holds
-- Member: reading the members of a JSON object
-- Envelopes: the members of each envelope, in the order in which they are read
-- Pickles: the members of a pickle and of the objects in it, in the order in which they are read
-- Documents: reading a feature's tree, in which the nodes have ids
-- Reading: the envelope of a line
pub mod Device
pub mod Reads
pub mod Writing
pub mod Lines
pub mod Feeds
pub mod Held
pub mod Member
pub mod Envelopes
pub mod Pickles
pub mod Documents
pub mod Reading
