-- What is in which file.
-- Envelopes: the envelopes that the streams are made of
-- Streams: three streams, as lists of envelopes
-- Lines: the three streams as lines of JSON
-- Laws: good streams exist, and released ones
pub mod Envelopes
pub mod Streams
pub mod Lines
pub mod Laws
