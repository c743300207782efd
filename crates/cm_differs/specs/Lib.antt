-- What is in which file.
-- DuePickles: a pickle that is due, as the stream would have it, and a pickle without what is free
-- PickleData: a pickle without its ids as JSON (Messages, `Pickle.json`)
-- PartData: a part of a document as JSON (Messages, `GherkinDocument.json`)
-- Sending: what a step's argument sends to a serializer
-- Differences: in what a stream differs from what its sources' texts compile to
pub mod DuePickles
pub mod PickleData
pub mod PartData
pub mod Sending
pub mod Differences
