-- What is in which file.
-- Layout: what the layouts of messages are made of
-- SourceLayout: what is written for a source (Cucumber Messages, `Source.json`)
-- DocumentLayout: what is written for a document (Cucumber Messages, `GherkinDocument.json`)
-- PickleLayout: what is written for a pickle (Cucumber Messages, `Pickle.json`)
-- Sending: what a value sends to a serializer
pub mod Layout
pub mod SourceLayout
pub mod DocumentLayout
pub mod PickleLayout
pub mod Sending
