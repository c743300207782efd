-- What is in which file.
-- Fill: filling a text from a row of examples
-- SinglePass: what one pass over a text has read and does, in the contracts of `src/fill_single_pass` and of
--   `src/columns`; no public contract needs it
-- Columns: the columns of a header by their names, as a map has them
-- Inheritance: what a scenario's pickles inherit of its feature and rule
-- Steps: the steps of a pickle (Cucumber Messages, `Pickle.json`, `PickleStep`)
-- Pickles: the pickles of a document, in order (Cucumber Messages, `Pickle.json`; Cucumber's Gherkin reference on
--   backgrounds, rules, scenario outlines and tag inheritance)
-- InFeature: a scenario and where it is
-- Scenarios: the scenarios of a document in order, each with what is around it, and the pickles of each
--   (`gherkin.berp`, `Feature` and `Rule`)
-- Spot: what one pickle is made of
-- Rest: the pickles of a document from a place in it on
-- Cut: a text cut at a pattern, and joined again
-- Alike: a scenario without placeholders compiles alike for each row
-- Characters: filling a text by its characters
-- Counts: how many pickles a scenario gives, and which nodes they name
-- Order: the steps of pickles are the document's, in its order
pub mod Fill
pub mod SinglePass
pub mod Columns
pub mod Inheritance
pub mod Steps
pub mod Pickles
pub mod InFeature
pub mod Scenarios
pub mod Spot
pub mod Rest
pub mod Cut
pub mod Alike
pub mod Characters
pub mod Counts
pub mod Order
