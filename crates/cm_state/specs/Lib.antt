-- What is in which file.
-- Summary: what an audit keeps of the lines so far
-- StateChecks: what is reported of a line, by what an audit keeps of the lines before it
-- Laws: judging a stream line by line, by what is kept of the lines before, is judging it over all its lines
-- ByOnePass: what an audit keeps of the lines so far, and what it reports of a line, where sources' texts are read
--   in one pass, as a program reads them
pub mod Summary
pub mod StateChecks
pub mod Laws
pub mod ByOnePass
