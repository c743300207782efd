-- What is in which file.
-- Shown: what a look at a path shows, files, folders and faults
-- FeaturePaths: the feature files of paths, by what was looked at, and the first fault
-- Laws: what these definitions come to
-- Walking: a walk below a path that hasn't come to its end
pub mod Shown
pub mod FeaturePaths
pub mod Laws
pub mod Walking
