-- What is in which file.
-- Watched: what goes along with the audit of a stream
-- ReleaseAudit: the audit of a stream, with what is counted of it
-- PartAudit: the same, with the scenarios that are marked by it
pub mod Watched
pub mod ReleaseAudit
pub mod PartAudit
