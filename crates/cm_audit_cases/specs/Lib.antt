-- What is in which file.
-- CasesAudit: the audit of a stream, with what its cases say
pub mod CasesAudit
