pub mod ReleaseAudit
pub mod PartAudit
