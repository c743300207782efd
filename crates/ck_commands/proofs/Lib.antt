pub mod CasesPrinted
pub mod Compiles
pub mod Lines
pub mod Printing
pub mod TextLemmas
pub mod Delivering
pub mod Ran
pub mod AuditsPrinted
pub mod ResultsPrinted
pub mod Choices
pub mod Shown
pub mod Exactly
mod GatePrinted
mod AuditsBeside
pub mod RunsLemmas
pub mod RunsReleased
pub mod JudgedLemmas
pub mod FeaturesReleased
pub mod Left
pub mod FilesLemmas
pub mod AskedLemmas
pub mod FilesTold
mod FeaturesStrict
