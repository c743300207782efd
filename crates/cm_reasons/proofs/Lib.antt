pub mod LineLemmas
pub mod RunListed
pub mod Refusals
pub mod RunHookLemmas
pub mod RunLaws
pub mod UndefinedLemmas
