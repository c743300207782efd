pub mod Answering
pub mod Deciding
pub mod Following
pub mod Reading
pub mod Taking
pub mod Verdicts
