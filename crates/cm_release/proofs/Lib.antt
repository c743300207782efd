pub mod KeptLemmas
pub mod CountLemmas
pub mod WholeLemmas
pub mod Judging
