pub mod RunLaws
pub mod RowLemmas
pub mod MarkLemmas
pub mod WholeLemmas
