pub mod TokenLemmas
pub mod TextLemmas
pub mod LineLemmas
pub mod HeadLemmas
pub mod FenceLemmas
mod NodeLemmas
mod EndLemmas
