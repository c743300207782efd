pub mod PlainCuts
pub mod PlainRanks
pub mod PlainAnswers
pub mod PlainKinds
pub mod PlainNumbers
pub mod PlainFronts
pub mod FaultLemmas
