mod SourceArms
mod SourceRows
mod SourceFaults
mod MissingLemmas
