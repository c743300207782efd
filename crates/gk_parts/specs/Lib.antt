-- What is in which file.
-- Parts: the parts of a document in the order of its tree, and what is compared of each
-- FirstDifference: where two lists first differ
-- Laws: what the parts of documents show
pub mod Parts
pub mod FirstDifference
pub mod Laws
