-- What is in which file.
-- WalkLemmas: a walk's next look, and what it gives at its end; one path after another
-- TextLemmas: texts in order, and each once
-- FirstFaults: the first fault is first, and there is one where there are faults
-- Onces: each text is there once
pub mod WalkLemmas
pub mod TextLemmas
pub mod FirstFaults
pub mod Onces
