-- What is in which file.
-- Declarations: what a stream has declared, and what each declaration makes of it
-- StepIds: the ids of the steps of a pickle or of a test case
-- Rows: the rows of pickles and of run hooks, as the entries of their maps have them
-- Due: how a call answers by the fault that is due, the first in order
pub mod Declarations
pub mod StepIds
pub mod Rows
pub mod Due
