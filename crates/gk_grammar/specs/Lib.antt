-- What is in which file.
-- Token: lines, and what the grammar asks of each
-- Tree: the types of a tree, as they are declared, under one name
-- Grammar: which lists of lines are texts, and of which tree
-- Place: where a list of lines stops being the front of a text, and which fault is there
-- Machine: how one pass over the lines goes
-- Documents: which document a text has
-- Laws: what holds of every text and its document
-- Assembly: the tree of a flat list of blocks
pub mod Token
pub mod Tree
pub mod Grammar
pub mod Place
pub mod Machine
pub mod Documents
pub mod Laws
pub mod Assembly
