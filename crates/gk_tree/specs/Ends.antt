-- What the end of the lines gives.
use Rattle.std.specs.Prelude.{◌≡◌, ◌⊎◌, ℕ, List, Option, Some, None, Result, Ok, Err}
use Rattle.gk_grammar.specs.declared.fault.FaultKind.TheVariants as kind
use Rattle.gk_grammar.specs.Tree.{Document}
use Rattle.gk_grammar.specs.Machine.{PlacedFault, FlatBlock, State, blocks_at_end, ◌>>=◌}
use Rattle.gk_grammar.specs.Assembly.{document_of}
use Rattle.gk_grammar.specs.Documents.{IsDocumentOf, HasFault}
use Rattle.gk_tree.specs.declared.fault.ParseFault.{ParseFault}
use Rattle.gk_tree.specs.Views.{out_of_memory}

-- the last blocks, or a fault at the line after the others where something is open
abbrev pub last_blocks : ℕ → Option (List FlatBlock) → Result (List FlatBlock) PlacedFault
last_blocks later None = Err (record { kind = kind.UnexpectedEnd; line = later; column = 1 })
last_blocks later (Some last) = Ok last

-- the document, where the lines may end in this state
abbrev pub document_at : ℕ → State → Result Document PlacedFault
document_at later s = last_blocks later (blocks_at_end s.phase) >>= λ last. Ok (document_of s last)

-- the document or the fault of a text, unless memory ran out
abbrev pub Answers : List ℕ → Result Document ParseFault → Type 0
Answers text (Ok d) = IsDocumentOf text d
Answers text (Err f) = (f ≡ out_of_memory) ⊎ HasFault text f.kind f.line f.column
