-- What is written for a feature file: one line of JSON for its source, one for its document, and one for each pickle.
use Rattle.std.specs.Prelude.{◌≡◌, ℕ, ◌+◌, List, [], ◌∷◌, ◌++◌, length, codes}
use Rattle.std.specs.List.{concat}
use Rattle.serde_json.specs.Data.{Data}
use Rattle.serde_json.specs.Written.{compact_text}
use Rattle.gk_document.specs.declared.tree.Document.{Document}
use Rattle.gk_grammar.specs.Documents.{IsDocumentOf}
use Rattle.gk_pickle.specs.declared.pickles.Pickle.{Pickle}
use Rattle.gk_pickle.specs.Pickles.{pickles}
use Rattle.cm_messages.specs.SourceLayout.{source_data}
use Rattle.cm_messages.specs.DocumentLayout.{document_data}
use Rattle.cm_messages.specs.PickleLayout.{pickle_data}

-- a value without spaces, as `serde_json` writes it, and a line feed
abbrev pub data_line : Data → List ℕ
data_line d = compact_text d ++ codes "\n"

-- a pickle takes an id for each of its steps, in order, and then one for itself
abbrev pub id_count : Pickle → ℕ
id_count p = length p.steps + 1

-- the lines of pickles, whose ids go on from this one
abbrev pub compiled_pickle_lines : List ℕ → ℕ → List Pickle → List (List ℕ)
compiled_pickle_lines uri id [] = []
compiled_pickle_lines uri id (p ∷ ps) =
    data_line (pickle_data uri id p) ∷ compiled_pickle_lines uri (id + id_count p) ps

-- the lines of a document with this text: the nodes have the ids 0, 1, .., and those of the pickles go on from there
abbrev pub compiled_lines : (uri text : List ℕ) → Document → List (List ℕ)
compiled_lines uri text d =
    data_line (source_data uri text) ∷ data_line (document_data uri d)
    ∷ compiled_pickle_lines uri d.nodes (pickles d)

-- the bytes that a text of the grammar compiles to
abbrev pub IsCompiledOf : (uri text bytes : List ℕ) → Type 0
IsCompiledOf uri text bytes =
    (d : Document) × IsDocumentOf text d × (bytes ≡ concat (compiled_lines uri text d))
