-- What is told of a pickle that is due, by its name and the nodes that it is made of.
use Rattle.std.specs.Prelude.{List, ℕ, [], ◌++◌, codes, unwrap_or}
use Rattle.gk_pickle.specs.declared.pickles.PickleTitle.{PickleTitle}
use Rattle.cm_attempt.specs.Calls.{last_of}
use Rattle.cm_envelope.specs.declared.envelope.Envelope.{Envelope}
use Rattle.cm_stream.specs.Sources.{ids_at}
use Rattle.cm_stream.specs.Texts.{Utf8}
use Rattle.cm_cases.specs.Places.{scenario_at}

-- ` URI:LINE NAME`, by the last of the nodes, where the nodes have these ids
abbrev pub scenario_of : List Envelope → (uri : Utf8) → (ids : List Utf8) → (name : Utf8)
    → (nodes : List ℕ) → List ℕ
scenario_of es uri ids name nodes =
    scenario_at es uri name (unwrap_or (last_of (ids_at ids nodes)) [])

abbrev pub missing_line : List Envelope → (uri : Utf8) → (ids : List Utf8) → PickleTitle → List ℕ
missing_line es uri ids due = codes "missing" ++ scenario_of es uri ids due.name due.nodes
