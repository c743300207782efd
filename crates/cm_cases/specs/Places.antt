-- Where the pickles of a stream stand: in which line of its source each begins, and its name.
use Rattle.std.specs.Prelude.{ℕ, not, List, [], ◌∷◌, ◌++◌, Option, codes, decimal, find, slice_get, unwrap_or, map}
use Rattle.std.specs.List.{filter, filter_map, flat_map}
use Rattle.std.specs.Option.{option_and_then, option_map_or}
use Rattle.std.specs.Str.{bytes_eq}
use Rattle.gk_document.specs.declared.tree.Document.{Document}
use Rattle.gk_document.specs.declared.tree.ExampleTable.{ExampleTable}
use Rattle.gk_document.specs.declared.tree.Location.{Location}
use Rattle.gk_document.specs.declared.tree.Row.{Row}
use Rattle.gk_document.specs.declared.tree.Scenario.{Scenario}
use Rattle.cm_envelope.specs.Lines.{line_feed}
use Rattle.cm_envelope.specs.declared.envelope.Envelope.{Envelope}
use Rattle.cm_envelope.specs.declared.envelope.GherkinDocument.{GherkinDocument}
use Rattle.cm_envelope.specs.declared.pickle.Pickle.{Pickle}
use Rattle.cm_attempt.specs.Calls.{last_of}
use Rattle.cm_stream.specs.References.{as_document, find_case, find_pickle, if_any, pickles}
use Rattle.cm_stream.specs.Release.{is_named}
use Rattle.cm_stream.specs.Texts.{Utf8}
use Rattle.cm_cases.specs.Shown.{shown_text}
use Rattle.cm_cases.specs.declared.listing.Place.{Place}

-- the scenarios of a document, with those of its rules
abbrev pub scenarios_of : Document → List Scenario
scenarios_of d =
    option_map_or (λ f. f.scenarios ++ flat_map (λ r. r.scenarios) f.rules) d.feature []

-- the rows below the header of a table of examples, where there is one
abbrev pub example_rows : Option ExampleTable → List Row
example_rows table = option_map_or (λ t. t.body) table []

-- the rows of examples of a scenario
abbrev pub rows_of : Scenario → List Row
rows_of s = flat_map (λ x. example_rows x.table) s.examples

-- the id that a document gives a node, and the node's line
abbrev pub place : List Utf8 → (node : ℕ) → Location → Place
place ids node at = record { id = unwrap_or (slice_get ids node) []; line = at.line }

-- a scenario and each row of its examples
abbrev pub scenario_places : List Utf8 → Scenario → List Place
scenario_places ids s =
    place ids s.node s.location ∷ map (λ r. place ids r.node r.location) (rows_of s)

-- each scenario of a document and each row of examples
abbrev pub places_of : GherkinDocument → List Place
places_of d = flat_map (scenario_places d.ids) (scenarios_of d.document)

-- the last of the nodes that a pickle is made of: its row of examples, or its scenario where it has no row
abbrev pub last_node : Pickle → Utf8
last_node p = unwrap_or (last_of p.ast_node_ids) []

-- the places of the document of a uri, and none where there is no document
abbrev pub places_at : Utf8 → List Envelope → List Place
places_at uri es =
    option_map_or places_of (find (λ d. bytes_eq uri d.uri) (filter_map as_document es)) []

-- the line of the node with this id in the document of a uri, where it is that of a scenario or of a row of examples
abbrev pub line_at : List Envelope → (uri node : Utf8) → ℕ
line_at es uri node = option_map_or (λ x. x.line) (find (λ x. bytes_eq node x.id) (places_at uri es)) 0

-- The line of the scenario or of the row of examples that a pickle is made of. In a good stream there is one.
abbrev pub line_of : List Envelope → Pickle → ℕ
line_of es p = line_at es p.uri (last_node p)

-- ` URI:LINE NAME`
abbrev pub scenario_at : List Envelope → (uri name node : Utf8) → List ℕ
scenario_at es uri name node =
    codes " " ++ shown_text uri ++ codes ":" ++ decimal (line_at es uri node) ++ codes " "
    ++ shown_text name

-- that of a pickle
abbrev pub scenario_text : List Envelope → Pickle → List ℕ
scenario_text es p = scenario_at es p.uri p.name (last_node p)

-- that, and the end of the line
abbrev pub place_text : List Envelope → Pickle → List ℕ
place_text es p = scenario_text es p ++ line_feed ∷ []

-- the pickle that a case names
abbrev pub pickle_of : List Envelope → (test_case : Utf8) → Option Pickle
pickle_of es id = option_and_then (λ c. find_pickle c.pickle_id es) (find_case id es)

-- ` URI:LINE NAME` of the pickle of an id, and of that of a case; nothing where there is none
abbrev pub pickle_scenario : List Envelope → (pickle : Utf8) → List ℕ
pickle_scenario es id = flat_map (scenario_text es) (if_any (find_pickle id es))

abbrev pub case_scenario : List Envelope → (test_case : Utf8) → List ℕ
case_scenario es id = flat_map (scenario_text es) (if_any (pickle_of es id))

-- where the pickle of a case stands
abbrev pub case_place : List Envelope → (test_case : Utf8) → List ℕ
case_place es id = flat_map (place_text es) (if_any (pickle_of es id))

-- one line for each pickle that no case names, in order
abbrev pub unrun_lines : List Envelope → List ℕ
unrun_lines es =
    flat_map (λ p. codes "UNRUN" ++ place_text es p) (filter (λ p. not (is_named es p)) (pickles es))
