-- The lines of a stream's cases as JSON, by the whole list of envelopes.
use Rattle.std.specs.Prelude.{ℕ, not, List, [], ◌∷◌, ◌++◌, codes, length, map}
use Rattle.std.specs.List.{filter, flat_map}
use Rattle.serde_json.specs.Data.{Data, number, string, unsigned}
use Rattle.serde_json.specs.Written.{compact_text}
use Rattle.cm_envelope.specs.Lines.{line_feed}
use Rattle.cm_envelope.specs.declared.envelope.Envelope.{Envelope}
use Rattle.cm_envelope.specs.declared.pickle.Pickle.{Pickle}
use Rattle.cm_messages.specs.Layout.{list_data, object_of}
use Rattle.cm_stream.specs.References.{if_any, pickles, starts_of}
use Rattle.cm_stream.specs.Release.{is_named}
use Rattle.cm_stream.specs.Texts.{Utf8}
use Rattle.cm_cases.specs.Places.{line_of, pickle_of}
use Rattle.cm_cases.specs.Shown.{shown_json}

-- what a line says of a test case, or of a pickle that no case names
pub record CaseValues : Type 0 where
  pub attempts : ℕ
  pub line : ℕ
  pub name : Utf8
  pub status : Utf8
  pub tags : List Utf8
  pub uri : Utf8

-- an object with these members, in the order of their names
abbrev pub case_data : CaseValues → Data
case_data v = object_of ((codes "attempts", number (unsigned v.attempts))
    ∷ (codes "line", number (unsigned v.line)) ∷ (codes "name", string v.name)
    ∷ (codes "status", string v.status) ∷ (codes "tags", list_data string v.tags)
    ∷ (codes "uri", string v.uri) ∷ [])

-- the object without spaces, as it is shown within a line
abbrev pub object_text : CaseValues → List ℕ
object_text v = shown_json (compact_text (case_data v))

-- that, and the end of the line
abbrev pub json_line : CaseValues → List ℕ
json_line v = object_text v ++ line_feed ∷ []

-- what is said of a pickle: where it stands, its name, and the names of its tags in order
abbrev pub values_of : List Envelope → (attempts : ℕ) → (status : Utf8) → Pickle → CaseValues
values_of es attempts status p = record {
  attempts = attempts;
  line = line_of es p;
  name = p.name;
  status = status;
  tags = map (λ t. t.name) p.tags;
  uri = p.uri;
}

-- the line of a case with this status, and how many attempts at it started
abbrev pub case_json : List Envelope → (test_case status : Utf8) → List ℕ
case_json es id status =
    flat_map (λ p. json_line (values_of es (length (starts_of id es)) status p))
    (if_any (pickle_of es id))

-- one line for each pickle that no case names, in order
abbrev pub unrun_json : List Envelope → List ℕ
unrun_json es =
    flat_map (λ p. json_line (values_of es 0 (codes "UNRUN") p))
    (filter (λ p. not (is_named es p)) (pickles es))
