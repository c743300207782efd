-- The first reference of an envelope that isn't declared, as it is told.
use Rattle.std.specs.Prelude.{◌==◌, ℕ, Bool, true, false, List, ◌∷◌, [], ◌++◌, Option, codes, find, if◌then◌else◌, option_map}
use Rattle.std.specs.Option.{option_map_or}
use Rattle.cm_cases.specs.Shown.{shown_text}
use Rattle.cm_envelope.specs.Lines.{line_feed}
use Rattle.cm_envelope.specs.declared.envelope.Envelope.{Envelope}
use Rattle.cm_stream.specs.References.{Name, SourceOf, DocumentOf, PickleNamed, PickleStep, Definition, HookNamed, Case, Step, Run, Attempt, RunHook, refers, times_declared}
use Rattle.cm_stream.specs.Texts.{Utf8}

-- a text, and whether it is a uri; otherwise it is an id
pub record ToldName : Type 0 where
  pub is_uri : Bool
  pub text : Utf8

abbrev pub told_uri : Utf8 → ToldName
told_uri uri = record { is_uri = true; text = uri }

abbrev pub told_id : Utf8 → ToldName
told_id id = record { is_uri = false; text = id }

-- sources and documents are told by their uris, all else by its id
abbrev pub told_name : Name → ToldName
told_name (SourceOf uri) = told_uri uri
told_name (DocumentOf uri) = told_uri uri
told_name (PickleNamed id) = told_id id
told_name (PickleStep pickle id) = told_id id
told_name (Definition id) = told_id id
told_name (HookNamed id) = told_id id
told_name (Case id) = told_id id
told_name (Step test_case id) = told_id id
told_name (Run id) = told_id id
told_name (Attempt id) = told_id id
told_name (RunHook id) = told_id id

-- the first reference of an envelope, in the order in which it is checked, that none of these declares
abbrev pub first_unknown : (before : List Envelope) → Envelope → Option ToldName
first_unknown before e =
    option_map told_name (find (λ name. times_declared name before == 0) (refers before e))

-- `uri URI` or `id ID`
abbrev pub told_line : ToldName → List ℕ
told_line t =
    (if t.is_uri then codes "uri " else codes "id ") ++ shown_text t.text ++ line_feed ∷ []

abbrev pub told_lines : Option ToldName → List ℕ
told_lines o = option_map_or told_line o []
