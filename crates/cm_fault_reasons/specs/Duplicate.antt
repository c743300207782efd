-- The id that makes an envelope a second declaration.
use Rattle.std.specs.Prelude.{List, [], ◌∷◌, ◌++◌, Option, Some, None, if◌then◌else◌, is_some, map, option_map}
use Rattle.cm_attempt.specs.Table.{has_text}
use Rattle.cm_envelope.specs.declared.envelope.Envelope.{Envelope}
use Rattle.cm_envelope.specs.declared.envelope.Envelope.TheVariants as envelope
use Rattle.cm_stream.specs.References.{find_case, find_pickle}
use Rattle.cm_stream.specs.Texts.{Utf8}
use Rattle.cm_fault_reasons.specs.Unknown.{ToldName, told_id}

-- the first of these ids that is among the ones seen, or stands before in the list
abbrev pub first_again : (seen : List Utf8) → List Utf8 → Option Utf8
first_again seen [] = None
first_again seen (id ∷ ids) =
    if has_text id seen then Some id else first_again (seen ++ id ∷ []) ids

-- the first of these ids that stands before in the list
abbrev pub first_repeat : List Utf8 → Option Utf8
first_repeat = first_again []

-- Its own id where these declare it for its kind, else the first id of its steps that stands before in their list. Of a document
-- it is the first id of its nodes that does. What has no parts has no other id.
abbrev pub duplicate_of : (before : List Envelope) → Envelope → Option Utf8
duplicate_of before (envelope.GherkinDocument d) = first_repeat d.ids
duplicate_of before (envelope.Pickle p) =
    if is_some (find_pickle p.id before) then Some p.id else first_repeat (map (λ s. s.id) p.steps)
duplicate_of before (envelope.TestCase c) =
    if is_some (find_case c.id before) then Some c.id
    else first_repeat (map (λ s. s.id) c.test_steps)
duplicate_of before (envelope.StepDefinition d) = Some d.id
duplicate_of before (envelope.Hook h) = Some h.id
duplicate_of before (envelope.TestCaseStarted s) = Some s.id
duplicate_of before (envelope.TestRunHookStarted s) = Some s.id
duplicate_of before _ = None

-- as it is told
abbrev pub first_duplicate : (before : List Envelope) → Envelope → Option ToldName
first_duplicate before e = option_map told_id (duplicate_of before e)
