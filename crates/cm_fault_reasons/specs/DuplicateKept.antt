-- The id that makes an envelope a second declaration, by what an audit keeps of the lines before it.
use Rattle.std.specs.Prelude.{Option, Some, None, if◌then◌else◌, is_some, map}
use Rattle.cm_refs.specs.Declarations.{find_pickle}
use Rattle.cm_attempt.specs.Table.{find_case}
use Rattle.cm_envelope.specs.declared.envelope.Envelope.{Envelope}
use Rattle.cm_envelope.specs.declared.envelope.Envelope.TheVariants as envelope
use Rattle.cm_state.specs.Summary.{Summary}
use Rattle.cm_stream.specs.Texts.{Utf8}
use Rattle.cm_fault_reasons.specs.Duplicate.{first_repeat}

abbrev pub duplicate_by : Summary → Envelope → Option Utf8
duplicate_by s (envelope.GherkinDocument d) = first_repeat d.ids
duplicate_by s (envelope.Pickle p) =
    if is_some (find_pickle s.declared p.id) then Some p.id
    else first_repeat (map (λ x. x.id) p.steps)
duplicate_by s (envelope.TestCase c) =
    if is_some (find_case s.table c.id) then Some c.id
    else first_repeat (map (λ x. x.id) c.test_steps)
duplicate_by s (envelope.StepDefinition d) = Some d.id
duplicate_by s (envelope.Hook h) = Some h.id
duplicate_by s (envelope.TestCaseStarted x) = Some x.id
duplicate_by s (envelope.TestRunHookStarted x) = Some x.id
duplicate_by s _ = None
