-- What the functions of `results` leave on the way to a report. No clause of `run` cites this module.
use Rattle.std.specs.Prelude.{◌≡◌, ⊤, ℕ, Bool, true, false, List, Option, Some, None, option_and_then, Result, Ok, Err, if◌then◌else◌}
use Rattle.std.specs.List.{flat_map}
use Rattle.cm_envelope.specs.Lines.{is_blank}
use Rattle.cm_envelope.specs.Reading.{LineFault, envelope_of_line}
use Rattle.cm_envelope.specs.declared.envelope.Envelope.{Envelope}
use Rattle.cm_envelope.specs.declared.feed.Trouble.{Trouble}
use Rattle.cm_envelope.specs.declared.feed.Trouble.TheVariants.{ReadFailed, Memory}
use Rattle.cm_attempt.specs.Results.{case_results}
use Rattle.cm_attempt.specs.Table.{Table}
use Rattle.cm_judge.specs.declared.stop.Stop.{Stop}
use Rattle.cm_judge.specs.declared.stop.Stop.TheVariants as stop
use Rattle.cm_stream.specs.CallFaults.{call_fault_of_envelope, call_fault_finding}
use Rattle.cm_stream.specs.Findings.{Finding, IsBad, IsUnsupported, NoEnvelope, stream_fault_named}
use Rattle.cm_stream.specs.Record.{table_after_envelope}
use Rattle.cm_stream.specs.Results.{results_of}
use Rattle.cm_stream.specs.Stream.{Answer, Found, Failed, FirstFault, At, Troubled, NoFault, answer_of_audit}
use Rattle.cm_stream.specs.declared.laws.Audited.{Audited}
use Rattle.ck_commands.specs.Output.{Report}
use Rattle.ck_commands.specs.Results.{result_text}
use Rattle.ck_commands.specs.Verdicts.{verdict_report}
use Rattle.ck_commands.specs.declared.report.ExitStatus.TheVariants.{Done}

-- ---- a line

abbrev pub unless_found : Option Finding → Table → Result Table Finding
unless_found (Some f) t = Err f
unless_found None t = Ok t

-- the table after an envelope, or what is found in its line
abbrev pub after_envelope : Table → Result Envelope LineFault → Result Table Finding
after_envelope t (Ok e) =
    unless_found (option_and_then call_fault_finding (call_fault_of_envelope t e))
    (table_after_envelope t e)
after_envelope t (Err fault) = Err (IsBad (NoEnvelope fault))

-- the table after a line, or what is found in it; a blank line changes nothing
abbrev pub after_line : Table → List ℕ → Result Table Finding
after_line t line = if is_blank line then Ok t else after_envelope t (envelope_of_line line)

-- what a line leaves is what it makes of the table, unless memory was refused
abbrev pub LeavesTable : Result Table Finding → Table → Result ⊤ Stop → Type 0
LeavesTable after new (Ok done) = after ≡ Ok new
LeavesTable after new (Err (stop.Bad fault)) = after ≡ Err (IsBad (stream_fault_named fault))
LeavesTable after new (Err (stop.Unsupported reason)) = after ≡ Err (IsUnsupported reason)
LeavesTable after new (Err stop.Memory) = ⊤

-- ---- a stream

-- the answer where a fault is the first that is found, or a trouble; none where there is neither
abbrev pub fault_answer : FirstFault → Option Answer
fault_answer (At n f) = Some (Found n f)
fault_answer (Troubled t) = Some (Failed t)
fault_answer (NoFault es) = None

-- the table that was read has the results of the stream, or the answer is that for its first fault, unless a read failed or
-- memory was refused
abbrev pub HasOutcome : FirstFault → Result Table (Result Audited Trouble) → Type 0
HasOutcome first (Ok t) =
    (es : List Envelope) × (first ≡ NoFault es) × (case_results t ≡ results_of es)
HasOutcome first (Err (Err ReadFailed)) = ⊤
HasOutcome first (Err (Err Memory)) = ⊤
HasOutcome first (Err answer) = fault_answer first ≡ Some (answer_of_audit answer)

-- it is that a read failed
abbrev pub is_failed_attempts_read : {A : Type 0} → Result A (Result Audited Trouble) → Bool
is_failed_attempts_read (Err (Err ReadFailed)) = true
is_failed_attempts_read _ = false

-- the report of what was read: one line for each case of a table, or that of the answer
abbrev pub report_of_read : Result Table (Result Audited Trouble) → Report
report_of_read (Ok t) = record { text = flat_map result_text (case_results t); status = Done }
report_of_read (Err answer) = verdict_report (answer_of_audit answer)
