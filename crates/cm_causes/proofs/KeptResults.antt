-- The results in what an audit keeps of lines without a fault are those of the lines, also with the end of the run.
use Rattle.std.proofs.Common.{◌≡◌, refl, sym, ap, subst, List, map}
use Rattle.cm_attempt.specs.Calls.{Call, DeclaredCase, cases, result_of}
use Rattle.cm_envelope.specs.declared.envelope.Envelope.TheVariants as envelope
use Rattle.cm_stream.specs.Calls.{call_of}
use Rattle.cm_stream.specs.FaultlessLines.{IsFaultlessBy}
use Rattle.cm_stream.specs.OnePass.{reads}
use Rattle.cm_stream.specs.Readings.{Reading, ReadsByTheGrammar}
use Rattle.cm_stream.specs.Record.{table_of_envelopes}
use Rattle.cm_stream.specs.Texts.{Utf8}
use Rattle.cm_stream.proofs.ByGrammar.{same_reads}
use Rattle.cm_stream.proofs.Lists.{found_more}
use Rattle.cm_stream.proofs.TableSteps.{none_is_refused}
use Rattle.cm_stream.proofs.Tables.{tables_have_results}
use Rattle.cm_causes.specs.Laws.{EndsHaveNoResult, KeptResultsBy}

pub kept_results : (read : Utf8 → Reading) → ReadsByTheGrammar read → KeptResultsBy read
kept_results read right settings es faultless =
    let one : read ≡ reads = sym (same_reads read right) in
    let accepted = none_is_refused settings es (subst (λ (r : Utf8 → Reading). IsFaultlessBy r settings es) one faultless) in
    (tables_have_results settings.first_attempt es (table_of_envelopes settings.first_attempt es) accepted).1

pub results_at_end : EndsHaveNoResult
results_at_end es f = ap (λ (calls : List Call). map (λ (c : DeclaredCase). (c.id, result_of c.id calls)) (cases calls)) (found_more call_of es (envelope.TestRunFinished f) refl)
