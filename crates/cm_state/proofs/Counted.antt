-- The counts of lines without a fault are those of what is kept of them.
use Rattle.std.proofs.Common.{◌≡◌, ◌-◌, sym, ap, ◌∙◌, List, length, map, arith}
use Rattle.std.proofs.lemmas.List.{length-map}
use Rattle.cm_attempt.specs.Table.{AttemptRow, CaseRow, Table}
use Rattle.cm_attempt.specs.Calls as call
use Rattle.cm_attempt.specs.Calls.{DeclaredCase, StartedAttempt}
use Rattle.cm_attempt.specs.declared.status.Settings.{Settings}
use Rattle.cm_attempt.proofs.Tracked.{Tracked}
use Rattle.cm_attempt.proofs.Accepted.{tracked}
use Rattle.cm_envelope.specs.declared.envelope.Envelope.{Envelope}
use Rattle.cm_envelope.specs.declared.envelope.TestCase.{TestCase}
use Rattle.cm_stream.specs.ByOnePass.{IsFaultless}
use Rattle.cm_stream.specs.Calls.{calls_of}
use Rattle.cm_stream.specs.Record.{table_of_envelopes}
use Rattle.cm_stream.specs.References.{sources, pickles, cases, starts}
use Rattle.cm_stream.specs.Stream.{unrun_count, counts_of}
use Rattle.cm_stream.proofs.CallWords.{start_told, starts_told, case_ids}
use Rattle.cm_stream.proofs.Passing.{plain_passes}
use Rattle.cm_stream.proofs.TableSteps.{none_is_refused}
use Rattle.cm_state.specs.Summary.{counts_in, pickle_row}
use Rattle.cm_state.specs.ByOnePass.{source_row, summary_of_lines}
use Rattle.cm_state.proofs.Unrun.{named_by, named_or_unrun}

-- lists whose elements have the same texts are equally long
same_long : {X Y Z : Type 0} (f : X → Z) (xs : List X) (g : Y → Z) (ys : List Y) → map f xs ≡ map g ys → length xs ≡ length ys
same_long f xs g ys same = sym (length-map xs f) ∙ ap length same ∙ length-map ys g

pub counts_kept : (settings : Settings) (es : List Envelope) → IsFaultless settings es → counts_in (summary_of_lines settings.first_attempt es) ≡ counts_of es
counts_kept settings es none = λ i. record {
  sources = length-map (sources es) (source_row es) i;
  pickles = length-map (pickles es) pickle_row i;
  cases = same_long (λ (c : CaseRow). c.id) table.cases (λ (c : TestCase). c.id) (cases es) (h.case_ids ∙ case_ids es) i;
  attempts = started i;
  unrun = left i;
}
  where
    table : Table
    table = table_of_envelopes settings.first_attempt es

    h : Tracked (calls_of es) table
    h = tracked settings.first_attempt (calls_of es) table (none_is_refused settings es none)

    started : length table.attempts ≡ length (starts es)
    started =
        same_long (λ (a : AttemptRow). a.id) table.attempts (λ (s : StartedAttempt). s.id) (call.starts (calls_of es)) h.attempt_ids
        ∙ ap length (starts_told es) ∙ length-map (starts es) start_told

    left : length (map pickle_row (pickles es)) - length (named_by (cases es)) ≡ unrun_count es
    left =
        let each = named_or_unrun es (plain_passes settings es none) in
        omega (arith, length-map (pickles es) pickle_row, each)
