-- What an audit keeps of the lines so far, and what it reports of a line, where sources' texts are read in one pass, as a
-- program reads them. Proofs and contracts of private functions use these; the laws are said of the grammar.
use Rattle.std.specs.Prelude.{ℕ, List, Option, Result}
use Rattle.cm_envelope.specs.Reading.{LineFault}
use Rattle.cm_envelope.specs.declared.envelope.Envelope.{Envelope}
use Rattle.cm_envelope.specs.declared.envelope.Source.{Source}
use Rattle.cm_envelope.specs.declared.feed.Trouble.{Trouble}
use Rattle.cm_attempt.specs.declared.status.Policy.{Policy}
use Rattle.cm_attempt.specs.declared.status.Settings.{Settings}
use Rattle.cm_stream.specs.Checks.{Check}
use Rattle.cm_stream.specs.Findings.{Finding}
use Rattle.cm_stream.specs.OnePass.{reads}
use Rattle.cm_stream.specs.Stream.{Answer}
use Rattle.cm_state.specs.Summary.{SourceRow, Summary, source_row_by, summary_of_lines_by, new_source_by, summary_after_line_by}
use Rattle.cm_state.specs.StateChecks.{checks_before_by, plain_finding_by, finding_inside_by, finding_by}
use Rattle.cm_state.specs.Laws.{answer_of_line_by, answer_of_lines_by}

abbrev pub source_row : List Envelope → Source → SourceRow
source_row = source_row_by reads

abbrev pub summary_of_lines : (first : ℕ) → List Envelope → Summary
summary_of_lines = summary_of_lines_by reads

abbrev pub new_source : Source → SourceRow
new_source = new_source_by reads

abbrev pub summary_after_line : Summary → Envelope → Summary
summary_after_line = summary_after_line_by reads

abbrev pub checks_before : Summary → Envelope → List Check
checks_before = checks_before_by reads

abbrev pub plain_finding : Summary → Envelope → Option Finding
plain_finding = plain_finding_by reads

abbrev pub finding_inside : Policy → Summary → Envelope → Option Finding
finding_inside = finding_inside_by reads

abbrev pub finding : Settings → Summary → Envelope → Option Finding
finding = finding_by reads

abbrev pub answer_of_line : Settings → Summary → ℕ → Option (Result Envelope LineFault)
    → (Summary → Answer) → Answer
answer_of_line = answer_of_line_by reads

abbrev pub answer_of_lines : Settings → Summary → ℕ → List (List ℕ) → Option Trouble → Answer
answer_of_lines = answer_of_lines_by reads
