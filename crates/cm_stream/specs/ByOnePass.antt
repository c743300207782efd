-- The checks and the first fault of a stream where sources' texts are read in one pass, as a program reads them. Proofs and
-- contracts of private functions use these; what is promised is said of the grammar alone (`IsFirstFault`, `ByTheGrammar`).
use Rattle.std.specs.Prelude.{ℕ, Bool, List, [], Option, Result}
use Rattle.cm_envelope.specs.Reading.{LineFault}
use Rattle.cm_envelope.specs.declared.envelope.Envelope.{Envelope}
use Rattle.cm_envelope.specs.declared.envelope.Source.{Source}
use Rattle.cm_envelope.specs.declared.feed.Trouble.{Trouble}
use Rattle.cm_envelope.specs.declared.pickle.Pickle.{Pickle}
use Rattle.cm_attempt.specs.declared.status.Policy.{Policy}
use Rattle.cm_attempt.specs.declared.status.Settings.{Settings}
use Rattle.cm_stream.specs.Texts.{Utf8}
use Rattle.cm_stream.specs.Readings.{Reading}
use Rattle.cm_stream.specs.OnePass.{reads}
use Rattle.cm_stream.specs.Sources.{DuePickle}
use Rattle.cm_stream.specs.References.{reading_of_by, all_well_by}
use Rattle.cm_stream.specs.Findings.{Finding}
use Rattle.cm_stream.specs.Checks.{Check, is_uri_accepted_by, next_pickle_by, is_next_pickle_by, is_incomplete_by, checks_of_by, success_check_by, plain_checks_by, checks_by, fault_by}
use Rattle.cm_stream.specs.FaultlessLines.{IsFaultlessBy}
use Rattle.cm_stream.specs.Laws.{HasNoFaultBy}
use Rattle.cm_stream.specs.CallFaults.{CallFaultsAreBy}
use Rattle.cm_stream.specs.Stream.{FirstFault, feed_of, first_fault_line_by, first_fault_of_by}

abbrev pub reading_of : Utf8 → List Envelope → Option Reading
reading_of = reading_of_by reads

abbrev pub all_well : Policy → List Envelope → Bool
all_well = all_well_by reads

abbrev pub is_uri_accepted : Utf8 → List Envelope → Bool
is_uri_accepted = is_uri_accepted_by reads

abbrev pub next_pickle : Utf8 → List Envelope → Option DuePickle
next_pickle = next_pickle_by reads

abbrev pub is_next_pickle : List Envelope → Pickle → Bool
is_next_pickle = is_next_pickle_by reads

abbrev pub is_incomplete : List Envelope → Source → Bool
is_incomplete = is_incomplete_by reads

abbrev pub checks_of : (first : ℕ) → List Envelope → Envelope → List Check
checks_of = checks_of_by reads

abbrev pub success_check : Policy → List Envelope → Envelope → List Check
success_check = success_check_by reads

abbrev pub plain_checks : (first : ℕ) → List Envelope → Envelope → List Check
plain_checks = plain_checks_by reads

abbrev pub checks : Settings → List Envelope → Envelope → List Check
checks = checks_by reads

abbrev pub fault : Settings → List Envelope → Envelope → Option Finding
fault = fault_by reads

abbrev pub IsFaultless : Settings → List Envelope → Type 0
IsFaultless = IsFaultlessBy reads

abbrev pub HasNoFault : Settings → List Envelope → Type 0
HasNoFault = HasNoFaultBy reads

abbrev pub CallFaultsAre : Envelope → Type 0
CallFaultsAre = CallFaultsAreBy reads

abbrev pub first_fault_line : Settings → (before : List Envelope) → (n : ℕ)
    → Option (Result Envelope LineFault) → (List Envelope → FirstFault) → FirstFault
first_fault_line = first_fault_line_by reads

abbrev pub first_fault_of : Settings → (before : List Envelope) → (n : ℕ) → List (List ℕ)
    → Option Trouble → FirstFault
first_fault_of = first_fault_of_by reads

abbrev pub first_fault : Settings → List ℕ → FirstFault
first_fault settings bytes =
    first_fault_of settings [] 1 (feed_of bytes).lines (feed_of bytes).trouble
