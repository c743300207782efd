-- The results of a stream, which streams have results, and where another has its first fault. All of it is said of the calls of the
-- record of attempts that the envelopes make (Cucumber Messages: testCase to testCaseFinished).
use Rattle.std.specs.Prelude.{◌≡◌, ◌↔◌, ℕ, ◌+◌, List, [], ◌∷◌, ◌++◌, map, Option, Some, None, is_some, true, Result, Ok, Err}
use Rattle.std.specs.Option.{option_and_then}
use Rattle.cm_envelope.specs.Reading.{LineFault, envelope_of_line}
use Rattle.cm_envelope.specs.declared.envelope.Envelope.{Envelope}
use Rattle.cm_envelope.specs.declared.feed.Trouble.{Trouble}
use Rattle.cm_attempt.specs.Table.{Table, reported_status}
use Rattle.cm_attempt.specs.Calls.{table_after, cases, result_of}
use Rattle.cm_attempt.specs.CallFaults.{fault_of}
use Rattle.cm_attempt.specs.CallLaws.{ComeInOrder}
use Rattle.cm_attempt.specs.declared.status.Status.{Status}
use Rattle.cm_stream.specs.Texts.{Utf8}
use Rattle.cm_stream.specs.Calls.{call_of, calls_of}
use Rattle.cm_stream.specs.Checks.{first_failed}
use Rattle.cm_stream.specs.Findings.{Finding, IsBad, NoEnvelope}
use Rattle.cm_stream.specs.CallFaults.{call_fault_finding, call_fault_of_envelope, own_checks}
use Rattle.cm_stream.specs.Record.{table_after_envelope}
use Rattle.cm_stream.specs.Stream.{FirstFault, At, Troubled, NoFault, at_line, envelope_unless_blank, feed_of, nonblank_lines, read_line, as_read, envelopes, IsRead}

-- ---- the results

-- the attempts of the envelopes are well ordered, where those of a case are numbered from the first number
abbrev pub AreWellOrdered : (first : ℕ) → List Envelope → Type 0
AreWellOrdered first es = ComeInOrder first (calls_of es)

-- the cases in order of declaration, each with the worst status of its final attempt
abbrev pub results_of : List Envelope → List (Utf8 × Option Status)
results_of es = map (λ c. (c.id, result_of c.id (calls_of es))) (cases (calls_of es))

-- ---- the first fault

-- the fault of a line after these envelopes, whose attempts are well ordered: the first fault of its call
abbrev pub results_fault : (first : ℕ) → List Envelope → Envelope → Option Finding
results_fault first before e =
    option_and_then call_fault_finding
    (option_and_then (fault_of first (calls_of before)) (call_of e))

abbrev pub first_results_fault_line : (first : ℕ) → (before : List Envelope) → (n : ℕ)
    → Option (Result Envelope LineFault) → (List Envelope → FirstFault) → FirstFault
first_results_fault_line first before n None more = more before
first_results_fault_line first before n (Some (Err b)) more = At n (IsBad (NoEnvelope b))
first_results_fault_line first before n (Some (Ok e)) more =
    at_line n (results_fault first before e) (more (before ++ e ∷ []))

-- of these lines, the first of which has the number n, and then the trouble or the end, after envelopes without a fault
abbrev pub first_results_fault_of : (first : ℕ) → (before : List Envelope) → (n : ℕ)
    → List (List ℕ) → Option Trouble → FirstFault
first_results_fault_of first before n [] (Some t) = Troubled t
first_results_fault_of first before n [] None = NoFault before
first_results_fault_of first before n (l ∷ ls) t =
    first_results_fault_line first before n (envelope_unless_blank l)
    (λ (now : List Envelope). first_results_fault_of first now (n + 1) ls t)

-- the first line with a fault, why no further line could be read, or the envelopes
abbrev pub first_results_fault : (first : ℕ) → List ℕ → FirstFault
first_results_fault first bytes =
    first_results_fault_of first [] 1 (feed_of bytes).lines (feed_of bytes).trouble

-- ---- that it is right

-- the stream is read as these envelopes, and their attempts are well ordered
pub record IsWell (first : ℕ) (bytes : List ℕ) (es : List Envelope) : Type 0 where
  pub lines : List (ℕ × Envelope)
  pub read : IsRead bytes lines
  pub all : es ≡ envelopes lines
  pub well : AreWellOrdered first es

-- the line has no envelope, or with it the attempts aren't well ordered any more
abbrev pub FaultOf : (first : ℕ) → List Envelope → Result Envelope LineFault → Finding → Type 0
FaultOf first before (Err b) f = f ≡ IsBad (NoEnvelope b)
FaultOf first before (Ok e) f =
    (results_fault first before e ≡ Some f) × (AreWellOrdered first (before ++ e ∷ []) → ⊥)

-- the lines before the one with the number n are read as envelopes whose attempts are well ordered, and it has the fault
pub record IsFirstResultsFault (first : ℕ) (bytes : List ℕ) (n : ℕ) (f : Finding) : Type 0 where
  pub front : List (ℕ × List ℕ)
  pub line : List ℕ
  pub rest : List (ℕ × List ℕ)
  pub before : List (ℕ × Envelope)
  pub cut : nonblank_lines 1 (feed_of bytes).lines ≡ front ++ (n, line) ∷ rest
  pub read : map read_line front ≡ map as_read before
  pub well : AreWellOrdered first (envelopes before)
  pub why : FaultOf first (envelopes before) (envelope_of_line line) f

-- every line is read as envelopes whose attempts are well ordered, and then comes this trouble
pub record IsTroubled (first : ℕ) (bytes : List ℕ) (t : Trouble) : Type 0 where
  pub lines : List (ℕ × Envelope)
  pub read : map read_line (nonblank_lines 1 (feed_of bytes).lines) ≡ map as_read lines
  pub well : AreWellOrdered first (envelopes lines)
  pub end : (feed_of bytes).trouble ≡ Some t

-- No fault is reported exactly of streams that are read as envelopes whose attempts are well ordered.
pub record NoFaultIsExact : Type 0 where
  pub well : (first : ℕ) (bytes : List ℕ) (es : List Envelope)
      → first_results_fault first bytes ≡ NoFault es → IsWell first bytes es
  pub exact : (first : ℕ) (bytes : List ℕ) (es : List Envelope) → IsWell first bytes es
      → first_results_fault first bytes ≡ NoFault es

-- a fault that is reported is that of the first line with one
abbrev pub FaultsAreFirst : Type 0
FaultsAreFirst =
    (first : ℕ) (bytes : List ℕ) (n : ℕ) (f : Finding) → first_results_fault first bytes ≡ At n f
    → IsFirstResultsFault first bytes n f

-- a trouble is reported where no line has a fault
abbrev pub TroublesAreLast : Type 0
TroublesAreLast =
    (first : ℕ) (bytes : List ℕ) (t : Trouble) → first_results_fault first bytes ≡ Troubled t
    → IsTroubled first bytes t

-- ---- the table of the record

-- what holds after envelopes whose calls are accepted, of them and the table of their calls
abbrev pub AfterAccepted : ((first : ℕ) → List Envelope → Table → Type 0) → Type 0
AfterAccepted P =
    (first : ℕ) (es : List Envelope) (t : Table) → table_after first (calls_of es) ≡ Some t
    → P first es t

-- the attempts are well ordered, and the table reports the results
abbrev pub TablesHaveResults : Type 0
TablesHaveResults = AfterAccepted (λ first es t.
    AreWellOrdered first es × (map (λ c. (c.id, reported_status t c.id)) t.cases ≡ results_of es))

-- an envelope is refused for its fault
abbrev pub RefusedForFaults : Type 0
RefusedForFaults = AfterAccepted (λ first es t.
    (e : Envelope) → option_and_then call_fault_finding (call_fault_of_envelope t e)
    ≡ results_fault first es e)

-- that is the first failed of the checks that the audit leaves to the record
abbrev pub FaultsAreChecks : Type 0
FaultsAreChecks = AfterAccepted (λ first es t.
    (e : Envelope) → results_fault first es e ≡ first_failed (own_checks first es e))

-- where an envelope has no fault, the table changes by its call
abbrev pub TablesChange : Type 0
TablesChange = AfterAccepted (λ first es t. (e : Envelope) → results_fault first es e ≡ None
    → table_after first (calls_of (es ++ e ∷ [])) ≡ Some (table_after_envelope t e))

-- where the attempts are well ordered, no call is refused
abbrev pub WellOrderedAreAccepted : Type 0
WellOrderedAreAccepted =
    (first : ℕ) (es : List Envelope) → AreWellOrdered first es
    → is_some (table_after first (calls_of es)) ≡ true

-- the front of a well ordered list is well ordered
abbrev pub FrontsAreWellOrdered : Type 0
FrontsAreWellOrdered =
    (first : ℕ) (before after : List Envelope) → AreWellOrdered first (before ++ after)
    → AreWellOrdered first before

-- after well ordered attempts an envelope has a fault exactly where they aren't well ordered with it
abbrev pub FaultsAreExact : Type 0
FaultsAreExact =
    (first : ℕ) (es : List Envelope) → AreWellOrdered first es → (e : Envelope)
    → (results_fault first es e ≡ None) ↔ AreWellOrdered first (es ++ e ∷ [])
