-- Good streams of bytes, and the first fault of a stream. A stream is lines of JSON, each an envelope of the Cucumber
-- Messages (NDJSON, but blank lines are skipped and a last line may lack its LF).
use Rattle.std.specs.Prelude.{◌≡◌, ℕ, ◌+◌, Bool, not, List, [], ◌∷◌, ◌++◌, Option, Some, None, Result, Ok, Err, if◌then◌else◌, map, length, count_by}
use Rattle.std.specs.List.{list_any}
use Rattle.std.specs.Str.{bytes_eq}
use Rattle.cm_envelope.specs.Lines.{FeedAnswers, feed, is_blank, max_line_bytes, max_stream_bytes}
use Rattle.cm_envelope.specs.declared.feed.Trouble.{Trouble}
use Rattle.cm_envelope.specs.Reading.{LineFault, envelope_of_line}
use Rattle.cm_attempt.specs.declared.status.Settings.{Settings}
use Rattle.cm_stream.specs.References.{sources, pickles, cases, starts, run_succeeded}
use Rattle.cm_stream.specs.Good.{Good}
use Rattle.cm_stream.specs.Checks.{fault_by, fault_at_end}
use Rattle.cm_stream.specs.Redeclared.{judged_after, line_judged_as}
use Rattle.cm_stream.specs.Texts.{Utf8}
use Rattle.cm_stream.specs.Readings.{Reading, ReadsByTheGrammar}
use Rattle.cm_envelope.specs.declared.envelope.Envelope.{Envelope}
use Rattle.cm_stream.specs.Findings.{Finding, IsBad, IsUnsupported, stream_fault_named, NoEnvelope}
use Rattle.cm_stream.specs.declared.laws.Audited.{Audited}
use Rattle.cm_stream.specs.declared.laws.Counts.{Counts}
use Rattle.cm_stream.specs.declared.laws.Verdict.{Verdict}
use Rattle.cm_stream.specs.declared.laws.Verdict.TheVariants as verdict

-- a stream's lines within the limits
abbrev pub feed_of : List ℕ → FeedAnswers
feed_of bytes = feed bytes max_line_bytes max_stream_bytes

-- the lines that aren't blank, each with its number
abbrev pub nonblank_lines : ℕ → List (List ℕ) → List (ℕ × List ℕ)
nonblank_lines n [] = []
nonblank_lines n (l ∷ ls) =
    if is_blank l then nonblank_lines (n + 1) ls else (n, l) ∷ nonblank_lines (n + 1) ls

abbrev pub read_line : ℕ × List ℕ → ℕ × Result Envelope LineFault
read_line l = (l.0, envelope_of_line l.1)

abbrev pub as_read : ℕ × Envelope → ℕ × Result Envelope LineFault
as_read l = (l.0, Ok l.1)

-- The stream has no trouble, and its lines that aren't blank are read as these envelopes, each with its line number.
pub record IsRead (bytes : List ℕ) (es : List (ℕ × Envelope)) : Type 0 where
  pub no_trouble : (feed_of bytes).trouble ≡ None
  pub read : map read_line (nonblank_lines 1 (feed_of bytes).lines) ≡ map as_read es

abbrev pub envelopes : List (ℕ × Envelope) → List Envelope
envelopes es = map (λ (l : ℕ × Envelope). l.1) es

-- how many pickles no case names
abbrev pub unrun_count : List Envelope → ℕ
unrun_count es =
    count_by (λ p. not (list_any (λ c. bytes_eq p.id c.pickle_id) (cases es))) (pickles es)

abbrev pub counts_of : List Envelope → Counts
counts_of es =
    record {
      sources = length (sources es);
      pickles = length (pickles es);
      cases = length (cases es);
      attempts = length (starts es);
      unrun = unrun_count es;
    }

-- The stream is read as envelopes that are judged as these by the settings. They are the envelopes themselves, but that hooks
-- and step definitions which are declared again may be passed over.
pub record IsReadAs (settings : Settings) (bytes : List ℕ) (es : List Envelope) : Type 0 where
  pub lines : List (ℕ × Envelope)
  pub read : IsRead bytes lines
  pub judged : es ≡ judged_after settings [] (envelopes lines)

-- a good stream by the settings, which has these counts, and says this of the run's success
pub record IsGoodRun (settings : Settings) (bytes : List ℕ) (counts : Counts)
    (success : Bool) : Type 0 where
  pub judged : List Envelope
  pub read : IsReadAs settings bytes judged
  pub good : Good settings judged
  pub exact : counts ≡ counts_of judged
  pub said : success ≡ run_succeeded judged

-- whatever it says of success
abbrev pub IsGoodStream : Settings → List ℕ → Counts → Type 0
IsGoodStream settings bytes counts = (success : Bool) × IsGoodRun settings bytes counts success

-- ---- the first fault

-- what is reported of a stream: a finding at a line, a trouble, or none
pub data FirstFault : Type 0 where
  At : ℕ → Finding → FirstFault
  Troubled : Trouble → FirstFault
  NoFault : List Envelope → FirstFault

abbrev pub at_end : ℕ → List Envelope → Option Finding → FirstFault
at_end n before None = NoFault before
at_end n before (Some f) = At n f

-- a finding at this line, or what is reported after it
abbrev pub at_line : ℕ → Option Finding → FirstFault → FirstFault
at_line n None more = more
at_line n (Some f) more = At n f

-- what a line is read as: nothing where it is blank
abbrev pub envelope_unless_blank : List ℕ → Option (Result Envelope LineFault)
envelope_unless_blank line = if is_blank line then None else Some (envelope_of_line line)

abbrev pub first_fault_line_by : (read : Utf8 → Reading) → Settings → (before : List Envelope)
    → (n : ℕ) → Option (Result Envelope LineFault) → (List Envelope → FirstFault) → FirstFault
first_fault_line_by read settings before n None more = more before
first_fault_line_by read settings before n (Some (Err b)) more = At n (IsBad (NoEnvelope b))
first_fault_line_by read settings before n (Some (Ok e)) more =
    at_line n (fault_by read settings before e) (more (before ++ e ∷ []))

-- Of these lines, the first of which has the number n, and then the trouble or the end, after envelopes without a fault. A
-- source's text is read by the function.
abbrev pub first_fault_of_by : (read : Utf8 → Reading) → Settings → (before : List Envelope)
    → (n : ℕ) → List (List ℕ) → Option Trouble → FirstFault
first_fault_of_by read settings before n [] (Some t) = Troubled t
first_fault_of_by read settings before n [] None = at_end n before (fault_at_end before)
first_fault_of_by read settings before n (l ∷ ls) t =
    first_fault_line_by read settings before n
    (line_judged_as settings before (envelope_unless_blank l))
    (λ (now : List Envelope). first_fault_of_by read settings now (n + 1) ls t)

-- that is reported of the lines and of the trouble or the end after them, where sources' texts are read by the grammar
pub record IsFirstFaultOf (settings : Settings) (lines : List (List ℕ)) (trouble : Option Trouble)
    (f : FirstFault) : Type 0 where
  pub read : Utf8 → Reading
  pub by_the_grammar : ReadsByTheGrammar read
  pub first : f ≡ first_fault_of_by read settings [] 1 lines trouble

-- that is the first fault of the bytes
abbrev pub IsFirstFault : Settings → List ℕ → FirstFault → Type 0
IsFirstFault settings bytes f =
    IsFirstFaultOf settings (feed_of bytes).lines (feed_of bytes).trouble f

-- ---- what an audit promises

-- an answer, by what it names: the counts of a good stream and whether its run says success
pub data Answer : Type 0 where
  GoodWith : Counts → Bool → Answer
  Found : ℕ → Finding → Answer
  Failed : Trouble → Answer

abbrev pub answer_in : Verdict → Bool → Answer
answer_in (verdict.Good counts) success = GoodWith counts success
answer_in (verdict.Bad n b) success = Found n (IsBad (stream_fault_named b))
answer_in (verdict.Unsupported n r) success = Found n (IsUnsupported r)

abbrev pub answer_of_audit : Result Audited Trouble → Answer
answer_of_audit (Ok a) = answer_in a.verdict a.success
answer_of_audit (Err t) = Failed t

abbrev pub verdict_in : Result Audited Trouble → Result Verdict Trouble
verdict_in (Ok a) = Ok a.verdict
verdict_in (Err t) = Err t

-- the answer for what is reported
abbrev pub answer_for : FirstFault → Answer
answer_for (At n f) = Found n f
answer_for (Troubled t) = Failed t
answer_for (NoFault es) = GoodWith (counts_of es) (run_succeeded es)

-- where the verdict is Good, the bytes are a good stream with these counts, whose run says so of its success
abbrev pub GoodRunIn : Settings → List ℕ → Verdict → Bool → Type 0
GoodRunIn settings bytes (verdict.Good counts) success = IsGoodRun settings bytes counts success
GoodRunIn settings bytes _ success = Unit {0}

-- Good only for good streams, with exact counts and what they say of success.
abbrev pub GoodRunsOnly : Settings → List ℕ → Result Audited Trouble → Type 0
GoodRunsOnly settings bytes (Ok a) = GoodRunIn settings bytes a.verdict a.success
GoodRunsOnly settings bytes (Err t) = Unit {0}

-- the other stream has the first n lines of this one
pub record HaveFirstLines (n : ℕ) (bytes other : List ℕ) : Type 0 where
  pub first : List (List ℕ)
  pub rest : List (List ℕ)
  pub other_rest : List (List ℕ)
  pub count : length first ≡ n
  pub here : (feed_of bytes).lines ≡ first ++ rest
  pub there : (feed_of other).lines ≡ first ++ other_rest

-- A fault at line n: no good stream has the first n lines of this one, if it has n, and this one isn't good. Of a fault past the
-- last line, as of a run that doesn't end, only the second is said: a good stream may begin with all of these lines.
abbrev pub NoneIsGood : Settings → List ℕ → Result Verdict Trouble → Type 0
NoneIsGood settings bytes (Ok (verdict.Bad n b)) =
    ((other : List ℕ) (counts : Counts) → HaveFirstLines n bytes other
    → IsGoodStream settings other counts → ⊥) × ((counts : Counts)
    → IsGoodStream settings bytes counts → ⊥)
NoneIsGood settings bytes _ = Unit {0}
