-- What holds of the definitions of a run.
use Rattle.std.specs.List.{AllByRecursion}
use Rattle.std.specs.Prelude.{◌≡◌, ◌⊎◌, ◌<◌, ◌↔◌, ◌++◌, ℕ, true, false, Contains, IsPermutation, List, [], Some, length}
use Rattle.cm_envelope.specs.Device.{EndsAsShown, Hears, Input, MayCome, OfInput, OfReads, Output, greatest_count}
use Rattle.cm_attempt.specs.declared.status.Policy.TheVariants.{Strict}
use Rattle.cm_attempt.specs.declared.status.Settings.{Settings}
use Rattle.cm_envelope.specs.declared.envelope.Envelope.{Envelope}
use Rattle.cm_ran.specs.RunAt.{ScenarioRanAt}
use Rattle.cm_stream.specs.Good.{Everywhere}
use Rattle.cm_stream.specs.Readings.{Accepted, IsReading}
use Rattle.cm_stream.specs.ReleasedRuns.{PicklePassed, StepMatched}
use Rattle.cm_stream.specs.Texts.{Utf8}
use Rattle.files.specs.Looks.{PathLook}
use Rattle.files.specs.Openings.{Opening}
use Rattle.gk_document.specs.declared.tree.Document.{Document}
use Rattle.gk_pickle.specs.Pickles.{pickles as compiled}
use Rattle.cm_stream.specs.Release.{Conditions, IsReleasedStream}
use Rattle.cm_stream.specs.declared.laws.ReleaseCounts.{ReleaseCounts}
use Rattle.cm_stream.specs.declared.laws.Counts.{Counts}
use Rattle.ck_command_line.specs.CommandLine.{Command, FeaturesGate, ask_gate}
use Rattle.ck_commands.specs.Asked.{ReleasesFeatures}
use Rattle.ck_commands.specs.FeatureFiles.{FeatureFile}
use Rattle.ck_commands.specs.Judged.{is_run_in}
use Rattle.ck_commands.specs.Output.{Report, code_of}
use Rattle.ck_commands.specs.Run.{Reports, Runs, Tells}
use Rattle.ck_commands.specs.declared.report.ExitStatus.TheVariants.{Done, Trouble}

-- The bytes that a source shows to come are those heard of it, and then those that it shows afterwards, which may come.
abbrev pub ShownAreHeard : Type 0
ShownAreHeard =
    (before after : Input) (read bytes : List ℕ)
    → Hears before after read → EndsAsShown before → before.to_come ≡ Some bytes
    → (rest : List ℕ) × (after.to_come ≡ Some rest) × (bytes ≡ read ++ rest)
    × MayCome after rest

-- So what is reported of the bytes heard and of any that may come after them is reported of the bytes that a source shows.
abbrev pub ShownAreReported : Type 0
ShownAreReported =
    (c : Command) (r : Report) (before after : Input) (bytes : List ℕ)
    → EndsAsShown before → before.to_come ≡ Some bytes
    → (OfInput before after (λ all. Reports c all r) → Reports c bytes r)
    × (OfReads before after (λ all rest. Tells c all rest r)
    → (rest : List ℕ) × (after.to_come ≡ Some rest) × Tells c bytes rest r)

-- Of these bytes a gate reports the status 0 exactly where they are a released stream.
abbrev pub GateReleasesExactly : Type 0
GateReleasesExactly =
    (settings : Settings) (asked : Conditions) (bytes : List ℕ) (r : Report)
    → Reports (ask_gate settings asked) bytes r
    → (r.status ≡ Done)
    ↔ ((counts : Counts) × (found : ReleaseCounts)
    × IsReleasedStream settings asked bytes counts found)

-- A run of a gate on a released stream, read whole or not, ends with status 0, or with that of trouble.
abbrev pub ReleasedEndsWell : Type 0
ReleasedEndsWell =
    (settings : Settings) (asked : Conditions) (code : ℕ) (i j : Input) (before after : Output)
    → Runs (ask_gate settings asked) code i j before after → i.failed_calls < greatest_count
    → (read rest : List ℕ) → Hears i j read → MayCome j rest
    → (counts : Counts) (found : ReleaseCounts)
    → IsReleasedStream settings asked (read ++ rest) counts found
    → (code ≡ code_of Done) ⊎ (code ≡ code_of Trouble)

-- In one of these streams a source has exactly the text, and the pickle at the place of those that it compiles to has steps and one
-- attempt, in which each step passed; and each step of a pickle that passed in this stream was matched.
pub record PassedInOne (streams : List (List Envelope)) (text : Utf8) (place : ℕ) : Type 0 where
  pub es : List Envelope
  pub is_one : Contains streams es
  pub ran : ScenarioRanAt Strict es text place
  pub passed : PicklePassed es ran.pickle
  pub matched : Everywhere (λ before e after. StepMatched Strict es e) es

-- so did each scenario that the file's text compiles to
pub record HasPassed (streams : List (List Envelope)) (f : FeatureFile) : Type 0 where
  pub text : Utf8
  pub is_text : f.text ≡ Some text
  pub document : Document
  pub accepted : IsReading text (Accepted document)
  pub each : (place : ℕ) → place < length (compiled document) → PassedInOne streams text place

-- what `--strict` asks, and no scenario may be left out
pub record IsStrict (s : Settings) (asked : Conditions) : Type 0 where
  pub policy : s.policy ≡ Strict
  pub no_retries : asked.no_retries ≡ true
  pub no_skips : asked.no_skips ≡ true
  pub no_stepless : asked.no_stepless ≡ true
  pub no_undefined : asked.no_undefined ≡ true
  pub none_unrun : asked.allows_unrun ≡ false
  pub no_tags : asked.allowed_tags ≡ []

-- By a strict gate over feature files each of their scenarios passed.
abbrev pub FeaturesPassed : Type 0
FeaturesPassed =
    (g : FeaturesGate) (old new : List Opening) (seen later : List PathLook) (i j : Input)
    (r : ReleasesFeatures g old new seen later i j) → IsStrict g.settings g.asked
    → AllByRecursion (HasPassed r.streams) r.files

-- Whether a scenario ran in one of some streams doesn't depend on their order.
abbrev pub AnyOrderOfRuns : Type 0
AnyOrderOfRuns =
    (first second : List (List Envelope)) → IsPermutation first second
    → (text : Utf8) (place : ℕ) → is_run_in first text place ≡ is_run_in second text place
