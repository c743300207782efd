-- What a run leaves, by what the words ask for.
use Rattle.std.specs.List.{AllByRecursion}
use Rattle.std.specs.Prelude.{◌≡◌, ◌⊎◌, ℕ, ◌++◌, Bool, true, false, Contains, IfSome, List, [], ◌∷◌, Some, codes, slice_get}
use Rattle.std.specs.Borrow.{Bor}
use Rattle.cm_envelope.specs.Device.{Input, OfWhole, Output}
use Rattle.cm_attempt.specs.declared.status.Policy.{Policy}
use Rattle.cm_attempt.specs.declared.status.Settings.{Settings}
use Rattle.cm_envelope.specs.declared.envelope.Envelope.{Envelope}
use Rattle.cm_ran.specs.RunAt.{ScenarioRanAt}
use Rattle.cm_stream.specs.Readings.{Accepted, IsReading}
use Rattle.cm_stream.specs.ReleasedRuns.{may_be_left_out}
use Rattle.cm_stream.specs.Texts.{Utf8}
use Rattle.gk_document.specs.declared.tree.Document.{Document}
use Rattle.gk_pickle.specs.Pickles.{pickles as compiled}
use Rattle.cm_stream.specs.Release.{Conditions, IsReleasedStream}
use Rattle.cm_stream.specs.declared.laws.ReleaseCounts.{ReleaseCounts}
use Rattle.cm_stream.specs.declared.laws.Counts.{Counts}
use Rattle.feature_paths.specs.FeaturePaths.{FindsFiles}
use Rattle.files.specs.Looks.{PathLook}
use Rattle.files.specs.Openings.{Opening}
use Rattle.ck_command_line.specs.CommandLine.{Request, FeaturesGate, RunsGate, asked_by, over_features, over_input, over_runs, is_input}
use Rattle.ck_commands.specs.FeatureFiles.{FeatureFile, ReadsFiles}
use Rattle.ck_commands.specs.FilesAsked.{GatesFeatures}
use Rattle.ck_commands.specs.Judged.{ReleasedAs}
use Rattle.ck_commands.specs.Output.{DeliversOne}
use Rattle.ck_commands.specs.Run.{IsRefusal, Runs}
use Rattle.ck_commands.specs.Runs.{GatesRuns, unread_input}

-- the words ask for this
abbrev pub AsksFor : List (Bor (List ℕ)) → Request → Type 0
AsksFor words a = asked_by words ≡ Some a

-- a command over standard input opens no file, and only a gate over feature files looks at paths
abbrev pub Leaves : Request → (code : ℕ) → (old new : List Opening) → (seen later : List PathLook)
    → (i j : Input) → (before after : Output) → Type 0
Leaves (over_input c) code old new seen later i j before after =
    (new ≡ old) × (later ≡ seen) × Runs c code i j before after
Leaves (over_runs g) code old new seen later i j before after =
    (later ≡ seen) × GatesRuns g code old new i j before after
Leaves (over_features g) code old new seen later i j before after =
    GatesFeatures g code old new seen later i j before after

-- words that ask for nothing open no file, read nothing, and are told the usage, or help where they call for it
pub record LeavesAlone (words : List (Bor (List ℕ))) (code : ℕ) (old new : List Opening)
    (seen later : List PathLook) (i j : Input) (before after : Output) : Type 0 where
  pub unopened : new ≡ old
  pub unseen : later ≡ seen
  pub unread : j ≡ i
  pub told : DeliversOne (IsRefusal words) code before after

-- ---- what status 0 says of a gate over runs

-- a source was read to its end, and gave a released stream
abbrev pub HearsReleasedStream : Settings → Conditions → (i j : Input) → Type 0
HearsReleasedStream s asked i j =
    OfWhole i j (λ bytes. (counts : Counts) × (found : ReleaseCounts)
    × IsReleasedStream s asked bytes counts found)

-- Of each run of these names, in order, that is so: of standard input, or else of the file that was opened by that name.
abbrev pub ReleasedBy : (standard : Bool) → (is_released : (i j : Input) → Type 0)
    → (others : (noted : List Opening) → (i : Input) → Type 0)
    → (name : List ℕ) → (noted : List Opening) → (i : Input) → Type 0
ReleasedBy true is_released others name noted i = (k : Input) × is_released i k × others noted k
ReleasedBy false is_released others name noted i =
    (input : Input) × (rest : List Opening)
    × (noted ≡ record { name = name; input = Some input } ∷ rest)
    × is_released unread_input input × others rest i

abbrev pub EachReleased : Settings → Conditions → (names : List (List ℕ)) → (noted : List Opening)
    → (i j : Input) → Type 0
EachReleased s asked [] noted i j = (noted ≡ []) × (j ≡ i)
EachReleased s asked (name ∷ names) noted i j =
    ReleasedBy (is_input name) (HearsReleasedStream s asked) (λ rest k. EachReleased s asked names rest k j)
    name noted i

-- with status 0 of a gate over runs
abbrev pub ReleasesEach : RunsGate → (old new : List Opening) → (i j : Input) → Type 0
ReleasesEach g old new i j =
    (noted : List Opening) × (new ≡ old ++ noted)
    × EachReleased g.settings g.asked g.runs noted i j

-- ---- what status 0 says of a gate over feature files

-- The same of runs whose streams are of these envelopes, in order.
abbrev pub EachReleasedAs : Settings → Conditions → (names : List Utf8) → List (List Envelope)
    → (noted : List Opening) → (i j : Input) → Type 0
EachReleasedAs s asked [] [] noted i j = (noted ≡ []) × (j ≡ i)
EachReleasedAs s asked [] (es ∷ streams) noted i j = ⊥
EachReleasedAs s asked (name ∷ names) [] noted i j = ⊥
EachReleasedAs s asked (name ∷ names) (es ∷ streams) noted i j =
    ReleasedBy (is_input name) (ReleasedAs s asked es)
    (λ rest k. EachReleasedAs s asked names streams rest k j) name noted i

-- the runs that are read: where none is named, standard input
abbrev pub runs_read : (runs : List Utf8) → List Utf8
runs_read [] = codes "-" ∷ []
runs_read (run ∷ runs) = run ∷ runs

-- In one of these streams a source has exactly the text, and the pickle at the place of those that it compiles to ran.
pub record RanInOne (policy : Policy) (streams : List (List Envelope)) (text : Utf8) (place : ℕ)
    : Type 0 where
  pub es : List Envelope
  pub is_one : Contains streams es
  pub ran : ScenarioRanAt policy es text place

-- The file's bytes are a text of the grammar, and each scenario that it compiles to ran in one of the streams, or may be left
-- out by a tag.
pub record IsCovered (asked : Conditions) (policy : Policy)
    (streams : List (List Envelope)) (f : FeatureFile) : Type 0 where
  pub text : Utf8
  pub is_text : f.text ≡ Some text
  pub document : Document
  pub accepted : IsReading text (Accepted document)
  pub each : (place : ℕ) → IfSome (slice_get (compiled document) place)
      (λ due. RanInOne policy streams text place ⊎ (may_be_left_out asked due ≡ true))

-- With status 0 of a gate over feature files: these files were found and read, each run was read to its end and gave a released
-- stream, and of each file that holds.
pub record ReleasesFeatures (g : FeaturesGate) (old new : List Opening)
    (seen later : List PathLook) (i j : Input) : Type 0 where
  pub paths : List Utf8
  pub found : FindsFiles g.features seen later paths
  pub files : List FeatureFile
  pub between : List Opening
  pub read : ReadsFiles paths old between files
  pub noted : List Opening
  pub opened : new ≡ between ++ noted
  pub streams : List (List Envelope)
  pub runs : EachReleasedAs g.settings g.asked (runs_read g.runs) streams noted i j
  pub each : AllByRecursion (IsCovered g.asked g.settings.policy streams) files
