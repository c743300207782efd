-- Whether the scenarios of feature files ran, each in one of the runs, and what is told of those that didn't.
use Rattle.std.specs.Prelude.{◌≡◌, ◌⊎◌, ◌==◌, ⊤, ℕ, List, [], ◌∷◌, ◌++◌, Option, Some, None, codes, decimal, if◌then◌else◌, length}
use Rattle.cm_envelope.specs.Device.{Input, Output}
use Rattle.cm_envelope.specs.Lines.{line_feed}
use Rattle.cm_envelope.specs.declared.envelope.Envelope.{Envelope}
use Rattle.cm_envelope.specs.declared.feed.Trouble.TheVariants.{Memory}
use Rattle.cm_attempt.specs.declared.status.Settings.{Settings}
use Rattle.cm_missing.specs.Missing.{AreMissingLines, AskedFile, IsScenarioCount, IsUnrunCount, flag_at}
use Rattle.cm_reasons.specs.Lines.{limited_text}
use Rattle.cm_stream.specs.Release.{Conditions}
use Rattle.cm_stream.specs.Texts.{Utf8}
use Rattle.feature_paths.specs.FeaturePaths.{FindsFault, FindsFiles}
use Rattle.feature_paths.specs.Shown.{Faulty}
use Rattle.files.specs.Looks.{PathLook}
use Rattle.files.specs.Openings.{Opening}
use Rattle.ck_command_line.specs.CommandLine.{FeaturesGate, ask_gate}
use Rattle.ck_commands.specs.FeatureFiles.{FailsAtFile, FeatureFile, ReadsFiles, asked_once, faulty_report}
use Rattle.ck_commands.specs.Judged.{AreStreams, counts_of_all, is_run_in}
use Rattle.ck_commands.specs.Output.{Delivers, Report, trouble_report}
use Rattle.ck_commands.specs.Run.{IsReportOf}
use Rattle.ck_commands.specs.Runs.{IsRunsReport, Reading, heard}
use Rattle.ck_commands.specs.declared.command_gate.GateCounts.{GateCounts}
use Rattle.ck_commands.specs.declared.report.ExitStatus.TheVariants.{Done, Held}

-- ---- the runs

-- The runs were judged: those that are named, or where none is, the one that standard input gives.
abbrev pub IsPartsReport : Settings → Conditions → (runs : List Utf8) → (old new : List Opening)
    → (i j : Input) → List Reading → Report → Type 0
IsPartsReport s asked [] old new i j readings r =
    (new ≡ old) × (readings ≡ heard i j ∷ []) × IsReportOf (ask_gate s asked) r i j
IsPartsReport s asked (run ∷ runs) old new i j readings r =
    (all : IsRunsReport (record { settings = s; asked = asked; runs = run ∷ runs }) old new i j r)
    × (readings ≡ all.readings)

-- ---- what is told of the files

-- a file as it is asked: the flags say which of its text's scenarios ran, by their places
abbrev pub HasFlags : List (List Envelope) → Option Utf8 → AskedFile → Type 0
HasFlags streams None a = ⊤
HasFlags streams (Some text) a =
    (place : ℕ) → flag_at a.flags place ≡ is_run_in streams text place

pub record IsAsked (streams : List (List Envelope)) (f : FeatureFile) (a : AskedFile)
    : Type 0 where
  pub path : a.path ≡ f.path
  pub text : a.text ≡ f.text
  pub flags : HasFlags streams f.text a

abbrev pub AreAsked : List (List Envelope) → List FeatureFile → List AskedFile → Type 0
AreAsked streams [] [] = ⊤
AreAsked streams [] (a ∷ others) = ⊥
AreAsked streams (f ∷ fs) [] = ⊥
AreAsked streams (f ∷ fs) (a ∷ others) = IsAsked streams f a × AreAsked streams fs others

-- `release files=F scenarios=S retried=R skipped=K unrun=U`
abbrev pub files_text : (files scenarios unrun : ℕ) → GateCounts → List ℕ
files_text files scenarios unrun counts =
    codes "release files=" ++ decimal files ++ codes " scenarios=" ++ decimal scenarios
    ++ codes " retried=" ++ decimal counts.retried ++ codes " skipped=" ++ decimal counts.skipped
    ++ codes " unrun=" ++ decimal unrun ++ line_feed ∷ []

-- what is missing; else that nothing ran, or that all is well
abbrev pub last_report : (lines : List (List ℕ)) → (files scenarios unrun : ℕ) → GateCounts → Report
last_report (line ∷ lines) files scenarios unrun counts = record {
  text = codes "stop Missing" ++ line_feed ∷ limited_text (line ∷ lines);
  status = Held;
}
last_report [] files scenarios unrun counts =
    if counts.cases == 0
    then record { text = codes "stop Empty" ++ line_feed ∷ []; status = Held }
    else record { text = files_text files scenarios unrun counts; status = Done }

-- one report below the other
abbrev pub below : Report → Report → Report
below first last = record { text = first.text ++ last.text; status = last.status }

-- All runs were released, and this is told of the files.
pub record AsksFiles (s : Settings) (asked : Conditions) (files : List FeatureFile)
    (readings : List Reading) (parts r : Report) : Type 0 where
  pub streams : List (List Envelope)
  pub are : AreStreams s asked readings streams
  pub asked_files : List AskedFile
  pub are_asked : AreAsked streams (asked_once files) asked_files
  pub lines : List (List ℕ)
  pub missing : AreMissingLines asked asked_files lines
  pub scenarios : ℕ
  pub are_scenarios : IsScenarioCount asked_files scenarios
  pub unrun : ℕ
  pub are_unrun : IsUnrunCount asked asked_files unrun
  pub told : r ≡ below parts
      (last_report lines (length files) scenarios unrun (counts_of_all asked s.policy streams))

-- the runs' own report where one of them isn't released; else what is told of the files below it
abbrev pub ToldOfFiles : Settings → Conditions → List FeatureFile → List Reading
    → (parts r : Report) → Type 0
ToldOfFiles s asked files readings parts r =
    ((parts.status ≡ Done → ⊥) × (r ≡ parts))
    ⊎ ((parts.status ≡ Done) × AsksFiles s asked files readings parts r)

-- ---- the command

-- The files were found and read, and then the runs.
pub record ReportsFiles (g : FeaturesGate) (paths : List Utf8) (old new : List Opening)
    (i j : Input) (r : Report) : Type 0 where
  pub files : List FeatureFile
  pub between : List Opening
  pub read : ReadsFiles paths old between files
  pub readings : List Reading
  pub parts : Report
  pub judged : IsPartsReport g.settings g.asked g.runs between new i j readings parts
  pub told : ToldOfFiles g.settings g.asked files readings parts r

-- One of the files couldn't be read, and no run was.
pub record ReportsFaultyFile (paths : List Utf8) (old new : List Opening) (i j : Input)
    (r : Report) : Type 0 where
  pub wrong : Faulty
  pub fails : FailsAtFile paths old new wrong
  pub unread : j ≡ i
  pub told : r ≡ faulty_report wrong

-- One of the paths leads to no files, and nothing was read.
pub record ReportsFaultyPath (paths : List Utf8) (old new : List Opening)
    (seen later : List PathLook) (i j : Input) (r : Report) : Type 0 where
  pub wrong : Faulty
  pub finds : FindsFault paths seen later wrong
  pub unopened : new ≡ old
  pub unread : j ≡ i
  pub told : r ≡ faulty_report wrong

abbrev pub ReportsFound : FeaturesGate → (old new : List Opening) → (seen later : List PathLook)
    → (i j : Input) → Report → Type 0
ReportsFound g old new seen later i j r =
    (paths : List Utf8) × FindsFiles g.features seen later paths
    × (ReportsFaultyFile paths old new i j r ⊎ ReportsFiles g paths old new i j r)

-- the report of a gate over feature files
abbrev pub IsFeaturesReport : FeaturesGate → (old new : List Opening) → (seen later : List PathLook)
    → (i j : Input) → Report → Type 0
IsFeaturesReport g old new seen later i j r =
    ReportsFaultyPath g.features old new seen later i j r
    ⊎ ReportsFound g old new seen later i j r

-- that report is delivered, or that of no memory
abbrev pub GatesFeatures : FeaturesGate → (code : ℕ) → (old new : List Opening)
    → (seen later : List PathLook) → (i j : Input) → (before after : Output) → Type 0
GatesFeatures g code old new seen later i j before after =
    (r : Report) × (IsFeaturesReport g old new seen later i j r ⊎ (r ≡ trouble_report Memory))
    × Delivers r code before after
