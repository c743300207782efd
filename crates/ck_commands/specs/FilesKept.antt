-- Feature files as the code holds them. No public promise depends on how this is put.
use Rattle.std.specs.Prelude.{◌≡◌, ◌⊎◌, ⊤, ◌++◌, ◌∷◌, ℕ, Bool, true, false, List, [], Option, Some, None, Result, Ok, Err, option_map, String, string_bytes}
use Rattle.std.specs.List.{list_all}
use Rattle.std.specs.declared.alloc.Global.{Global}
use Rattle.cm_ran.specs.Marks.{marked_texts, has_run}
use Rattle.cm_ran.specs.Rows.{row_at}
use Rattle.cm_ran.specs.declared.marks.Marks.{Marks}
use Rattle.cm_attempt.specs.Table.{has_text}
use Rattle.cm_attempt.specs.declared.status.Settings.{Settings}
use Rattle.cm_envelope.specs.Device.{Input}
use Rattle.cm_missing.specs.Missing.{AreMissingLines, AskedFile, IsScenarioCount, IsUnrunCount}
use Rattle.cm_stream.specs.Release.{Conditions}
use Rattle.ck_commands.specs.FilesAsked.{IsPartsReport, ToldOfFiles, last_report}
use Rattle.ck_commands.specs.Judged.{MarksStreams}
use Rattle.ck_commands.specs.Output.{Report}
use Rattle.ck_commands.specs.Runs.{Reading}
use Rattle.ck_commands.specs.declared.command_gate.GateCounts.{GateCounts}
use Rattle.ck_commands.specs.declared.report.ExitStatus.{ExitStatus}
use Rattle.ck_commands.specs.declared.report.ExitStatus.TheVariants.{Done}
use Rattle.cm_stream.specs.Texts.{Utf8}
use Rattle.feature_paths.specs.FeaturePaths.{FindsFault, FindsFiles}
use Rattle.feature_paths.specs.Shown.{faulty}
use Rattle.feature_paths.specs.declared.paths.PathTrouble.{PathTrouble}
use Rattle.feature_paths.specs.declared.paths.PathTrouble.TheVariants as trouble
use Rattle.files.specs.Looks.{PathLook}
use Rattle.files.specs.Openings.{Opening}
use Rattle.ck_commands.specs.FeatureFiles.{FailsAtFile, FailsToRead, FeatureFile, ReadsFiles, WasRead}
use Rattle.ck_commands.specs.declared.command_gate_features.FeatureFile as made
use Rattle.ck_commands.specs.declared.command_gate_features.FileFault.{FileFault}
use Rattle.ck_commands.specs.declared.command_gate_features.FileFault.TheVariants as fault
use Rattle.feature_paths.specs.declared.paths.Fault.TheVariants.{NotUtf8, ReadFailed}
use Rattle.ck_commands.specs.declared.text_input.TextFault.{TextFault}
use Rattle.ck_commands.specs.declared.text_input.TextFault.TheVariants as text

abbrev pub file_of : made.FeatureFile → FeatureFile
file_of f = record { path = string_bytes f.path; text = option_map string_bytes f.text }

-- ---- one file

-- what was read of a file, as its text
abbrev pub AsFileText : Result (String Global) TextFault
    → Result (Option (String Global)) FileFault → Type 0
AsFileText (Ok text) answer = answer ≡ Ok (Some text)
AsFileText (Err text.TooLong) answer = answer ≡ Ok None
AsFileText (Err text.ReadFailed) answer = answer ≡ Err fault.ReadFailed
AsFileText (Err text.NotUtf8) answer = answer ≡ Err fault.NotUtf8
AsFileText (Err text.Memory) answer = answer ≡ Err fault.Memory

-- the file of the path was read, and this is its text
abbrev pub ReadsText : (path : Utf8) → (old new : List Opening) → Option Utf8 → Type 0
ReadsText path old new text =
    (o : Opening) × (new ≡ old ++ o ∷ []) × WasRead (record { path = path; text = text }) o

-- it couldn't be; nothing is said where there is no memory
abbrev pub FailsFor : (path : Utf8) → (old new : List Opening) → FileFault → Type 0
FailsFor path old new fault.ReadFailed =
    (noted : List Opening) × (new ≡ old ++ noted) × FailsToRead path noted ReadFailed
FailsFor path old new fault.NotUtf8 =
    (noted : List Opening) × (new ≡ old ++ noted) × FailsToRead path noted NotUtf8
FailsFor path old new fault.Memory = ⊤

-- ---- all files

abbrev pub path_trouble : String Global → FileFault → PathTrouble
path_trouble path fault.ReadFailed =
    trouble.Faulty (record { path = path; fault = ReadFailed })
path_trouble path fault.NotUtf8 = trouble.Faulty (record { path = path; fault = NotUtf8 })
path_trouble path fault.Memory = trouble.Memory

-- of the files of these paths one couldn't be read
abbrev pub TellsFile : (paths : List Utf8) → (old new : List Opening) → PathTrouble → Type 0
TellsFile paths old new (trouble.Faulty wrong) = FailsAtFile paths old new (faulty wrong)
TellsFile paths old new trouble.Memory = ⊤

-- the feature files were found and read
abbrev pub GivesFeatures : (features : List Utf8) → (old new : List Opening)
    → (seen later : List PathLook) → List FeatureFile → Type 0
GivesFeatures features old new seen later files =
    (paths : List Utf8) × FindsFiles features seen later paths × ReadsFiles paths old new files

-- they couldn't be found, or not be read
abbrev pub TellsFeatures : (features : List Utf8) → (old new : List Opening)
    → (seen later : List PathLook) → PathTrouble → Type 0
TellsFeatures features old new seen later (trouble.Faulty wrong) =
    (FindsFault features seen later (faulty wrong) × (new ≡ old))
    ⊎ ((paths : List Utf8) × FindsFiles features seen later paths
    × FailsAtFile paths old new (faulty wrong))
TellsFeatures features old new seen later trouble.Memory = ⊤

-- ---- marks

-- the text of each file is there
abbrev pub HasTextOf : Marks → Option Utf8 → Type 0
HasTextOf m None = ⊤
HasTextOf m (Some text) = has_text text (marked_texts m) ≡ true

abbrev pub HasTexts : Marks → List FeatureFile → Type 0
HasTexts m [] = ⊤
HasTexts m (f ∷ fs) = HasTextOf m f.text × HasTexts m fs

-- no scenario ran yet
abbrev pub IsUnmarked : Marks → Type 0
IsUnmarked m = (text : Utf8) (place : ℕ) → has_run m text place ≡ false

-- the flags of a text
abbrev pub row_of : Marks → Option Utf8 → List Bool
row_of m None = []
row_of m (Some text) = row_at m.rows text

-- there are flags, and all are set
abbrev pub all_ran : List Bool → Bool
all_ran [] = false
all_ran (f ∷ flags) = list_all (λ set. set) (f ∷ flags)

abbrev pub asked_by : Marks → FeatureFile → AskedFile
asked_by m f = record { path = f.path; text = f.text; flags = row_of m f.text }

-- ---- the report

-- The runs of a gate over feature files were judged, and what ran in them is marked.
pub record JudgesParts (s : Settings) (asked : Conditions) (runs : List Utf8)
    (before after : List Opening) (i j : Input) (old new : Marks) (r : Report)
    (counts : GateCounts) : Type 0 where
  pub readings : List Reading
  pub report : IsPartsReport s asked runs before after i j readings r
  pub texts : marked_texts new ≡ marked_texts old
  pub done : r.status ≡ Done → MarksStreams s asked readings old new counts

-- The last report stands below the text, and its status is the one given.
pub record AddsLast (asked : Conditions) (fs : List AskedFile) (files : ℕ) (counts : GateCounts)
    (old new : List ℕ) (status : ExitStatus) : Type 0 where
  pub lines : List (List ℕ)
  pub missing : AreMissingLines asked fs lines
  pub scenarios : ℕ
  pub are_scenarios : IsScenarioCount fs scenarios
  pub unrun : ℕ
  pub are_unrun : IsUnrunCount asked fs unrun
  pub text : new ≡ old ++ (last_report lines files scenarios unrun counts).text
  pub is : status ≡ (last_report lines files scenarios unrun counts).status

-- the report of the runs, and of these files
abbrev pub ReportsAsked : Settings → Conditions → List FeatureFile → (runs : List Utf8)
    → (old new : List Opening) → (i j : Input) → Report → Type 0
ReportsAsked s asked files runs old new i j r =
    (readings : List Reading) × (parts : Report)
    × IsPartsReport s asked runs old new i j readings parts
    × ToldOfFiles s asked files readings parts r
