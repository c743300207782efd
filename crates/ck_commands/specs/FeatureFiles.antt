-- Feature files that were read: what each gave, which of them is asked, and why one couldn't be read.
use Rattle.std.specs.Prelude.{◌≡◌, ◌≢◌, ◌<◌, ◌⊎◌, ⊤, ℕ, Bool, false, List, [], ◌∷◌, ◌++◌, Option, Some, None, codes, fold, if◌then◌else◌, length, map}
use Rattle.std.specs.List.{list_any}
use Rattle.std.specs.Option.{option_map_or}
use Rattle.std.specs.Str.{bytes_eq}
use Rattle.cm_envelope.specs.Device.{Input, OfInput, OfWhole}
use Rattle.cm_envelope.specs.Lines.{line_feed}
use Rattle.cm_cases.specs.Shown.{shown_text}
use Rattle.cm_stream.specs.Texts.{Utf8}
use Rattle.feature_paths.specs.Shown.{Faulty}
use Rattle.feature_paths.specs.declared.paths.Fault.{Fault}
use Rattle.feature_paths.specs.declared.paths.Fault.TheVariants.{LinkedFolder, NoFeatures, NotUtf8, ReadFailed}
use Rattle.files.specs.Openings.{Opening}
use Rattle.gk_grammar.specs.Documents.{max_bytes}
use Rattle.ck_commands.specs.Features.{IsNoText}
use Rattle.ck_commands.specs.Output.{Report}
use Rattle.ck_commands.specs.Runs.{unread_input}
use Rattle.ck_commands.specs.TextInput.{IsTextOf}
use Rattle.ck_commands.specs.declared.report.ExitStatus.TheVariants.{Trouble}

-- ---- files

-- A feature file: its path, and its text, none where it is longer than a feature file may be.
pub record FeatureFile : Type 0 where
  pub path : Utf8
  pub text : Option Utf8

-- all bytes that a file gave are this text, or there are too many
abbrev pub GivesText : Input → Option Utf8 → Type 0
GivesText input (Some text) = OfWhole unread_input input (λ bytes. IsTextOf bytes text)
GivesText input None = OfInput unread_input input (λ bytes. max_bytes < length bytes)

-- the file was opened by its path, once, and gave that
abbrev pub WasRead : FeatureFile → Opening → Type 0
WasRead f o =
    (input : Input) × (o ≡ record { name = f.path; input = Some input })
    × GivesText input f.text

abbrev pub WereRead : List FeatureFile → List Opening → Type 0
WereRead [] [] = ⊤
WereRead [] (o ∷ os) = ⊥
WereRead (f ∷ fs) [] = ⊥
WereRead (f ∷ fs) (o ∷ os) = WasRead f o × WereRead fs os

-- the files of these paths were read, one after another
pub record ReadsFiles (paths : List Utf8) (old new : List Opening) (files : List FeatureFile)
    : Type 0 where
  pub of_paths : map (λ f. f.path) files ≡ paths
  pub noted : List Opening
  pub opened : new ≡ old ++ noted
  pub each : WereRead files noted

-- ---- a file that can't be read

-- how that is noted: it couldn't be opened, or a read of it failed; or its bytes, not too many, are no UTF-8
abbrev pub FailsToRead : (path : Utf8) → (noted : List Opening) → Fault → Type 0
FailsToRead path noted ReadFailed =
    (noted ≡ record { name = path; input = None } ∷ [])
    ⊎ ((input : Input) × (noted ≡ record { name = path; input = Some input } ∷ [])
    × (input.failed_calls ≢ 0))
FailsToRead path noted NotUtf8 =
    (input : Input) × (noted ≡ record { name = path; input = Some input } ∷ [])
    × OfInput unread_input input IsNoText
FailsToRead path noted LinkedFolder = ⊥
FailsToRead path noted NoFeatures = ⊥

-- This is wrong with the file of a path, and each before it was read.
pub record FailsAtFile (paths : List Utf8) (old new : List Opening) (wrong : Faulty)
    : Type 0 where
  pub before : List Utf8
  pub after : List Utf8
  pub cut : paths ≡ before ++ wrong.path ∷ after
  pub files : List FeatureFile
  pub between : List Opening
  pub read : ReadsFiles before old between files
  pub noted : List Opening
  pub opened : new ≡ between ++ noted
  pub fails : FailsToRead wrong.path noted wrong.fault

abbrev pub fault_name : Fault → List ℕ
fault_name LinkedFolder = codes "LinkedFolder"
fault_name NoFeatures = codes "NoFeatures"
fault_name NotUtf8 = codes "NotUtf8"
fault_name ReadFailed = codes "ReadFailed"

-- `trouble NAME PATH`
abbrev pub faulty_report : Faulty → Report
faulty_report wrong = record {
  text = codes "trouble " ++ fault_name wrong.fault ++ codes " " ++ shown_text wrong.path
      ++ line_feed ∷ [];
  status = Trouble;
}

-- ---- which files are asked

-- one of the files has the text
abbrev pub is_text_of_one : Option Utf8 → List FeatureFile → Bool
is_text_of_one None files = false
is_text_of_one (Some text) files =
    list_any (λ f. option_map_or (bytes_eq text) f.text false) files

-- each text once, at the first path that has it; and each file that is too long
abbrev pub add_asked : List FeatureFile → FeatureFile → List FeatureFile
add_asked asked f = if is_text_of_one f.text asked then asked else asked ++ f ∷ []

abbrev pub asked_once : List FeatureFile → List FeatureFile
asked_once files = fold add_asked [] files
