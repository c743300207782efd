-- What is missing of feature files, and the lines that tell it.
use Rattle.std.specs.Prelude.{◌≡◌, ◌⊎◌, ◌&&◌, ◌<◌, ℕ, suc, Bool, true, false, not, List, [], ◌∷◌, ◌++◌, Option, Some, None, IfSome, codes, count_by, decimal, length, map, slice_get, string_bytes, sum_by, take, unwrap_or}
use Rattle.std.specs.List.{AllByRecursion, filter, flat_map}
use Rattle.cm_cases.specs.Shown.{shown_text}
use Rattle.cm_reasons.specs.Lines.{text_of_lines, most_lines}
use Rattle.cm_reasons.specs.Words.{kind_label}
use Rattle.cm_stream.specs.Readings.{Accepted as accepted_as, IsReading}
use Rattle.cm_stream.specs.Release.{Conditions}
use Rattle.cm_stream.specs.ReleasedRuns.{may_be_left_out}
use Rattle.cm_stream.specs.Sources.{DuePickle}
use Rattle.cm_stream.specs.Texts.{Utf8}
use Rattle.gk_document.specs.declared.tree.Document.{Document}
use Rattle.gk_grammar.specs.Documents.{HasFault, IsTooLong}
use Rattle.gk_grammar.specs.declared.fault.FaultKind.{FaultKind}
use Rattle.gk_grammar.specs.declared.fault.FaultKind.TheVariants.{TooLong}
use Rattle.gk_pickle.specs.Pickles.{pickles as compiled}
use Rattle.gk_pickle.specs.Scenarios.{scenarios_of}
use Rattle.cm_missing.specs.PickleLines.{lines_of_one}
use Rattle.cm_missing.specs.declared.missing.Missing.{Missing}

-- ---- files

-- A feature file: its path; its text, none where it is longer than a feature file may be; and of the pickles that the text
-- compiles to, by their places from 0, which ran.
pub record AskedFile : Type 0 where
  pub path : Utf8
  pub text : Option Utf8
  pub flags : List Bool

-- the pickle at this place ran; one past the last flag did not
abbrev pub flag_at : List Bool → (place : ℕ) → Bool
flag_at flags place = unwrap_or (slice_get flags place) false

-- What a file is read as: of the grammar, with its document; or refused for a fault at a line and a column.
pub data FileReading : Type 0 where
  Accepted : Document → FileReading
  Refused : FaultKind → (line column : ℕ) → FileReading

-- A text that is too long is refused as such, at line and column 0; any other one for the fault that it has, another
-- language than English too.
abbrev pub IsRefusedFor : Utf8 → FaultKind → (line column : ℕ) → Type 0
IsRefusedFor text kind line column =
    (IsTooLong text × (kind ≡ TooLong) × (line ≡ 0) × (column ≡ 0))
    ⊎ ((IsTooLong text → ⊥) × HasFault text kind line column)

abbrev pub IsFileReading : Option Utf8 → FileReading → Type 0
IsFileReading None reading = reading ≡ Refused TooLong 0 0
IsFileReading (Some text) (Accepted d) = IsReading text (accepted_as d)
IsFileReading (Some text) (Refused kind line column) = IsRefusedFor text kind line column

-- a file, and what it is read as
pub record ReadFile : Type 0 where
  pub file : AskedFile
  pub reading : FileReading

-- these are the files, each with its reading
abbrev pub AreReadAs : List AskedFile → List ReadFile → Type 0
AreReadAs files reads =
    (map (λ r. r.file) reads ≡ files)
    × AllByRecursion (λ r. IsFileReading r.file.text r.reading) reads

-- ---- pickles

-- a pickle that a text compiles to, its line in the text, and whether it ran
pub record AskedPickle : Type 0 where
  pub due : DuePickle
  pub line : ℕ
  pub has_run : Bool

-- the pickles from a place on, with their lines
abbrev pub asked_from : List Bool → (place : ℕ) → List DuePickle → List ℕ → List AskedPickle
asked_from flags place (due ∷ dues) (line ∷ lines) =
    record { due = due; line = line; has_run = flag_at flags place }
    ∷ asked_from flags (suc place) dues lines
asked_from flags place _ _ = []

-- those of a document
abbrev pub asked_pickles : List Bool → Document → List AskedPickle
asked_pickles flags d =
    asked_from flags 0 (compiled d) (flat_map lines_of_one (scenarios_of d))

-- it did not run, and may not be left out; and it did not run, and may be
abbrev pub is_missing : Conditions → AskedPickle → Bool
is_missing asked p = not p.has_run && not (may_be_left_out asked p.due)

abbrev pub is_left_out : Conditions → AskedPickle → Bool
is_left_out asked p = not p.has_run && may_be_left_out asked p.due

-- ---- lines

-- `MISSING PATH:LINE NAME`
abbrev pub missing_text : (path : Utf8) → (line : ℕ) → (name : Utf8) → List ℕ
missing_text path line name =
    codes "MISSING " ++ shown_text path ++ codes ":" ++ decimal line ++ codes " "
    ++ shown_text name

abbrev pub missing_line : (path : Utf8) → AskedPickle → List ℕ
missing_line path p = missing_text path p.line p.due.name

-- `REFUSED PATH:L:C N Name`
abbrev pub refused_line : (path : Utf8) → FaultKind → (line column : ℕ) → List ℕ
refused_line path kind line column =
    codes "REFUSED " ++ shown_text path ++ codes ":" ++ decimal line ++ codes ":"
    ++ decimal column ++ codes " " ++ kind_label kind

-- of a file that is refused one line; of any other one a line for each pickle that is missing
abbrev pub file_lines : Conditions → AskedFile → FileReading → List (List ℕ)
file_lines asked f (Accepted d) =
    map (missing_line f.path) (filter (is_missing asked) (asked_pickles f.flags d))
file_lines asked f (Refused kind line column) = refused_line f.path kind line column ∷ []

-- those of all files, in order
abbrev pub lines_of : Conditions → List ReadFile → List (List ℕ)
lines_of asked reads = flat_map (λ r. file_lines asked r.file r.reading) reads

-- ---- counts

-- how many pickles the text of a file compiles to
abbrev pub file_scenarios : FileReading → ℕ
file_scenarios (Accepted d) = length (compiled d)
file_scenarios (Refused kind line column) = 0

-- how many of them did not run, and may be left out
abbrev pub file_unrun : Conditions → AskedFile → FileReading → ℕ
file_unrun asked f (Accepted d) = count_by (is_left_out asked) (asked_pickles f.flags d)
file_unrun asked f (Refused kind line column) = 0

abbrev pub scenarios_in : List ReadFile → ℕ
scenarios_in reads = sum_by (λ r. file_scenarios r.reading) reads

abbrev pub unrun_in : Conditions → List ReadFile → ℕ
unrun_in asked reads = sum_by (λ r. file_unrun asked r.file r.reading) reads

-- ---- of some files

-- the lines that tell what is missing of the files
abbrev pub AreMissingLines : Conditions → List AskedFile → List (List ℕ) → Type 0
AreMissingLines asked files lines =
    (reads : List ReadFile) × AreReadAs files reads × (lines ≡ lines_of asked reads)

-- how many pickles their texts compile to
abbrev pub IsScenarioCount : List AskedFile → ℕ → Type 0
IsScenarioCount files count =
    (reads : List ReadFile) × AreReadAs files reads × (count ≡ scenarios_in reads)

-- how many of these did not run, and may be left out
abbrev pub IsUnrunCount : Conditions → List AskedFile → ℕ → Type 0
IsUnrunCount asked files count =
    (reads : List ReadFile) × AreReadAs files reads × (count ≡ unrun_in asked reads)

-- What is kept of the files: the first hundred lines, how many there are, and the two counts.
pub record IsMissingOf (asked : Conditions) (files : List AskedFile) (m : Missing) : Type 0 where
  pub reads : List ReadFile
  pub are_read : AreReadAs files reads
  pub text : string_bytes m.text ≡ text_of_lines (take most_lines (lines_of asked reads))
  pub count : m.count ≡ length (lines_of asked reads)
  pub scenarios : m.scenarios ≡ scenarios_in reads
  pub unrun : m.unrun ≡ unrun_in asked reads

-- ---- nothing is missing

-- The text of the file is of the grammar, and compiles to so many pickles, each of which ran.
pub record AllScenariosRan (f : AskedFile) (count : ℕ) : Type 0 where
  pub text : Utf8
  pub is_text : f.text ≡ Some text
  pub document : Document
  pub accepted : IsReading text (accepted_as document)
  pub as_many : length (compiled document) ≡ count
  pub each : (place : ℕ) → place < count → flag_at f.flags place ≡ true

-- The text of the file is of the grammar, and each pickle that it compiles to ran or may be left out.
pub record IsComplete (asked : Conditions) (f : AskedFile) : Type 0 where
  pub text : Utf8
  pub is_text : f.text ≡ Some text
  pub document : Document
  pub accepted : IsReading text (accepted_as document)
  pub each : (place : ℕ) → IfSome (slice_get (compiled document) place)
      (λ due. (flag_at f.flags place ≡ true) ⊎ (may_be_left_out asked due ≡ true))
