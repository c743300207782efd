-- What a look at a path shows: files, folders, and what is wrong.
use Rattle.std.specs.Prelude.{ℕ, List, [], ◌∷◌, ◌++◌, Option, Some, None, codes, string_bytes, if◌then◌else◌, Bool, fold}
use Rattle.std.specs.Cmp.Lexicographic.{slice_cmp}
use Rattle.std.specs.List.{ends_with, flat_map}
use Rattle.std.specs.Ordering.{is_lt, nat_cmp}
use Rattle.std.specs.Prelude.{nat_eq}
use Rattle.files.specs.Looks.{PathLook}
use Rattle.files.specs.declared.files.Entry.{Entry}
use Rattle.files.specs.declared.files.EntryKind.{EntryKind}
use Rattle.files.specs.declared.files.EntryKind.TheVariants as kind
use Rattle.files.specs.declared.files.Look.{Look}
use Rattle.files.specs.declared.files.Look.TheVariants as look
use Rattle.feature_paths.specs.declared.paths.Fault.{Fault}
use Rattle.feature_paths.specs.declared.paths.Fault.TheVariants.{LinkedFolder, NotUtf8, ReadFailed}
use Rattle.feature_paths.specs.declared.paths.FaultyPath.{FaultyPath}

-- ---- paths

-- the path of what stands in a folder under a name: a slash stands between them
abbrev pub slash_after : (folder : List ℕ) → List ℕ
slash_after folder = if ends_with nat_eq folder (codes "/") then [] else codes "/"

abbrev pub path_in : (folder name : List ℕ) → List ℕ
path_in folder name = folder ++ slash_after folder ++ name

-- a file of this name is a feature file
abbrev pub is_feature_name : List ℕ → Bool
is_feature_name name = ends_with nat_eq name (codes ".feature")

-- A path, and what is wrong with it.
pub record Faulty : Type 0 where
  pub path : List ℕ
  pub fault : Fault

abbrev pub faulty : FaultyPath → Faulty
faulty f = record { path = string_bytes f.path; fault = f.fault }

-- ---- an entry of a folder

-- the feature file, the folder and the fault that it is, by its kind
abbrev pub file_at : EntryKind → (name path : List ℕ) → List (List ℕ)
file_at kind.File name path = if is_feature_name name then path ∷ [] else []
file_at kind.Folder name path = []
file_at kind.LinkedFolder name path = []
file_at kind.Unknown name path = []

abbrev pub folder_at : EntryKind → (path : List ℕ) → List (List ℕ)
folder_at kind.File path = []
folder_at kind.Folder path = path ∷ []
folder_at kind.LinkedFolder path = []
folder_at kind.Unknown path = []

abbrev pub fault_at : EntryKind → (path : List ℕ) → List Faulty
fault_at kind.File path = []
fault_at kind.Folder path = []
fault_at kind.LinkedFolder path = record { path = path; fault = LinkedFolder } ∷ []
fault_at kind.Unknown path = record { path = path; fault = ReadFailed } ∷ []

module _ (folder : List ℕ) (e : Entry) where
  abbrev pub path_of : List ℕ
  path_of = path_in folder (string_bytes e.name)

  abbrev pub file_in : List (List ℕ)
  file_in = file_at e.kind (string_bytes e.name) path_of

  abbrev pub folder_in : List (List ℕ)
  folder_in = folder_at e.kind path_of

  abbrev pub fault_in : List Faulty
  fault_in = fault_at e.kind path_of

-- ---- a look at a path

-- the feature files: the path itself, where it is a file (also where it was a folder a moment ago), or those right in the folder
abbrev pub files_shown : (path : List ℕ) → Look → List (List ℕ)
files_shown path look.File = path ∷ []
files_shown path (look.Folder entries) = flat_map (file_in path) entries.items
files_shown path look.NotUtf8 = []
files_shown path look.Unreadable = []

-- the folders in it
abbrev pub folders_shown : (path : List ℕ) → Look → List (List ℕ)
folders_shown path look.File = []
folders_shown path (look.Folder entries) = flat_map (folder_in path) entries.items
folders_shown path look.NotUtf8 = []
folders_shown path look.Unreadable = []

-- what is wrong with it, or with what is in it
abbrev pub faults_shown : (path : List ℕ) → Look → List Faulty
faults_shown path look.File = []
faults_shown path (look.Folder entries) = flat_map (fault_in path) entries.items
faults_shown path look.NotUtf8 = record { path = path; fault = NotUtf8 } ∷ []
faults_shown path look.Unreadable = record { path = path; fault = ReadFailed } ∷ []

-- the same of all looks
abbrev pub files_of : List PathLook → List (List ℕ)
files_of looks = flat_map (λ l. files_shown l.path l.look) looks

abbrev pub folders_of : List PathLook → List (List ℕ)
folders_of looks = flat_map (λ l. folders_shown l.path l.look) looks

abbrev pub faults_of : List PathLook → List Faulty
faults_of looks = flat_map (λ l. faults_shown l.path l.look) looks

-- ---- the first fault

-- paths in the order of their bytes
abbrev pub is_before : (path other : List ℕ) → Bool
is_before path other = is_lt (slice_cmp nat_cmp path other)

-- a fault takes the place of the first one where its path is before that one's
abbrev pub sooner : Option Faulty → Faulty → Faulty
sooner None next = next
sooner (Some first) next = if is_before next.path first.path then next else first

-- the first one by the bytes of the paths
abbrev pub first_fault : List Faulty → Option Faulty
first_fault faults = fold (λ first next. Some (sooner first next)) None faults
