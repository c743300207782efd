-- The feature files of paths, by what was looked at, and the first fault where there is one.
use Rattle.std.specs.Prelude.{◌≡◌, ⊤, ℕ, List, [], ◌∷◌, ◌++◌, Option, Some, None, map, if◌then◌else◌, fold, All}
use Rattle.std.specs.Cmp.Lexicographic.{slice_cmp}
use Rattle.std.specs.List.{flat_map, list_any}
use Rattle.std.specs.List.Sorted.{IsPermutation, IsSorted}
use Rattle.std.specs.Option.{option_or}
use Rattle.std.specs.Ordering.{nat_cmp}
use Rattle.std.specs.Str.{bytes_eq}
use Rattle.files.specs.Looks.{PathLook}
use Rattle.feature_paths.specs.Shown.{Faulty, faults_of, faulty, files_of, first_fault, folders_of}
use Rattle.feature_paths.specs.declared.paths.Fault.TheVariants.{NoFeatures}
use Rattle.feature_paths.specs.declared.paths.PathTrouble.{PathTrouble}
use Rattle.feature_paths.specs.declared.paths.PathTrouble.TheVariants as trouble

-- ---- one path

-- All that is below a path was looked at: the path itself, and each folder that a look showed, in that order.
abbrev pub IsWhole : (path : List ℕ) → List PathLook → Type 0
IsWhole path looks = map (λ l. l.path) looks ≡ path ∷ folders_of looks

-- a path without a feature file
abbrev pub without_files : (path : List ℕ) → (files : List (List ℕ)) → Option Faulty
without_files path [] = Some (record { path = path; fault = NoFeatures })
without_files path (file ∷ files) = None

-- what is told to be wrong below a path, if anything is
abbrev pub fault_below : (path : List ℕ) → List PathLook → Option Faulty
fault_below path looks =
    option_or (first_fault (faults_of looks)) (without_files path (files_of looks))

-- These are the feature files of a path, in the order of their bytes, and nothing is wrong below it.
pub record GivesFiles (path : List ℕ) (looks : List PathLook) (files : List (List ℕ)) : Type 0 where
  pub whole : IsWhole path looks
  pub faultless : fault_below path looks ≡ None
  pub same : IsPermutation (files_of looks) files
  pub in_order : IsSorted (slice_cmp nat_cmp) files

-- This is the first thing that is wrong below a path.
pub record GivesFault (path : List ℕ) (looks : List PathLook) (fault : Faulty) : Type 0 where
  pub whole : IsWhole path looks
  pub first : fault_below path looks ≡ Some fault

-- from one history of looks to a later one these are the files of a path, or this is its first fault
abbrev pub WalksFiles : (path : List ℕ) → (old new : List PathLook) → (files : List (List ℕ))
    → Type 0
WalksFiles path old new files =
    (looks : List PathLook) × (new ≡ old ++ looks) × GivesFiles path looks files

abbrev pub WalksFault : (path : List ℕ) → (old new : List PathLook) → Faulty → Type 0
WalksFault path old new fault =
    (looks : List PathLook) × (new ≡ old ++ looks) × GivesFault path looks fault

-- the same of trouble: nothing is said where there is no memory
abbrev pub TellsFault : (path : List ℕ) → (old new : List PathLook) → PathTrouble → Type 0
TellsFault path old new (trouble.Faulty fault) = WalksFault path old new (faulty fault)
TellsFault path old new trouble.Memory = ⊤

-- ---- all paths

-- A path, what was looked at for it, and its feature files.
pub record Walk : Type 0 where
  pub path : List ℕ
  pub looks : List PathLook
  pub files : List (List ℕ)

abbrev pub IsWalk : Walk → Type 0
IsWalk w = GivesFiles w.path w.looks w.files

-- Each of the paths was walked, one after another, and these are the files of all.
pub record WalksAll (paths : List (List ℕ)) (old new : List PathLook)
    (files : List (List ℕ)) : Type 0 where
  pub walks : List Walk
  pub each : All IsWalk walks
  pub of_paths : map (λ w. w.path) walks ≡ paths
  pub noted : new ≡ old ++ flat_map (λ w. w.looks) walks
  pub joined : files ≡ flat_map (λ w. w.files) walks

-- the texts, each once, where it first stands
abbrev pub add_new : (seen : List (List ℕ)) → (text : List ℕ) → List (List ℕ)
add_new seen text = if list_any (bytes_eq text) seen then seen else seen ++ text ∷ []

abbrev pub each_once : List (List ℕ) → List (List ℕ)
each_once texts = fold add_new [] texts

-- the files found are those of all paths, each once
abbrev pub FindsFiles : (paths : List (List ℕ)) → (old new : List PathLook)
    → (found : List (List ℕ)) → Type 0
FindsFiles paths old new found =
    (files : List (List ℕ)) × WalksAll paths old new files × (found ≡ each_once files)

-- Something is wrong with a path, and with none before it.
pub record FindsFault (paths : List (List ℕ)) (old new : List PathLook) (fault : Faulty) : Type 0 where
  pub before : List (List ℕ)
  pub path : List ℕ
  pub after : List (List ℕ)
  pub cut : paths ≡ before ++ path ∷ after
  pub files : List (List ℕ)
  pub middle : List PathLook
  pub walks : WalksAll before old middle files
  pub wrong : WalksFault path middle new fault

-- nothing is said where there is no memory
abbrev pub TellsTrouble : (paths : List (List ℕ)) → (old new : List PathLook) → PathTrouble → Type 0
TellsTrouble paths old new (trouble.Faulty fault) = FindsFault paths old new (faulty fault)
TellsTrouble paths old new trouble.Memory = ⊤
