-- A walk below a path that hasn't come to its end.
use Rattle.std.specs.Prelude.{◌≡◌, ℕ, List, ◌∷◌, ◌++◌, map}
use Rattle.files.specs.Looks.{PathLook}
use Rattle.feature_paths.specs.Shown.{Faulty, faults_of, files_of, folders_of}

-- The looks from one history to a later one showed these files and faults, and these folders are still to be looked at.
pub record Sees (path : List ℕ) (old new : List PathLook) (files : List (List ℕ))
    (faults : List Faulty) (folders : List (List ℕ)) : Type 0 where
  pub looks : List PathLook
  pub noted : new ≡ old ++ looks
  pub due : map (λ l. l.path) looks ++ folders ≡ path ∷ folders_of looks
  pub of_files : files ≡ files_of looks
  pub of_faults : faults ≡ faults_of looks
