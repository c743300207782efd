-- What the definitions come to.
use Rattle.std.specs.Prelude.{◌≡◌, ◌≢◌, ◌↔◌, ℕ, List, [], Some, None, false, All, Contains}
use Rattle.std.specs.List.{IsDistinct}
use Rattle.std.specs.Str.{bytes_eq}
use Rattle.files.specs.Looks.{PathLook}
use Rattle.feature_paths.specs.FeaturePaths.{each_once, fault_below}
use Rattle.feature_paths.specs.Shown.{Faulty, faults_of, files_of, first_fault, is_before}

-- It is one of the faults, and no path of a fault is before its path.
pub record IsFirst (fault : Faulty) (faults : List Faulty) : Type 0 where
  pub among : Contains faults fault
  pub least : All (λ other. is_before other.path fault.path ≡ false) faults

abbrev pub FirstFaultIsFirst : Type 0
FirstFaultIsFirst =
    (faults : List Faulty) (fault : Faulty) → first_fault faults ≡ Some fault → IsFirst fault faults

-- where nothing is told to be wrong, nothing is, and there is a file
abbrev pub NoFaultIsPassedOver : Type 0
NoFaultIsPassedOver = (path : List ℕ) (looks : List PathLook) → fault_below path looks ≡ None
    → (faults_of looks ≡ []) × (files_of looks ≢ [])

-- They are the same texts, and no two of them are equal.
pub record AreOnce (texts once : List (List ℕ)) : Type 0 where
  pub same : (text : List ℕ) → Contains once text ↔ Contains texts text
  pub distinct : IsDistinct bytes_eq once

abbrev pub EachIsThereOnce : Type 0
EachIsThereOnce = (texts : List (List ℕ)) → AreOnce texts (each_once texts)
