-- What stood under the paths that a program looked at. The history is for clauses alone: no call looks at it.
use Rattle.std.specs.Prelude.{◌≡◌, ℕ, List, [], ◌∷◌, ◌++◌, Result, Ok, Err}
use Rattle.std.specs.declared.alloc.AllocError.{AllocError}
use Rattle.files.specs.declared.files.Look.{Look}

-- A path, and what stood under it.
pub record PathLook : Type 0 where
  pub path : List ℕ
  pub look : Look

-- a look is noted as it was answered, unless there is no memory for that
abbrev pub NotesLook : (old new : List PathLook) → (path : List ℕ) → Result Look AllocError → Type 0
NotesLook old new path (Ok look) = new ≡ old ++ record { path = path; look = look } ∷ []
NotesLook old new path (Err e) = new ≡ old
