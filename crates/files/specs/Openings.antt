-- What the files that a program opened gave. The history is for clauses alone: no call looks at it.
use Rattle.std.specs.Prelude.{◌≡◌, ℕ, List, [], ◌∷◌, ◌++◌, Option, Some, None, Result, Ok, Err, false}
use Rattle.std.specs.declared.alloc.AllocError.{AllocError}
use Rattle.cm_envelope.specs.Device.{Input}
use Rattle.files.specs.declared.files.FileTrouble.{FileTrouble}
use Rattle.files.specs.declared.files.FileTrouble.TheVariants.{Memory, ReadFailed}

-- The opening of a file under a name: what its reads left by the time that it was closed, and None where it couldn't be opened.
pub record Opening : Type 0 where
  pub name : List ℕ
  pub input : Option Input

-- nothing was read yet, and no read failed
pub record IsFresh (i : Input) : Type 0 where
  pub unheard : i.heard ≡ []
  pub before_end : i.is_over ≡ false
  pub unfailed : i.failed_calls ≡ 0

-- why a file isn't opened, if it isn't
abbrev pub trouble_in : {A : Type 0} → Result A FileTrouble → Option FileTrouble
trouble_in (Ok file) = None
trouble_in (Err trouble) = Some trouble

-- A file that can't be opened is noted; one that is opened is noted where it is closed.
abbrev pub NotesOpening : (old new : List Opening) → (name : List ℕ) → Option FileTrouble → Type 0
NotesOpening old new name None = new ≡ old
NotesOpening old new name (Some ReadFailed) =
    new ≡ old ++ record { name = name; input = None } ∷ []
NotesOpening old new name (Some Memory) = new ≡ old

-- what was read of a file is noted, unless there is no memory for that
abbrev pub NotesClosing : {A : Type 0} → (old new : List Opening) → (name : List ℕ) → Input
    → Result A AllocError → Type 0
NotesClosing old new name input (Ok done) =
    new ≡ old ++ record { name = name; input = Some input } ∷ []
NotesClosing old new name input (Err e) = new ≡ old
