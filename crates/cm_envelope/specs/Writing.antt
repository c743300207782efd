-- What was written where a write failed.
use Rattle.std.specs.Prelude.{◌≡◌, ◌<◌, ℕ, List, ◌++◌, length}
use Rattle.cm_envelope.specs.Device.{Output, Writes}

-- the first of these bytes were taken, but not all of them
abbrev pub WritesFront : (before after : Output) → List ℕ → Type 0
WritesFront before after bytes =
    (front rest : List ℕ) × (bytes ≡ front ++ rest) × (0 < length rest)
    × Writes before after front
