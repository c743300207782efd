-- What a run over a reader of std says of the bytes that the reader gave.
use Rattle.std.specs.Prelude.{◌≡◌, ℕ, List, [], Option, false, true}
use Rattle.cm_envelope.specs.Device.{Input}
use Rattle.cm_attempt.specs.declared.status.Settings.{Settings}
use Rattle.cm_stream.specs.Release.{Conditions, IsReleasedStream}
use Rattle.cm_stream.specs.declared.laws.ReleaseCounts.{ReleaseCounts}
use Rattle.cm_stream.specs.declared.laws.Counts.{Counts}
use Rattle.files.specs.Looks.{PathLook}
use Rattle.files.specs.Openings.{Opening}
use Rattle.ck_command_line.specs.CommandLine.{FeaturesGate, RunsGate}
use Rattle.ck_commands.specs.Asked.{ReleasesEach, ReleasesFeatures}

-- the source was at its end, and the bytes that it gave are a released stream
abbrev pub GaveReleased : Settings → Conditions → Input → Type 0
GaveReleased settings asked i =
    (i.is_over ≡ true)
    × ((counts : Counts) × (found : ReleaseCounts)
    × IsReleasedStream settings asked i.heard counts found)

-- a source of which nothing was heard yet, whatever it shows to come
abbrev pub at_start : (shown : Option (List ℕ)) → Input
at_start shown = record { heard = []; is_over = false; to_come = shown; failed_calls = 0 }

-- Of each run the same holds: of the file that was opened by its name, and of what standard input gave.
abbrev pub GaveReleasedEach : RunsGate → (old new : List Opening) → Input → Type 0
GaveReleasedEach g old new i =
    (shown : Option (List ℕ)) × ReleasesEach g old new (at_start shown) i

-- what status 0 says of feature files holds, with the runs among the files, or of what standard input gave
abbrev pub GaveFeatures : FeaturesGate → (old new : List Opening) → (seen later : List PathLook)
    → Input → Type 0
GaveFeatures g old new seen later i =
    (shown : Option (List ℕ)) × ReleasesFeatures g old new seen later (at_start shown) i
