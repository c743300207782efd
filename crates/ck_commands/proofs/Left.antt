-- What each that was asked for leaves of a failed read and of a failed write.
use Rattle.std.proofs.Common.{◌≡◌, ◌≢◌, ℕ, List}
use Rattle.cm_envelope.specs.Device.{Input, Output}
use Rattle.files.specs.Looks.{PathLook}
use Rattle.files.specs.Openings.{Opening}
use Rattle.ck_command_line.specs.CommandLine.{Request, over_features, over_input, over_runs}
use Rattle.ck_commands.specs.Asked.{Leaves}
use Rattle.ck_commands.proofs.FeaturesReleased.{features_unread}
use Rattle.ck_commands.proofs.RunsReleased.{runs_unread}

-- what was asked for ends with status 0 without a failed read, and with that of trouble after a failed write
pub unread_of : (a : Request) (code : ℕ) (old new : List Opening) (seen later : List PathLook) (i j : Input) (before after : Output) → Leaves a code old new seen later i j before after → code ≡ 0 → j.failed_calls ≡ i.failed_calls
unread_of (over_input c) code old new seen later i j before after leaves zero = leaves.2.unread zero
unread_of (over_runs g) code old new seen later i j before after leaves zero = runs_unread g old new i j before after code leaves.1 zero
unread_of (over_features g) code old new seen later i j before after leaves zero = features_unread g code old new seen later i j before after leaves zero

pub unwritten_of : (a : Request) (code : ℕ) (old new : List Opening) (seen later : List PathLook) (i j : Input) (before after : Output) → Leaves a code old new seen later i j before after → after.failed_calls ≢ before.failed_calls → code ≡ 3
unwritten_of (over_input c) code old new seen later i j before after leaves other = leaves.2.unwritten other
unwritten_of (over_runs g) code old new seen later i j before after leaves other = (leaves.1.2.broken other).status
unwritten_of (over_features g) code old new seen later i j before after leaves other = (leaves.2.broken other).status
