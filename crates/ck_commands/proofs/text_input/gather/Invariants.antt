use Rattle.std.proofs.Common.{◌≡◌, ◌≤◌, ◌-◌, length}
use Rattle.cm_envelope.specs.Device.{Hears}
use Rattle.ck_commands.proofs.text_input.gather.Given as goal

abbrev pub invariant-pieces : goal.invariant-pieces
invariant-pieces g l = record {
  read : Hears (g.R.ByteSource.input l.fn.source) (g.R.ByteSource.input l.source) l.bytes.items;
  room : length l.piece ≡ 65536;
  few : length l.bytes.items ≤ 16842752;
  failures : (g.R.ByteSource.input l.source).failed_calls ≡ (g.R.ByteSource.input l.fn.source).failed_calls;
}

abbrev pub decreases-pieces : goal.decreases-pieces
decreases-pieces g l = 16842753 - length l.bytes.items
