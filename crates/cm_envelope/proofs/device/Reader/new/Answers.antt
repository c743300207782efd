use Rattle.std.proofs.Common.{rules}
use Rattle.cm_envelope.proofs.device.Reader.new.Goals as goal

pub returns-clause-failures : goal.returns-clause-failures
returns-clause-failures c = search rules
