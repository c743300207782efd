use Rattle.std.proofs.Common.{rules}
use Rattle.cm_envelope.proofs.device.Reads.read.Goals as goal

pub returns-in-Err-clause-failures : goal.returns-in-Err-clause-failures
returns-in-Err-clause-failures c = search rules
