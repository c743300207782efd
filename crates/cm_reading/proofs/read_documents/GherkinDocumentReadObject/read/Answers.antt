use Rattle.std.proofs.Common.{rules}
use Rattle.cm_reading.proofs.read_documents.GherkinDocumentReadObject.read.Goals as goal

pub returns : goal.returns
returns c = search rules
