use Rattle.cm_shown_laws.proofs.Plain.{accepted_plain, compiled_plain, read_plain}
use Rattle.cm_shown_laws.proofs.laws.what_is_read_is_plain.Goals as goal

pub returns-clause-lines : goal.returns-clause-lines
returns-clause-lines c = read_plain

pub returns-clause-documents : goal.returns-clause-documents
returns-clause-documents c = accepted_plain

pub returns-clause-pickles : goal.returns-clause-pickles
returns-clause-pickles c = compiled_plain
