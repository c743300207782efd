use Rattle.cm_stream.proofs.OnePass.{one_reading, some_reading}
use Rattle.cm_stream.proofs.laws.each_text_has_one_reading.Goals as goal

pub returns-clause-some : goal.returns-clause-some
returns-clause-some c = some_reading

pub returns-clause-one : goal.returns-clause-one
returns-clause-one c = one_reading
