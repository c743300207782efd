use Rattle.cm_good_streams.proofs.SomeBytes.{retried_bytes_are_good, interleaved_bytes_are_good, refused_bytes_are_good}
use Rattle.cm_good_streams.proofs.laws.some_bytes_are_good.Goals as goal

pub returns-clause-retried : goal.returns-clause-retried
returns-clause-retried c = retried_bytes_are_good

pub returns-clause-interleaved : goal.returns-clause-interleaved
returns-clause-interleaved c = interleaved_bytes_are_good

pub returns-clause-refused : goal.returns-clause-refused
returns-clause-refused c = refused_bytes_are_good
