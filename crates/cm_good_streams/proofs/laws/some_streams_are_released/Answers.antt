use Rattle.cm_good_streams.proofs.SomeBytes.{retried_bytes_are_released, interleaved_bytes_are_released, refused_bytes_are_held}
use Rattle.cm_good_streams.proofs.laws.some_streams_are_released.Goals as goal

pub returns-clause-retried : goal.returns-clause-retried
returns-clause-retried c = retried_bytes_are_released

pub returns-clause-interleaved : goal.returns-clause-interleaved
returns-clause-interleaved c = interleaved_bytes_are_released

pub returns-clause-held : goal.returns-clause-held
returns-clause-held c = refused_bytes_are_held
