use Rattle.std.proofs.Common.{◌≡◌, map}
use Rattle.kept_texts.specs.Kept.{bytes_of}
use Rattle.cm_attempt.specs.Results.{result_view}
use Rattle.cm_attempt.specs.Table.{reported_status}
use Rattle.cm_attempt.proofs.track.Track.results.Given as goal

abbrev pub invariant-loop-id : goal.invariant-loop-id
invariant-loop-id l =
    map result_view l.results.items ≡ map (λ k. (bytes_of k.now, reported_status l.self (bytes_of k.now))) l.yielded
