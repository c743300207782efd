-- Good streams exist, and released ones.
use Rattle.std.specs.Prelude.{ℕ, List}
use Rattle.cm_attempt.specs.declared.status.Policy.TheVariants.{Strict}
use Rattle.cm_attempt.specs.Settings.{settings_of}
use Rattle.cm_attempt.specs.declared.status.Settings.{Settings}
use Rattle.cm_stream.specs.Good.{Good}
use Rattle.cm_stream.specs.Release.{Conditions, IsReleasedStream, each_runs, release_counts_of}
use Rattle.cm_stream.specs.declared.laws.ReleaseCounts.{ReleaseCounts}
use Rattle.cm_envelope.specs.declared.envelope.Envelope.{Envelope}
use Rattle.cm_stream.specs.Stream.{IsGoodStream}
use Rattle.cm_stream.specs.declared.laws.Counts.{Counts}
use Rattle.cm_good_streams.specs.Streams.{retried_stream, interleaved_stream, refused_beside_accepted}
use Rattle.cm_good_streams.specs.Lines.{bytes_of, retried_lines, interleaved_lines, refused_lines}

-- the settings without an option: PENDING is no good status, attempts are numbered from 0, and nothing is declared again
abbrev pub strict : Settings
strict = settings_of Strict

-- ---- as lists of envelopes

abbrev pub RetriedAreGood : Type 0
RetriedAreGood = Good strict retried_stream

abbrev pub InterleavedAreGood : Type 0
InterleavedAreGood = Good strict interleaved_stream

abbrev pub RefusedAreGood : Type 0
RefusedAreGood = Good strict refused_beside_accepted

-- ---- as bytes

-- so many sources, pickles, test cases and attempts, and no pickle without a test case
abbrev pub counts : (sources pickles cases attempts : ℕ) → Counts
counts sources pickles cases attempts = record {
  sources = sources;
  pickles = pickles;
  cases = cases;
  attempts = attempts;
  unrun = 0;
}

abbrev pub RetriedBytesAreGood : Type 0
RetriedBytesAreGood = IsGoodStream strict (bytes_of retried_lines) (counts 1 1 1 2)

abbrev pub InterleavedBytesAreGood : Type 0
InterleavedBytesAreGood = IsGoodStream strict (bytes_of interleaved_lines) (counts 2 2 2 2)

abbrev pub RefusedBytesAreGood : Type 0
RefusedBytesAreGood = IsGoodStream strict (bytes_of refused_lines) (counts 2 1 1 1)

-- ---- which of them are released

-- what is counted where no pickle may be without a test case
abbrev pub found_in : List Envelope → ReleaseCounts
found_in = release_counts_of each_runs Strict

abbrev pub RetriedBytesAreReleased : Type 0
RetriedBytesAreReleased =
    IsReleasedStream strict each_runs (bytes_of retried_lines) (counts 1 1 1 2) (found_in retried_stream)

abbrev pub InterleavedBytesAreReleased : Type 0
InterleavedBytesAreReleased =
    IsReleasedStream strict each_runs (bytes_of interleaved_lines) (counts 2 2 2 2)
    (found_in interleaved_stream)

-- the one that doesn't say success isn't, whatever is allowed
abbrev pub RefusedBytesAreHeld : Type 0
RefusedBytesAreHeld =
    (asked : Conditions) (any : Counts) (found : ReleaseCounts)
    → IsReleasedStream strict asked (bytes_of refused_lines) any found → ⊥
