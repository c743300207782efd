-- The lines of JSON are read as the streams, and two of these are released.
use lib.Utf8.{encode}
use Rattle.std.proofs.Common.{◌≡◌, refl, subst, List, None, map, true, false}
use Rattle.std.specs.List.{enumerate_from}
use Rattle.std.specs.Str.{chars, is_utf8}
use Rattle.std.specs.Float.Numeral.{scan_numeral}
use Rattle.json.specs.Json.{items, members, value}
use Rattle.json.specs.Lex.{lex, punctuate}
use Rattle.json.specs.Text.{content, code_unit, short_escape}
use Rattle.json.specs.Word.{word, after_number}
use Rattle.serde_json.specs.Read.{number_of}
use Rattle.cm_envelope.specs.declared.envelope.Envelope.{Envelope}
use Rattle.cm_stream.specs.Texts.{Utf8}
use Rattle.cm_stream.specs.Stream.{IsGoodRun, feed_of, nonblank_lines, read_line, as_read}
use Rattle.cm_stream.specs.Release.{each_runs, hold_of}
use Rattle.cm_stream.proofs.Released.{released_is_not_held, released_exactly}
use Rattle.cm_stream.proofs.Streams.{run_is_told}
use Rattle.cm_good_streams.specs.Streams.{retried_stream, interleaved_stream, refused_beside_accepted}
use Rattle.cm_good_streams.specs.Lines.{bytes_of, retried_lines, interleaved_lines, refused_lines}
use Rattle.cm_good_streams.specs.Laws.{strict, counts, RetriedBytesAreGood, InterleavedBytesAreGood, RefusedBytesAreGood, RetriedBytesAreReleased, InterleavedBytesAreReleased, RefusedBytesAreHeld}
use Rattle.cm_good_streams.proofs.SomeGood.{retried_are_good, interleaved_are_good, refused_are_good}

-- the lines are read as these envelopes, with their numbers
abbrev AreReadAs : List Utf8 → List Envelope → Type 0
AreReadAs lines es = map read_line (nonblank_lines 1 (feed_of (bytes_of lines)).lines) ≡ map as_read (enumerate_from 1 es)

retried_read : AreReadAs retried_lines retried_stream
unfolding lex punctuate items members value content code_unit short_escape word after_number number_of scan_numeral chars is_utf8 encode
retried_read = refl

interleaved_read : AreReadAs interleaved_lines interleaved_stream
unfolding lex punctuate items members value content code_unit short_escape word after_number number_of scan_numeral chars is_utf8 encode
interleaved_read = refl

refused_read : AreReadAs refused_lines refused_beside_accepted
unfolding lex punctuate items members value content code_unit short_escape word after_number number_of scan_numeral chars is_utf8 encode
refused_read = refl

retried_run : IsGoodRun strict (bytes_of retried_lines) (counts 1 1 1 2) true
retried_run = record {
  judged = retried_stream;
  read = record { lines = enumerate_from 1 retried_stream; read = record { no_trouble = refl; read = retried_read }; judged = refl };
  good = retried_are_good;
  exact = refl;
  said = refl;
}

interleaved_run : IsGoodRun strict (bytes_of interleaved_lines) (counts 2 2 2 2) true
interleaved_run = record {
  judged = interleaved_stream;
  read = record { lines = enumerate_from 1 interleaved_stream; read = record { no_trouble = refl; read = interleaved_read }; judged = refl };
  good = interleaved_are_good;
  exact = refl;
  said = refl;
}

refused_run : IsGoodRun strict (bytes_of refused_lines) (counts 2 1 1 1) false
refused_run = record {
  judged = refused_beside_accepted;
  read = record { lines = enumerate_from 1 refused_beside_accepted; read = record { no_trouble = refl; read = refused_read }; judged = refl };
  good = refused_are_good;
  exact = refl;
  said = refl;
}

pub retried_bytes_are_good : RetriedBytesAreGood
retried_bytes_are_good = (true, retried_run)

pub interleaved_bytes_are_good : InterleavedBytesAreGood
interleaved_bytes_are_good = (true, interleaved_run)

pub refused_bytes_are_good : RefusedBytesAreGood
refused_bytes_are_good = (false, refused_run)

pub retried_bytes_are_released : RetriedBytesAreReleased
unfolding retried_run
retried_bytes_are_released = (released_is_not_held strict each_runs _ _ _ true retried_run refl).0 refl

pub interleaved_bytes_are_released : InterleavedBytesAreReleased
unfolding interleaved_run
interleaved_bytes_are_released = (released_is_not_held strict each_runs _ _ _ true interleaved_run refl).0 refl

pub refused_bytes_are_held : RefusedBytesAreHeld
refused_bytes_are_held asked any found released =
    let run = (released_exactly strict asked (bytes_of refused_lines) any found).0 released in
    let its = run_is_told strict (bytes_of refused_lines) any run.0 run.1 in
    let this = run_is_told strict (bytes_of refused_lines) (counts 2 1 1 1) false refused_run in
    let said : run.0 ≡ false = cc in
    let held : hold_of asked false any found ≡ None = subst (λ success. hold_of asked success any found ≡ None) said run.3 in
    cc
