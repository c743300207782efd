-- Three streams, as lists of envelopes.
use Rattle.std.specs.Prelude.{List, [], ◌∷◌, true, false, codes}
use Rattle.cm_envelope.specs.declared.envelope.Envelope.{Envelope}
use Rattle.cm_envelope.specs.declared.envelope.Status.TheVariants.{Passed, Failed}
use Rattle.cm_stream.specs.Texts.{Utf8}
use Rattle.cm_good_streams.specs.Envelopes.{feature_text, source, document, pickle, test_case, parse_error, attempt_start, step_started, step_finished, attempt_end, run_started, run_finished}

-- two uris
abbrev pub a : Utf8
a = codes "a"

abbrev pub b : Utf8
b = codes "b"

-- the first attempt `x` failed and is retried, and the second, `y`, passed
abbrev pub retried_stream : List Envelope
retried_stream =
    source a feature_text ∷ document a ∷ pickle a ∷ run_started ∷ test_case a
    ∷ attempt_start a (codes "x") 0 ∷ step_started a (codes "x") ∷ step_finished a (codes "x") Failed
    ∷ attempt_end (codes "x") true
    ∷ attempt_start a (codes "y") 1 ∷ step_started a (codes "y") ∷ step_finished a (codes "y") Passed
    ∷ attempt_end (codes "y") false ∷ run_finished true ∷ []

-- the envelopes of two sources come in turns, and so do those of the attempts at their test cases
abbrev pub interleaved_stream : List Envelope
interleaved_stream =
    source a feature_text ∷ source b feature_text ∷ document b ∷ document a ∷ pickle a ∷ pickle b
    ∷ run_started ∷ test_case b ∷ test_case a
    ∷ attempt_start a (codes "x") 0 ∷ attempt_start b (codes "y") 0
    ∷ step_started b (codes "y") ∷ step_started a (codes "x")
    ∷ step_finished a (codes "x") Passed ∷ step_finished b (codes "y") Passed
    ∷ attempt_end (codes "y") false ∷ attempt_end (codes "x") false ∷ run_finished true ∷ []

-- the source `b` is refused, and `a` isn't; all that ran passed, and the run doesn't say success
abbrev pub refused_beside_accepted : List Envelope
refused_beside_accepted =
    source a feature_text ∷ document a ∷ pickle a ∷ source b (codes "Given a\n") ∷ parse_error b
    ∷ run_started ∷ test_case a
    ∷ attempt_start a (codes "x") 0 ∷ step_started a (codes "x") ∷ step_finished a (codes "x") Passed
    ∷ attempt_end (codes "x") false ∷ run_finished false ∷ []
