-- The three streams as lines of JSON.
use Rattle.std.specs.Prelude.{ℕ, List, [], ◌∷◌, ◌++◌, codes}
use Rattle.std.specs.List.{flat_map}
use Rattle.cm_stream.specs.Texts.{Utf8}
use Rattle.cm_good_streams.specs.Streams.{a, b}

-- ---- a source with its document, its pickle and a test case

-- a text in quotes, with nothing to escape
abbrev pub in_quotes : Utf8 → Utf8
in_quotes text = codes "\"" ++ text ++ codes "\""

-- the text of the feature file, with its line feeds escaped
abbrev pub feature_data : Utf8
feature_data = codes "Feature: f\\n\\n  Scenario: s\\n    Given a\\n"

abbrev pub source : (uri text : Utf8) → Utf8
source uri text =
    codes "{\"source\":{\"uri\":" ++ in_quotes uri
    ++ codes ",\"mediaType\":\"text/x.cucumber.gherkin+plain\",\"data\":" ++ in_quotes text
    ++ codes "}}"

abbrev pub document : Utf8 → Utf8
document uri =
    codes "{\"gherkinDocument\":{\"uri\":" ++ in_quotes uri
    ++ codes ",\"feature\":{\"location\":{\"line\":1},\"language\":\"en\",\"keyword\":\"Feature\","
    ++ codes "\"name\":\"f\",\"tags\":[],\"children\":[{\"scenario\":{\"id\":"
    ++ in_quotes (uri ++ codes "0")
    ++ codes ",\"location\":{\"line\":3},\"keyword\":\"Scenario\",\"name\":\"s\",\"tags\":[],"
    ++ codes "\"examples\":[],\"steps\":[{\"id\":" ++ in_quotes (uri ++ codes "1")
    ++ codes ",\"location\":{\"line\":4},\"keyword\":\"Given \",\"text\":\"a\"}]}}]}}}"

abbrev pub pickle : Utf8 → Utf8
pickle uri =
    codes "{\"pickle\":{\"id\":" ++ in_quotes (uri ++ codes "3") ++ codes ",\"uri\":" ++ in_quotes uri
    ++ codes ",\"name\":\"s\",\"language\":\"en\",\"astNodeIds\":[" ++ in_quotes (uri ++ codes "0")
    ++ codes "],\"tags\":[],\"steps\":[{\"id\":" ++ in_quotes (uri ++ codes "2")
    ++ codes ",\"text\":\"a\",\"type\":\"Context\",\"astNodeIds\":["
    ++ in_quotes (uri ++ codes "1") ++ codes "]}]}}"

abbrev pub test_case : Utf8 → Utf8
test_case uri =
    codes "{\"testCase\":{\"id\":" ++ in_quotes (uri ++ codes "c")
    ++ codes ",\"pickleId\":" ++ in_quotes (uri ++ codes "3")
    ++ codes ",\"testSteps\":[{\"id\":" ++ in_quotes (uri ++ codes "t")
    ++ codes ",\"pickleStepId\":" ++ in_quotes (uri ++ codes "2") ++ codes "}]}}"

abbrev pub parse_error : Utf8 → Utf8
parse_error uri =
    codes "{\"parseError\":{\"source\":{\"uri\":" ++ in_quotes uri ++ codes "},\"message\":\"m\"}}"

-- ---- attempts

-- an attempt at the test case of this source, with its number in decimal
abbrev pub attempt_start : (uri id attempt : Utf8) → Utf8
attempt_start uri id attempt =
    codes "{\"testCaseStarted\":{\"id\":" ++ in_quotes id
    ++ codes ",\"testCaseId\":" ++ in_quotes (uri ++ codes "c")
    ++ codes ",\"attempt\":" ++ attempt ++ codes "}}"

abbrev pub step_started : (uri id : Utf8) → Utf8
step_started uri id =
    codes "{\"testStepStarted\":{\"testCaseStartedId\":" ++ in_quotes id
    ++ codes ",\"testStepId\":" ++ in_quotes (uri ++ codes "t") ++ codes "}}"

abbrev pub step_finished : (uri id status : Utf8) → Utf8
step_finished uri id status =
    codes "{\"testStepFinished\":{\"testCaseStartedId\":" ++ in_quotes id
    ++ codes ",\"testStepId\":" ++ in_quotes (uri ++ codes "t")
    ++ codes ",\"testStepResult\":{\"status\":" ++ in_quotes status ++ codes "}}}"

abbrev pub attempt_end : (id is_retried : Utf8) → Utf8
attempt_end id is_retried =
    codes "{\"testCaseFinished\":{\"testCaseStartedId\":" ++ in_quotes id
    ++ codes ",\"willBeRetried\":" ++ is_retried ++ codes "}}"

-- ---- the run

abbrev pub run_started : Utf8
run_started = codes "{\"testRunStarted\":{}}"

abbrev pub run_finished : (success : Utf8) → Utf8
run_finished success = codes "{\"testRunFinished\":{\"success\":" ++ success ++ codes "}}"

-- ---- the streams

-- each line with its line feed
abbrev pub bytes_of : List Utf8 → List ℕ
bytes_of lines = flat_map (λ line. line ++ codes "\n") lines

abbrev pub retried_lines : List Utf8
retried_lines =
    source a feature_data ∷ document a ∷ pickle a ∷ run_started ∷ test_case a
    ∷ attempt_start a (codes "x") (codes "0") ∷ step_started a (codes "x")
    ∷ step_finished a (codes "x") (codes "FAILED") ∷ attempt_end (codes "x") (codes "true")
    ∷ attempt_start a (codes "y") (codes "1") ∷ step_started a (codes "y")
    ∷ step_finished a (codes "y") (codes "PASSED") ∷ attempt_end (codes "y") (codes "false")
    ∷ run_finished (codes "true") ∷ []

abbrev pub interleaved_lines : List Utf8
interleaved_lines =
    source a feature_data ∷ source b feature_data ∷ document b ∷ document a ∷ pickle a ∷ pickle b
    ∷ run_started ∷ test_case b ∷ test_case a
    ∷ attempt_start a (codes "x") (codes "0") ∷ attempt_start b (codes "y") (codes "0")
    ∷ step_started b (codes "y") ∷ step_started a (codes "x")
    ∷ step_finished a (codes "x") (codes "PASSED") ∷ step_finished b (codes "y") (codes "PASSED")
    ∷ attempt_end (codes "y") (codes "false") ∷ attempt_end (codes "x") (codes "false")
    ∷ run_finished (codes "true") ∷ []

abbrev pub refused_lines : List Utf8
refused_lines =
    source a feature_data ∷ document a ∷ pickle a ∷ source b (codes "Given a\\n") ∷ parse_error b
    ∷ run_started ∷ test_case a ∷ attempt_start a (codes "x") (codes "0") ∷ step_started a (codes "x")
    ∷ step_finished a (codes "x") (codes "PASSED") ∷ attempt_end (codes "x") (codes "false")
    ∷ run_finished (codes "false") ∷ []
