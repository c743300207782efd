-- The lines of sources that are refused and of run hooks.
use Rattle.std.specs.Prelude.{◌≡◌, ◌⊎◌, ℕ, not, Bool, List, [], ◌∷◌, ◌++◌, Option, codes, decimal, find, is_some, map, option_map}
use Rattle.std.specs.List.{filter, filter_map, list_any}
use Rattle.std.specs.Str.{bytes_eq}
use Rattle.cm_attempt.specs.Table.{is_good_status}
use Rattle.cm_attempt.specs.declared.status.Policy.{Policy}
use Rattle.cm_attempt.specs.declared.status.Status.{Status}
use Rattle.cm_cases.specs.Shown.{shown_text}
use Rattle.cm_envelope.specs.declared.envelope.Envelope.{Envelope}
use Rattle.cm_envelope.specs.declared.envelope.Source.{Source}
use Rattle.cm_envelope.specs.declared.envelope.TestRunHookStarted.{TestRunHookStarted}
use Rattle.cm_stream.specs.Readings.{IsReading, IsRefused, Refused}
use Rattle.cm_stream.specs.References.{hook_ends_of, if_any, is_hook_finished, run_hooks, sources}
use Rattle.cm_stream.specs.Statuses.{kept_status}
use Rattle.cm_stream.specs.Texts.{Utf8}
use Rattle.gk_grammar.specs.declared.fault.FaultKind.{FaultKind}
use Rattle.cm_reasons.specs.Words.{kind_label, status_word}
use Rattle.cm_steps.specs.Steps.{hook_text}

-- ---- sources

-- `refused URI:L:C N Name`, of a source and the fault of its text
abbrev pub refused_line : (uri : Utf8) → FaultKind → (line column : ℕ) → List ℕ
refused_line uri kind line column =
    codes "refused " ++ shown_text uri ++ codes ":" ++ decimal line ++ codes ":"
    ++ decimal column ++ codes " " ++ kind_label kind

-- that of a source whose text is refused
abbrev pub line_of_refused : (s : Source) → IsRefused s.content → List ℕ
line_of_refused s refused = refused_line s.uri refused.kind refused.line refused.column

-- The lines of the sources that are refused, in order: one for each of them, and none for any other. A text has one fault at
-- most, so there is one such list of lines.
abbrev pub AreRefusedLines : List Source → List (List ℕ) → Type 0
AreRefusedLines [] lines = lines ≡ []
AreRefusedLines (s ∷ later) lines =
    ((refused : IsReading s.content Refused) × (rest : List (List ℕ))
    × (lines ≡ line_of_refused s refused.1 ∷ rest) × AreRefusedLines later rest)
    ⊎ ((IsReading s.content Refused → ⊥) × AreRefusedLines later lines)

-- the first source of a uri, if there is one
abbrev pub first_source : Utf8 → List Envelope → List Source
first_source uri es = if_any (find (λ s. bytes_eq uri s.uri) (sources es))

-- ---- run hooks

-- that of the hook that runs
abbrev pub run_hook_line : TestRunHookStarted → List ℕ
run_hook_line s = hook_text s.hook_id

-- the run hooks that aren't finished, in the order of their starts
abbrev pub open_hooks : List Envelope → List TestRunHookStarted
open_hooks es = filter (λ s. not (is_hook_finished s.id es)) (run_hooks es)

abbrev pub open_hook_lines : List Envelope → List (List ℕ)
open_hook_lines es = map run_hook_line (open_hooks es)

-- of the first run hook with this id, if there is one
abbrev pub run_hook_lines : Utf8 → List Envelope → List (List ℕ)
run_hook_lines id es = map run_hook_line (if_any (find (λ s. bytes_eq id s.id) (run_hooks es)))

-- ---- run hooks that aren't good

-- the statuses with which the run hook ended
abbrev pub end_statuses : Utf8 → List Envelope → List Status
end_statuses id es = map (λ f. kept_status f.result.status) (hook_ends_of id es)

-- the first of them that isn't good
abbrev pub bad_end : Policy → List Envelope → TestRunHookStarted → Option Status
bad_end policy es s = find (λ status. not (is_good_status policy status)) (end_statuses s.id es)

-- some run hook ended with a status that isn't good
abbrev pub has_bad_hook : Policy → List Envelope → Bool
has_bad_hook policy es = list_any (λ s. is_some (bad_end policy es s)) (run_hooks es)

-- `RUNHOOK STATUS hook ID`
abbrev pub bad_hook_line : (hook : Utf8) → Status → List ℕ
bad_hook_line hook status =
    codes "RUNHOOK " ++ status_word status ++ codes " " ++ hook_text hook

-- that of each run hook that ended with such a status, in the order of their starts
abbrev pub hook_causes : Policy → List Envelope → List (List ℕ)
hook_causes policy es =
    filter_map (λ s. option_map (bad_hook_line s.hook_id) (bad_end policy es s)) (run_hooks es)
