-- What holds of the lines of steps, of sources that are refused and of run hooks.
use Rattle.std.specs.Prelude.{◌≡◌, ◌↔◌, ℕ, List, [], count_by, false}
use Rattle.std.specs.List.{AllByRecursion}
use Rattle.cm_attempt.specs.declared.status.Policy.{Policy}
use Rattle.cm_envelope.specs.declared.envelope.Envelope.{Envelope}
use Rattle.cm_envelope.specs.declared.envelope.Source.{Source}
use Rattle.cm_stream.specs.Readings.{IsReading, Refused}
use Rattle.cm_stream.specs.Release.{passes_unmatched}
use Rattle.cm_reasons.specs.Reasons.{undefined_steps}
use Rattle.cm_reasons.specs.RunReasons.{AreRefusedLines, has_bad_hook, hook_causes}

-- no step is told as undefined exactly where no envelope reports that one passed
abbrev pub UndefinedStepsAreTold : Type 0
UndefinedStepsAreTold =
    (policy : Policy) (es : List Envelope)
    → (undefined_steps policy es ≡ []) ↔ (count_by (passes_unmatched policy es) es ≡ 0)

-- sources have one list of lines of those that are refused
abbrev pub OneRefusedList : Type 0
OneRefusedList =
    (ss : List Source) (a b : List (List ℕ)) → AreRefusedLines ss a → AreRefusedLines ss b → a ≡ b

-- it is empty exactly where no text is refused
abbrev pub NoneRefused : Type 0
NoneRefused =
    (ss : List Source)
    → AreRefusedLines ss [] ↔ AllByRecursion (λ s. IsReading s.content Refused → ⊥) ss

-- no run hook is a cause exactly where none ended with a status that isn't good
abbrev pub NoHookCauses : Type 0
NoHookCauses =
    (policy : Policy) (es : List Envelope)
    → (hook_causes policy es ≡ []) ↔ (has_bad_hook policy es ≡ false)
