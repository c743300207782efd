-- How cases ended, and what attachments refer to, by what is kept of the lines.
use Rattle.std.proofs.Common.{◌≡◌, ℕ, refl, sym, ap, ◌∙◌, List, [], ◌∷◌, append-nil, Option, Some, None, true, false, not, ◌&&◌}
use Rattle.std.specs.List.{list_any, list_all}
use Rattle.cm_attempt.specs.Table.{is_good_status}
use Rattle.cm_attempt.specs.Worst.{worst_of}
use Rattle.cm_attempt.specs.declared.status.Policy.{Policy}
use Rattle.cm_attempt.proofs.WorstLemmas.{is_known, good_worst}
use Rattle.cm_stream.specs.Texts.{Utf8}
use Rattle.cm_stream.specs.References.{Attempt, step_names, attachment_names, hook_statuses}
use Rattle.cm_stream.specs.ByOnePass.{all_well}
use Rattle.cm_stream.specs.Record.{table_of_envelopes}
use Rattle.cm_stream.specs.Good.{is_unknown, has_unknown_result}
use Rattle.cm_stream.specs.Statuses.{kept_status}
use Rattle.cm_envelope.specs.declared.envelope.Status as its_status
use Rattle.cm_envelope.specs.declared.envelope.Status.TheVariants as line
use Rattle.cm_envelope.specs.declared.envelope.Envelope.{Envelope}
use Rattle.cm_envelope.specs.declared.envelope.Envelope.TheVariants as envelope
use Rattle.cm_stream.proofs.Lists.{or_false, or_no}
use Rattle.cm_stream.proofs.Parts.{all_known}
use Rattle.cm_stream.proofs.Passing.{AllPass}
use Rattle.cm_stream.proofs.CallChecks.{step_asked, distinct_cases}
use Rattle.cm_stream.proofs.TableSteps.{AreAccepted}
use Rattle.cm_stream.proofs.TableWords.{step_told, good_cases}
use Rattle.cm_state.specs.ByOnePass.{summary_of_lines}
use Rattle.cm_state.specs.StateChecks.{knows_place, is_well}
use Rattle.cm_state.proofs.Tests.{attempt_declared, unknown}
use Rattle.cm_state.proofs.SourceTests.{each_accepted}

-- ---- how cases and run hooks ended

-- the results of run hooks are known
known_hooks : (es : List Envelope) → list_any has_unknown_result es ≡ false → list_all is_known (hook_statuses es) ≡ true
known_hooks [] h = refl
known_hooks (envelope.TestRunHookFinished f ∷ es) h =
    let k = or_false (is_unknown f.result.status) (list_any has_unknown_result es) h in
    rw (kept_known f.result.status k.0, known_hooks es k.1) refl
  where
    kept_known : (s : its_status.Status) → is_unknown s ≡ false → is_known (kept_status s) ≡ true
    kept_known line.Unknown h = cc
    kept_known line.Passed h = refl
    kept_known line.Skipped h = refl
    kept_known line.Pending h = refl
    kept_known line.Undefined h = refl
    kept_known line.Ambiguous h = refl
    kept_known line.Failed h = refl
known_hooks (envelope.TestStepFinished s ∷ es) h = known_hooks es (or_false (is_unknown s.test_step_result.status) (list_any has_unknown_result es) h).1
known_hooks (_ ∷ es) h = known_hooks es h

good_hooks : (policy : Policy) (es : List Envelope) → AllPass es → is_good_status policy (worst_of (hook_statuses es)) ≡ list_all (is_good_status policy) (hook_statuses es)
good_hooks policy es pass = good_worst policy (hook_statuses es) (known_hooks es (all_known es pass))

pub same_well : (policy : Policy) (first : ℕ) (es : List Envelope) → AllPass es → AreAccepted first es → is_well policy (summary_of_lines first es) ≡ all_well policy es
same_well policy first es pass accepted = λ i. good_cases policy first es accepted i && good_hooks policy es pass i && each_accepted es i

-- ---- attachments

pub place_known : (first : ℕ) (es : List Envelope) → AreAccepted first es → (a step : Option Utf8) → list_any (unknown es) (attachment_names es a step) ≡ not (knows_place (summary_of_lines first es) a step)
place_known first es accepted None step = refl
place_known first es accepted (Some a) None = or_no (unknown es (Attempt a)) ∙ (attempt_declared a first es accepted).unknown
place_known first es accepted (Some a) (Some step) =
    ap (λ names. list_any (unknown es) (Attempt a ∷ names)) (append-nil (step_names es a step))
    ∙ step_asked es (distinct_cases first es (table_of_envelopes first es) accepted) a step
    ∙ ap not (sym (step_told first es accepted a step))
