-- A good list has no fault.
use Rattle.std.proofs.Common.{◌≡◌, ℕ, refl, ap, List, ◌∷◌, ◌++◌, false, map, not}
use Rattle.std.specs.List.{AllByRecursion, flat_map}
use Rattle.cm_stream.specs.References.{Run, PickleNamed, times_declared, if_any, test_step_names}
use Rattle.cm_stream.specs.Good.{Good, Sound, NumbersGood}
use Rattle.cm_attempt.specs.declared.status.Settings.{Settings}
use Rattle.cm_stream.specs.Checks.{Check}
use Rattle.cm_stream.specs.ByOnePass.{checks_of, success_check, plain_checks, checks}
use Rattle.cm_stream.specs.Laws.{GoodHaveNoFaultBy}
use Rattle.cm_stream.specs.OnePass.{reads}
use Rattle.cm_envelope.specs.declared.envelope.Envelope.{Envelope}
use Rattle.cm_envelope.specs.declared.envelope.Envelope.TheVariants as envelope
use Rattle.cm_stream.proofs.Lists.{all_here}
use Rattle.cm_stream.proofs.Passing.{both_pass, none_failed}
use Rattle.cm_stream.proofs.Refuted.{no_unknown_reference, no_repeat, no_second_run, run_started, hook_inside, number_is_next, no_overlap, status_known, not_after, run_finished, media_plain, is_supported}
use Rattle.cm_stream.proofs.Attempts.{step_starts_next, step_finishes_next, not_early, not_ended_yet}
use Rattle.cm_stream.proofs.Ends.{EndsRun, end_inside, none_open, none_lacks, success_right}
use Rattle.cm_stream.proofs.RunHooks.{not_finished_yet, none_hook_open}
use Rattle.cm_stream.proofs.Documents.{document_passes, refused_indeed, pickle_is_next, steps_of_pickle}

-- each check of a line passes
pub passes : (first : ℕ) (es before : List Envelope) (e : Envelope) (after : List Envelope) → Sound es → NumbersGood first es → es ≡ before ++ e ∷ after
    → AllByRecursion (λ (c : Check). c.fails ≡ false) (checks_of first before e)
passes first es before (envelope.Source s) after good numbers cut =
    let supported = is_supported es before s after good cut in
    (no_repeat es before (envelope.Source s) after good cut, (media_plain es before s after good cut, (supported.0, (supported.1, tt))))
passes first es before (envelope.GherkinDocument d) after good numbers cut =
    let document = document_passes es before d after good cut in
    (no_unknown_reference es before (envelope.GherkinDocument d) after good cut, (no_repeat es before (envelope.GherkinDocument d) after good cut, (ap not document.accepted, (ap not document.skeleton, (document.distinct, tt)))))
passes first es before (envelope.ParseError p) after good numbers cut = (no_unknown_reference es before (envelope.ParseError p) after good cut, (refused_indeed es before p after good cut, tt))
passes first es before (envelope.Pickle p) after good numbers cut =
    (no_unknown_reference es before (envelope.Pickle p) after good cut, (ap not (pickle_is_next es before p after good cut), (no_repeat es before (envelope.Pickle p) after good cut, tt)))
passes first es before (envelope.StepDefinition d) after good numbers cut = (no_repeat es before (envelope.StepDefinition d) after good cut, tt)
passes first es before (envelope.Hook h) after good numbers cut = (no_repeat es before (envelope.Hook h) after good cut, tt)
passes first es before (envelope.TestCase c) after good numbers cut =
    let known = all_here (λ name. times_declared name before ≡ 1) (map Run (if_any c.test_run_started_id)) (PickleNamed c.pickle_id) (flat_map (test_step_names c.pickle_id) c.test_steps) (good.references before (envelope.TestCase c) after cut) in
    (no_unknown_reference es before (envelope.TestCase c) after good cut, (ap not (steps_of_pickle es before c after good cut known), (no_repeat es before (envelope.TestCase c) after good cut, tt)))
passes first es before (envelope.TestRunStarted r) after good numbers cut = (no_second_run es before r after good cut, tt)
passes first es before (envelope.TestCaseStarted s) after good numbers cut = (
  run_started es before s after good cut,
  (
    no_unknown_reference es before (envelope.TestCaseStarted s) after good cut,
    (
      no_repeat es before (envelope.TestCaseStarted s) after good cut,
      (number_is_next first es before s after numbers cut, (no_overlap es before s after good cut, tt)),
    ),
  ),
)
passes first es before (envelope.TestStepStarted s) after good numbers cut = (no_unknown_reference es before (envelope.TestStepStarted s) after good cut, (step_starts_next es before s after good cut, tt))
passes first es before (envelope.TestStepFinished s) after good numbers cut =
    (no_unknown_reference es before (envelope.TestStepFinished s) after good cut, (step_finishes_next es before s after good cut, (status_known es before (envelope.TestStepFinished s) after good cut, tt)))
passes first es before (envelope.TestCaseFinished f) after good numbers cut =
    (no_unknown_reference es before (envelope.TestCaseFinished f) after good cut, (not_ended_yet es before f after good cut, (not_early es before f after good cut, tt)))
passes first es before (envelope.TestRunFinished f) after good numbers cut =
    let run : EndsRun es before f after = record { cut = cut; none = good.order.finish_last before (envelope.TestRunFinished f) after cut } in
    (end_inside es before f after run good, (no_unknown_reference es before (envelope.TestRunFinished f) after good cut, (none_open es before f after run good, (none_hook_open es before f after run good, (none_lacks es before f after run good, tt)))))
passes first es before (envelope.Attachment a) after good numbers cut = (no_unknown_reference es before (envelope.Attachment a) after good cut, tt)
passes first es before (envelope.TestRunHookStarted s) after good numbers cut =
    (hook_inside es before s after good cut, (no_unknown_reference es before (envelope.TestRunHookStarted s) after good cut, (no_repeat es before (envelope.TestRunHookStarted s) after good cut, tt)))
passes first es before (envelope.TestRunHookFinished f) after good numbers cut =
    (no_unknown_reference es before (envelope.TestRunHookFinished f) after good cut, (not_finished_yet es before f after good cut, (status_known es before (envelope.TestRunHookFinished f) after good cut, tt)))
passes first es before envelope.Other after good numbers cut = tt

-- success is as the run says
tells_success : (settings : Settings) (es before : List Envelope) (e : Envelope) (after : List Envelope) → Good settings es → es ≡ before ++ e ∷ after → AllByRecursion (λ (c : Check). c.fails ≡ false) (success_check settings.policy before e)
tells_success settings es before (envelope.TestRunFinished f) after good cut =
    let run : EndsRun es before f after = record { cut = cut; none = good.sound.order.finish_last before (envelope.TestRunFinished f) after cut } in
    (success_right es before f after run settings good, tt)
tells_success settings es before _ after good cut = tt

pub good_have_no_fault : GoodHaveNoFaultBy reads
good_have_no_fault settings es good = record {
  lines = λ before e after cut. none_failed (checks settings before e)
      (both_pass (plain_checks settings.first_attempt before e) (success_check settings.policy before e)
      (not_after es before e after good.sound cut, passes settings.first_attempt es before e after good.sound good.numbers cut) (tells_success settings es before e after good cut));
  end = rw (run_finished es good.sound) refl;
}
