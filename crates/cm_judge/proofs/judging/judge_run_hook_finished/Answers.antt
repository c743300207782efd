use Rattle.std.proofs.Common.{◌≡◌, ◌∙◌, Bool, refl, ap, sym, Some, true, false}
use Rattle.cm_refs.specs.Declarations.{find_run_hook, with_finished_run_hook}
use Rattle.cm_attempt.specs.Worst.{with_status}
use Rattle.cm_envelope.specs.declared.envelope.Envelope.TheVariants.{TestRunHookFinished}
use Rattle.cm_stream.specs.Good.{is_unknown}
use Rattle.cm_stream.specs.Statuses.{kept_status}
use Rattle.cm_envelope.specs.declared.envelope.Status.{Status as LineStatus}
use Rattle.cm_envelope.specs.declared.envelope.Status.TheVariants as line
use Rattle.cm_attempt.specs.declared.status.Status.TheVariants.{Unknown}
use Rattle.cm_attempt.specs.contracts.status.Status.{the_type}
use denote.Enum.Bare.{sameb}
use Rattle.cm_judge.specs.State.{summary_of}
use Rattle.cm_judge.specs.Stops.{refused_reference}
use Rattle.cm_judge.proofs.Judged.{end_found_is, end_told, stops}
use Rattle.cm_judge.proofs.judging.judge_run_hook_finished.Goals as goal

-- whether the status is the unknown one, by what is kept of it
unknown_by : (s : LineStatus) (b : Bool) → b ≡ sameb the_type (kept_status s) Unknown → b ≡ is_unknown s
unknown_by line.Unknown b e = e
unknown_by line.Passed b e = e
unknown_by line.Skipped b e = e
unknown_by line.Pending b e = e
unknown_by line.Undefined b e = e
unknown_by line.Ambiguous b e = e
unknown_by line.Failed b e = e

pub returns-in_err-finish_run_hook : goal.returns-in_err-finish_run_hook
returns-in_err-finish_run_hook c =
    let old = c.args.state.now in
    let finished = c.args.finished.now in
    let fault = c.in_err-finish_run_hook.field-0.0 in
    let answer = rw c.as_str.ensures at c.in_err-finish_run_hook.ensures.answer in
    stops old (record old { declared = c.finish_run_hook.new.self }) (TestRunHookFinished finished) c.from_residual.result (refused_reference fault) c.from_residual.ensures.1
    (end_told (find_run_hook old.declared finished.test_run_hook_started_id) (is_unknown finished.result.status) fault answer)
    (λ i. summary_of (record old { declared = c.in_err-finish_run_hook.ensures.err i }))

pub returns-then-eq : goal.returns-then-eq
returns-then-eq c =
    let old = c.args.state.now in
    let finished = c.args.finished.now in
    let answer = rw c.as_str.ensures at c.in_ok-finish_run_hook.ensures.answer in
    let unknown : is_unknown finished.result.status ≡ true = sym (unknown_by finished.result.status c.eq.result (rw (← c.kept_status-status.ensures) c.eq.ensures)) ∙ c.if-eq.true in
    end_found_is (find_run_hook old.declared finished.test_run_hook_started_id) (is_unknown finished.result.status) answer ∙ rw unknown refl

pub returns : goal.returns
returns c =
    let old = c.args.state.now in
    let finished = c.args.finished.now in
    let answer = rw c.as_str.ensures at c.in_ok-finish_run_hook.ensures.answer in
    let known : is_unknown finished.result.status ≡ false = sym (unknown_by finished.result.status c.eq.result (rw (← c.kept_status-status.ensures) c.eq.ensures)) ∙ c.if-eq.false in
    let made = c.in_ok-finish_run_hook.ensures.ok ∙ ap (λ t. with_finished_run_hook t old.declared) c.as_str.ensures in
    let worst : Some c.worst_with.result ≡ with_status old.hooks_worst (kept_status finished.result.status) = c.worst_with.ensures ∙ ap (with_status old.hooks_worst) c.kept_status-status.ensures in (
      end_found_is (find_run_hook old.declared finished.test_run_hook_started_id) (is_unknown finished.result.status) answer ∙ rw known refl,
      λ i. summary_of (record old { declared = made i; hooks_worst = worst i }),
    )
