use Rattle.std.proofs.Common.{◌≡◌, ◌∙◌, ap, sym, true, false}
use Rattle.std.specs.Prelude.{is_none, is_some}
use Rattle.cm_refs.specs.Declarations.{find_run_hook, with_run_hook}
use Rattle.cm_envelope.specs.declared.envelope.Envelope.TheVariants.{TestRunHookStarted}
use Rattle.cm_state.specs.StateChecks.{knows_run_hook}
use Rattle.cm_judge.specs.State.{summary_of}
use Rattle.cm_judge.specs.Stops.{refused_reference}
use Rattle.cm_judge.proofs.Judged.{free_by, hook_fits, hook_told, is_there, stops}
use Rattle.cm_judge.proofs.judging.judge_run_hook_started.Goals as goal

pub returns-in_err-start_run_hook : goal.returns-in_err-start_run_hook
returns-in_err-start_run_hook c =
    let old = c.args.state.now in
    let started = c.args.started.now in
    let fault = c.in_err-start_run_hook.field-0.0 in
    let answer = rw c.as_str.ensures at c.in_err-start_run_hook.ensures.answer in
    let inside : is_none old.run ≡ false = is_there old.run c.is_none.result c.is_none.ensures c.if-is_none.false in
    let known : knows_run_hook (summary_of old) started ≡ true = sym c.knows_run_hook.ensures ∙ c.if-not-knows_run_hook.false in
    stops old (record old { declared = c.start_run_hook.new.self }) (TestRunHookStarted started) c.from_residual.result (refused_reference fault) c.from_residual.ensures.1
    (hook_told (summary_of old) started inside known fault answer)
    (λ i. summary_of (record old { declared = c.in_err-start_run_hook.ensures.err i }))

pub returns : goal.returns
returns c =
    let old = c.args.state.now in
    let started = c.args.started.now in
    let answer = rw c.as_str.ensures at c.in_ok-start_run_hook.ensures.answer in
    let inside : is_none old.run ≡ false = is_there old.run c.is_none.result c.is_none.ensures c.if-is_none.false in
    let known : knows_run_hook (summary_of old) started ≡ true = sym c.knows_run_hook.ensures ∙ c.if-not-knows_run_hook.false in
    let new : is_some (find_run_hook old.declared started.id) ≡ false = free_by (is_some (find_run_hook old.declared started.id)) answer in
    let made = c.in_ok-start_run_hook.ensures.ok ∙ ap (λ t. with_run_hook t old.declared) c.as_str.ensures in (
      hook_fits (summary_of old) started inside known new,
      λ i. summary_of (record old { declared = made i }),
    )
