use Rattle.std.proofs.Common.{◌∙◌, ap, sym, ◌++◌, None, Some, false, string_bytes, true}
use Rattle.cm_attempt.specs.Due.{due_step}
use Rattle.cm_judge.specs.State.{summary_of}
use Rattle.cm_cases.proofs.ListingLemmas.{on_ok}
use Rattle.cm_envelope.specs.declared.envelope.Envelope.{Envelope}
use Rattle.cm_stream.specs.Texts.{Utf8}
use Rattle.cm_fault_reasons.specs.AttemptLines.{order_at, order_lines}
use Rattle.cm_fault_reasons.proofs.steps.add_order.Goals as goal

pub returns-in-TestStepStarted : goal.returns-in-TestStepStarted
returns-in-TestStepStarted c =
    on_ok c.add_order_of.result c.add_order_of.ensures
    (λ added es is.
    let old = string_bytes c.args.text.now in
    let due = due_step (summary_of c.args.state.now).table in
    added es is ∙ (λ i. old ++ order_at due es (c.found_step-found.ensures i) (c.as_str-attempt.ensures i))
    ∙ ap (λ (id : Utf8). old ++ order_at due es (Some (record { step = id; is_running = false })) c.in-TestStepStarted.step.test_case_started_id) c.as_str.ensures
    ∙ ap (λ (e : Envelope). old ++ order_lines due es e) (sym c.in-TestStepStarted.is))

pub returns-in-TestStepFinished : goal.returns-in-TestStepFinished
returns-in-TestStepFinished c =
    on_ok c.add_order_of-in-TestStepFinished.result c.add_order_of-in-TestStepFinished.ensures
    (λ added es is.
    let old = string_bytes c.args.text.now in
    let due = due_step (summary_of c.args.state.now).table in
    added es is ∙ (λ i. old ++ order_at due es (c.found_step-found-in-TestStepFinished.ensures i) (c.as_str-attempt-in-TestStepFinished.ensures i))
    ∙ ap (λ (id : Utf8). old ++ order_at due es (Some (record { step = id; is_running = true })) c.in-TestStepFinished.step.test_case_started_id) c.as_str-in-TestStepFinished.ensures
    ∙ ap (λ (e : Envelope). old ++ order_lines due es e) (sym c.in-TestStepFinished.is))

pub returns-in-TestCaseFinished : goal.returns-in-TestCaseFinished
returns-in-TestCaseFinished c =
    on_ok c.add_order_of-in-TestCaseFinished.result c.add_order_of-in-TestCaseFinished.ensures
    (λ added es is.
    let old = string_bytes c.args.text.now in
    let due = due_step (summary_of c.args.state.now).table in
    added es is ∙ ap (λ (id : Utf8). old ++ order_at due es None id) c.as_str-attempt-in-TestCaseFinished.ensures
    ∙ ap (λ (e : Envelope). old ++ order_lines due es e) (sym c.in-TestCaseFinished.is))
