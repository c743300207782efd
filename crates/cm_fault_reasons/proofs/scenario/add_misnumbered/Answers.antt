use Rattle.std.proofs.Common.{◌∙◌, ap, sym, ◌+◌, ◌-◌, ◌++◌, List, ℕ, length, string_bytes}
use Rattle.cm_cases.specs.Places.{case_scenario}
use Rattle.cm_cases.proofs.ListingLemmas.{on_ok}
use Rattle.cm_envelope.specs.declared.envelope.Envelope.{Envelope}
use Rattle.cm_reasons.specs.declared.trail.Trail.{Trail}
use Rattle.cm_stream.specs.References.{starts_of}
use Rattle.cm_stream.specs.Texts.{Utf8}
use Rattle.cm_fault_reasons.specs.AttemptLines.{attempt_line, case_line, number_line, number_lines}
use Rattle.cm_fault_reasons.specs.ToldKept.{last_number}
use Rattle.cm_fault_reasons.proofs.TextLemmas.{three_more}
use Rattle.cm_fault_reasons.proofs.scenario.add_misnumbered.Goals as goal

pub returns-in_ok-add_scenario_start-in-TestCaseStarted : goal.returns-in_ok-add_scenario_start-in-TestCaseStarted
returns-in_ok-add_scenario_start-in-TestCaseStarted c =
    on_ok c.add_scenario_number.result c.add_scenario_number.ensures
    (λ added es is.
    let old = string_bytes c.args.text.now in
    let first = c.args.first in
    let start = c.in-TestCaseStarted.start in
    let listed = c.steps.ensures ∙ ap (λ (t : Trail). t.steps) is in
    let others = c.saturating_sub.ensures ∙ ap (λ n. n - 1) (c.attempt_count-attempts.ensures es listed ∙ ap (λ (id : Utf8). length (starts_of id es)) c.as_str-case.ensures) in
    added ∙ ap (λ (text : List ℕ). text ++ number_line (first + c.saturating_sub.result)) (c.in_ok-add_scenario_start-in-TestCaseStarted.ensures es is)
    ∙ three_more old (case_line (case_scenario es c.as_str-case.result.now)) (attempt_line start.attempt) (number_line (first + c.saturating_sub.result))
    ∙ ap (λ (id : Utf8). old ++ (case_line (case_scenario es id) ++ attempt_line start.attempt ++ number_line (first + c.saturating_sub.result))) c.as_str-case.ensures
    ∙ ap (λ n. old ++ (case_line (case_scenario es start.test_case_id) ++ attempt_line start.attempt ++ number_line (first + n))) others
    ∙ ap (λ (e : Envelope). old ++ number_lines (last_number first es) es e) (sym c.in-TestCaseStarted.is))
