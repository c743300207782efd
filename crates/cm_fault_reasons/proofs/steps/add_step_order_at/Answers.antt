use Rattle.std.proofs.Common.{◌∙◌, ap, sym, ◌++◌, List, ℕ, codes, option_map, string_bytes}
use Rattle.cm_attempt.specs.Due.{due_view}
use Rattle.cm_cases.specs.Places.{case_scenario}
use Rattle.cm_cases.proofs.ListingLemmas.{on_ok}
use Rattle.cm_reasons.specs.declared.trail.Trail.{Trail}
use Rattle.cm_steps.specs.Attempts.{start_of, started_facts}
use Rattle.cm_stream.specs.Texts.{Utf8}
use Rattle.cm_fault_reasons.specs.AttemptLines.{attempt_line, case_line, step_lines}
use Rattle.cm_fault_reasons.proofs.TextLemmas.{four_more, start_told}
use Rattle.cm_fault_reasons.proofs.steps.add_step_order_at.Goals as goal

pub returns : goal.returns
returns c =
    on_ok c.add_step_if_any-2.result c.add_step_if_any-2.ensures
    (λ added es is.
    let old = string_bytes c.args.text.now in
    let case = c.in-Some.start.case_id.now in
    let number = c.in-Some.start.number in
    let due = option_map due_view c.args.due.now in
    let came = option_map due_view c.args.found.now in
    let found = ap (option_map started_facts) (sym c.in-Some.is) ∙ c.start.ensures es (c.steps.ensures ∙ ap (λ (t : Trail). t.steps) is) in
    let first = c.in_ok-add_step_if_any.ensures es is ∙ ap (λ (text : List ℕ). text ++ step_lines (codes "due") es case due) (c.in_ok-add_scenario_start.ensures es is) in
    added es is
    ∙ ap (λ (text : List ℕ). text ++ step_lines (codes "found") es case came) first
    ∙ four_more old (case_line (case_scenario es case)) (attempt_line number) (step_lines (codes "due") es case due) (step_lines (codes "found") es case came)
    ∙ ap (λ (text : List ℕ). old ++ text) (start_told (λ (id : Utf8) (n : ℕ). case_line (case_scenario es id) ++ attempt_line n ++ step_lines (codes "due") es id due ++ step_lines (codes "found") es id came) (start_of c.args.attempt.now es) case number found))
