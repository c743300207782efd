use Rattle.std.proofs.Common.{◌∙◌, ap, sym, ◌++◌, List, ℕ, codes, option_map, string_bytes}
use Rattle.cm_cases.specs.Places.{case_scenario}
use Rattle.cm_reasons.specs.declared.trail.Trail.{Trail}
use Rattle.cm_steps.specs.Attempts.{start_of, started_facts}
use Rattle.cm_steps.specs.Steps.{named_case_step}
use Rattle.cm_stream.specs.Texts.{Utf8}
use Rattle.cm_fault_reasons.specs.AttemptLines.{attempt_line, case_line}
use Rattle.cm_fault_reasons.proofs.TextLemmas.{four_more, start_told}
use Rattle.cm_fault_reasons.proofs.steps.add_status_of.Goals as goal

pub returns : goal.returns
returns c es is =
    let old = string_bytes c.args.text.now in
    let case = c.in-Some.start.case_id.now in
    let number = c.in-Some.start.number in
    let named = named_case_step es case c.args.step.now in
    let found = ap (option_map started_facts) (sym c.in-Some.is) ∙ c.start.ensures es (c.steps.ensures ∙ ap (λ (t : Trail). t.steps) is) in
    let told = c.in_ok-add_named_step.ensures es (c.steps-2.ensures ∙ ap (λ (t : Trail). t.steps) is) in
    c.in_ok-push_str.ensures.bytes
    ∙ ap (λ (text : List ℕ). text ++ codes "\n") (told ∙ ap (λ (text : List ℕ). text ++ named) (c.in_ok-add_scenario_start.ensures es is))
    ∙ four_more old (case_line (case_scenario es case)) (attempt_line number) named (codes "\n")
    ∙ ap (λ (text : List ℕ). old ++ text) (start_told (λ (id : Utf8) (n : ℕ). case_line (case_scenario es id) ++ attempt_line n ++ named_case_step es id c.args.step.now ++ codes "\n") (start_of c.args.attempt.now es) case number found)
