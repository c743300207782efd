use Rattle.std.proofs.Common.{◌∙◌, ap, ◌++◌, List, ℕ, codes, string_bytes}
use Rattle.cm_attempt.specs.Due.{due_view}
use Rattle.cm_reasons.specs.declared.trail.Trail.{Trail}
use Rattle.cm_steps.specs.Steps.{case_step_text}
use Rattle.cm_fault_reasons.specs.AttemptLines.{move_word}
use Rattle.cm_fault_reasons.proofs.TextLemmas.{four_more}
use Rattle.cm_fault_reasons.proofs.steps.add_step.Goals as goal

pub returns : goal.returns
returns c es is =
    let old = string_bytes c.args.text.now in
    let step = due_view c.args.step.now in
    let shown = case_step_text es c.args.case.now step.step in
    let listed = c.steps.ensures ∙ ap (λ (t : Trail). t.steps) is in
    let moved = c.in_ok-push_str-2.ensures.bytes ∙ (λ i. c.in_ok-push_str.ensures.bytes i ++ c.step_move_word.ensures i) in
    c.in_ok-push_str-3.ensures.bytes
    ∙ ap (λ (text : List ℕ). text ++ codes "\n") (c.in_ok-add_step.ensures es listed ∙ ap (λ (text : List ℕ). text ++ shown) moved)
    ∙ four_more old c.args.word.now (move_word step.is_running) shown (codes "\n")
