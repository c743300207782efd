use Rattle.std.proofs.Common.{◌∙◌, ap, ◌++◌, [], Option, option_map, string_bytes}
use Rattle.std.specs.Option.{option_map_or}
use Rattle.cm_attempt.specs.Due.{DueStep, due_step, due_view}
use Rattle.cm_attempt.specs.Table.{Table}
use Rattle.cm_cases.proofs.ListingLemmas.{on_ok}
use Rattle.cm_steps.specs.Attempts.{start_of}
use Rattle.cm_fault_reasons.specs.AttemptLines.{order_of}
use Rattle.cm_fault_reasons.proofs.steps.add_order_of.Goals as goal

pub returns : goal.returns
returns c =
    on_ok c.add_step_order_at.result c.add_step_order_at.ensures
    (λ added es is.
    let attempt = c.args.attempt.now in
    added es is
    ∙ ap (λ (due : Option DueStep). string_bytes c.args.text.now ++ option_map_or (order_of es due (option_map due_view c.args.found)) (start_of attempt es) [])
    (c.due_step-due.ensures ∙ ap (λ (t : Table). due_step t attempt) c.attempts.ensures))
