use Rattle.std.proofs.Common.{◌∙◌, List, ap, map, take_all}
use Rattle.std.specs.List.{flat_map}
use Rattle.cm_attempt.specs.Results.{result_view}
use Rattle.cm_attempt.specs.declared.track.CaseResult.{CaseResult}
use Rattle.ck_commands.specs.Results.{result_text}
use Rattle.ck_commands.proofs.command_results.results_text.Goals as goal

pub returns : goal.returns
returns c =
    let all = take_all c.loop-case.case-index c.deref-case-items.result.now c.loop-case-test.false ∙ c.deref-case-items.ensures.value in
    c.loop-case.invariant ∙ ap (λ (rs : List CaseResult). flat_map result_text (map result_view rs)) all
    ∙ ap (flat_map result_text) c.in_ok-results.ensures
