use Rattle.std.proofs.Common.{◌∙◌, ap, sym, Bool, Option, filter, map, take_all}
use Rattle.cm_attempt.specs.Results.{result_view}
use Rattle.cm_attempt.specs.Table.{Utf8}
use Rattle.cm_attempt.specs.declared.status.Status.{Status}
use Rattle.cm_attempt.specs.declared.track.CaseResult.{CaseResult}
use Rattle.cm_causes.specs.Told.{is_bad}
use Rattle.cm_causes.proofs.CauseLists.{filter_of_map}
use Rattle.cm_causes.proofs.causes.bad_results.Goals as goal

pub returns : goal.returns
returns c =
    let p : Utf8 × Option Status → Bool = λ r. is_bad c.args.policy r.1 in
    let q : CaseResult → Bool = λ r. is_bad c.args.policy r.status in
    ap (map result_view) (c.loop-case.invariant ∙ ap (filter q) (take_all c.loop-case.case-index c.as_slice-case-items.result.now c.loop-case-test.false ∙ c.as_slice-case-items.ensures.value))
    ∙ sym (filter_of_map p result_view c.in_ok-all.all.items)
    ∙ ap (filter p) c.in_ok-all.ensures
