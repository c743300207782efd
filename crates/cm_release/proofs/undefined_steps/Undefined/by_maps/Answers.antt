use Rattle.std.proofs.Common.{map, refl}
use Rattle.cm_reasons.specs.Reasons.{step_ids}
use Rattle.cm_release.proofs.CountLemmas.{undefined_counted, undefined_found}
use Rattle.cm_release.proofs.undefined_steps.Undefined.by_maps.Goals as goal

pub returns-clause-count : goal.returns-clause-count
returns-clause-count c =
    undefined_counted c.args.policy c.args.kept.now c.args.kept.now.starts c.args.kept.now.cases c.args.starts.now c.args.cases.now
    refl refl c.requires.starts c.requires.cases c.undefined_count-count.result c.as_slice-finishes.result.now c.as_slice-finishes.ensures c.undefined_count-count.ensures

pub returns-clause-steps : goal.returns-clause-steps
returns-clause-steps c =
    undefined_found c.args.policy c.args.kept.now c.args.kept.now.starts c.args.kept.now.cases c.args.starts.now c.args.cases.now
    refl refl c.requires.starts c.requires.cases
    (map step_ids c.in_ok-steps.field-0.items) c.in_ok-passed.passed.keys c.as_slice-finishes.result.now c.as_slice.result.now c.as_slice-finishes.ensures c.as_slice.ensures
    c.in_ok-passed.ensures c.in_ok-steps.ensures
