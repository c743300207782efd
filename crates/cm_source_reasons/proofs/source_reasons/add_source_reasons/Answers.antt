use Rattle.cm_cases.proofs.ListingLemmas.{on_ok}
use Rattle.std.proofs.Common.{[], ◌∷◌, ◌++◌}
use Rattle.cm_judge.specs.State.{summary_of}
use Rattle.cm_source_reasons.proofs.SourceFaults.{source_reason}
use Rattle.cm_source_reasons.proofs.source_reasons.add_source_reasons.Goals as goal

pub returns : goal.returns
returns c =
    on_ok c.add_kept.result c.add_kept.ensures
    (λ h settings before d.
    let e = c.args.envelope.now in
    let kept = h (before ++ e ∷ []) d.upto in
    (kept.0, source_reason settings (summary_of c.args.state.now) c.args.trail.now before e c.args.fault d kept.0 kept.1, kept.2))
