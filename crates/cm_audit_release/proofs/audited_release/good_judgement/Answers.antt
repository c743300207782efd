use Rattle.std.proofs.Common.{◌∙◌, ap}
use Rattle.std.proofs.lemmas.Result.{IfOk-weaker}
use Rattle.cm_attempt.specs.Results.{case_results}
use Rattle.cm_audit_release.proofs.audited_release.good_judgement.Goals as goal

pub returns : goal.returns
returns c =
    IfOk-weaker c.of-judgement.result _ _ (λ judgement judges es tally good same. judges es tally good (ap case_results c.into_track-track.ensures ∙ same)) c.of-judgement.ensures
