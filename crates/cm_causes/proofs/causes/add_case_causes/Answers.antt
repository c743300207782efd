use Rattle.std.proofs.Common.{◌∙◌, ap, ◌++◌, List, ℕ, map, string_bytes}
use Rattle.cm_attempt.specs.declared.track.CaseResult.{CaseResult}
use Rattle.cm_cases.proofs.ListingLemmas.{on_ok}
use Rattle.cm_reasons.specs.Lines.{limited_text}
use Rattle.cm_causes.specs.Told.{told_result}
use Rattle.cm_causes.proofs.CaseLemmas.{found_lines}
use Rattle.cm_causes.proofs.causes.add_case_causes.Goals as goal

pub returns : goal.returns
returns c =
    on_ok c.add_result_lines-added.result c.add_result_lines-added.ensures
    (λ added es is same.
    added es is
    ∙ ap (λ (lines : List (List ℕ)). string_bytes c.args.text.now ++ limited_text lines)
    (ap (map (λ (r : CaseResult). told_result es r.id.now r.status)) c.as_slice.ensures.value ∙ found_lines c.args.policy es c.args.track.now c.in_ok-bad.bad.items c.in_ok-bad.ensures same))
