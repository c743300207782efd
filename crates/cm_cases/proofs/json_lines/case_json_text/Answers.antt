use Rattle.std.proofs.Common.{◌∙◌}
use Rattle.cm_cases.specs.Firsts.{values_in}
use Rattle.cm_cases.proofs.JsonLemmas.{case_plain}
use Rattle.cm_cases.proofs.json_lines.case_json_text.Goals as goal

pub returns-in-Ok : goal.returns-in-Ok
returns-in-Ok c = (λ j. (c.in-Ok.ensures.ok j).items) ∙ c.in_ok-bytes.ensures (case_plain (values_in c.args.case.now))
