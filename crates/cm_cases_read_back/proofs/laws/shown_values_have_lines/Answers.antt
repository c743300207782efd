use Rattle.cm_cases_read_back.proofs.Values.{shown_have_lines}
use Rattle.cm_cases_read_back.proofs.laws.shown_values_have_lines.Goals as goal

pub returns : goal.returns
returns c = shown_have_lines
