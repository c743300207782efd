use Rattle.cm_read_back.proofs.Values.{plain_have_lines}
use Rattle.cm_read_back.proofs.laws.plain_values_have_lines.Goals as goal

pub returns : goal.returns
returns c = plain_have_lines
