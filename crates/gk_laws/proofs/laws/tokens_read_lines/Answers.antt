use Rattle.gk_laws.proofs.TokenReadings as readings
use Rattle.gk_laws.proofs.laws.tokens_read_lines.Goals as goal

pub returns-clause-kinds : goal.returns-clause-kinds
returns-clause-kinds c = readings.tokens_are_of_kinds

pub returns-clause-others : goal.returns-clause-others
returns-clause-others c = readings.others_are_of_none

pub returns-clause-one : goal.returns-clause-one
returns-clause-one c = readings.tokens_are_read
