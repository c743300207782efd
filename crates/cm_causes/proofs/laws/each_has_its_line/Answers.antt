use Rattle.cm_causes.proofs.EachLine.{cases_have_lines, exceptions_have_lines, hooks_have_lines, sources_have_lines}
use Rattle.cm_causes.proofs.laws.each_has_its_line.Goals as goal

pub returns-clause-cases : goal.returns-clause-cases
returns-clause-cases c = cases_have_lines

pub returns-clause-hooks : goal.returns-clause-hooks
returns-clause-hooks c = hooks_have_lines

pub returns-clause-sources : goal.returns-clause-sources
returns-clause-sources c = sources_have_lines

pub returns-clause-exceptions : goal.returns-clause-exceptions
returns-clause-exceptions c = exceptions_have_lines
