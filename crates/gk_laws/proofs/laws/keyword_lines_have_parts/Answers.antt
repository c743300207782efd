use Rattle.gk_laws.proofs.Keywords as keywords
use Rattle.gk_laws.proofs.laws.keyword_lines_have_parts.Goals as goal

pub returns-clause-titles : goal.returns-clause-titles
returns-clause-titles c = keywords.titles_are_marked

pub returns-clause-steps : goal.returns-clause-steps
returns-clause-steps c = keywords.steps_are_marked

pub returns-clause-fences : goal.returns-clause-fences
returns-clause-fences c = keywords.fences_are_marked
