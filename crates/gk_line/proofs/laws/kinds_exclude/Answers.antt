use Rattle.gk_line.proofs.KindLemmas as kinds
use Rattle.gk_line.proofs.laws.kinds_exclude.Goals as goal

pub returns-clause-one : goal.returns-clause-one
returns-clause-one c = kinds.kinds_exclude

pub returns-clause-language : goal.returns-clause-language
returns-clause-language c = kinds.language_is_comment
